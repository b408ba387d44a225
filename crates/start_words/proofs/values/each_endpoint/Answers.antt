-- One endpoint more was taken.
use Rattle.std.proofs.Common.{◌∙◌, ap, sym, List, ℕ}
use Rattle.start_words.specs.Start.{each_endpoint}
use Rattle.start_words.proofs.ValueLemmas.{behind, counted_on, goes_on}
use Rattle.start_words.proofs.values.each_endpoint.Goals as goal

pub loop-part-preserved : goal.loop-part-preserved
loop-part-preserved c = record {
  count = counted_on c.loop-part.endpoints c.push.new.self c.in_ok-endpoint.field-0 c.loop-part.parts c.take.new.self c.in-Ok.part.now _ c.in_ok-push.ensures.ok c.in-Ok.ensures
      c.loop-part.invariant.count;
  value = ap (λ (front : List (List ℕ)). behind front (each_endpoint c.take.new.self)) c.in_ok-push.ensures.ok
      ∙ goes_on c.loop-part.endpoints c.in-Ok.part.now c.in_ok-endpoint.field-0 c.take.new.self c.in_ok-endpoint.ensures
      ∙ ap (λ (words : List (List ℕ)). behind c.loop-part.endpoints (each_endpoint words)) (sym c.in-Ok.ensures)
      ∙ c.loop-part.invariant.value;
}
