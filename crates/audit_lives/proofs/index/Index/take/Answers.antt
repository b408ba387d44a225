-- What is kept goes on too.
use Rattle.std.proofs.Common.{ℕ, ◌+◌, [], ◌∷◌, ◌++◌, List, sym, ◌∙◌, ap}
use Rattle.std.proofs.lemmas.List.{length-append}
use Rattle.audit_lives.specs.declared.kept.Kept.{Kept}
use Rattle.audit_lives.proofs.Keeping.{keeps_more}
use Rattle.audit_lives.proofs.index.Index.take.Goals as goal

pub returns : goal.returns
returns c = λ items t. record {
  count = ap (λ (n : ℕ). n + 1) (c.in_ok-note.ensures.told items t).count ∙ sym (length-append items (c.args.item ∷ []));
  kept = c.in_ok-push.ensures.ok ∙ ap (λ (k : Kept). c.note.new.self.kept ++ k ∷ []) c.in_ok-kept.ensures
      ∙ keeps_more c.note.new.self.kept items c.args.item (c.in_ok-note.ensures.told items t).kept;
  lives = (c.in_ok-note.ensures.told items t).lives;
  calls = (c.in_ok-note.ensures.told items t).calls;
  streams = (c.in_ok-note.ensures.told items t).streams;
  sums = (c.in_ok-note.ensures.told items t).sums;
}
