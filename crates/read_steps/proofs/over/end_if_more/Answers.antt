-- Its write is forgotten and its acquire falls; where it has neither, nothing changes.
use Rattle.std.proofs.Common.{sym, ◌∙◌, ap}
use Rattle.read_model.specs.State.{Ground}
use Rattle.wait_model.specs.Edits.{without}
use Rattle.wait_model.specs.State.{Waits}
use Rattle.read_steps.specs.Over.{falls_with}
use Rattle.read_steps.specs.Parts.{ground}
use Rattle.read_steps.proofs.Ending.{nothing_ended}
use Rattle.read_steps.proofs.over.end_if_more.Goals as goal

pub returns-then-more : goal.returns-then-more
returns-then-more c = record {
  waits = c.drop_due.ensures.waits ∙ ap (λ (w : Waits). record w { spoiled = without (falls_with c.args.ask.now c.args.acquires.now) w.spoiled }) c.forget.ensures.waits;
  entries = c.forget.ensures.entries;
  acquires = c.drop_due.ensures.acquires;
  nothing = λ f. absurd (let t = c.if-more.true in cc);
}

pub returns-else-more : goal.returns-else-more
returns-else-more c =
    let e = nothing_ended c.args.ask.now (ground c.args.table.now.entries c.args.waits.now c.args.acquires.now) (sym c.ends_more-more.ensures ∙ c.if-more.false) in
    record {
      waits = ap (λ (g : Ground). g.own.waits) (sym e);
      entries = ap (λ (g : Ground). g.own.entries) (sym e);
      acquires = ap (λ (g : Ground). g.acquires) (sym e);
      nothing = λ f. e;
    }
