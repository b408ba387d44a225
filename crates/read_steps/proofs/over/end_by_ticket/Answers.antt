-- What ends with the one of this ticket is its own; where none is known nothing ends.
use Rattle.std.proofs.Common.{sym, ◌∙◌, ap}
use Rattle.read_model.specs.State.{Ground}
use Rattle.read_steps.specs.Parts.{reads}
use Rattle.read_steps.proofs.Ending.{one_ended, nobody_ended}
use Rattle.read_steps.proofs.over.end_by_ticket.Goals as goal

pub returns-in-Some : goal.returns-in-Some
returns-in-Some c =
    let r = reads c.args.table.now.entries c.args.waits.now c.args.acquires.now c.args.asks.now in
    let e = sym (one_ended c.args.ticket c.in-Some.ask.now r c.rows-rows.ensures.once (sym c.in-Some.ensures)) in
    record {
      waits = c.end_if_more.ensures.waits ∙ ap (λ (g : Ground). g.own.waits) e;
      entries = c.end_if_more.ensures.entries ∙ ap (λ (g : Ground). g.own.entries) e;
      acquires = c.end_if_more.ensures.acquires ∙ ap (λ (g : Ground). g.acquires) e;
      nothing = λ f. sym e ∙ c.end_if_more.ensures.nothing f;
    }

pub returns-in-None : goal.returns-in-None
returns-in-None c =
    let r = reads c.args.table.now.entries c.args.waits.now c.args.acquires.now c.args.asks.now in
    let e = nobody_ended c.args.ticket r (sym c.in-None.ensures) in
    record {
      waits = ap (λ (g : Ground). g.own.waits) (sym e);
      entries = ap (λ (g : Ground). g.own.entries) (sym e);
      acquires = ap (λ (g : Ground). g.acquires) (sym e);
      nothing = λ f. e;
    }
