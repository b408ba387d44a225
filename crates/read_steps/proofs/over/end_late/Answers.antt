-- One after the other, until none is late.
use Rattle.std.proofs.Common.{◌<◌, List, map, sym, ◌∙◌, ap, subst}
use Rattle.read_model.specs.declared.asked.Asked.{Asked}
use Rattle.read_model.specs.State.{Ground}
use Rattle.core_model.specs.ClockWork.{times_out, timed_out_ask}
use Rattle.known_asks.specs.OneByOne.{how_many}
use Rattle.known_asks.proofs.Late.{times_out-Settles}
use Rattle.known_asks.proofs.OneByOne.{settled, settled-one, fewer}
use Rattle.read_steps.specs.Parts.{reads}
use Rattle.read_steps.proofs.Ending.{none_pass, none_ended}
use Rattle.read_steps.proofs.over.end_late.Goals as goal

pub loop-ticket-smaller : goal.loop-ticket-smaller
loop-ticket-smaller c =
    subst (λ (s : List Asked). how_many (times_out c.args.now) s < how_many (times_out c.args.now) c.loop-ticket.asks) (sym c.end_one-ended.ensures.asks)
    (fewer (times_out c.args.now) (timed_out_ask c.args.now) c.in-Some.ticket c.loop-ticket.asks (times_out-Settles c.args.now) c.in-Some.ensures)

pub loop-ticket-smaller-then-more : goal.loop-ticket-smaller-then-more
loop-ticket-smaller-then-more c =
    subst (λ (s : List Asked). how_many (times_out c.args.now) s < how_many (times_out c.args.now) c.loop-ticket.asks) (sym c.end_one-ended.ensures.asks)
    (fewer (times_out c.args.now) (timed_out_ask c.args.now) c.in-Some.ticket c.loop-ticket.asks (times_out-Settles c.args.now) c.in-Some.ensures)

pub loop-ticket-preserved : goal.loop-ticket-preserved
loop-ticket-preserved c = record {
  one = c.end_one-ended.ensures.one;
  same = c.end_one-ended.ensures.same ∙ c.loop-ticket.invariant.same;
  asks =
      ap (λ (s : List Asked). map (timed_out_ask c.args.now) s) c.end_one-ended.ensures.asks
      ∙ settled-one (times_out c.args.now) (timed_out_ask c.args.now) c.in-Some.ticket c.loop-ticket.asks (times_out-Settles c.args.now) ∙ c.loop-ticket.invariant.asks;
  nothing = λ f. c.end_one-ended.ensures.nothing f ∙ c.loop-ticket.invariant.nothing c.if-more.false;
}

pub loop-ticket-preserved-then-more : goal.loop-ticket-preserved-then-more
loop-ticket-preserved-then-more c = record {
  one = c.end_one-ended.ensures.one;
  same = c.end_one-ended.ensures.same ∙ c.loop-ticket.invariant.same;
  asks =
      ap (λ (s : List Asked). map (timed_out_ask c.args.now) s) c.end_one-ended.ensures.asks
      ∙ settled-one (times_out c.args.now) (timed_out_ask c.args.now) c.in-Some.ticket c.loop-ticket.asks (times_out-Settles c.args.now) ∙ c.loop-ticket.invariant.asks;
  nothing = λ f. absurd (cc);
}

pub returns : goal.returns
returns c =
    let r = reads c.loop-ticket.table.entries c.loop-ticket.waits c.loop-ticket.acquires c.loop-ticket.asks in
    let e = sym (none_ended (times_out c.args.now) r (none_pass c.args.now r.asks c.in_default.ensures)) ∙ c.loop-ticket.invariant.same in
    record {
      asks = settled (times_out c.args.now) (timed_out_ask c.args.now) c.loop-ticket.asks (times_out-Settles c.args.now) c.in_default.ensures ∙ c.loop-ticket.invariant.asks;
      waits = ap (λ (g : Ground). g.own.waits) e;
      entries = ap (λ (g : Ground). g.own.entries) e;
      acquires = ap (λ (g : Ground). g.acquires) e;
      nothing = λ f. sym e ∙ c.loop-ticket.invariant.nothing f;
    }
