-- What ends with it is its own, and the others' stays.
use Rattle.std.proofs.Common.{true, ◌∙◌, ap}
use Rattle.wait_model.specs.State.{Waits}
use Rattle.wait_model.specs.Fits.{only_first}
use Rattle.core_model.specs.ClockWork.{times_out, timed_out_ask}
use Rattle.core_model.specs.Lookups.{ask_at}
use Rattle.known_asks.specs.Asks.{one_changed}
use Rattle.read_model.specs.State.{Ground, on}
use Rattle.read_steps.specs.Over.{ended}
use Rattle.read_steps.specs.Parts.{ground, reads}
use Rattle.read_steps.proofs.Ending.{one_ended}
use Rattle.read_steps.proofs.Forgetting.{if_kept}
use Rattle.read_steps.proofs.Late.{late_one, one_replied, one_less}
use Rattle.read_steps.proofs.over.end_one.Goals as goal

pub returns : goal.returns
returns c =
    let r = reads c.args.table.now.entries c.args.waits.now c.args.acquires.now c.args.asks.now in
    let late = late_one (times_out c.args.now) (ask_at c.args.ticket c.args.asks.now) c.requires.late in
    let e = one_ended c.args.ticket late.0 r c.rows-rows.ensures.once late.1 in
    let done = c.end_by_ticket-more.ensures in
    let asks = c.set_stage.ensures ∙ one_replied c.args.now c.args.ticket late.0 r.asks c.rows-rows.ensures.once late.1 late.2 in
    record {
      asks = asks;
      one = λ k. ap (λ (w : Waits). only_first k w.writes) (done.waits ∙ ap (λ (g : Ground). g.own.waits) e) ∙ if_kept true late.0 r.own c.requires.one k;
      same =
          (λ i. ended (times_out c.args.now) (reads (done.entries i) (done.waits i) (done.acquires i) (asks i)))
          ∙ ap (λ (g : Ground). ended (times_out c.args.now) (on g (one_changed c.args.ticket (timed_out_ask c.args.now) r.asks))) e
          ∙ one_less c.args.now c.args.ticket late.0 r c.requires.one c.rows-rows.ensures.once late.1 late.2;
      nothing = λ f. (λ i. ground (done.entries i) (done.waits i) (done.acquires i)) ∙ done.nothing f;
    }
