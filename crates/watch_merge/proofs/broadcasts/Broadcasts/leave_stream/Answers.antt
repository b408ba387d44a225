use Rattle.std.proofs.Common.{◌≡◌, true, List, map, ap, sym, subst, ◌∙◌}
use Rattle.watch_model.specs.State.{Stream, Watch}
use Rattle.watch_model.specs.Lookups.{without_stream, numbered, tickets_from}
use Rattle.watch_model.specs.Cuts.{Left}
use Rattle.watch_model.proofs.Streams.{numbered-without}
use Rattle.watch_model.proofs.Numbers.{left-numbered}
use Rattle.watch_model.proofs.StepTickets.{left-tickets}
use Rattle.watch_queue.specs.Watching.{shown}
use Rattle.watch_merge.proofs.broadcasts.Broadcasts.leave_stream.Goals as goal

pub invariant_of-self-2 : goal.invariant_of-self-2
invariant_of-self-2 c =
    let k = c.args.cancellation in
    let given = c.self.inside.given in
    let step = c.self.inside.step in
    let ss = c.drop_stream.new.streams.items in
    let ws = map shown c.ready_to_leave.new.watches.items in
    let gone = c.drop_stream.ensures.gone ∙ ap (without_stream k.stream) c.reserve.ensures.items in
    let numbers = subst (λ (t : List Stream). numbered 0 given t ≡ true) (sym gone) (numbered-without k.stream 0 given c.self.inside.streams.items c.self.invariant.numbers) in
    let tickets = subst (λ (t : List Watch). tickets_from 0 t ≡ true) (sym c.ready_to_leave.ensures.shown) c.self.invariant.tickets in
    let left = c.leave_all-self-inside.ensures in
    record {
      idle = tt;
      index = c.forget.ensures _;
      numbers = subst (λ (l : Left). numbered 0 l.given l.streams ≡ true) left (left-numbered k.stream k.next k.header k.compact step k.last ss given ws numbers);
      tickets = subst (λ (l : Left). tickets_from 0 l.watches ≡ true) left (left-tickets k.stream k.next k.header k.compact step k.last 0 ss given ws tickets);
    }
