use Rattle.std.proofs.Common.{◌≡◌, true, List, map, sym, subst, refl}
use Rattle.watch_model.specs.State.{Stream, Watch}
use Rattle.watch_model.specs.Lookups.{numbered, member_changed, tickets_from}
use Rattle.watch_model.specs.Delivery.{advanced, progressed}
use Rattle.watch_model.proofs.Numbers.{advanced-numbered}
use Rattle.watch_model.proofs.Tickets.{tickets-map, member-keeps}
use Rattle.watch_model.proofs.StepTickets.{progressed-keeps}
use Rattle.watch_queue.specs.Watching.{shown}
use Rattle.watch_streams.specs.Rows.{Backed}
use Rattle.watch_streams.proofs.Indexing.{backed_changed}
use Rattle.watch_streams.specs.Idle.{IsIdle}
use Rattle.watch_streams.proofs.Idle.{idle-changed}
use Rattle.watch_merge.proofs.broadcasts.Broadcasts.deliver_progress.Goals as goal

pub invariant_of-self-then-is_up_to : goal.invariant_of-self-then-is_up_to
invariant_of-self-then-is_up_to c =
    let g = progressed c.args.next c.args.header in
    record {
      idle = subst (IsIdle c.self.inside.idle) (sym c.advance.ensures) (idle-changed c.self.inside.idle c.args.stream (advanced c.args.header.revision) (λ s. refl) c.self.inside.streams.items c.self.invariant.idle);
      index = subst (Backed c.self.inside.index) (sym c.advance.ensures) (backed_changed c.self.inside.index c.args.stream (advanced c.args.header.revision) (λ s. refl) c.self.inside.streams.items c.self.invariant.index);
      numbers =
          subst (λ (t : List Stream). numbered 0 c.self.inside.given t ≡ true) (sym c.advance.ensures)
          (advanced-numbered c.args.stream c.args.header.revision c.self.inside.given c.self.inside.streams.items c.self.invariant.numbers);
      tickets =
          subst (λ (t : List Watch). tickets_from 0 t ≡ true) (sym c.in_ok-give_progress.ensures.ok)
          (tickets-map (member_changed c.args.stream g) (member-keeps c.args.stream g (progressed-keeps c.args.next c.args.header)) 0 (map shown c.self.inside.watches.items) c.self.invariant.tickets);
    }
