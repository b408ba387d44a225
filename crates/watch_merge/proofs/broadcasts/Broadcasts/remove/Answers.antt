use Rattle.std.proofs.Common.{◌≡◌, true, List, map, sym, subst}
use Rattle.watch_model.specs.State.{Watch}
use Rattle.watch_model.specs.Lookups.{tickets_from}
use Rattle.watch_model.proofs.Tickets.{tickets-without}
use Rattle.watch_queue.specs.Watching.{shown}
use Rattle.watch_merge.proofs.broadcasts.Broadcasts.remove.Goals as goal

pub invariant_of-self : goal.invariant_of-self
invariant_of-self c = record {
  numbers = c.self.invariant.numbers;
  index = c.self.invariant.index;
  idle = c.self.invariant.idle;
  tickets =
      subst (λ (t : List Watch). tickets_from 0 t ≡ true) (sym c.drop_watch.ensures)
      (tickets-without c.args.ticket 0 (map shown c.self.inside.watches.items) c.self.invariant.tickets);
}
