use Rattle.std.proofs.Common.{◌≡◌, true, List, map, refl, sym, subst}
use Rattle.watch_model.specs.State.{Watch}
use Rattle.watch_model.specs.Lookups.{watch_changed, tickets_from}
use Rattle.watch_model.specs.Splitting.{split}
use Rattle.watch_model.proofs.Tickets.{tickets-map, changed-keeps_ticket}
use Rattle.watch_queue.specs.Watching.{shown}
use Rattle.watch_merge.proofs.broadcasts.Broadcasts.split_slow.Goals as goal

pub invariant_of-self : goal.invariant_of-self
invariant_of-self c =
    let f = split c.args.next in
    record {
      numbers = c.self.invariant.numbers;
      index = c.self.invariant.index;
      idle = c.self.invariant.idle;
      tickets =
          subst (λ (t : List Watch). tickets_from 0 t ≡ true) (sym c.split.ensures)
          (tickets-map (watch_changed c.args.ticket f) (changed-keeps_ticket c.args.ticket f (λ w. refl)) 0 (map shown c.self.inside.watches.items) c.self.invariant.tickets);
    }
