use Rattle.std.proofs.Common.{◌≡◌, ℕ, true, None, List, map, ap, sym, subst, ◌∙◌, arith}
use Rattle.watch_model.specs.State.{Watch, Broadcasts}
use Rattle.watch_model.specs.Lookups.{watch_at, with_new_watch, tickets_from}
use Rattle.watch_model.proofs.Tickets.{tickets-new}
use Rattle.watch_model.proofs.StepTickets.{seated-keeps}
use Rattle.watch_queue.specs.Watching.{shown}
use Rattle.watch_merge.proofs.broadcasts.Broadcasts.join_standing.Goals as goal

pub invariant_of-self-2 : goal.invariant_of-self-2
invariant_of-self-2 c =
    let ws = map shown c.self.inside.watches.items in
    let v : Watch = shown c.seat.new.watch in
    let same : v.ticket ≡ c.args.watch.ticket =
    ap (λ (u : Watch). u.ticket) c.in_ok-seat.ensures.ok ∙ seated-keeps c.args.last c.args.number c.args.next c.args.created (shown c.args.watch) in
    let absent : watch_at v.ticket ws ≡ None = ap (λ (t : ℕ). watch_at t ws) same ∙ ap (λ (b : Broadcasts). watch_at c.args.watch.ticket b.watches) c.self.view_is ∙ c.requires in
    record {
      numbers = c.self.invariant.numbers;
      index = c.self.invariant.index;
      idle = c.self.invariant.idle;
      tickets = subst (λ (t : List Watch). tickets_from 0 t ≡ true) (sym (c.insert_watch.ensures ∙ ap (λ l. with_new_watch v (map shown l)) c.reserve.ensures.items)) (tickets-new v 0 ws (omega arith) absent c.self.invariant.tickets);
    }
