use Rattle.std.proofs.Common.{◌≡◌, ◌<◌, true, List, drop, get_or, length, map, set, refl, ap, sym, subst, ◌∙◌}
use Rattle.watch_model.specs.State.{Watch, Broadcasts}
use Rattle.watch_model.specs.Lookups.{tickets_from}
use Rattle.watch_model.specs.Queues.{first_item}
use Rattle.watch_model.specs.Joining.{seated_as}
use Rattle.watch_model.specs.Takes.{with_watch}
use Rattle.watch_model.proofs.Tickets.{tickets-without}
use Rattle.watch_model.proofs.StepTickets.{seated-keeps}
use Rattle.watch_queue.specs.declared.watching.Watching.{Watching}
use Rattle.watch_queue.specs.Watching.{shown}
use Rattle.watch_queue.proofs.Fates.{set_shown}
use Rattle.watch_merge.specs.contracts.broadcasts.Broadcasts.{the_view}
use Rattle.watch_merge.specs.Taking.{taken_to}
use Rattle.watch_merge.proofs.Takings.{put_tickets, is_shown, take_stays, take_goes, bound_of, same_watch, at_error}
use Rattle.watch_merge.proofs.broadcasts.Broadcasts.take_and_join.Goals as goal

pub invariant_of-self-then-ends : goal.invariant_of-self-then-ends
invariant_of-self-then-ends c =
    let ws = c.self.inside.watches.items in
    let h = c.self.invariant.tickets in
    let l = bound_of ws c.args.at (subst (λ (b : Broadcasts). c.args.at < length b.watches) (sym c.self.view_is) c.requires.bound) in
    let x = c.take_and_seat.new.watch in
    let y = c.index_mut.result.now in
    let k : x.ticket ≡ y.ticket = ap (λ (u : Watch). u.ticket) c.in_ok-item.ensures.ok ∙ seated-keeps c.args.last c.args.number c.args.next c.args.created (record (shown y) { queue = drop 1 y.queue.items }) in
    let after = put_tickets ws c.args.at x y (shown x) h l c.index_mut.ensures.value refl k in
    record {
      numbers = c.self.invariant.numbers;
      index = c.self.invariant.index;
      idle = c.self.invariant.idle;
      tickets = subst (λ (t : List Watch). tickets_from 0 t ≡ true) (sym c.drop_watch.ensures) (tickets-without c.index.result.now.ticket 0 (map shown (set ws c.args.at x)) after);
    }

pub invariant_of-self-else-ends : goal.invariant_of-self-else-ends
invariant_of-self-else-ends c =
    let ws = c.self.inside.watches.items in
    let h = c.self.invariant.tickets in
    let l = bound_of ws c.args.at (subst (λ (b : Broadcasts). c.args.at < length b.watches) (sym c.self.view_is) c.requires.bound) in
    let x = c.take_and_seat.new.watch in
    let y = c.index_mut.result.now in
    let k : x.ticket ≡ y.ticket = ap (λ (u : Watch). u.ticket) c.in_ok-item.ensures.ok ∙ seated-keeps c.args.last c.args.number c.args.next c.args.created (record (shown y) { queue = drop 1 y.queue.items }) in
    let after = put_tickets ws c.args.at x y (shown x) h l c.index_mut.ensures.value refl k in
    record { numbers = c.self.invariant.numbers; tickets = after; index = c.self.invariant.index; idle = c.self.invariant.idle }

pub returns-then-ends-clause-ok : goal.returns-then-ends-clause-ok
returns-then-ends-clause-ok c = λ w e.
    let b : Broadcasts = the_view c.self.inside in
    let ws = c.self.inside.watches.items in
    let i = c.args.at in
    let h = c.self.invariant.tickets in
    let l = bound_of ws i (subst (λ (b : Broadcasts). i < length b.watches) (sym c.self.view_is) c.requires.bound) in
    let x = c.take_and_seat.new.watch in
    let y = c.index_mut.result.now in
    let g = c.index_mut.ensures.value in
    let s : w ≡ shown y = is_shown ws i y w l g (e ∙ ap (λ (o : Broadcasts). get_or o.watches i w) (sym c.self.view_is)) in
    let r : c.index.result.now.ticket ≡ w.ticket = ap (λ (u : Watching). u.ticket) (same_watch ws i c.index.result.now y l c.index.ensures g) ∙ ap (λ (u : Watch). u.ticket) (sym s) in
    let f = c.in_ok-item.ensures.item ∙ ap (λ (u : Watch). first_item u.queue) (sym s) in
    let v : Watch = seated_as c.args.last c.args.number c.args.next c.args.created (record w { queue = drop 1 w.queue }) in
    let m : shown x ≡ v = c.in_ok-item.ensures.ok ∙ ap (λ (u : Watch). seated_as c.args.last c.args.number c.args.next c.args.created (record u { queue = drop 1 u.queue })) (sym s) in
    let k : v.ticket ≡ w.ticket = seated-keeps c.args.last c.args.number c.args.next c.args.created (record w { queue = drop 1 w.queue }) in
    let d = sym c.ends.ensures ∙ c.if-ends.true in
    sym (ap (λ (o : Broadcasts). taken_to o w w.queue (with_watch o (seated_as c.args.last c.args.number c.args.next c.args.created (record w { queue = drop 1 w.queue })))) c.self.view_is)
    ∙ take_goes b (with_watch b (seated_as c.args.last c.args.number c.args.next c.args.created (record w { queue = drop 1 w.queue }))) ws i c.index.result.now.ticket x y w v c.in_ok-item.item refl h l g s m k r f d
    ∙ (λ j. (record b { watches = sym c.drop_watch.ensures j }, c.in_ok-item.item))

pub returns-clause-ok : goal.returns-clause-ok
returns-clause-ok c = λ w e.
    let b : Broadcasts = the_view c.self.inside in
    let ws = c.self.inside.watches.items in
    let i = c.args.at in
    let h = c.self.invariant.tickets in
    let l = bound_of ws i (subst (λ (b : Broadcasts). i < length b.watches) (sym c.self.view_is) c.requires.bound) in
    let x = c.take_and_seat.new.watch in
    let y = c.index_mut.result.now in
    let g = c.index_mut.ensures.value in
    let s : w ≡ shown y = is_shown ws i y w l g (e ∙ ap (λ (o : Broadcasts). get_or o.watches i w) (sym c.self.view_is)) in
    let r : c.index.result.now.ticket ≡ w.ticket = ap (λ (u : Watching). u.ticket) (same_watch ws i c.index.result.now y l c.index.ensures g) ∙ ap (λ (u : Watch). u.ticket) (sym s) in
    let f = c.in_ok-item.ensures.item ∙ ap (λ (u : Watch). first_item u.queue) (sym s) in
    let v : Watch = seated_as c.args.last c.args.number c.args.next c.args.created (record w { queue = drop 1 w.queue }) in
    let m : shown x ≡ v = c.in_ok-item.ensures.ok ∙ ap (λ (u : Watch). seated_as c.args.last c.args.number c.args.next c.args.created (record u { queue = drop 1 u.queue })) (sym s) in
    let k : v.ticket ≡ w.ticket = seated-keeps c.args.last c.args.number c.args.next c.args.created (record w { queue = drop 1 w.queue }) in
    let d = sym c.ends.ensures ∙ c.if-ends.false in
    let n = c.requires.some w e in
    sym (ap (λ (o : Broadcasts). taken_to o w w.queue (with_watch o (seated_as c.args.last c.args.number c.args.next c.args.created (record w { queue = drop 1 w.queue })))) c.self.view_is)
    ∙ take_stays b b ws i x y w v c.in_ok-item.item refl h l g s m k n f d

pub invariant_of-self : goal.invariant_of-self
invariant_of-self c =
    let ws = c.self.inside.watches.items in
    let l = bound_of ws c.args.at (subst (λ (b : Broadcasts). c.args.at < length b.watches) (sym c.self.view_is) c.requires.bound) in
    let x = c.take_and_seat.new.watch in
    let k : x.ticket ≡ c.index_mut.result.now.ticket = ap (λ (u : Watch). u.ticket) c.in_err-item.ensures.err in
    record { numbers = c.self.invariant.numbers; tickets = put_tickets ws c.args.at x c.index_mut.result.now (shown x) c.self.invariant.tickets l c.index_mut.ensures.value refl k; index = c.self.invariant.index; idle = c.self.invariant.idle }

pub returns-in_err-item-clause-err : goal.returns-in_err-item-clause-err
returns-in_err-item-clause-err c =
    let b : Broadcasts = the_view c.self.inside in
    at_error c.from_residual.result
    ((λ j. record b { watches = set_shown c.self.inside.watches.items c.args.at c.take_and_seat.new.watch c.index_mut.result.now c.index_mut.ensures.value c.in_err-item.ensures.err j }) ∙ c.self.view_is)
