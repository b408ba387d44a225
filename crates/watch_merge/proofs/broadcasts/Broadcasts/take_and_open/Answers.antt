use Rattle.std.proofs.Common.{◌≡◌, ◌<◌, ◌+◌, ◌++◌, ◌∷◌, [], ℕ, true, List, drop, get_or, length, map, set, refl, ap, sym, subst, ◌∙◌, arith}
use Rattle.etcd_types.specs.declared.key_range.KeyRange.{KeyRange}
use Rattle.watch_model.specs.declared.place.WatchPlace.TheVariants as place
use Rattle.watch_model.specs.State.{Stream, Watch, Broadcasts}
use Rattle.watch_model.specs.Lookups.{tickets_from, numbered}
use Rattle.watch_model.specs.Queues.{first_item}
use Rattle.watch_model.specs.Joining.{new_stream}
use Rattle.watch_model.proofs.Streams.{numbered-push}
use Rattle.watch_model.proofs.Tickets.{tickets-without}
use Rattle.watch_queue.specs.declared.watching.Watching.{Watching}
use Rattle.watch_queue.specs.Watching.{shown}
use Rattle.watch_merge.specs.contracts.broadcasts.Broadcasts.{the_view}
use Rattle.watch_merge.specs.Taking.{taken_to, opened_for}
use Rattle.watch_merge.proofs.Takings.{put_tickets, is_shown, take_stays, take_goes, bound_of, same_watch}
use Rattle.watch_streams.specs.Rows.{Backed}
use Rattle.watch_streams.specs.Idle.{IsIdle}
use Rattle.watch_merge.proofs.broadcasts.Broadcasts.take_and_open.Goals as goal

pub invariant_of-self-then-ends : goal.invariant_of-self-then-ends
invariant_of-self-then-ends c =
    let ws = c.self.inside.watches.items in
    let h = c.self.invariant.tickets in
    let l = bound_of ws c.args.at (subst (λ (b : Broadcasts). c.args.at < length b.watches) (sym c.self.view_is) c.requires.bound) in
    let x = c.take_into.new.watch in
    let y = c.index_mut.result.now in
    let k : x.ticket ≡ y.ticket = ap (λ (u : Watch). u.ticket) c.in_ok-item.ensures.ok in
    let after = put_tickets ws c.args.at x y (shown x) h l c.index_mut.ensures.value refl k in
    record {
      index = subst (Backed c.self.inside.index) (sym c.reserve.ensures.items) c.self.invariant.index;
      numbers = subst (λ (t : List Stream). numbered 0 c.self.inside.given t ≡ true) (sym c.reserve.ensures.items) c.self.invariant.numbers;
      idle = subst (IsIdle c.self.inside.idle) (sym c.reserve.ensures.items) c.self.invariant.idle;
      tickets = subst (λ (t : List Watch). tickets_from 0 t ≡ true) (sym c.drop_watch.ensures) (tickets-without c.index-watch.result.now.ticket 0 (map shown (set ws c.args.at x)) after);
    }

pub invariant_of-self-2 : goal.invariant_of-self-2
invariant_of-self-2 c =
    let ss = c.self.inside.streams.items in
    let ws = c.self.inside.watches.items in
    let given = c.self.inside.given in
    let l = bound_of ws c.args.at (subst (λ (b : Broadcasts). c.args.at < length b.watches) (sym c.self.view_is) c.requires.bound) in
    let x = c.take_into.new.watch in
    let k : x.ticket ≡ c.index_mut.result.now.ticket = ap (λ (u : Watch). u.ticket) c.in_ok-item.ensures.ok in
    let new : Stream = new_stream (given + 1) c.self.inside.step c.in_ok-range.range c.index-watch.result.now.next in
    record {
      index =
          subst (Backed c.opened.new.self) (sym (c.open.ensures.opened ∙ ap (λ (l : List Stream). l ++ new ∷ []) c.reserve.ensures.items))
          (c.opened.ensures ss new refl refl c.self.invariant.index);
      numbers =
          subst (λ (t : List Stream). numbered 0 (given + 1) t ≡ true) (sym (c.open.ensures.opened ∙ ap (λ (l : List Stream). l ++ new ∷ []) c.reserve.ensures.items))
          (numbered-push 0 given ss new (omega arith) refl c.self.invariant.numbers);
      idle = tt;
      tickets = put_tickets ws c.args.at x c.index_mut.result.now (shown x) c.self.invariant.tickets l c.index_mut.ensures.value refl k;
    }

pub returns-then-ends-clause-ok : goal.returns-then-ends-clause-ok
returns-then-ends-clause-ok c = λ w e.
    let b : Broadcasts = the_view c.self.inside in
    let ws = c.self.inside.watches.items in
    let i = c.args.at in
    let h = c.self.invariant.tickets in
    let l = bound_of ws i (subst (λ (b : Broadcasts). i < length b.watches) (sym c.self.view_is) c.requires.bound) in
    let x = c.take_into.new.watch in
    let y = c.index_mut.result.now in
    let g = c.index_mut.ensures.value in
    let s : w ≡ shown y = is_shown ws i y w l g (e ∙ ap (λ (o : Broadcasts). get_or o.watches i w) (sym c.self.view_is)) in
    let r : c.index-watch.result.now.ticket ≡ w.ticket = ap (λ (u : Watching). u.ticket) (same_watch ws i c.index-watch.result.now y l c.index-watch.ensures g) ∙ ap (λ (u : Watch). u.ticket) (sym s) in
    let f = c.in_ok-item.ensures.item ∙ ap (λ (u : Watch). first_item u.queue) (sym s) in
    let v : Watch = record w { queue = drop 1 w.queue; place = place.In (c.self.inside.given + 1) } in
    let m : shown x ≡ v = c.in_ok-item.ensures.ok ∙ ap (λ (u : Watch). record u { queue = drop 1 u.queue; place = place.In (c.self.inside.given + 1) }) (sym s) in
    let k : v.ticket ≡ w.ticket = refl in
    let d = sym c.ends.ensures ∙ c.if-ends.true in
    sym (ap (λ (o : Broadcasts). taken_to o w w.queue (opened_for o (record w { queue = drop 1 w.queue }))) c.self.view_is)
    ∙ take_goes b (opened_for b (record w { queue = drop 1 w.queue })) ws i c.index-watch.result.now.ticket x y w v c.in_ok-item.item refl h l g s m k r f d
    ∙ (λ j. (record b { streams = sym c.reserve.ensures.items j; watches = sym c.drop_watch.ensures j }, c.in_ok-item.item))

pub returns-clause-ok : goal.returns-clause-ok
returns-clause-ok c = λ w e.
    let b : Broadcasts = the_view c.self.inside in
    let ws = c.self.inside.watches.items in
    let i = c.args.at in
    let h = c.self.invariant.tickets in
    let l = bound_of ws i (subst (λ (b : Broadcasts). i < length b.watches) (sym c.self.view_is) c.requires.bound) in
    let x = c.take_into.new.watch in
    let y = c.index_mut.result.now in
    let g = c.index_mut.ensures.value in
    let s : w ≡ shown y = is_shown ws i y w l g (e ∙ ap (λ (o : Broadcasts). get_or o.watches i w) (sym c.self.view_is)) in
    let r : c.index-watch.result.now.ticket ≡ w.ticket = ap (λ (u : Watching). u.ticket) (same_watch ws i c.index-watch.result.now y l c.index-watch.ensures g) ∙ ap (λ (u : Watch). u.ticket) (sym s) in
    let f = c.in_ok-item.ensures.item ∙ ap (λ (u : Watch). first_item u.queue) (sym s) in
    let v : Watch = record w { queue = drop 1 w.queue; place = place.In (c.self.inside.given + 1) } in
    let m : shown x ≡ v = c.in_ok-item.ensures.ok ∙ ap (λ (u : Watch). record u { queue = drop 1 u.queue; place = place.In (c.self.inside.given + 1) }) (sym s) in
    let k : v.ticket ≡ w.ticket = refl in
    let d = sym c.ends.ensures ∙ c.if-ends.false in
    let n = c.requires.some w e in
    let given = c.self.inside.given in
    let z = c.index-watch.result.now in
    let same : z ≡ y = same_watch ws i z y l c.index-watch.ensures g in
    let range : c.in_ok-range.range ≡ w.ask.range = c.in_ok-range.ensures ∙ ap (λ (u : Watching). u.ask.range) same ∙ ap (λ (u : Watch). u.ask.range) (sym s) in
    let next : z.next ≡ w.next = ap (λ (u : Watching). u.next) same ∙ ap (λ (u : Watch). u.next) (sym s) in
    let new : KeyRange → ℕ → Stream = λ a k. new_stream (given + 1) c.self.inside.step a k in
    let opened = c.open.ensures.opened ∙ ap (λ (l : List Stream). l ++ new c.in_ok-range.range z.next ∷ []) c.reserve.ensures.items ∙ (λ j. b.streams ++ new (range j) (next j) ∷ []) in
    sym (ap (λ (o : Broadcasts). taken_to o w w.queue (opened_for o (record w { queue = drop 1 w.queue }))) c.self.view_is)
    ∙ take_stays b (record b { streams = b.streams ++ new w.ask.range w.next ∷ []; given = given + 1 }) ws i x y w v c.in_ok-item.item refl h l g s m k n f d
    ∙ (λ j. (record b { streams = sym opened j; watches = map shown (set ws i x); given = given + 1 }, c.in_ok-item.item))
