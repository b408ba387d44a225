use Rattle.std.proofs.Common.{◌≡◌, ◌+◌, ◌++◌, ◌∷◌, [], true, None, List, map, refl, ap, sym, subst, ◌∙◌, arith}
use Rattle.watch_model.specs.declared.place.WatchPlace.TheVariants as place
use Rattle.watch_model.specs.State.{Stream, Watch, Broadcasts}
use Rattle.watch_model.specs.Lookups.{watch_at, with_new_watch, numbered, tickets_from}
use Rattle.watch_model.specs.Joining.{new_stream}
use Rattle.watch_model.proofs.Streams.{numbered-push}
use Rattle.watch_model.proofs.Tickets.{tickets-new}
use Rattle.watch_queue.specs.Watching.{shown}
use Rattle.watch_streams.specs.Rows.{Backed}
use Rattle.watch_merge.proofs.broadcasts.Broadcasts.join_fresh.Goals as goal

pub invariant_of-self-2 : goal.invariant_of-self-2
invariant_of-self-2 c =
    let ss = c.self.inside.streams.items in
    let ws = map shown c.self.inside.watches.items in
    let given = c.self.inside.given in
    let new : Stream = new_stream (given + 1) c.self.inside.step c.in_ok-range.range c.args.watch.next in
    let v : Watch = record (shown c.args.watch) { place = place.In (given + 1) } in
    let absent : watch_at c.args.watch.ticket ws ≡ None = ap (λ (b : Broadcasts). watch_at c.args.watch.ticket b.watches) c.self.view_is ∙ c.requires.new in
    record {
      idle = tt;
      index =
          subst (Backed c.opened.new.self) (sym (c.open.ensures.opened ∙ ap (λ (l : List Stream). l ++ new ∷ []) c.reserve-2.ensures.items))
          (c.opened.ensures ss new refl refl c.self.invariant.index);
      numbers =
          subst (λ (t : List Stream). numbered 0 (given + 1) t ≡ true) (sym (c.open.ensures.opened ∙ ap (λ (l : List Stream). l ++ new ∷ []) c.reserve-2.ensures.items))
          (numbered-push 0 given ss new (omega arith) refl c.self.invariant.numbers);
      tickets = subst (λ (t : List Watch). tickets_from 0 t ≡ true) (sym (c.insert_watch.ensures ∙ ap (λ l. with_new_watch v (map shown l)) c.reserve.ensures.items)) (tickets-new v 0 ws (omega arith) absent c.self.invariant.tickets);
    }
