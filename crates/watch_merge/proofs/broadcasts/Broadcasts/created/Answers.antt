use Rattle.std.proofs.Common.{◌≡◌, true, List, Some, map, refl, sym, subst, ◌∙◌}
use Rattle.watch_model.specs.State.{Stream, Watch, Broadcasts}
use Rattle.watch_model.specs.Lookups.{numbered, changed_stream, member_changed, tickets_from}
use Rattle.watch_model.specs.Delivery.{created_stream, created_watch, on_stream, stands_created}
use Rattle.watch_model.proofs.Streams.{numbered-map, changed-keeps}
use Rattle.watch_model.proofs.Tickets.{tickets-map, member-keeps}
use Rattle.watch_model.proofs.StepTickets.{created-keeps}
use Rattle.watch_queue.specs.Watching.{shown}
use Rattle.watch_streams.specs.Places.{IsAt}
use Rattle.watch_merge.specs.contracts.broadcasts.Broadcasts.{the_view}
use Rattle.watch_merge.proofs.Delivering.{found_is, created_gives}
use Rattle.watch_streams.specs.Rows.{Backed}
use Rattle.watch_streams.proofs.Indexing.{backed_changed}
use Rattle.watch_streams.specs.Idle.{IsIdle}
use Rattle.watch_streams.proofs.Idle.{idle-changed}
use Rattle.watch_merge.proofs.broadcasts.Broadcasts.created.Goals as goal

pub invariant_of-self-2 : goal.invariant_of-self-2
invariant_of-self-2 c =
    let ss = c.self.inside.streams.items in
    let n = c.args.stream in
    let f = created_stream c.args.header.revision in
    let g = created_watch c.created_next-next.result c.args.last in
    record {
      idle = subst (IsIdle c.self.inside.idle) (sym c.create.ensures) (idle-changed c.self.inside.idle n f (λ s. refl) ss c.self.invariant.idle);
      index = subst (Backed c.self.inside.index) (sym c.create.ensures) (backed_changed c.self.inside.index n f (λ s. refl) ss c.self.invariant.index);
      numbers = subst (λ (t : List Stream). numbered 0 c.self.inside.given t ≡ true) (sym c.create.ensures) (numbered-map (changed_stream n f) (changed-keeps n f (λ s. refl)) 0 c.self.inside.given ss c.self.invariant.numbers);
      tickets =
          subst (λ (t : List Watch). tickets_from 0 t ≡ true) (sym c.in_ok-give_created.ensures.ok)
          (tickets-map (member_changed n g) (member-keeps n g (created-keeps c.created_next-next.result c.args.last)) 0 (map shown c.self.inside.watches.items) c.self.invariant.tickets);
    }

pub returns-clause-ok : goal.returns-clause-ok
returns-clause-ok c =
    let b : Broadcasts = the_view c.self.inside in
    let s : Stream = c.index-found.result.now in
    let p = subst (λ (ss : List Stream). IsAt c.args.stream ss c.in-Some.at) c.deref.ensures.value c.in-Some.ensures.found in
    let e = found_is b c.args.stream c.in-Some.at s p c.index-found.ensures in
    let told : Broadcasts = record b { streams = c.create.new.streams.items; watches = map shown c.give_created.new.watches.items } in
    subst (λ (x : Broadcasts). on_stream x c.args.stream (λ s. stands_created x s c.args.header c.args.last) ≡ Some c.merge_equal.new.self) c.self.view_is
    (created_gives b told c.merge_equal.new.self c.args.stream c.created_next-next.result c.in_ok-range.range c.args.header c.args.last s e
    (sym c.is_awaited.ensures ∙ c.if-not-is_awaited.false) c.created_next-next.ensures c.in_ok-range.ensures
    (λ i. record b { streams = c.create.ensures i; watches = c.in_ok-give_created.ensures.ok i }) c.merge_equal.ensures)
