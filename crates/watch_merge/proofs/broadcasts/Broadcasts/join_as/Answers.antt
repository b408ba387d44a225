use Rattle.std.proofs.Common.{◌≡◌, List, None, Some, OnOk, ap, sym, subst, ◌∙◌}
use Rattle.std.specs.Option.{option_copied}
use Rattle.watch_model.specs.State.{Stream, Broadcasts}
use Rattle.watch_model.specs.Joining.{joined_as, seated, stream_to_join}
use Rattle.watch_queue.specs.Watching.{shown}
use Rattle.watch_merge.specs.contracts.broadcasts.Broadcasts.{the_view}
use Rattle.watch_merge.proofs.Joinings.{fresh_joins, standing_joins}
use Rattle.watch_merge.proofs.broadcasts.Broadcasts.join_as.Goals as goal

pub returns-in-None-clause-state : goal.returns-in-None-clause-state
returns-in-None-clause-state c =
    let b : Broadcasts = the_view c.self.inside in
    let w = c.args.watch in
    let at : stream_to_join b.streams w.ask.range w.next c.args.last.revision ≡ None =
    sym (ap (λ (ss : List Stream). stream_to_join ss w.ask.range w.next c.args.last.revision) c.deref-2.ensures.value) ∙ sym c.stream_to_join.ensures ∙ ap option_copied c.in-None.is in
    subst (λ (x : Broadcasts). OnOk c.join_fresh.result (c.join_fresh.new.self ≡ joined_as x (seated x.streams x.given x.step c.args.last (shown w)))) c.self.view_is
    (fresh_joins c.join_fresh.result b c.join_fresh.new.self c.args.last (shown w) at c.join_fresh.ensures.state)

pub returns-clause-state : goal.returns-clause-state
returns-clause-state c =
    let b : Broadcasts = the_view c.self.inside in
    let w = c.args.watch in
    let at : stream_to_join b.streams w.ask.range w.next c.args.last.revision ≡ Some c.in-Some.found.now =
    sym (ap (λ (ss : List Stream). stream_to_join ss w.ask.range w.next c.args.last.revision) c.deref-2.ensures.value) ∙ sym c.stream_to_join.ensures ∙ ap option_copied c.in-Some.is in
    subst (λ (x : Broadcasts). c.join_standing.new.self ≡ joined_as x (seated x.streams x.given x.step c.args.last (shown w))) c.self.view_is
    (standing_joins b c.join_standing.new.self c.args.last (shown w) c.in-Some.found.now c.next_of-next.result c.is_created-created.result at c.next_of-next.ensures c.is_created-created.ensures.created c.in_ok-join_standing.ensures.ok)
