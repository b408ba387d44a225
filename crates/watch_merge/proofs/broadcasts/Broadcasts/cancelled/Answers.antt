use Rattle.std.proofs.Common.{◌≡◌, List, Some, sym, subst, ◌∙◌}
use Rattle.watch_model.specs.State.{Stream, Broadcasts}
use Rattle.watch_model.specs.Lookups.{stream_at}
use Rattle.watch_model.specs.Delivery.{on_stream}
use Rattle.watch_model.specs.Cuts.{cancelled_stream}
use Rattle.watch_streams.specs.Places.{IsAt}
use Rattle.watch_merge.specs.contracts.broadcasts.Broadcasts.{the_view}
use Rattle.watch_merge.proofs.Delivering.{found_is}
use Rattle.watch_merge.proofs.Cancelling.{cancelled_away, cancelled_cut, cancelled_gives}
use Rattle.watch_merge.proofs.broadcasts.Broadcasts.cancelled.Goals as goal

pub returns-then-not-is_begun-clause-ok : goal.returns-then-not-is_begun-clause-ok
returns-then-not-is_begun-clause-ok c =
    let b : Broadcasts = the_view c.self.inside in
    let p = subst (λ (ss : List Stream). IsAt c.args.stream ss c.in-Some.at) c.deref.ensures.value c.in-Some.ensures.found in
    let e = found_is b c.args.stream c.in-Some.at c.index-found.result.now p c.index-found.ensures in
    subst (λ (b : Broadcasts). on_stream b c.args.stream (λ s. cancelled_stream b s c.args.header c.args.compact c.args.last) ≡ Some b) c.self.view_is
    (cancelled_away b c.args.stream c.args.header c.args.compact c.args.last c.index-found.result.now e (sym c.is_begun.ensures ∙ c.if-not-is_begun.true))

pub returns-then-is_cut-clause-ok : goal.returns-then-is_cut-clause-ok
returns-then-is_cut-clause-ok c =
    let b : Broadcasts = the_view c.self.inside in
    let p = subst (λ (ss : List Stream). IsAt c.args.stream ss c.in-Some.at) c.deref.ensures.value c.in-Some.ensures.found in
    let e = subst (λ (b : Broadcasts). stream_at c.args.stream b.streams ≡ Some c.index-found.result.now) c.self.view_is (found_is b c.args.stream c.in-Some.at c.index-found.result.now p c.index-found.ensures) in
    cancelled_cut c.args.self.now c.cut.new.self c.args.stream c.next_of-next.result c.args.header c.args.compact c.args.last c.index-found.result.now e
    (sym c.is_begun.ensures ∙ c.if-not-is_begun.false) c.next_of-next.ensures (sym c.is_cut.ensures ∙ c.if-is_cut.true) c.cut.ensures.state

pub returns-clause-ok : goal.returns-clause-ok
returns-clause-ok c =
    let b : Broadcasts = the_view c.self.inside in
    let p = subst (λ (ss : List Stream). IsAt c.args.stream ss c.in-Some.at) c.deref.ensures.value c.in-Some.ensures.found in
    let e = subst (λ (b : Broadcasts). stream_at c.args.stream b.streams ≡ Some c.index-found.result.now) c.self.view_is (found_is b c.args.stream c.in-Some.at c.index-found.result.now p c.index-found.ensures) in
    cancelled_gives c.args.self.now c.leave_stream.new.self c.args.stream c.next_of-next.result c.args.header c.args.compact c.args.last c.index-found.result.now e
    (sym c.is_begun.ensures ∙ c.if-not-is_begun.false) c.next_of-next.ensures (sym c.is_cut.ensures ∙ c.if-is_cut.false) c.in_ok-leave_stream.ensures.ok
