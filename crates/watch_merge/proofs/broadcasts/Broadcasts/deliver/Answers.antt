use Rattle.std.proofs.Common.{◌≡◌, List, Some, sym, subst, ◌∙◌}
use Rattle.watch_model.specs.State.{Stream, Broadcasts}
use Rattle.watch_streams.specs.Places.{IsAt}
use Rattle.watch_model.specs.Lookups.{stream_at}
use Rattle.watch_model.specs.Delivery.{delivered}
use Rattle.watch_merge.specs.contracts.broadcasts.Broadcasts.{the_view}
use Rattle.watch_merge.proofs.Delivering.{found_is, delivered_away, delivered_cut, delivered_gives}
use Rattle.watch_merge.proofs.broadcasts.Broadcasts.deliver.Goals as goal

pub returns-then-not-is_begun-clause-ok : goal.returns-then-not-is_begun-clause-ok
returns-then-not-is_begun-clause-ok c =
    let b : Broadcasts = the_view c.self.inside in
    let p = subst (λ (ss : List Stream). IsAt c.args.stream ss c.in-Some.at) c.deref.ensures.value c.in-Some.ensures.found in
    let e = found_is b c.args.stream c.in-Some.at c.index-found.result.now p c.index-found.ensures in
    subst (λ (b : Broadcasts). delivered b c.args.stream c.args.header c.args.events.now ≡ Some b) c.self.view_is
    (delivered_away b c.args.stream c.args.header c.args.events.now c.index-found.result.now e (sym c.is_begun.ensures ∙ c.if-not-is_begun.true))

pub returns-then-not-is_told-clause-ok : goal.returns-then-not-is_told-clause-ok
returns-then-not-is_told-clause-ok c =
    let b : Broadcasts = the_view c.self.inside in
    let p = subst (λ (ss : List Stream). IsAt c.args.stream ss c.in-Some.at) c.deref.ensures.value c.in-Some.ensures.found in
    let e = subst (λ (b : Broadcasts). stream_at c.args.stream b.streams ≡ Some c.index-found.result.now) c.self.view_is (found_is b c.args.stream c.in-Some.at c.index-found.result.now p c.index-found.ensures) in
    delivered_cut c.args.self.now c.cut.new.self c.args.stream c.args.header c.args.events.now c.index-found.result.now e
    (sym c.is_begun.ensures ∙ c.if-not-is_begun.false) (sym c.is_told.ensures ∙ c.if-not-is_told.true) c.cut.ensures.state

pub returns-clause-ok : goal.returns-clause-ok
returns-clause-ok c =
    let b : Broadcasts = the_view c.self.inside in
    let p = subst (λ (ss : List Stream). IsAt c.args.stream ss c.in-Some.at) c.deref.ensures.value c.in-Some.ensures.found in
    let e = subst (λ (b : Broadcasts). stream_at c.args.stream b.streams ≡ Some c.index-found.result.now) c.self.view_is (found_is b c.args.stream c.in-Some.at c.index-found.result.now p c.index-found.ensures) in
    delivered_gives c.args.self.now c.deliver_message.new.self c.merge_equal.new.self c.args.stream c.next_of-next.result c.in_ok-range.range c.args.header c.args.events.now c.index-found.result.now e
    (sym c.is_begun.ensures ∙ c.if-not-is_begun.false) (sym c.is_told.ensures ∙ c.if-not-is_told.false)
    c.next_of-next.ensures c.in_ok-range.ensures c.in_ok-deliver_message.ensures.ok c.merge_equal.ensures
