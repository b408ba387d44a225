use Rattle.std.proofs.Common.{◌≡◌, ◌<◌, drop, Some, slice_get, sym, ap, ◌∙◌, arith}
use Rattle.std.specs.Option.{option_copied}
use Rattle.watch_queue.specs.Queued.{Queued}
use Rattle.watch_queue.specs.Shared.{values}
use Rattle.watch_queue.proofs.Counts as counts
use Rattle.watch_queue.proofs.Heads as heads
use Rattle.watch_queue.proofs.queue.Queue.take.Goals as goal

pub invariant_of-self : goal.invariant_of-self
invariant_of-self c =
    let is : slice_get c.self.inside.heads.items 0 ≡ Some c.in-Some.head.now = sym c.front.ensures ∙ ap option_copied c.in-Some.is in
    let pos : 0 < c.self.inside.shown = let t = c.if-self-eq0.false in omega (arith, t) in
    rw (c.pop_front.ensures.items, c.drop_first.ensures, c.saturating_sub-self-inside.ensures, c.saturating_sub-self-inside-in-Some.ensures, c.saturating_sub-self-inside-in-Some-2.ensures, c.count_of-count.ensures, c.shared_of-shared.ensures) (
      heads.fits-drop c.self.inside.heads.items (values c.self.inside.events.items) c.self.inside.shown c.self.inside.within c.in-Some.head.now c.self.invariant.0 is pos,
      counts.counts-drop c.self.inside.heads.items c.self.inside.shown c.self.inside.shared c.self.inside.ready c.in-Some.head.now c.self.invariant.1 is pos,
    )

pub returns-in_ok-item-in-Some-clause-ok : goal.returns-in_ok-item-in-Some-clause-ok
returns-in_ok-item-in-Some-clause-ok c =
    let is : slice_get c.self.inside.heads.items 0 ≡ Some c.in-Some.head.now = sym c.front.ensures ∙ ap option_copied c.in-Some.is in
    let pos : 0 < c.self.inside.shown = let t = c.if-self-eq0.false in omega (arith, t) in
    rw (c.pop_front.ensures.items, c.drop_first.ensures, c.count_of-count.ensures)
    (heads.shown-drop c.self.inside.heads.items (values c.self.inside.events.items) c.self.inside.shown c.in-Some.head.now is pos ∙ ap (λ (q : Queued). drop 1 q.items) c.self.view_is)

pub returns-in_ok-item-in-Some-clause-staged : goal.returns-in_ok-item-in-Some-clause-staged
returns-in_ok-item-in-Some-clause-staged c =
    let is : slice_get c.self.inside.heads.items 0 ≡ Some c.in-Some.head.now = sym c.front.ensures ∙ ap option_copied c.in-Some.is in
    let pos : 0 < c.self.inside.shown = let t = c.if-self-eq0.false in omega (arith, t) in
    rw (c.pop_front.ensures.items, c.drop_first.ensures, c.count_of-count.ensures)
    (heads.staged-drop c.self.inside.heads.items (values c.self.inside.events.items) c.self.inside.shown c.in-Some.head.now is pos ∙ ap (λ (q : Queued). q.staged) c.self.view_is)
