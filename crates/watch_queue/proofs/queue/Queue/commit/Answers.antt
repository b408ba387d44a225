use Rattle.std.proofs.Common.{◌≡◌, ◌++◌, [], length, take, drop, ap, ◌∙◌}
use Rattle.watch_queue.specs.Heads.{items_of}
use Rattle.watch_queue.specs.Queued.{committed}
use Rattle.watch_queue.specs.Shared.{values}
use Rattle.std.specs.Arc.{arc_value}
use Rattle.watch_queue.proofs.Counts as counts
use Rattle.watch_queue.proofs.Heads as heads
use Rattle.watch_queue.proofs.queue.Queue.commit.Goals as goal

pub invariant_of-self : goal.invariant_of-self
invariant_of-self c =
    let l : length (values c.self.inside.events.items) ≡ length c.self.inside.events.items = heads.length-map (λ a. arc_value a) c.self.inside.events.items in
    rw (c.len-self-inside.ensures.len, c.len-self-inside-2.ensures.len, ← l) (
      heads.fits-all c.self.inside.heads.items (values c.self.inside.events.items) c.self.inside.shown c.self.inside.within c.self.invariant.0,
      counts.counts-all c.self.inside.heads.items c.self.inside.shown c.self.inside.shared c.self.inside.ready c.self.invariant.1,
    )

pub returns : goal.returns
returns c =
    let hs = c.self.inside.heads.items in
    let es = values c.self.inside.events.items in
    let one : take c.len-self-inside.result (items_of hs es) ≡ take c.self.inside.shown (items_of hs es) ++ drop c.self.inside.shown (items_of hs es) =
    rw c.len-self-inside.ensures.len (heads.items-all hs es c.self.inside.shown) in
    let none : drop c.len-self-inside.result (items_of hs es) ≡ [] = rw c.len-self-inside.ensures.len (heads.none-all hs es) in
    (λ i. record { items = one i; staged = none i }) ∙ ap committed c.self.view_is
