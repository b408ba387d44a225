use Rattle.std.proofs.Common.{◌≡◌, [], take, drop, ap, ◌∙◌}
use Rattle.watch_queue.specs.Queued.{Queued}
use Rattle.watch_queue.specs.Heads.{items_of}
use Rattle.watch_queue.specs.Shared.{values}
use Rattle.watch_queue.proofs.Counts as counts
use Rattle.watch_queue.proofs.Heads as heads
use Rattle.watch_queue.proofs.Values.{take-values}
use Rattle.watch_queue.proofs.queue.Queue.unstage.Goals as goal

pub invariant_of-self : goal.invariant_of-self
invariant_of-self c =
    rw (c.truncate_back.ensures, c.truncate_back-2.ensures, take-values c.self.inside.within c.self.inside.events.items) (
      heads.fits-take c.self.inside.heads.items (values c.self.inside.events.items) c.self.inside.shown c.self.inside.within c.self.invariant.0,
      counts.counts-take c.self.inside.heads.items c.self.inside.shown c.self.inside.shared c.self.inside.ready c.self.invariant.1,
    )

pub returns : goal.returns
returns c =
    let hs = c.self.inside.heads.items in
    let es = values c.self.inside.events.items in
    let n = c.self.inside.shown in
    let one : take n (items_of c.truncate_back.new.self.items (values c.truncate_back-2.new.self.items)) ≡ take n (items_of hs es) =
    rw (c.truncate_back.ensures, c.truncate_back-2.ensures, take-values c.self.inside.within c.self.inside.events.items) (heads.shown-take hs es n c.self.inside.within c.self.invariant.0) in
    let none : drop n (items_of c.truncate_back.new.self.items (values c.truncate_back-2.new.self.items)) ≡ [] =
    rw (c.truncate_back.ensures, c.truncate_back-2.ensures, take-values c.self.inside.within c.self.inside.events.items) (heads.none_staged hs es n c.self.inside.within c.self.invariant.0) in
    (λ i. record { items = one i; staged = none i }) ∙ ap (λ (q : Queued). record { items = q.items; staged = [] }) c.self.view_is
