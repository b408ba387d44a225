use Rattle.std.proofs.Common.{◌≡◌, [], drop, ap, ◌∙◌}
use Rattle.watch_queue.specs.Queued.{Queued}
use Rattle.watch_queue.specs.Heads.{items_of}
use Rattle.watch_queue.specs.Shared.{values}
use Rattle.watch_queue.proofs.Counts as counts
use Rattle.watch_queue.proofs.Heads as heads
use Rattle.watch_queue.proofs.queue.Queue.stage_head.Goals as goal

pub invariant_of-self : goal.invariant_of-self
invariant_of-self c =
    let e = c.push_head.ensures in
    let es = values c.self.inside.events.items in (
      heads.fits-pushed c.push_head.result c.self.inside.heads.items c.push_head.new.heads.items c.args.head es es [] c.self.inside.shown c.self.inside.within c.self.invariant.0 c.requires.count
          e.ok (heads.same_events c.push_head.result es) e.err (heads.still c.push_head.result es),
      counts.counts-pushed c.push_head.result c.self.inside.heads.items c.push_head.new.heads.items c.args.head c.self.inside.shown c.self.inside.shared c.self.inside.ready c.self.invariant.0.some c.self.invariant.1 c.requires.shared
          e.ok e.err,
    )

pub returns-clause-items : goal.returns-clause-items
returns-clause-items c =
    let e = c.push_head.ensures in
    let es = values c.self.inside.events.items in
    heads.shown-pushed c.push_head.result c.self.inside.heads.items c.push_head.new.heads.items c.args.head es es [] c.self.inside.shown c.self.inside.within c.self.invariant.0
    e.ok (heads.same_events c.push_head.result es) e.err (heads.still c.push_head.result es)
    ∙ ap (λ (q : Queued). q.items) (c.self.view_is ∙ c.unstage.ensures)

pub returns-clause-ok : goal.returns-clause-ok
returns-clause-ok c =
    let e = c.push_head.ensures in
    let es = values c.self.inside.events.items in
    let none : drop c.self.inside.shown (items_of c.self.inside.heads.items es) ≡ [] = ap (λ (q : Queued). q.staged) (c.self.view_is ∙ c.unstage.ensures) in
    heads.staged-pushed c.push_head.result c.self.inside.heads.items c.push_head.new.heads.items c.args.head es es [] c.self.inside.shown c.self.inside.within c.self.invariant.0 none
    e.ok (heads.same_events c.push_head.result es)
