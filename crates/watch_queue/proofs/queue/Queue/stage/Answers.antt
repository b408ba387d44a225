use Rattle.std.proofs.Common.{◌≡◌, [], drop, refl, ap, ◌∙◌}
use Rattle.watch_queue.specs.Queued.{Queued}
use Rattle.watch_queue.specs.Heads.{items_of}
use Rattle.watch_model.specs.Queues.{chosen}
use Rattle.watch_queue.specs.Shared.{values}
use Rattle.watch_queue.proofs.Counts as counts
use Rattle.watch_queue.proofs.Heads as heads
use Rattle.watch_queue.proofs.queue.Queue.stage.Goals as goal

pub invariant_of-self : goal.invariant_of-self
invariant_of-self c =
    let e = c.push_batch.ensures in (
      heads.fits-pushed c.push_batch.result c.self.inside.heads.items c.push_batch.new.heads.items _ (values c.self.inside.events.items) (values c.push_batch.new.events.items) (chosen c.args.ask.now c.args.from (values c.args.batch.now))
          c.self.inside.shown c.self.inside.within c.self.invariant.0 refl e.heads e.events e.same_heads e.same_events,
      counts.counts-pushed c.push_batch.result c.self.inside.heads.items c.push_batch.new.heads.items _ c.self.inside.shown c.self.inside.shared c.self.inside.ready c.self.invariant.0.some c.self.invariant.1 refl
          e.heads e.same_heads,
    )

pub returns-clause-items : goal.returns-clause-items
returns-clause-items c =
    let e = c.push_batch.ensures in
    heads.shown-pushed c.push_batch.result c.self.inside.heads.items c.push_batch.new.heads.items _ (values c.self.inside.events.items) (values c.push_batch.new.events.items) (chosen c.args.ask.now c.args.from (values c.args.batch.now))
    c.self.inside.shown c.self.inside.within c.self.invariant.0 e.heads e.events e.same_heads e.same_events
    ∙ ap (λ (q : Queued). q.items) (c.self.view_is ∙ c.unstage.ensures)

pub returns-clause-ok : goal.returns-clause-ok
returns-clause-ok c =
    let e = c.push_batch.ensures in
    let xs = chosen c.args.ask.now c.args.from (values c.args.batch.now) in
    let none : drop c.self.inside.shown (items_of c.self.inside.heads.items (values c.self.inside.events.items)) ≡ [] = ap (λ (q : Queued). q.staged) (c.self.view_is ∙ c.unstage.ensures) in
    heads.staged-batch c.push_batch.result c.self.inside.heads.items c.push_batch.new.heads.items c.args.header (values c.self.inside.events.items) (values c.push_batch.new.events.items) xs
    c.self.inside.shown c.self.inside.within c.self.invariant.0 none e.heads e.events
