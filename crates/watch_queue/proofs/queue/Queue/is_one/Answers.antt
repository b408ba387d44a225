use Rattle.std.proofs.Common.{ap, ◌∙◌}
use Rattle.watch_model.specs.Queues.{is_one}
use Rattle.watch_queue.specs.Queued.{Queued}
use Rattle.watch_queue.specs.Shared.{values}
use Rattle.watch_queue.proofs.Heads as heads
use Rattle.watch_queue.proofs.queue.Queue.is_one.Goals as goal

pub returns : goal.returns
returns c =
    heads.one_shown c.self.inside.heads.items (values c.self.inside.events.items) c.self.inside.shown c.self.inside.within c.self.invariant.0
    ∙ ap (λ (q : Queued). is_one q.items) c.self.view_is
