use Rattle.std.proofs.Common.{◌≡◌, map, take, false}
use Rattle.watch_queue.specs.Shared.{values}
use Rattle.watch_model.specs.Delivery.{shown_event}
use Rattle.watch_queue.proofs.batch.share_bare.Given as goal

abbrev pub invariant-loop-event : goal.invariant-loop-event
invariant-loop-event l = values l.shared.items ≡ map (shown_event false) (take l.event-index l.events)
