use Rattle.std.proofs.Common.{◌≡◌, take}
use Rattle.watch_queue.specs.Shared.{values}
use Rattle.watch_queue.proofs.batch.share.Given as goal

abbrev pub invariant-loop-event : goal.invariant-loop-event
invariant-loop-event l = values l.shared.items ≡ take l.event-index l.events
