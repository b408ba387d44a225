use Rattle.std.proofs.Common.{◌≡◌, take}
use Rattle.watch_queue.specs.Shared.{values}
use Rattle.watch_queue.proofs.shares.copies.Given as goal

abbrev pub invariant-loop-event : goal.invariant-loop-event
invariant-loop-event l = l.copies ≡ values (take l.event-index l.events)
