use Rattle.std.proofs.Common.{◌≡◌, drop}
use Rattle.watch_model.specs.Delivery.{last_revision}
use Rattle.watch_merge.proofs.batches.last_revision.Given as goal

abbrev pub invariant-loop-event : goal.invariant-loop-event
invariant-loop-event l = last_revision l.last (drop l.event-index l.events) ≡ last_revision 0 l.events
