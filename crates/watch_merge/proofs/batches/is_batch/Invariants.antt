use Rattle.std.proofs.Common.{◌≡◌, drop}
use Rattle.watch_model.specs.Delivery.{is_batch}
use Rattle.watch_merge.proofs.batches.is_batch.Given as goal

abbrev pub invariant-loop-event : goal.invariant-loop-event
invariant-loop-event l = is_batch l.stream.stream.range l.from (drop l.event-index l.events) ≡ is_batch l.stream.stream.range l.stream.stream.next l.events
