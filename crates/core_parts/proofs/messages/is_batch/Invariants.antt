use Rattle.std.proofs.Common.{◌≡◌, drop}
use Rattle.watch_model.specs.Delivery.{is_batch}
use Rattle.core_parts.proofs.messages.is_batch.Given as goal

abbrev pub invariant-loop-event : goal.invariant-loop-event
invariant-loop-event l = is_batch l.stream.range l.from (drop l.event-index l.events) ≡ is_batch l.stream.range l.stream.next l.events
