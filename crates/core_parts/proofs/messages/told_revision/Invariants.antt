use Rattle.std.proofs.Common.{◌≡◌, drop}
use Rattle.watch_model.specs.Delivery.{last_revision}
use Rattle.core_parts.proofs.messages.told_revision.Given as goal

abbrev pub invariant-loop-event : goal.invariant-loop-event
invariant-loop-event l = last_revision l.last (drop l.event-index l.events) ≡ last_revision l.fn.header.revision l.events
