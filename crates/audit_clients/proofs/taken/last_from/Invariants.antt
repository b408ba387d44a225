-- What is left raises it to the same.
use Rattle.std.proofs.Common.{◌≡◌, drop}
use Rattle.world_model.specs.Received.{last_from}
use Rattle.audit_clients.proofs.taken.last_from.Given as goal

abbrev pub invariant-loop-event : goal.invariant-loop-event
invariant-loop-event l = last_from l.last (drop l.event-index l.events) ≡ last_from l.next l.events
