-- What was kept and what is left make all.
use Rattle.std.proofs.Common.{◌≡◌, ◌++◌, drop, filter}
use Rattle.world_model.specs.Received.{is_from}
use Rattle.audit_clients.proofs.events.events_from.Given as goal

abbrev pub invariant-loop-event : goal.invariant-loop-event
invariant-loop-event l = l.from ++ filter (is_from l.start) (drop l.event-index l.events) ≡ filter (is_from l.start) l.events
