-- What is left leads from here to the same spot.
use Rattle.std.proofs.Common.{◌≡◌, drop}
use Rattle.audit_clients.specs.Spots.{spot_behind}
use Rattle.audit_clients.proofs.takings.spot_behind_events.Given as goal

abbrev pub invariant-loop-event : goal.invariant-loop-event
invariant-loop-event l = spot_behind l.spot (drop l.event-index l.events) ≡ spot_behind (l.revision, l.count) l.events
