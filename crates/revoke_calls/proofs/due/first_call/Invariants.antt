-- What is left to be looked at ends where the whole ends.
use Rattle.std.proofs.Common.{◌≡◌, drop, None}
use Rattle.std.specs.List.{flat_map}
use Rattle.wait_model.specs.DueOrder.{due_of, soonest}
use Rattle.revoke_calls.proofs.due.first_call.Given as goal

abbrev pub invariant-loop-write : goal.invariant-loop-write
invariant-loop-write l = soonest l.first (flat_map due_of (drop l.write-index l.writes)) ≡ soonest None (flat_map due_of l.writes)
