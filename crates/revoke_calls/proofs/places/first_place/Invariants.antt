-- What is left to be looked at ends where the whole ends.
use Rattle.std.proofs.Common.{◌≡◌, drop, None}
use Rattle.std.specs.List.{flat_map}
use Rattle.wait_model.specs.DueOrder.{due_of, earliest}
use Rattle.revoke_calls.specs.Dues.{places}
use Rattle.revoke_calls.proofs.places.first_place.Given as goal

abbrev pub invariant-loop-write : goal.invariant-loop-write
invariant-loop-write l = earliest l.first (places (flat_map due_of (drop l.write-index l.writes))) ≡ earliest None (places (flat_map due_of l.writes))
