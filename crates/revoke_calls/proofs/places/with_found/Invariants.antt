-- What is left to be looked at ends where the whole ends.
use Rattle.std.proofs.Common.{◌≡◌, drop}
use Rattle.std.specs.List.{flat_map}
use Rattle.wait_model.specs.DueOrder.{due_found, earliest}
use Rattle.revoke_calls.specs.Dues.{places}
use Rattle.revoke_calls.proofs.places.with_found.Given as goal

abbrev pub invariant-loop-one : goal.invariant-loop-one
invariant-loop-one l = earliest l.first (places (flat_map (due_found l.ticket) (drop l.one-index l.found))) ≡ earliest l.initial.first (places (flat_map (due_found l.ticket) l.found))
