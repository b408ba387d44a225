-- What is left to be looked at ends where the whole ends.
use Rattle.std.proofs.Common.{◌≡◌, drop}
use Rattle.std.specs.List.{flat_map}
use Rattle.wait_model.specs.DueOrder.{due_found, soonest}
use Rattle.revoke_calls.proofs.due.add_found.Given as goal

abbrev pub invariant-loop-one : goal.invariant-loop-one
invariant-loop-one l = soonest l.first (flat_map (due_found l.ticket) (drop l.one-index l.found)) ≡ soonest l.initial.first (flat_map (due_found l.ticket) l.found)
