-- None of the calls so far has the number.
use Rattle.std.proofs.Common.{◌≡◌, false, take}
use Rattle.std.specs.List.{list_any}
use Rattle.revoke_core.specs.Steps.{is_call}
use Rattle.revoke_core.proofs.places.place_of_call.Given as goal

abbrev pub invariant-loop-at : goal.invariant-loop-at
invariant-loop-at l = list_any (is_call l.call) (take l.at l.out) ≡ false
