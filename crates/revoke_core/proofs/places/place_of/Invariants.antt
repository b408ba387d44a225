-- None of the writes so far passes.
use Rattle.std.proofs.Common.{◌≡◌, false, take}
use Rattle.std.specs.List.{list_any}
use Rattle.revoke_core.specs.Steps.{passes}
use Rattle.revoke_core.proofs.places.place_of.Given as goal

abbrev pub invariant-loop-at : goal.invariant-loop-at
invariant-loop-at l = list_any (passes l.by) (take l.at l.writes) ≡ false
