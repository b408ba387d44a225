-- What is left to compare decides.
use Rattle.std.proofs.Common.{◌≡◌, drop}
use Rattle.std.specs.Prelude.{nat_eq}
use Rattle.equal_values.specs.Lists.{same_all}
use Rattle.equal_values.proofs.lists.same_numbers.Given as goal

abbrev pub invariant-loop-place : goal.invariant-loop-place
invariant-loop-place l = same_all nat_eq (drop l.place l.told) (drop l.place l.due) ≡ same_all nat_eq l.told l.due
