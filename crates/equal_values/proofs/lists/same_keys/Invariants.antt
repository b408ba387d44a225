-- What is left to compare decides.
use Rattle.std.proofs.Common.{◌≡◌, drop}
use Rattle.etcd_types.specs.Keys.{same}
use Rattle.equal_values.specs.Lists.{same_all}
use Rattle.equal_values.proofs.lists.same_keys.Given as goal

abbrev pub invariant-loop-place : goal.invariant-loop-place
invariant-loop-place l = same_all same (drop l.place l.told) (drop l.place l.due) ≡ same_all same l.told l.due
