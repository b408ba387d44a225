-- What is left to compare decides.
use Rattle.std.proofs.Common.{◌≡◌, drop}
use Rattle.equal_values.specs.Records.{same_kv}
use Rattle.equal_values.specs.Lists.{same_all}
use Rattle.equal_values.proofs.lists.same_kvs.Given as goal

abbrev pub invariant-loop-place : goal.invariant-loop-place
invariant-loop-place l = same_all same_kv (drop l.place l.told) (drop l.place l.due) ≡ same_all same_kv l.told l.due
