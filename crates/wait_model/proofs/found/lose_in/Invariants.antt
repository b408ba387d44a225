-- Those so far are done, and the others as they were.
use Rattle.std.proofs.Common.{◌≡◌, ◌++◌, map, take, drop}
use Rattle.etcd_types.specs.Keys.{same}
use Rattle.wait_model.specs.ForeignOwnership.{gone_if}
use Rattle.wait_model.proofs.found.lose_in.Given as goal

abbrev pub invariant-loop-found : goal.invariant-loop-found
invariant-loop-found l = l.found-items ≡ map (λ f. gone_if (same l.key f.key) f) (take l.found-index l.initial.found-items) ++ drop l.found-index l.initial.found-items
