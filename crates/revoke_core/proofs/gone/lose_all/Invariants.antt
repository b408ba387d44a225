-- The writes so far are done, and the others as they were.
use Rattle.std.proofs.Common.{◌≡◌, ◌++◌, true, map, take, drop}
use Rattle.wait_model.specs.ForeignOwnership.{write_gone}
use Rattle.revoke_core.proofs.gone.lose_all.Given as goal

abbrev pub invariant-loop-write : goal.invariant-loop-write
invariant-loop-write l = l.write-items ≡ map (write_gone (λ k. true)) (take l.write-index l.initial.write-items) ++ drop l.write-index l.initial.write-items
