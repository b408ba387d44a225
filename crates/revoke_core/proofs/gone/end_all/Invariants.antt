-- The writes so far are done, and the others as they were.
use Rattle.std.proofs.Common.{◌≡◌, ◌++◌, map, take, drop}
use Rattle.wait_model.specs.SessionEnd.{write_ended}
use Rattle.revoke_core.proofs.gone.end_all.Given as goal

abbrev pub invariant-loop-write : goal.invariant-loop-write
invariant-loop-write l = l.write-items ≡ map write_ended (take l.write-index l.initial.write-items) ++ drop l.write-index l.initial.write-items
