-- The owners of the bodies so far.
use Rattle.std.proofs.Common.{◌≡◌, take}
use Rattle.proxy_model.specs.Guarded.{owners_in}
use Rattle.lease_txn.proofs.written.owners_in.Given as goal

abbrev pub invariant-loop-body : goal.invariant-loop-body
invariant-loop-body l = l.owners ≡ owners_in l.prefix (take l.body-index l.bodies)
