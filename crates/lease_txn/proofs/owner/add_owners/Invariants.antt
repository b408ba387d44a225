-- The owners of the records so far.
use Rattle.std.proofs.Common.{◌≡◌, ◌++◌, map, take}
use Rattle.proxy_model.specs.Foreign.{owner_of}
use Rattle.lease_txn.proofs.owner.add_owners.Given as goal

abbrev pub invariant-loop-kv : goal.invariant-loop-kv
invariant-loop-kv l = l.owners ≡ l.initial.owners ++ map (owner_of l.prefix) (take l.kv-index l.kv-items)
