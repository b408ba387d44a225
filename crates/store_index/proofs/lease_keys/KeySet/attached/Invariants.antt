-- The records so far that are attached, and those of the keys still to come.
use Rattle.std.proofs.Common.{◌≡◌, ◌++◌, flat_map}
use Rattle.store_index.specs.Leases.{attached_at}
use Rattle.store_index.proofs.lease_keys.KeySet.attached.Given as goal

abbrev pub invariant-loop-key : goal.invariant-loop-key
invariant-loop-key l = l.kvs ++ flat_map (attached_at l.lease l.versions) l.key-iterator ≡ flat_map (attached_at l.lease l.versions) l.self
