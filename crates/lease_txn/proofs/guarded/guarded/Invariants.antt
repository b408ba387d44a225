-- The guards and the reads of the ranges so far.
use Rattle.std.proofs.Common.{◌≡◌, map, take}
use Rattle.proxy_model.specs.Guarded.{guard, read_owners, create_or}
use Rattle.lease_txn.proofs.guarded.guarded.Given as goal

abbrev pub invariant-loop-range : goal.invariant-loop-range
invariant-loop-range l = record {
  guards : l.compare ≡ map (guard l.prefix (create_or l.other l.owned)) (take l.range-index l.ranges);
  reads : l.failure ≡ map (read_owners l.prefix) (take l.range-index l.ranges);
}
