-- The deletes of the parts so far.
use Rattle.std.proofs.Common.{◌≡◌, map}
use Rattle.proxy_model.specs.Guarded.{delete_part}
use Rattle.lease_txn.proofs.guarded.delete_parts.Given as goal

abbrev pub invariant-loop-range : goal.invariant-loop-range
invariant-loop-range l = l.ops ≡ map (delete_part l.prev_kv) l.yielded
