-- The records so far.
use Rattle.std.proofs.Common.{◌≡◌, ◌++◌, take}
use Rattle.lease_txn.proofs.written.add_prevs.Given as goal

abbrev pub invariant-loop-kv : goal.invariant-loop-kv
invariant-loop-kv l = l.prevs ≡ l.initial.prevs ++ take l.kv-index l.kv-items
