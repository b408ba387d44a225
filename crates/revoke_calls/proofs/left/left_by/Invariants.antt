-- What is left to be done ends where the whole ends.
use Rattle.std.proofs.Common.{◌≡◌, drop}
use Rattle.store_model.specs.LeftRecords.{left_by}
use Rattle.revoke_calls.proofs.left.left_by.Given as goal

abbrev pub invariant-loop-op : goal.invariant-loop-op
invariant-loop-op l = left_by l.revision l.key (drop l.op-index l.op-items) l.left ≡ left_by l.revision l.key l.ops l.fn.old
