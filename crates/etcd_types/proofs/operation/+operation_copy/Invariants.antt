-- The copies so far are the front of the list.
use Rattle.std.proofs.Common.{◌≡◌, take}
use Rattle.etcd_types.proofs.operation.+operation_copy.Given as goal

abbrev pub invariant-copy_operations-loop-operation : goal.invariant-copy_operations-loop-operation
invariant-copy_operations-loop-operation l = l.copies ≡ take l.operation-index l.operations
