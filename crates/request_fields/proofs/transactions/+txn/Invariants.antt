-- A round of transactions takes one from the depth, and within a round each function calls one that is nearer to the next.
use Rattle.std.proofs.Common.{◌≡◌, ◌+◌, ◌*◌, drop}
use Rattle.serde_json.specs.View.{items_view}
use Rattle.json_model.specs.Fields.{each}
use Rattle.json_model.specs.Transactions.{operation_by, txn_in}
use Rattle.json_model.proofs.Chains.{with_front}
use Rattle.request_fields.proofs.transactions.+txn.Given as goal

abbrev pub decreases-txn_in : goal.decreases-txn_in
decreases-txn_in l = 7 * l.depth

abbrev pub decreases-txn_operation : goal.decreases-txn_operation
decreases-txn_operation l = 7 * l.depth + 1

abbrev pub decreases-the_operation : goal.decreases-the_operation
decreases-the_operation l = 7 * l.depth + 2

abbrev pub decreases-operation_in : goal.decreases-operation_in
decreases-operation_in l = 7 * l.depth + 3

abbrev pub decreases-each_operation : goal.decreases-each_operation
decreases-each_operation l = 7 * l.depth + 4

abbrev pub decreases-operations_in : goal.decreases-operations_in
decreases-operations_in l = 7 * l.depth + 5

abbrev pub decreases-txn_within : goal.decreases-txn_within
decreases-txn_within l = 7 * l.depth + 6

abbrev pub invariant-each_operation-loop-item : goal.invariant-each_operation-loop-item
invariant-each_operation-loop-item l =
    let read = operation_by (txn_in l.depth) l.name in
    with_front l.operations (each read (items_view (drop l.item-index l.items))) ≡ each read (items_view l.items)
