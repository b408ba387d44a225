-- The values so far, and those that are left to write, are all.
use Rattle.std.proofs.Common.{◌≡◌, drop}
use Rattle.json_model.specs.Written.{items_of}
use Rattle.json_model.specs.WrittenRequests.{operation_value}
use Rattle.json_model.proofs.ItemsSoFar.{onto}
use Rattle.api_request.proofs.transactions.+operation.Given as goal

abbrev pub invariant-operation_values-loop-operation : goal.invariant-operation_values-loop-operation
invariant-operation_values-loop-operation l =
    onto l.values.items (items_of operation_value (drop l.operation-index l.operation-items)) ≡ items_of operation_value l.operations
