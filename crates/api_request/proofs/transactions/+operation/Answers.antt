use Rattle.json_model.specs.WrittenRequests.{operation_value}
use Rattle.json_model.proofs.ItemsSoFar.{one_more, no_more}
use Rattle.api_request.proofs.transactions.+operation.Goals as goal

pub operation_values-loop-operation-preserved : goal.operation_values-loop-operation-preserved
operation_values-loop-operation-preserved t c =
    one_more operation_value _ _ _ _ _ _ _ _ c.loop-operation-test.true c.operation-item.is c.in_ok-operation_value.ensures c.in_ok-push.ensures.items c.loop-operation.invariant

pub operation_values-returns : goal.operation_values-returns
operation_values-returns t c = no_more operation_value _ _ _ _ c.loop-operation-test.false c.loop-operation.invariant
