use Rattle.json_model.specs.WrittenRequests.{compare_value}
use Rattle.json_model.proofs.ItemsSoFar.{one_more, no_more}
use Rattle.api_request.proofs.transactions.compare_values.Goals as goal

pub loop-compare-preserved : goal.loop-compare-preserved
loop-compare-preserved c =
    one_more compare_value _ _ _ _ _ _ _ _ c.loop-compare-test.true c.compare-item.is c.in_ok-compare_value.ensures c.in_ok-push.ensures.items c.loop-compare.invariant

pub returns : goal.returns
returns c = no_more compare_value _ _ _ _ c.loop-compare-test.false c.loop-compare.invariant
