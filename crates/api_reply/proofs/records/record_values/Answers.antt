-- The record's object is the next value, and after the last record none is left.
use Rattle.json_model.specs.WrittenReplies.{record_value}
use Rattle.json_model.proofs.ItemsSoFar.{one_more, no_more}
use Rattle.api_reply.proofs.records.record_values.Goals as goal

pub loop-kv-preserved : goal.loop-kv-preserved
loop-kv-preserved c =
    one_more record_value _ _ _ _ _ _ _ _ c.loop-kv-test.true c.kv-item.is c.in_ok-record_value.ensures c.in_ok-push.ensures.items c.loop-kv.invariant

pub returns : goal.returns
returns c = no_more record_value _ _ _ _ c.loop-kv-test.false c.loop-kv.invariant
