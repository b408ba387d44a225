-- The next record is written, and after the last none is left.
use Rattle.json_model.specs.WrittenReplies.{record_value}
use Rattle.direct_json.proofs.Shapes.{item_more, no_item_more}
use Rattle.direct_json.proofs.replies.draft_items.Goals as goal

pub loop-kv-preserved : goal.loop-kv-preserved
loop-kv-preserved c = item_more record_value _ _ _ _ _ _ _ c.loop-kv-test.true c.kv-item.is c.in_ok-draft_item.ensures c.loop-kv.invariant

pub returns : goal.returns
returns c = no_item_more record_value _ _ _ _ c.loop-kv-test.false c.loop-kv.invariant
