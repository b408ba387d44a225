-- The next event is written, and after the last none is left.
use Rattle.json_model.specs.WrittenReplies.{event_value}
use Rattle.direct_json.proofs.Shapes.{item_more, no_item_more}
use Rattle.direct_json.proofs.messages.draft_each.Goals as goal

pub loop-event-preserved : goal.loop-event-preserved
loop-event-preserved c = item_more event_value _ _ _ _ _ _ _ c.loop-event-test.true c.event-item.is c.in_ok-draft_event.ensures c.loop-event.invariant

pub returns : goal.returns
returns c = no_item_more event_value _ _ _ _ c.loop-event-test.false c.loop-event.invariant
