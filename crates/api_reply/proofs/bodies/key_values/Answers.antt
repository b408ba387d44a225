-- The key's text is the next value, and after the last key none is left.
use Rattle.json_model.specs.Written.{text_of}
use Rattle.json_model.proofs.ItemsSoFar.{one_more, no_more}
use Rattle.api_reply.proofs.bodies.key_values.Goals as goal

pub loop-key-preserved : goal.loop-key-preserved
loop-key-preserved c =
    one_more text_of _ _ _ _ _ _ _ _ c.loop-key-test.true c.key-item.is c.in_ok-bytes_text.ensures c.in_ok-push.ensures.items c.loop-key.invariant

pub returns : goal.returns
returns c = no_more text_of _ _ _ _ c.loop-key-test.false c.loop-key.invariant
