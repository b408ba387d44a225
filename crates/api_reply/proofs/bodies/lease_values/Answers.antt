-- The lease's object is the next value, and after the last lease none is left.
use Rattle.std.proofs.Common.{refl}
use Rattle.json_model.specs.WrittenReplies.{lease_value}
use Rattle.json_model.proofs.ItemsSoFar.{one_more, no_more}
use Rattle.api_reply.proofs.bodies.lease_values.Goals as goal

pub loop-lease-preserved : goal.loop-lease-preserved
loop-lease-preserved c =
    one_more lease_value _ _ _ _ _ _ 0 _ c.loop-lease-test.true refl c.in_ok-lease_value.ensures c.in_ok-push.ensures.items c.loop-lease.invariant

pub returns : goal.returns
returns c = no_more lease_value _ _ _ _ c.loop-lease-test.false c.loop-lease.invariant
