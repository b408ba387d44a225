-- One more.
use Rattle.wait_model.specs.DueOrder.{due_of}
use Rattle.revoke_calls.proofs.DueParts.{earliest-more}
use Rattle.revoke_calls.proofs.places.first_place.Goals as goal

pub loop-write-preserved : goal.loop-write-preserved
loop-write-preserved c =
    earliest-more due_of c.args.writes.now c.loop-write.write-index c.write-item.result c.loop-write.first c.with_write-first.result _ c.loop-write-test.true c.write-item.is c.with_write-first.ensures c.loop-write.invariant
