-- One more.
use Rattle.wait_model.specs.DueOrder.{due_of}
use Rattle.revoke_calls.proofs.DueParts.{soonest-more}
use Rattle.revoke_calls.proofs.due.first_call.Goals as goal

pub loop-write-preserved : goal.loop-write-preserved
loop-write-preserved c =
    soonest-more due_of c.args.writes.now c.loop-write.write-index c.write-item.result c.loop-write.first c.add_write.new.first _ c.loop-write-test.true c.write-item.is c.in_ok-add_write.ensures c.loop-write.invariant
