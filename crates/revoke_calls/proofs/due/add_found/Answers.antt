-- One more.
use Rattle.wait_model.specs.DueOrder.{due_found}
use Rattle.revoke_calls.proofs.DueParts.{soonest-more}
use Rattle.revoke_calls.proofs.due.add_found.Goals as goal

pub loop-one-preserved : goal.loop-one-preserved
loop-one-preserved c =
    soonest-more (due_found c.args.ticket) c.args.found.now c.loop-one.one-index c.one-item.result c.loop-one.first c.add_asking.new.first _ c.loop-one-test.true c.one-item.is c.in_ok-add_asking.ensures c.loop-one.invariant
