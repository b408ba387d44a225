-- One more.
use Rattle.wait_model.specs.DueOrder.{due_found}
use Rattle.revoke_calls.proofs.DueParts.{earliest-more}
use Rattle.revoke_calls.proofs.places.with_found.Goals as goal

pub loop-one-preserved : goal.loop-one-preserved
loop-one-preserved c =
    earliest-more (due_found c.args.ticket) c.args.found.now c.loop-one.one-index c.one-item.result c.loop-one.first c.with_asking-first.result _ c.loop-one-test.true c.one-item.is c.with_asking-first.ensures c.loop-one.invariant
