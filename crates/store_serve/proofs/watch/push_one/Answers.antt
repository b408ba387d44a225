-- Each kind of a push.
use Rattle.std.proofs.Common.{None, Some}
use Rattle.shop_dialog.proofs.Pushing.{took_nothing, passed_on}
use Rattle.store_serve.proofs.Missed.{brought_as, push_missed}
use Rattle.store_serve.proofs.watch.push_one.Goals as goal

pub returns-in-Ok-None-clause-pushes : goal.returns-in-Ok-None-clause-pushes
returns-in-Ok-None-clause-pushes g c =
    took_nothing c.args.number _ c.args.begun _ _ _ (brought_as _ _ _ _ _ None c.in-Ok-None.field-0-is c.in-Ok-None.ensures.item)

pub returns-in-Ok-Some-clause-pushes : goal.returns-in-Ok-Some-clause-pushes
returns-in-Ok-Some-clause-pushes g c =
    passed_on _ c.args.number _ c.args.begun _ _ _ _ c.in-Ok-Some.item c.pass_on.result (brought_as _ _ _ _ _ (Some c.in-Ok-Some.item) c.in-Ok-Some.field-0-is c.in-Ok-Some.ensures.item) c.pass_on.ensures.passes

pub returns-in-Err-clause-pushes : goal.returns-in-Err-clause-pushes
returns-in-Err-clause-pushes g c = push_missed c.args.pass.now c.push.new.pass c.args.number _ c.args.begun _ c.in-Err.fault c.end_of.result c.end_of.ensures.is c.in-Err.ensures.fault
