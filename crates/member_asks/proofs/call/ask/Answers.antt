-- The member was asked, or for want of memory it wasn't.
use Rattle.member_asks.proofs.Asked.{was_asked, not_asked}
use Rattle.member_asks.proofs.call.ask.Goals as goal

pub returns-in-Ok : goal.returns-in-Ok
returns-in-Ok g c = was_asked c.args.host.now c.args.member _ _ _ _ c.in-Ok.request c.make_call.result _ c.in-Ok.ensures c.make_call.ensures c.told_by.ensures

pub returns-in-Err : goal.returns-in-Err
returns-in-Err g c = not_asked c.args.host.now c.args.member _ _
