-- Each kind of a Take.
use Rattle.std.proofs.Common.{refl, Ok}
use Rattle.core_model.specs.declared.event.Outcome.TheVariants.{Replied, Pending, Item}
use Rattle.server_model.proofs.Asks.{made_as, took_nothing, took_reply, unsaid_last, passed_on, take_failed}
use Rattle.server_model.proofs.Numbers.{turn_asks_none}
use Rattle.proxy_server.proofs.take.take.Goals as goal

pub returns-in-Ok-Pending-clause-takes : goal.returns-in-Ok-Pending-clause-takes
returns-in-Ok-Pending-clause-takes g c =
    took_nothing c.args.form g.T.Turn.rests c.args.ticket _ c.args.begun _ _ _ (made_as _ _ _ _ _ Pending c.in-Ok-Pending.field-0-is c.in-Ok-Pending.ensures.made)

pub returns-in-Ok-Pending-clause-quiet : goal.returns-in-Ok-Pending-clause-quiet
returns-in-Ok-Pending-clause-quiet g c = turn_asks_none _ _ _ _ (Ok c.in-Ok-Pending.field-0) refl c.in-Ok-Pending.ensures.made

pub returns-in-Ok-clause-takes : goal.returns-in-Ok-clause-takes
returns-in-Ok-clause-takes g c =
    took_reply c.args.form g.T.Turn.rests c.args.ticket _ c.args.begun _ _ _ _ c.in-Ok-Replied.answer (made_as _ _ _ _ _ (Replied c.in-Ok-Replied.answer) c.in-Ok-Replied.field-0-is c.in-Ok-Replied.ensures.made) c.in-Ok.ensures.written

pub returns-in-Ok-clause-quiet : goal.returns-in-Ok-clause-quiet
returns-in-Ok-clause-quiet g c = turn_asks_none _ _ _ _ (Ok c.in-Ok-Replied.field-0) refl c.in-Ok-Replied.ensures.made

pub returns-in-Ok-Replied-clause-takes : goal.returns-in-Ok-Replied-clause-takes
returns-in-Ok-Replied-clause-takes g c =
    unsaid_last c.args.form g.T.Turn.rests ⊥ c.args.ticket _ c.args.begun _ _ _ _ (Replied c.in-Ok-Replied.answer) c.end_by.result (made_as _ _ _ _ _ (Replied c.in-Ok-Replied.answer) c.in-Ok-Replied.field-0-is c.in-Ok-Replied.ensures.made) refl (c.end_by.ensures.untold c.in-Err-tell.ensures.fault) c.in-Err-tell.ensures.written

pub returns-in-Ok-Item-clause-takes : goal.returns-in-Ok-Item-clause-takes
returns-in-Ok-Item-clause-takes g c =
    passed_on c.args.form g.T.Turn.rests _ c.args.ticket _ c.args.begun _ _ _ _ c.in-Ok-Item.told c.pass_on.result (made_as _ _ _ _ _ (Item c.in-Ok-Item.told) c.in-Ok-Item.field-0-is c.in-Ok-Item.ensures.made) c.pass_on.ensures.passes

pub returns-in-Ok-Item-clause-quiet : goal.returns-in-Ok-Item-clause-quiet
returns-in-Ok-Item-clause-quiet g c = turn_asks_none _ _ _ _ (Ok c.in-Ok-Item.field-0) refl c.in-Ok-Item.ensures.made

pub returns-clause-takes : goal.returns-clause-takes
returns-clause-takes g c =
    take_failed c.args.form g.T.Turn.rests _ c.args.ticket _ c.args.begun _ _ _ c.in-Err.fault c.end_of.result c.end_of.ensures.is c.in-Err.ensures.worn c.in-Err.ensures.made c.in-Err.ensures.fits
