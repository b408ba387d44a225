-- The answer was told, or wasn't, or there was none.
use Rattle.shop_dialog.proofs.Replying.{executed, unsaid}
use Rattle.store_serve.proofs.Missed.{exec_missed}
use Rattle.store_serve.proofs.reply.execute.Goals as goal

pub returns-in-Ok-tell-clause-asks : goal.returns-in-Ok-tell-clause-asks
returns-in-Ok-tell-clause-asks g c = executed ⊥ c.args.request _ c.in-Ok.answer _ _ _ _ c.requires.executed c.in-Ok.ensures.answer c.in-Ok-tell.ensures.written

pub returns-in-Ok-clause-asks : goal.returns-in-Ok-clause-asks
returns-in-Ok-clause-asks g c = unsaid _ c.args.request _ c.in-Ok.answer _ _ _ _ c.end_by.result (c.end_by.ensures.untold c.in-Err-tell.ensures.fault) c.in-Ok.ensures.answer c.in-Err-tell.ensures.written

pub returns-clause-asks : goal.returns-clause-asks
returns-clause-asks g c = exec_missed c.args.pass.now c.exec.new.pass c.args.request _ _ c.in-Err.fault c.end_of.result c.end_of.ensures.is c.in-Err.ensures.fault
