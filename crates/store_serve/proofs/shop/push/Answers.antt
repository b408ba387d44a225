-- The outcome came, or no step was made, or it had a fault.
use Rattle.std.proofs.Common.{sym}
use Rattle.store_serve.specs.Missing.{brought}
use Rattle.store_serve.proofs.Fitting.{makes_as, begins_so, still_opened, push_pushes, push_misses, fail_begins, fail_allowed}
use Rattle.store_serve.proofs.shop.push.Goals as goal

pub item_of-requires : goal.item_of-requires
item_of-requires g c = push_pushes c.args.pass.now c.step.new.pass _ _ c.in-Ok.given c.in-Ok.ensures.outcome

pub returns-in-Ok-clause-seen : goal.returns-in-Ok-clause-seen
returns-in-Ok-clause-seen g c = begins_so c.args.pass.now c.step.new.pass _ _ _ c.in-Ok.ensures.outcome

pub returns-in-Ok-clause-allowed : goal.returns-in-Ok-clause-allowed
returns-in-Ok-clause-allowed g c = c.in-Ok.ensures.outcome.allowed

pub returns-in-Ok-clause-opened : goal.returns-in-Ok-clause-opened
returns-in-Ok-clause-opened g c = still_opened c.args.pass.now c.step.new.pass c.args.number (begins_so c.args.pass.now c.step.new.pass _ _ _ c.in-Ok.ensures.outcome) c.requires.opened

pub returns-in-Ok-clause-item : goal.returns-in-Ok-clause-item
returns-in-Ok-clause-item g c = (makes_as c.args.pass.now c.step.new.pass _ _ c.in-Ok.given (brought c.item_of.result) (sym c.item_of.ensures) c.in-Ok.ensures.outcome).made

pub returns-in-Err-clause-seen : goal.returns-in-Err-clause-seen
returns-in-Err-clause-seen g c = fail_begins c.args.pass.now c.step.new.pass _ _ c.in-Err.fault c.in-Err.ensures.fault

pub returns-in-Err-clause-allowed : goal.returns-in-Err-clause-allowed
returns-in-Err-clause-allowed g c = fail_allowed c.args.pass.now c.step.new.pass _ _ c.in-Err.fault c.in-Err.ensures.fault

pub returns-in-Err-clause-opened : goal.returns-in-Err-clause-opened
returns-in-Err-clause-opened g c = still_opened c.args.pass.now c.step.new.pass c.args.number (fail_begins c.args.pass.now c.step.new.pass _ _ c.in-Err.fault c.in-Err.ensures.fault) c.requires.opened

pub returns-in-Err-clause-fault : goal.returns-in-Err-clause-fault
returns-in-Err-clause-fault g c = push_misses c.args.pass.now c.step.new.pass c.args.number _ c.in-Err.fault c.requires.opened c.in-Err.ensures.fault
