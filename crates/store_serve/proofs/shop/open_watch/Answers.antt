-- The outcome came, or no step was made, or it had a fault.
use Rattle.std.proofs.Common.{sym}
use Rattle.shop_model.specs.declared.event.StoreOutcome.TheVariants as outcome
use Rattle.store_serve.proofs.Fitting.{makes_as, begins_so, opened_now, open_opens, open_misses, fail_begins, fail_allowed}
use Rattle.store_serve.proofs.shop.open_watch.Goals as goal

pub number_of-requires : goal.number_of-requires
number_of-requires g c = open_opens c.args.pass.now c.step.new.pass _ _ c.in-Ok.given c.in-Ok.ensures.outcome

pub returns-in-Ok-clause-seen : goal.returns-in-Ok-clause-seen
returns-in-Ok-clause-seen g c = begins_so c.args.pass.now c.step.new.pass _ _ _ c.in-Ok.ensures.outcome

pub returns-in-Ok-clause-allowed : goal.returns-in-Ok-clause-allowed
returns-in-Ok-clause-allowed g c = c.in-Ok.ensures.outcome.allowed

pub returns-in-Ok-clause-number : goal.returns-in-Ok-clause-number
returns-in-Ok-clause-number g c = (makes_as c.args.pass.now c.step.new.pass _ _ c.in-Ok.given (outcome.Opened c.number_of.result) (sym c.number_of.ensures) c.in-Ok.ensures.outcome).made

pub returns-in-Ok-clause-opened : goal.returns-in-Ok-clause-opened
returns-in-Ok-clause-opened g c = opened_now c.args.pass.now c.step.new.pass _ _ c.number_of.result (makes_as c.args.pass.now c.step.new.pass _ _ c.in-Ok.given (outcome.Opened c.number_of.result) (sym c.number_of.ensures) c.in-Ok.ensures.outcome)

pub returns-in-Err-clause-seen : goal.returns-in-Err-clause-seen
returns-in-Err-clause-seen g c = fail_begins c.args.pass.now c.step.new.pass _ _ c.in-Err.fault c.in-Err.ensures.fault

pub returns-in-Err-clause-allowed : goal.returns-in-Err-clause-allowed
returns-in-Err-clause-allowed g c = fail_allowed c.args.pass.now c.step.new.pass _ _ c.in-Err.fault c.in-Err.ensures.fault

pub returns-in-Err-clause-fault : goal.returns-in-Err-clause-fault
returns-in-Err-clause-fault g c = open_misses c.args.pass.now c.step.new.pass _ _ c.in-Err.fault c.in-Err.ensures.fault
