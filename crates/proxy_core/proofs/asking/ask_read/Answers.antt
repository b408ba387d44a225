-- By the verdict, if there is one.
use Rattle.proxy_core.proofs.AtOnce.{is_replied, is_waiting}
use Rattle.proxy_core.proofs.asking.ask_read.Goals as goal

pub returns-in-Ok-clause-step : goal.returns-in-Ok-clause-step
returns-in-Ok-clause-step c =
    is_replied c.args.now c.args.ask c.args.machine.now c.decide_read.new.machine c.in-Ok-Some.field-0 c.in-Ok-Some.verdict c.in-Ok.reply c.in-Ok-Some.field-0-is c.in-Ok-Some.ensures.reply c.in-Ok-Some.ensures.reads c.in-Ok.ensures

pub returns-in-Ok-None-clause-step : goal.returns-in-Ok-None-clause-step
returns-in-Ok-None-clause-step c =
    is_waiting c.args.now c.args.ask c.args.machine.now c.decide_read.new.machine c.go_on.new.self c.in-Ok-None.field-0 c.in-Ok-None.field-0-is c.in-Ok-None.ensures.reply c.in-Ok-None.ensures.reads c.go_on.ensures
