-- A worn proxy does nothing; what an event finds holds behind the clock work, and what is to hold of a proxy holds again at each exit.
use Rattle.std.proofs.Common.{refl, sym}
use Rattle.core_laws.proofs.Steps.Outcomes.{worn_does_nothing}
use Rattle.proxy_core.proofs.Steps.{ready_then, count_left, is_done, has_failed}
use Rattle.proxy_core.proofs.events.step.Goals as goal

pub returns-then-is_worn-clause-step : goal.returns-then-is_worn-clause-step
returns-then-is_worn-clause-step c = worn_does_nothing c.args.machine.now.core c.args.event c.args.now (sym c.if-is_worn.ensures)

pub happen-requires : goal.happen-requires
happen-requires c = ready_then c.args.now c.args.machine.now c.work_clock.new.self c.requires (sym c.if-is_worn.ensures) c.work_clock.ensures

pub count-requires : goal.count-requires
count-requires c =
    count_left c.work_clock.new.self c.happen.new.machine c.args.event c.args.now c.in-Ok.outcome (ready_then c.args.now c.args.machine.now c.work_clock.new.self c.requires (sym c.if-is_worn.ensures) c.work_clock.ensures) c.in-Ok.ensures.step

pub returns-in-Ok-clause-step : goal.returns-in-Ok-clause-step
returns-in-Ok-clause-step c =
    (is_done c.args.machine.now c.work_clock.new.self c.happen.new.machine c.count.new.self c.args.event c.args.now c.in-Ok.outcome c.requires (sym c.if-is_worn.ensures) c.work_clock.ensures c.in-Ok.ensures.step (c.in-Ok.ensures.heard refl) c.in-Ok.ensures.ranges c.count.ensures).step

pub returns-in-Ok-clause-kept : goal.returns-in-Ok-clause-kept
returns-in-Ok-clause-kept c =
    (is_done c.args.machine.now c.work_clock.new.self c.happen.new.machine c.count.new.self c.args.event c.args.now c.in-Ok.outcome c.requires (sym c.if-is_worn.ensures) c.work_clock.ensures c.in-Ok.ensures.step (c.in-Ok.ensures.heard refl) c.in-Ok.ensures.ranges c.count.ensures).kept

pub returns-in-Err-clause-step : goal.returns-in-Err-clause-step
returns-in-Err-clause-step c =
    (has_failed c.args.machine.now c.work_clock.new.self c.happen.new.machine c.args.event c.args.now c.in-Err.fault c.requires (sym c.if-is_worn.ensures) c.work_clock.ensures c.in-Err.ensures.step c.in-Err.ensures.ranges).step

pub returns-in-Err-clause-kept : goal.returns-in-Err-clause-kept
returns-in-Err-clause-kept c =
    (has_failed c.args.machine.now c.work_clock.new.self c.happen.new.machine c.args.event c.args.now c.in-Err.fault c.requires (sym c.if-is_worn.ensures) c.work_clock.ensures c.in-Err.ensures.step c.in-Err.ensures.ranges).kept
