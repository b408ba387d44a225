-- A line that is taken is counted, and what refuses it is told.
use Rattle.std.proofs.Common.{Ok, Err, sym, subst}
use Rattle.replay_world.proofs.Promises as promises
use Rattle.replay_world.proofs.Steps.{counted_so, refused_so}
use Rattle.replay_world.specs.Step.{line_step}
use Rattle.replay_world.specs.World.{Parts, Gives}
use Rattle.replay_world.proofs.world.World.step.Goals as goal

pub returns-in-Ok-clause-step : goal.returns-in-Ok-clause-step
returns-in-Ok-clause-step g c w s =
    counted_so _ w c.args.line c.in-Ok.items c.requires.line
    (subst (λ (y : Parts). Gives y (Ok c.in-Ok.items) (line_step w c.args.line)) (sym c.self-2.view_is) (c.in-Ok.ensures.step w s))

pub returns-in-Err-clause-step : goal.returns-in-Err-clause-step
returns-in-Err-clause-step g c w s =
    refused_so _ w c.args.line c.in-Err.fault c.is_wanting-self-inside.result c.requires.line
    (subst (λ (y : Parts). Gives y (Err c.in-Err.fault) (line_step w c.args.line)) (sym c.self-2.view_is) (c.in-Err.ensures.step w s))

-- what the line promises, by the world that it leaves

pub returns-in-Ok-clause-sound : goal.returns-in-Ok-clause-sound
returns-in-Ok-clause-sound g c w s = promises.stays_sound w c.args.line _ (Ok c.in-Ok.items) (returns-in-Ok-clause-step g c w s)

pub returns-in-Ok-clause-idle : goal.returns-in-Ok-clause-idle
returns-in-Ok-clause-idle g c w s = promises.leaves_none_idle w c.args.line _ (Ok c.in-Ok.items) (returns-in-Ok-clause-step g c w s)

pub returns-in-Ok-clause-merged : goal.returns-in-Ok-clause-merged
returns-in-Ok-clause-merged g c w s = promises.leaves_streams_merged w c.args.line _ (Ok c.in-Ok.items) (returns-in-Ok-clause-step g c w s)

pub returns-in-Ok-clause-bounded : goal.returns-in-Ok-clause-bounded
returns-in-Ok-clause-bounded g c w s = promises.leaves_queues_bounded w c.args.line _ (Ok c.in-Ok.items) (returns-in-Ok-clause-step g c w s)

pub returns-in-Ok-clause-held : goal.returns-in-Ok-clause-held
returns-in-Ok-clause-held g c w s = promises.leaves_all_held w c.args.line _ c.in-Ok.items (returns-in-Ok-clause-step g c w s)

pub returns-in-Err-clause-sound : goal.returns-in-Err-clause-sound
returns-in-Err-clause-sound g c w s = promises.stays_sound w c.args.line _ (Err c.in-Err.fault) (returns-in-Err-clause-step g c w s)

pub returns-in-Err-clause-idle : goal.returns-in-Err-clause-idle
returns-in-Err-clause-idle g c w s = promises.leaves_none_idle w c.args.line _ (Err c.in-Err.fault) (returns-in-Err-clause-step g c w s)

pub returns-in-Err-clause-merged : goal.returns-in-Err-clause-merged
returns-in-Err-clause-merged g c w s = promises.leaves_streams_merged w c.args.line _ (Err c.in-Err.fault) (returns-in-Err-clause-step g c w s)

pub returns-in-Err-clause-bounded : goal.returns-in-Err-clause-bounded
returns-in-Err-clause-bounded g c w s = promises.leaves_queues_bounded w c.args.line _ (Err c.in-Err.fault) (returns-in-Err-clause-step g c w s)
