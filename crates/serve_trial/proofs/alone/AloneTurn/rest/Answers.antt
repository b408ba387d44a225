-- A rest is a step on what is due.
use Rattle.serve_trial.proofs.Fitting.{work_rested}
use Rattle.serve_trial.proofs.alone.AloneTurn.rest.Goals as goal

pub returns-clause-made : goal.returns-clause-made
returns-clause-made g c = work_rested _ _ _ c.step.result c.step.ensures.made
