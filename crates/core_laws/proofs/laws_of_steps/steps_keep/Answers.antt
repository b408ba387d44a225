use Rattle.core_laws.proofs.Steps.Stepping.{steps_keep, runs_keep, runs_leave_none_idle, runs_share_keepalives}
use Rattle.core_laws.proofs.laws_of_steps.steps_keep.Goals as goal

pub returns : goal.returns
returns c = record { steps = steps_keep; runs = runs_keep; none_is_idle = runs_leave_none_idle; keepalives_share = runs_share_keepalives }
