use Rattle.core_laws.proofs.Watches.Runs.{start_waits, none_is_idle, steps_keep, runs_leave_none}
use Rattle.core_laws.proofs.laws_of_watches.no_watch_is_idle.Goals as goal

pub returns : goal.returns
returns c = record { start = start_waits; none = none_is_idle; steps = steps_keep; runs = runs_leave_none }
