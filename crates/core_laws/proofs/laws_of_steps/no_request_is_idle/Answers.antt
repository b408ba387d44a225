use Rattle.core_laws.proofs.Steps.Idle.{none_is_idle}
use Rattle.core_laws.proofs.Steps.Start.{start_fits}
use Rattle.core_laws.proofs.laws_of_steps.no_request_is_idle.Goals as goal

pub returns : goal.returns
returns c = record { start = start_fits; none = none_is_idle }
