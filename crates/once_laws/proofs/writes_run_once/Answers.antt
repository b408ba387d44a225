use Rattle.once_laws.proofs.Once.{writes_run_once}
use Rattle.once_laws.proofs.writes_run_once.Goals as goal

pub returns : goal.returns
returns c = writes_run_once
