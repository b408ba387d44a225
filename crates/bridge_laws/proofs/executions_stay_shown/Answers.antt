use Rattle.bridge_laws.proofs.Executes.{executions_stay_shown}
use Rattle.bridge_laws.proofs.executions_stay_shown.Goals as goal

pub returns : goal.returns
returns c = executions_stay_shown
