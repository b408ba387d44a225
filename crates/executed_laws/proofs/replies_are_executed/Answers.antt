use Rattle.executed_laws.proofs.Told.{replies_executed}
use Rattle.executed_laws.proofs.replies_are_executed.Goals as goal

pub returns : goal.returns
returns c = replies_executed
