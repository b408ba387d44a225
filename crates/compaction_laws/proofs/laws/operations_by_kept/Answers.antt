use Rattle.compaction_laws.proofs.Running.{operations_by_kept}
use Rattle.compaction_laws.proofs.laws.operations_by_kept.Goals as goal

pub returns : goal.returns
returns c = operations_by_kept
