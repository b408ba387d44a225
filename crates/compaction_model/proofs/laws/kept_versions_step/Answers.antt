use Rattle.compaction_model.proofs.KeptProofs.{kept_grow, kept_again}
use Rattle.compaction_model.proofs.ChangeProofs.{kept_grow_by_change}
use Rattle.compaction_model.proofs.laws.kept_versions_step.Goals as goal

pub returns : goal.returns
returns c = record { grow = kept_grow; change = kept_grow_by_change; again = kept_again }
