use Rattle.std.proofs.Common.{refl}
use Rattle.compaction_model.proofs.laws.worked_compactions.Goals as goal

pub returns : goal.returns
returns c = record { all = refl; put = (refl, refl); deletion = (refl, refl) }
