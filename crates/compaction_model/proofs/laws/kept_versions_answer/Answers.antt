use Rattle.compaction_model.proofs.KeptProofs.{kept_give_now, kept_give_earlier}
use Rattle.compaction_model.proofs.LaterProofs.{kept_have_later}
use Rattle.compaction_model.proofs.laws.kept_versions_answer.Goals as goal

pub returns : goal.returns
returns c = record { now = kept_give_now; earlier = kept_give_earlier; later = kept_have_later }
