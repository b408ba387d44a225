use Rattle.compaction_model.proofs.VersionProofs.{versions_give_records, versions_give_earlier, versions_grow}
use Rattle.compaction_model.proofs.LaterProofs.{versions_from_revision}
use Rattle.compaction_model.proofs.laws.versions_are_the_history.Goals as goal

pub returns : goal.returns
returns c = record { now = versions_give_records; earlier = versions_give_earlier; grow = versions_grow; later = versions_from_revision }
