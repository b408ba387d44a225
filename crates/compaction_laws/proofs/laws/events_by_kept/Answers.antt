use Rattle.compaction_laws.proofs.TellingHistories.{events_by_kept}
use Rattle.compaction_laws.proofs.laws.events_by_kept.Goals as goal

pub returns : goal.returns
returns c = events_by_kept
