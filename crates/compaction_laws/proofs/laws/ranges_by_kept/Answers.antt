use Rattle.compaction_laws.proofs.Reading.{ranges_by_kept, earlier_ranges_by_kept, attached_by_kept}
use Rattle.compaction_laws.proofs.laws.ranges_by_kept.Goals as goal

pub returns : goal.returns
returns c = record { now = ranges_by_kept; earlier = earlier_ranges_by_kept; attached = attached_by_kept }
