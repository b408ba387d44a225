-- Only versions that are too late were passed.
use Rattle.std.proofs.Common.{◌≡◌, ◌≤◌, length, take, None}
use Rattle.compaction_model.specs.Versions.{last_left, up_to}
use Rattle.store_index.proofs.reading.left_at.Given as goal

abbrev pub invariant-loop-count : goal.invariant-loop-count
invariant-loop-count l =
    record {
      within : l.count ≤ length l.versions;
      passed : last_left (up_to l.revision (take l.count l.versions)) None ≡ last_left (up_to l.revision l.versions) None;
    }

abbrev pub decreases-loop-count : goal.decreases-loop-count
decreases-loop-count l = l.count
