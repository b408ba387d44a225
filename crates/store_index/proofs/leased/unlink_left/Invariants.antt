-- Each key is still with the lease of its record.
use Rattle.std.proofs.Common.{◌≤◌, length}
use Rattle.store_index.specs.Leases.{AreCovered}
use Rattle.store_index.proofs.leased.unlink_left.Given as goal

abbrev pub invariant-loop-count : goal.invariant-loop-count
invariant-loop-count l = record { within : l.count ≤ length l.held; covered : AreCovered l.versions l.leases }

abbrev pub decreases-loop-count : goal.decreases-loop-count
decreases-loop-count l = l.count
