-- Each key is still with the lease of its record.
use Rattle.store_index.specs.Leases.{AreCovered}
use Rattle.store_index.proofs.leased.unlink_moved.Given as goal

abbrev pub invariant-loop-key : goal.invariant-loop-key
invariant-loop-key l = AreCovered l.versions l.leases
