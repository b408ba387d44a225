-- The entries of the ranges so far.
use Rattle.std.proofs.Common.{◌≡◌, take}
use Rattle.revoke_calls.specs.Jobs.{owned_over}
use Rattle.revoke_calls.proofs.jobs.owned_over.Given as goal

abbrev pub invariant-loop-range : goal.invariant-loop-range
invariant-loop-range l = l.owned.items ≡ owned_over l.table.entries (take l.range-index l.ranges)
