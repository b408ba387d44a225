-- The ranges so far.
use Rattle.std.proofs.Common.{◌≡◌}
use Rattle.revoke_calls.proofs.asked.ranges_of.Given as goal

abbrev pub invariant-loop-range : goal.invariant-loop-range
invariant-loop-range l = l.ranges ≡ l.yielded
