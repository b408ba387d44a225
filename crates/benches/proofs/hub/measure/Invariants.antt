use Rattle.std.proofs.Common.{◌≡◌}
use Rattle.benches.proofs.hub.measure.Given as goal

abbrev pub invariant-loop-number : goal.invariant-loop-number
invariant-loop-number g l = l.first.hub ≡ l.hub.value

abbrev pub invariant-loop : goal.invariant-loop
invariant-loop g l = l.first.hub ≡ l.hub.value
