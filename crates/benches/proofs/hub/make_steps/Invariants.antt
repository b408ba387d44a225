use Rattle.std.proofs.Common.{◌≡◌}
use Rattle.benches.proofs.hub.make_steps.Given as goal

abbrev pub invariant-loop : goal.invariant-loop
invariant-loop g l = l.pass.hub ≡ l.hub
