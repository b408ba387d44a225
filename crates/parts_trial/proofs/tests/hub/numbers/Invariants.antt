use Rattle.std.proofs.Common.{◌≡◌}
use Rattle.parts_trial.proofs.tests.hub.numbers.Given as goal

abbrev pub invariant-loop : goal.invariant-loop
invariant-loop g l = l.pass.hub ≡ l.hub
