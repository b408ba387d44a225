use Rattle.std.proofs.Common.{◌≡◌}
use Rattle.parts_trial.proofs.tests.hub.everybody_is_all_of_a_crew.Given as goal

abbrev pub invariant-loop : goal.invariant-loop
invariant-loop g l = l.first.hub ≡ l.hub.value

abbrev pub invariant-loop-2 : goal.invariant-loop-2
invariant-loop-2 g l = l.first.hub ≡ l.hub.value
