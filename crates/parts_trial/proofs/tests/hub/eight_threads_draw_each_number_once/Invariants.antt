use Rattle.std.proofs.Common.{◌≡◌}
use Rattle.parts_trial.proofs.tests.hub.eight_threads_draw_each_number_once.Given as goal

abbrev pub invariant-loop : goal.invariant-loop
invariant-loop g l = l.first.hub ≡ l.hub.value
