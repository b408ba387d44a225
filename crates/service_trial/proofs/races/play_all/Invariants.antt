use Rattle.std.proofs.Common.{◌≡◌}
use Rattle.service_trial.proofs.races.play_all.Given as goal

abbrev pub invariant-loop-name : goal.invariant-loop-name
invariant-loop-name g l = l.first.hub ≡ l.hub.value
