use Rattle.std.proofs.Common.{◌≡◌}
use Rattle.parts_trial.proofs.tests.hub.await_door.Given as goal

abbrev pub invariant-loop : goal.invariant-loop
invariant-loop g l =
    (goal.iterator-loop g).can_next l.iterator' × (goal.iterator-loop g).is_finite l.iterator' × (l.pass.hub ≡ l.hub)
