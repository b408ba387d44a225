-- Asking for a lease's time to live changes nothing.
use Rattle.store_model.specs.Step.{exec}
use Rattle.replay_parts.proofs.stored.has_lease.Goals as goal

pub returns-clause-same : goal.returns-clause-same
unfolding exec
returns-clause-same c s h = (c.in_ok-answer.ensures.step s h).state
