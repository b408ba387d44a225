-- The message that the store has is pushed and delivered, and where it has none nothing changes.
use Rattle.replay_generated.proofs.Pushing.{pushes, pushes_nothing}
use Rattle.replay_generated.proofs.Taking.{push_second}
use Rattle.replay_generated.proofs.making.Making.push_one.Goals as goal

pub returns-in_ok-add-in-Ok : goal.returns-in_ok-add-in-Ok
returns-in_ok-add-in-Ok g c = pushes c.in-Ok.ensures.taken c.in_ok-add-in-Ok.ensures

pub returns-in_ok-unless_wanting-in-Err : goal.returns-in_ok-unless_wanting-in-Err
returns-in_ok-unless_wanting-in-Err g c = pushes_nothing c.args.stream c.in-Err.why c.in_ok-unless_wanting-in-Err.ensures c.in-Err.ensures.refused

pub add-requires-clause-goes : goal.add-requires-clause-goes
add-requires-clause-goes g c = push_second c.requires c.in-Ok.ensures.taken
