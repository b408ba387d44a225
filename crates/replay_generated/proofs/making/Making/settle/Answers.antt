-- At most so many turns.
use Rattle.replay_generated.proofs.Makings.{settles_all}
use Rattle.replay_generated.proofs.making.Making.settle.Goals as goal

pub returns : goal.returns
returns g c = settles_all c.in_ok-settles.ensures
