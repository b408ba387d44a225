-- The line is taken.
use Rattle.replay_generated.proofs.Adding.{adds}
use Rattle.replay_generated.proofs.making.Making.add.Goals as goal

pub returns-in-Ok : goal.returns-in-Ok
returns-in-Ok g c = adds c.in-Ok.ensures.taken
