-- They are the streams of the world that this one stands for.
use Rattle.replay_generated.proofs.Makings.{counts}
use Rattle.replay_generated.proofs.making.Making.streams.Goals as goal

pub returns : goal.returns
returns g c = counts _ _ _ c.self.view_is c.streams.ensures
