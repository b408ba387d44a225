-- It is the proxy's of the world that this one stands for.
use Rattle.replay_generated.proofs.Makings.{dues}
use Rattle.replay_generated.proofs.making.Making.is_due.Goals as goal

pub returns : goal.returns
returns g c = dues _ _ c.args.proxy _ c.self.view_is c.has_job.ensures
