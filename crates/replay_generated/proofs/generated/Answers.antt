-- What is told is told of the whole script.
use Rattle.replay_generated.specs.Made.{script}
use Rattle.replay_generated.proofs.generated.Goals as goal

pub returns : goal.returns
returns g c = c.summary.ensures (script c.args.number) c.in_ok-making.ensures
