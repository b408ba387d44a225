-- All streams.
use Rattle.replay_generated.proofs.Makings.{pushes_all}
use Rattle.replay_generated.proofs.Taking.{count_taken}
use Rattle.replay_generated.proofs.making.Making.all_pushes.Goals as goal

pub returns : goal.returns
returns g c = pushes_all c.streams-count.ensures c.in_ok-pushes.ensures

pub pushes-requires : goal.pushes-requires
pushes-requires g c = count_taken c.streams-count.ensures c.requires
