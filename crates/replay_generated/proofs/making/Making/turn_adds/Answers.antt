-- The turn has added a line where there are more than before.
use Rattle.std.proofs.Common.{refl}
use Rattle.replay_generated.proofs.Makings.{turns_once}
use Rattle.replay_generated.proofs.making.Making.turn_adds.Goals as goal

pub returns : goal.returns
returns g c = turns_once c.lines-before.result c.lines-after.result _ c.lines-before.ensures c.lines-after.ensures refl c.in_ok-turn.ensures
