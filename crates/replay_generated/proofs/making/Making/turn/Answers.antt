-- Each proxy sends, and then the streams are pushed.
use Rattle.replay_generated.proofs.Makings.{turns_so}
use Rattle.replay_generated.proofs.Taking.{turn_first, turn_second, turn_third, turn_last}
use Rattle.replay_generated.proofs.making.Making.turn.Goals as goal

pub returns : goal.returns
returns g c = turns_so c.in_ok-sends.ensures c.in_ok-sends-2.ensures c.in_ok-sends-3.ensures c.in_ok-all_pushes.ensures

pub sends-requires : goal.sends-requires
sends-requires g c = turn_first c.requires

pub sends-requires-2 : goal.sends-requires-2
sends-requires-2 g c = turn_second c.requires c.in_ok-sends.ensures

pub sends-requires-3 : goal.sends-requires-3
sends-requires-3 g c = turn_third c.requires c.in_ok-sends.ensures c.in_ok-sends-2.ensures

pub all_pushes-requires : goal.all_pushes-requires
all_pushes-requires g c = turn_last c.requires c.in_ok-sends.ensures c.in_ok-sends-2.ensures c.in_ok-sends-3.ensures
