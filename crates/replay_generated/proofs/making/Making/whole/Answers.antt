-- Its opening, and then its rounds.
use Rattle.replay_generated.proofs.Begun.{whole_so}
use Rattle.replay_generated.proofs.Taking.{whole_starts, whole_settles, whole_rounds}
use Rattle.replay_generated.proofs.making.Making.whole.Goals as goal

pub returns : goal.returns
returns g c = whole_so c.args.number c.in_ok-making.ensures c.in_ok-start.ensures c.in_ok-settle.ensures c.in_ok-rounds.ensures

pub start-requires : goal.start-requires
start-requires g c = whole_starts c.args.number c.requires c.in_ok-making.ensures

pub settle-requires : goal.settle-requires
settle-requires g c = whole_settles c.args.number c.requires c.in_ok-making.ensures c.in_ok-start.ensures

pub rounds-requires-clause-goes : goal.rounds-requires-clause-goes
rounds-requires-clause-goes g c = whole_rounds c.args.number c.requires c.in_ok-making.ensures c.in_ok-start.ensures c.in_ok-settle.ensures
