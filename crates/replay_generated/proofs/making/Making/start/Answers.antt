-- One after the other.
use Rattle.replay_generated.proofs.Makings.{starts}
use Rattle.replay_generated.proofs.Taking.{start_1, start_2, start_3, start_4, start_5, start_6}
use Rattle.replay_generated.proofs.making.Making.start.Goals as goal

pub returns : goal.returns
returns g c = starts c.in_ok-add.ensures c.in_ok-add-2.ensures c.in_ok-add-3.ensures c.in_ok-add-4.ensures c.in_ok-add-5.ensures c.in_ok-add-6.ensures

pub add-requires-clause-goes : goal.add-requires-clause-goes
add-requires-clause-goes g c = start_1 c.requires

pub add-requires-2-clause-goes : goal.add-requires-2-clause-goes
add-requires-2-clause-goes g c = start_2 c.requires c.in_ok-add.ensures

pub add-requires-3-clause-goes : goal.add-requires-3-clause-goes
add-requires-3-clause-goes g c = start_3 c.requires c.in_ok-add.ensures c.in_ok-add-2.ensures

pub add-requires-4-clause-goes : goal.add-requires-4-clause-goes
add-requires-4-clause-goes g c = start_4 c.requires c.in_ok-add.ensures c.in_ok-add-2.ensures c.in_ok-add-3.ensures

pub add-requires-5-clause-goes : goal.add-requires-5-clause-goes
add-requires-5-clause-goes g c = start_5 c.requires c.in_ok-add.ensures c.in_ok-add-2.ensures c.in_ok-add-3.ensures c.in_ok-add-4.ensures

pub add-requires-6-clause-goes : goal.add-requires-6-clause-goes
add-requires-6-clause-goes g c = start_6 c.requires c.in_ok-add.ensures c.in_ok-add-2.ensures c.in_ok-add-3.ensures c.in_ok-add-4.ensures c.in_ok-add-5.ensures
