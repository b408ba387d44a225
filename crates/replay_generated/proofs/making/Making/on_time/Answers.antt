-- The clock is set, and the proxy looks at it.
use Rattle.replay_generated.proofs.Makings.{times_one}
use Rattle.replay_generated.proofs.Taking.{time_first, time_second}
use Rattle.replay_generated.proofs.making.Making.on_time.Goals as goal

pub returns : goal.returns
returns g c = times_one c.args.number c.args.proxy c.in_ok-add.ensures c.in_ok-add-2.ensures

pub add-requires-clause-goes : goal.add-requires-clause-goes
add-requires-clause-goes g c = time_first c.args.number c.args.proxy c.requires.goes

pub add-requires-2-clause-goes : goal.add-requires-2-clause-goes
add-requires-2-clause-goes g c = time_second c.args.number c.args.proxy c.requires.goes c.in_ok-add.ensures
