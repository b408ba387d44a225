-- A call is executed and answered.
use Rattle.replay_generated.proofs.Makings.{ends_call, ends_none}
use Rattle.replay_generated.proofs.Taking.{end_first, end_second}
use Rattle.replay_generated.proofs.making.Making.end.Goals as goal

pub returns-in_ok-add-in-Some-2 : goal.returns-in_ok-add-in-Some-2
returns-in_ok-add-in-Some-2 g c =
    ends_call c.args.call c.in-Some.call c.in-Some.is c.in_ok-add-in-Some.ensures c.in_ok-add-in-Some-2.ensures

pub returns-in-None : goal.returns-in-None
returns-in-None g c = ends_none _ c.args.call c.in-None.is

pub add-requires-clause-goes : goal.add-requires-clause-goes
add-requires-clause-goes g c = end_first c.args.call c.in-Some.call c.in-Some.is c.requires

pub add-requires-in-Some-clause-goes : goal.add-requires-in-Some-clause-goes
add-requires-in-Some-clause-goes g c = end_second c.args.call c.in-Some.call c.in-Some.is c.requires c.in_ok-add-in-Some.ensures
