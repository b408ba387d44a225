-- The clocks, and then a request.
use Rattle.replay_generated.proofs.Makings.{rounds_one}
use Rattle.replay_generated.proofs.Taking.{round_first, round_then}
use Rattle.replay_generated.proofs.making.Making.round.Goals as goal

pub returns : goal.returns
returns g c = rounds_one c.args.number _ c.next_state-state.ensures c.in_ok-on_times.ensures c.in_ok-asks_once.ensures

pub on_times-requires-clause-goes : goal.on_times-requires-clause-goes
on_times-requires-clause-goes g c = round_first c.args.number c.requires.goes

pub asks_once-requires : goal.asks_once-requires
asks_once-requires g c = round_then c.args.number _ c.next_state-state.ensures c.requires.goes c.in_ok-on_times.ensures
