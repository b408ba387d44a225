-- Round by round.
use Rattle.std.proofs.Common.{arith}
use Rattle.replay_generated.proofs.Turns.{rounds_first, rounds_more, rounds_done}
use Rattle.replay_generated.proofs.Taking.{rounds_start, rounds_now, rounds_then}
use Rattle.replay_generated.proofs.making.Making.rounds.Goals as goal

pub loop-at-init : goal.loop-at-init
loop-at-init g c = (rounds_first c.args.self.now c.args.count, rounds_start c.args.count c.requires.goes)

pub loop-at-preserved : goal.loop-at-preserved
loop-at-preserved g c = (
  rounds_more _ _ _ c.args.count c.loop-at.at (omega arith) c.in_ok-round.ensures c.loop-at.invariant.0,
  rounds_then c.args.count c.loop-at.at (omega arith) c.loop-at.invariant.1 c.in_ok-round.ensures,
)

pub returns : goal.returns
returns g c = rounds_done _ _ c.args.count c.loop-at.at (omega arith) c.loop-at.invariant.0

pub round-requires-clause-goes : goal.round-requires-clause-goes
round-requires-clause-goes g c = rounds_now c.args.count c.loop-at.at (omega arith) c.loop-at.invariant.1
