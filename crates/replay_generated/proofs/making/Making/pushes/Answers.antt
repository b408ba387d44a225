-- Stream by stream.
use Rattle.std.proofs.Common.{arith}
use Rattle.replay_generated.proofs.Turns.{pushes_first, pushes_more, pushes_done}
use Rattle.replay_generated.proofs.Taking.{pushes_start, pushes_now, pushes_then}
use Rattle.replay_generated.proofs.making.Making.pushes.Goals as goal

pub loop-at-init : goal.loop-at-init
loop-at-init g c = (pushes_first c.args.self.now c.args.count, pushes_start c.args.count c.requires)

pub loop-at-preserved : goal.loop-at-preserved
loop-at-preserved g c = (
  pushes_more _ _ _ c.args.count c.loop-at.at (omega arith) c.in_ok-push_one.ensures c.loop-at.invariant.0,
  pushes_then c.args.count c.loop-at.at (omega arith) c.loop-at.invariant.1 c.in_ok-push_one.ensures,
)

pub returns : goal.returns
returns g c = pushes_done _ _ c.args.count c.loop-at.at (omega arith) c.loop-at.invariant.0

pub push_one-requires : goal.push_one-requires
push_one-requires g c = pushes_now c.args.count c.loop-at.at (omega arith) c.loop-at.invariant.1
