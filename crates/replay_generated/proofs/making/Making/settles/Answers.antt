-- Turn by turn.
use Rattle.std.proofs.Common.{arith}
use Rattle.replay_generated.proofs.Turns.{settles_first, settles_more, settled, settles_done}
use Rattle.replay_generated.proofs.Taking.{settles_start, settles_now, settles_then}
use Rattle.replay_generated.proofs.making.Making.settles.Goals as goal

pub loop-init : goal.loop-init
loop-init g c = (settles_first c.args.self.now c.args.most, settles_start c.args.most c.requires)

pub returns-then-not-more : goal.returns-then-not-more
returns-then-not-more g c =
    settled _ _ _ c.args.most c.loop.counter _ (omega arith) c.if-not-more.true c.in_ok-more.ensures c.loop.invariant.0

pub loop-preserved : goal.loop-preserved
loop-preserved g c = (
  settles_more _ _ _ c.args.most c.loop.counter _ (omega arith) c.if-not-more.false c.in_ok-more.ensures c.loop.invariant.0,
  settles_then c.args.most c.loop.counter _ (omega arith) c.if-not-more.false c.in_ok-more.ensures c.loop.invariant.1,
)

pub returns : goal.returns
returns g c = settles_done _ _ c.args.most c.loop.counter (omega arith) c.loop.invariant.0

pub turn_adds-requires : goal.turn_adds-requires
turn_adds-requires g c = settles_now c.args.most c.loop.counter (omega arith) c.loop.invariant.1
