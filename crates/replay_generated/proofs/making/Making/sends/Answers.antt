-- Job by job.
use Rattle.std.proofs.Common.{arith}
use Rattle.replay_generated.proofs.Turns.{sends_first, sends_more, sends_no_more, sends_all}
use Rattle.replay_generated.proofs.Taking.{sends_start, sends_now, sends_then}
use Rattle.replay_generated.proofs.making.Making.sends.Goals as goal

pub loop-init : goal.loop-init
loop-init g c = (sends_first c.args.self.now c.args.most c.args.proxy, sends_start c.args.most c.args.proxy c.requires)

pub returns-then-not-due : goal.returns-then-not-due
returns-then-not-due g c =
    sends_no_more _ _ c.args.most c.loop.counter c.args.proxy _ (omega arith) c.if-not-due.true c.is_due-due.ensures c.loop.invariant.0

pub loop-preserved : goal.loop-preserved
loop-preserved g c = (
  sends_more _ _ _ c.args.most c.loop.counter c.args.proxy _ (omega arith) c.if-not-due.false c.is_due-due.ensures c.in_ok-send_one.ensures c.loop.invariant.0,
  sends_then c.args.most c.loop.counter c.args.proxy _ (omega arith) c.if-not-due.false c.is_due-due.ensures c.loop.invariant.1 c.in_ok-send_one.ensures,
)

pub returns : goal.returns
returns g c = sends_all _ _ c.args.most c.loop.counter c.args.proxy (omega arith) c.loop.invariant.0

pub send_one-requires : goal.send_one-requires
send_one-requires g c = sends_now c.args.most c.loop.counter c.args.proxy _ (omega arith) c.if-not-due.false c.is_due-due.ensures c.loop.invariant.1
