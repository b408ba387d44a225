-- One key more.
use Rattle.std.proofs.Common.{arith}
use Rattle.revoke_calls.specs.Ends.{kept_turn}
use Rattle.revoke_calls.proofs.TurnedKeys.{turned_more}
use Rattle.revoke_calls.proofs.ends.keep_keys.Goals as goal

pub loop-range-preserved : goal.loop-range-preserved
loop-range-preserved c = record {
  ends = turned_more (kept_turn c.args.owners.now) c.args.ranges.now c.loop-range.range-index c.range-item.result c.loop-range.table.entries _ _ c.loop-range-test.true c.range-item.is c.keep_key.ensures.entries c.loop-range.invariant.ends;
  room = omega arith;
}
