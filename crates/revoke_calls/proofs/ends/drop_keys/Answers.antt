-- One key more.
use Rattle.revoke_calls.specs.Ends.{dropped_turn}
use Rattle.revoke_calls.proofs.TurnedKeys.{turned_more}
use Rattle.revoke_calls.proofs.ends.drop_keys.Goals as goal

pub loop-range-preserved : goal.loop-range-preserved
loop-range-preserved c =
    turned_more dropped_turn c.args.ranges.now c.loop-range.range-index c.range-item.result c.loop-range.table.entries _ _ c.loop-range-test.true c.range-item.is c.drop_key.ensures c.loop-range.invariant
