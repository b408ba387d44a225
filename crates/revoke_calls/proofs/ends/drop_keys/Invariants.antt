-- What is left to be done ends where the whole ends.
use Rattle.std.proofs.Common.{◌≡◌, drop}
use Rattle.revoke_calls.specs.Ends.{turned, dropped_turn}
use Rattle.revoke_calls.proofs.ends.drop_keys.Given as goal

abbrev pub invariant-loop-range : goal.invariant-loop-range
invariant-loop-range l = turned dropped_turn (drop l.range-index l.ranges) l.table.entries ≡ turned dropped_turn l.ranges l.initial.table.entries
