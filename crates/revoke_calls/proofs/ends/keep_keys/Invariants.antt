-- What is left to be done ends where the whole ends, and there is as much room as before.
use Rattle.std.proofs.Common.{◌≡◌, ◌≤◌, drop}
use Rattle.revoke_calls.specs.Ends.{turned, kept_turn}
use Rattle.revoke_calls.proofs.ends.keep_keys.Given as goal

abbrev pub invariant-loop-range : goal.invariant-loop-range
invariant-loop-range l = record {
  ends : turned (kept_turn l.owners) (drop l.range-index l.ranges) l.table.entries ≡ turned (kept_turn l.owners) l.ranges l.initial.table.entries;
  room : l.initial.table.spare ≤ l.table.spare;
}
