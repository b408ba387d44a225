-- Copies of the keys passed.
use Rattle.std.proofs.Common.{◌≡◌, ◌≤◌, length, slice_range}
use Rattle.store_index.proofs.places.Places.at.Given as goal

abbrev pub invariant-loop-key : goal.invariant-loop-key
invariant-loop-key l = record {
  from : l.initial.key ≤ l.key;
  to : l.key ≤ l.key-end;
  within : l.key-end ≤ length l.self-inside.keys;
  copied : l.keys ≡ slice_range l.self-inside.keys l.initial.key l.key;
}
