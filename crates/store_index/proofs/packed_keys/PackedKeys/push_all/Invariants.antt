-- The keys passed are added.
use Rattle.std.proofs.Common.{◌≡◌, ◌++◌, take}
use Rattle.store_index.proofs.packed_keys.PackedKeys.push_all.Given as goal

abbrev pub invariant-loop-key : goal.invariant-loop-key
invariant-loop-key l = l.self ≡ l.fn.self ++ take l.key-index l.keys
