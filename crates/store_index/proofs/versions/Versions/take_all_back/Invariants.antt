-- The versions of the keys from here on are taken back.
use Rattle.std.proofs.Common.{◌≡◌, ◌≤◌, length, take}
use Rattle.store_index.specs.Adding.{taken_all}
use Rattle.store_index.proofs.versions.Versions.take_all_back.Given as goal

abbrev pub invariant-loop-count : goal.invariant-loop-count
invariant-loop-count l = record { within : l.count ≤ length l.keys; left : taken_all (take l.count l.keys) l.self ≡ taken_all l.keys l.fn.self }

abbrev pub decreases-loop-count : goal.decreases-loop-count
decreases-loop-count l = l.count
