-- The keys of the changes passed.
use Rattle.std.proofs.Common.{◌≡◌, take}
use Rattle.compaction_model.specs.Places.{changed_keys}
use Rattle.store_index.proofs.places.Keys.of_changes.Given as goal

abbrev pub invariant-loop-change : goal.invariant-loop-change
invariant-loop-change l = l.items.items ≡ changed_keys (take l.change-index l.changes)
