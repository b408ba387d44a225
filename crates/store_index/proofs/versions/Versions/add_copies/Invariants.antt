-- Copies of the changes passed are added.
use Rattle.std.proofs.Common.{◌≡◌, take}
use Rattle.store_index.specs.Adding.{added_all}
use Rattle.store_index.proofs.versions.Versions.add_copies.Given as goal

abbrev pub invariant-loop-change : goal.invariant-loop-change
invariant-loop-change l = l.self ≡ added_all l.revision (take l.change-index l.changes) l.fn.self
