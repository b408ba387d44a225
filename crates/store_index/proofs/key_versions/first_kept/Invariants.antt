-- The versions passed are below the revision.
use Rattle.std.proofs.Common.{◌≡◌, take, drop, None}
use Rattle.compaction_model.specs.Versions.{kept, kept_with}
use Rattle.store_index.specs.Held.{held_last}
use Rattle.store_index.proofs.key_versions.first_kept.Given as goal

abbrev pub invariant-loop-index : goal.invariant-loop-index
invariant-loop-index l = kept l.revision l.versions ≡ kept_with l.revision (held_last (take l.index l.versions) None) (drop l.index l.versions)
