-- Before the low place all is earlier, and from the high one on nothing is.
use Rattle.std.proofs.Common.{◌≡◌, ◌≤◌, ◌<◌, ◌+◌, ◌-◌, ℕ, Some, length}
use Rattle.std.specs.List.{slice_get}
use Rattle.compaction_model.specs.declared.version.Version.{Version}
use Rattle.store_reads.proofs.places.first_from.Given as goal

abbrev pub invariant-loop-low : goal.invariant-loop-low
invariant-loop-low l = record {
  order : l.low ≤ l.high;
  within : l.high ≤ length l.versions;
  earlier : (n : ℕ) (v : Version) → l.low ≡ n + 1 → slice_get l.versions n ≡ Some v → v.revision < l.revision;
  later : (v : Version) → slice_get l.versions l.high ≡ Some v → l.revision ≤ v.revision;
}

abbrev pub decreases-loop-low : goal.decreases-loop-low
decreases-loop-low l = l.high - l.low
