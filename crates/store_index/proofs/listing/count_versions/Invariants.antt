-- The versions so far, and those of the entries still to come.
use Rattle.std.proofs.Common.{◌≡◌, ◌+◌, ◌≤◌, length, min, flat_map}
use Rattle.store_index.proofs.listing.count_versions.Given as goal

abbrev pub invariant-loop-versions : goal.invariant-loop-versions
invariant-loop-versions l = record {
  counted : min (l.count + length (flat_map (λ e. e.1) l.versions-iterator)) 0xffff_ffff_ffff_ffff ≡ min (length (flat_map (λ e. e.1) l.map.entries)) 0xffff_ffff_ffff_ffff;
  small : l.count ≤ 0xffff_ffff_ffff_ffff;
}
