-- The bounds of an ordered map between which the keys of a range lie (etcd API reference, `RangeRequest.range_end`).
use Rattle.std.specs.Prelude.{◌≡◌, List, ℕ}
use Rattle.std.specs.Ordering.{nat_cmp}
use Rattle.std.specs.Cmp.Lexicographic.{slice_cmp}
use Rattle.std.specs.declared.ops.Bound.{Bound}
use Rattle.std.specs.Range.Bound.{IsForward}
use Rattle.std.specs.BTreeMap.Range.{IsLeBy, IsLtBy, range_contains}
use Rattle.etcd_types.specs.declared.key_range.KeyRange.{KeyRange}
use Rattle.etcd_types.specs.Ranges.{contains}

-- they don't run backwards, and between them lie the keys of the range alone
pub record BoundsOf (range : KeyRange) (low high : Bound (List ℕ)) : Type 0 where
  pub forward : IsForward (IsLeBy (slice_cmp nat_cmp)) (IsLtBy (slice_cmp nat_cmp)) low high
  pub same : (k : List ℕ) → range_contains (slice_cmp nat_cmp) low high k ≡ contains range k
