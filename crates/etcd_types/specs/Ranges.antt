-- Ranges of keys, by the etcd API reference (`RangeRequest.range_end`).
use Rattle.std.specs.Prelude.{ℕ, Bool, IsTrue, ◌&&◌, ◌||◌, ◌↔◌, if◌then◌else◌, List, []}
use Rattle.etcd_types.specs.declared.key_range.KeyRange.{KeyRange}
use Rattle.etcd_types.specs.Keys.{up_to, before, same, is_empty, is_zero}

-- a range with an empty end is the one key
abbrev pub is_one : KeyRange → Bool
is_one r = is_empty r.end

-- the one key where the end is empty; all keys from `key` on where the end is one zero byte, and all keys where `key` is
-- one zero byte too; else the keys from `key` to below the end, of which there are none where the end isn't above `key`
abbrev pub contains : KeyRange → List ℕ → Bool
contains r k =
    if is_one r then same k r.key
    else if is_zero r.end then is_zero r.key || up_to r.key k
    else up_to r.key k && before k r.end

-- the first key of a range, where it has one
abbrev pub lowest : KeyRange → List ℕ
lowest r = if is_zero r.end && is_zero r.key then [] else r.key

-- one of the two lowest keys lies in both
abbrev pub overlaps : KeyRange → KeyRange → Bool
overlaps r s = contains r (lowest s) && contains s (lowest s) || contains r (lowest r) && contains s (lowest r)

-- some key is in both
abbrev pub HaveCommonKey : KeyRange → KeyRange → Type 0
HaveCommonKey r s = (k : List ℕ) × IsTrue (contains r k) × IsTrue (contains s k)

-- two ranges overlap exactly where they have a key in common
abbrev pub OverlapInAKey : Type 0
OverlapInAKey = (r s : KeyRange) → IsTrue (overlaps r s) ↔ HaveCommonKey r s
