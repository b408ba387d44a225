-- Where a change's version stands among those of its key.
use Rattle.std.specs.Prelude.{◌≡◌, ◌<◌, ◌≤◌, ◌+◌, ◌==◌, ℕ, Bool, true, false, not, List, [], ◌∷◌, length, take, slice_get, Option, None, Some, if◌then◌else◌}
use Rattle.std.specs.List.{list_any}
use Rattle.std.specs.Option.{unwrap_or}
use Rattle.std.specs.Ordering.{nat_cmp}
use Rattle.std.specs.Cmp.Lexicographic.{slice_cmp}
use Rattle.std.specs.Map.{lookup}
use Rattle.std.specs.BTreeMap.{is_at}
use Rattle.etcd_types.specs.Keys.{same}
use Rattle.etcd_types.specs.Ranges.{contains}
use Rattle.etcd_types.specs.declared.key_range.KeyRange.{KeyRange}
use Rattle.compaction_model.specs.declared.version.Version.{Version}

-- how often a key is among these
abbrev pub count_same : List ℕ → List (List ℕ) → ℕ
count_same k [] = 0
count_same k (j ∷ js) = if same j k then count_same k js + 1 else count_same k js

-- no key of the range is among these
abbrev pub none_within : KeyRange → List (List ℕ) → Bool
none_within range ks = not (list_any (λ k. contains range k) ks)

-- the version before this place is earlier, and the one at it isn't
pub record IsFirstFrom (revision : ℕ) (vs : List Version) (place : ℕ) : Type 0 where
  pub within : place ≤ length vs
  pub earlier : (n : ℕ) (v : Version) → place ≡ n + 1 → slice_get vs n ≡ Some v → v.revision < revision
  pub later : (v : Version) → slice_get vs place ≡ Some v → revision ≤ v.revision

-- whether the version behind this place is of the revision too
abbrev pub is_of : ℕ → Option Version → Bool
is_of revision None = false
is_of revision (Some v) = v.revision == revision

abbrev pub is_repeated : ℕ → List Version → ℕ → Bool
is_repeated revision vs place = is_of revision (slice_get vs (place + 1))

-- keys with counts, where a key that isn't there has 0
abbrev pub count_at : List (List ℕ × ℕ) → List ℕ → ℕ
count_at cs k = unwrap_or (lookup (is_at (slice_cmp nat_cmp k)) cs) 0

-- the keys of a range before this place are counted, where they are there more than once
pub record ArePassed (range : KeyRange) (cs : List (List ℕ × ℕ)) (keys : List (List ℕ)) (place : ℕ) : Type 0 where
  pub repeated : (k : List ℕ) → contains range k ≡ true → 2 ≤ count_same k keys → count_at cs k ≡ count_same k (take place keys)
  pub others : (k : List ℕ) → contains range k ≡ true → count_at cs k ≤ count_same k (take place keys)
