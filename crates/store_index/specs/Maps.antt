-- The versions of each key in an ordered map from keys: none where it has no entry.
use Rattle.std.specs.Prelude.{◌≡◌, ℕ, ◌-◌, ◌==◌, if◌then◌else◌, List, [], ◌∷◌, ◌++◌, length, take, filter, filter_map, Option, None, Some}
use Rattle.std.specs.Option.{unwrap_or}
use Rattle.std.specs.Ordering.{nat_cmp}
use Rattle.std.specs.List.Sorted.{IsStrictlySortedBy}
use Rattle.std.specs.Map.{keys_of, lookup, set_value, remove_entry}
use Rattle.std.specs.BTreeMap.{is_at, insert_entry}
use Rattle.std.specs.Cmp.Lexicographic.{slice_cmp}
use Rattle.etcd_types.specs.declared.record.Kv.{Kv}
use Rattle.etcd_types.specs.declared.key_range.KeyRange.{KeyRange}
use Rattle.etcd_types.specs.Ranges.{contains}
use Rattle.compaction_model.specs.declared.version.Version.{Version}
use Rattle.compaction_model.specs.Versions.{last_left, up_to}

-- the entries of the map: each key with its versions
abbrev pub Entries : Type 0
Entries = List (List ℕ × List Version)

abbrev pub versions_of : Entries → List ℕ → List Version
versions_of es k = unwrap_or (lookup (is_at (slice_cmp nat_cmp k)) es) []

-- what the map has at a key
abbrev pub found : List ℕ → Entries → Option (List Version)
found k es = lookup (is_at (slice_cmp nat_cmp k)) es

-- with one more version of a key: behind those that it has, or as its first
abbrev pub added_at : List ℕ → Version → Entries → Option (List Version) → Entries
added_at key v es None = insert_entry (slice_cmp nat_cmp) es key (v ∷ [])
added_at key v es (Some vs) = set_value (is_at (slice_cmp nat_cmp key)) es (vs ++ v ∷ [])

abbrev pub added : List ℕ → Version → Entries → Entries
added key v es = added_at key v es (found key es)

abbrev pub without_last : List Version → List Version
without_last vs = take (length vs - 1) vs

-- without the newest version of a key, and without the key where none is left
abbrev pub taken_at : List ℕ → Entries → Option (List Version) → Entries
taken_at key es None = es
taken_at key es (Some vs) =
    if length (without_last vs) == 0 then remove_entry (is_at (slice_cmp nat_cmp key)) (set_value (is_at (slice_cmp nat_cmp key)) es (without_last vs))
    else set_value (is_at (slice_cmp nat_cmp key)) es (without_last vs)

abbrev pub taken : List ℕ → Entries → Entries
taken key es = taken_at key es (found key es)

-- no key has an empty list
abbrev pub HaveVersions : Entries → Type 0
HaveVersions es = (k : List ℕ) → found k es ≡ Some [] → ⊥

-- the keys rise
abbrev pub AreOrdered : Entries → Type 0
AreOrdered es = IsStrictlySortedBy (slice_cmp nat_cmp) (keys_of es)

-- the record that the versions up to a revision left, or all versions where none is named
abbrev pub left_by : Option ℕ → List Version → Option Kv
left_by None vs = last_left vs None
left_by (Some revision) vs = last_left (up_to revision vs) None

-- what is read of each key in a range, in the order of the keys
abbrev pub shown_by : (List Version → Option Kv) → KeyRange → Entries → List Kv
shown_by read range es = filter_map (λ e. read e.1) (filter (λ e. contains range e.0) es)
