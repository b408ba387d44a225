-- Which keys a lease may have, so that its keys are found by it (etcd API reference, `LeaseRevoke`, `LeaseTimeToLive`).
use Rattle.std.specs.Prelude.{◌≡◌, ℕ, ◌==◌, ◌||◌, Bool, true, List, [], Option, None, Some}
use Rattle.std.specs.List.{list_any, filter}
use Rattle.std.specs.Option.{unwrap_or, option_to_list}
use Rattle.std.specs.Ordering.{nat_cmp}
use Rattle.std.specs.Cmp.Lexicographic.{slice_cmp}
use Rattle.std.specs.List.Sorted.{IsStrictlySortedBy}
use Rattle.std.specs.Map.{lookup}
use Rattle.std.specs.BTreeMap.{is_at}
use Rattle.etcd_types.specs.declared.record.Kv.{Kv}
use Rattle.store_model.specs.declared.history.KeyChange.{KeyChange}
use Rattle.store_model.specs.declared.history.KeyChange.TheVariants.{Put, Delete}
use Rattle.store_model.specs.Leases.{is_attached}
use Rattle.compaction_model.specs.Versions.{last_left}
use Rattle.store_index.specs.Maps.{Entries, versions_of}

-- each lease with keys, which rise
abbrev pub Links : Type 0
Links = List (ℕ × List (List ℕ))

abbrev pub has_key : List ℕ → List (List ℕ) → Bool
has_key k ks = list_any (is_at (slice_cmp nat_cmp k)) ks

abbrev pub AreOrderedKeys : List (List ℕ) → Type 0
AreOrderedKeys ks = IsStrictlySortedBy (slice_cmp nat_cmp) ks

abbrev pub linked_keys : Links → ℕ → List (List ℕ)
linked_keys links lease = unwrap_or (lookup (is_at (nat_cmp lease)) links) []

abbrev pub is_linked : Links → ℕ → List ℕ → Bool
is_linked links lease k = has_key k (linked_keys links lease)

-- what is there stays
abbrev pub Stay : Links → Links → Type 0
Stay old new = (n : ℕ) (k : List ℕ) → is_linked old n k ≡ true → is_linked new n k ≡ true

-- whether the key that a change attaches to a lease is there
abbrev pub is_put_linked : Links → KeyChange → Bool
is_put_linked links (Put key value lease) = lease == 0 || is_linked links lease key
is_put_linked links (Delete key) = true

-- each key is there with the lease that its record is attached to
abbrev pub AreCovered : Entries → Links → Type 0
AreCovered es links = (k : List ℕ) (kv : Kv) → last_left (versions_of es k) None ≡ Some kv → kv.lease == 0 || is_linked links kv.lease k ≡ true

-- the record of a key, where it is attached to the lease
abbrev pub attached_at : ℕ → Entries → List ℕ → List Kv
attached_at lease es k = filter (is_attached lease) (option_to_list (last_left (versions_of es k) None))

-- the lease of a record, or 0 where there is no record
abbrev pub lease_left : Option Kv → ℕ
lease_left None = 0
lease_left (Some kv) = kv.lease

-- at most this key is taken from this lease
abbrev pub Unlinks : ℕ → List ℕ → Links → Links → Type 0
Unlinks lease key old new = (n : ℕ) (k : List ℕ) → (n ≡ lease → k ≡ key → ⊥) → is_linked old n k ≡ true → is_linked new n k ≡ true
