-- What a range shows.
use Rattle.std.specs.Prelude.{◌≡◌, IsTrue, ◌↔◌, ℕ, List, [], ◌∷◌, map, Contains, Some}
use Rattle.std.specs.List.{list_all}
use Rattle.etcd_types.specs.declared.record.Kv.{Kv}
use Rattle.etcd_types.specs.declared.key_range.KeyRange.{KeyRange}
use Rattle.etcd_types.specs.Keys.{before}
use Rattle.etcd_types.specs.Ranges.{contains}
use Rattle.store_model.specs.History.{History}
use Rattle.store_model.specs.Records.{record_now}
use Rattle.store_model.specs.Ranges.{records_now}
use Rattle.store_model.specs.Leases.{record_key}

-- each key stands before all later ones
abbrev pub AreRising : List (List ℕ) → Type 0
AreRising [] = Unit {0}
AreRising (k ∷ ks) = IsTrue (list_all (before k) ks) × AreRising ks

abbrev pub RangesRise : Type 0
RangesRise = (h : History) (range : KeyRange) → AreRising (map record_key (records_now h range))

-- a range shows a record exactly where it is its key's, and the key is in the range
abbrev pub RangesAreExact : Type 0
RangesAreExact =
    (h : History) (range : KeyRange) (kv : Kv)
    → Contains (records_now h range) kv ↔ ((record_now h kv.key ≡ Some kv) × IsTrue (contains range kv.key))
