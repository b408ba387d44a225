-- The records of a range of keys, in the order of the keys.
use Rattle.std.specs.Prelude.{ℕ, if◌then◌else◌, List, [], ◌∷◌, filter_map}
use Rattle.etcd_types.specs.declared.record.Kv.{Kv}
use Rattle.etcd_types.specs.declared.key_range.KeyRange.{KeyRange}
use Rattle.etcd_types.specs.Keys.{up_to, same}
use Rattle.etcd_types.specs.Ranges.{contains}
use Rattle.store_model.specs.declared.history.KeyChange.{KeyChange}
use Rattle.store_model.specs.History.{History, up_to_revision, changed_key}
use Rattle.store_model.specs.Records.{record_now}

-- the key in its place among rising keys, once
abbrev pub with_key : List ℕ → List (List ℕ) → List (List ℕ)
with_key k [] = k ∷ []
with_key k (l ∷ ls) = if same l k then l ∷ ls else if up_to l k then l ∷ with_key k ls else k ∷ l ∷ ls

abbrev pub with_changed_key : KeyRange → KeyChange → List (List ℕ) → List (List ℕ)
with_changed_key range c keys = if contains range (changed_key c) then with_key (changed_key c) keys else keys

abbrev pub with_changed_keys : KeyRange → List KeyChange → List (List ℕ) → List (List ℕ)
with_changed_keys range [] keys = keys
with_changed_keys range (c ∷ cs) keys = with_changed_keys range cs (with_changed_key range c keys)

abbrev pub with_history_keys : KeyRange → History → List (List ℕ) → List (List ℕ)
with_history_keys range [] keys = keys
with_history_keys range (cs ∷ h) keys = with_history_keys range h (with_changed_keys range cs keys)

-- the keys of the range that a history changed, rising, each once
abbrev pub keys_in : History → KeyRange → List (List ℕ)
keys_in h range = with_history_keys range h []

-- the records of the range that a history leaves, in the order of the keys
abbrev pub records_now : History → KeyRange → List Kv
records_now h range = filter_map (record_now h) (keys_in h range)

abbrev pub records_in : History → ℕ → KeyRange → List Kv
records_in h revision range = records_now (up_to_revision h revision) range
