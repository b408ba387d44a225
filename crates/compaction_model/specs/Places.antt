-- Which keys each revision changed, in the order of its changes: what a store keeps of the order of events.
use Rattle.std.specs.Prelude.{ℕ, ◌-◌, List, drop, map}
use Rattle.store_model.specs.declared.history.KeyChange.{KeyChange}
use Rattle.store_model.specs.History.{History, changed_key}

abbrev pub changed_keys : List KeyChange → List (List ℕ)
changed_keys cs = map changed_key cs

-- of the revisions from the compaction on; the first revision that a history makes is 2
abbrev pub kept_places : History → ℕ → List (List (List ℕ))
kept_places h c = drop (c - 2) (map changed_keys h)
