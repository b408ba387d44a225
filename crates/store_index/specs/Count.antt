-- How many versions are kept of a history, of all its keys together (etcd API reference, `CompactionRequest`).
use Rattle.std.specs.Prelude.{ℕ, length}
use Rattle.std.specs.List.{flat_map}
use Rattle.store_model.specs.History.{History}
use Rattle.store_model.specs.Leases.{all_keys}
use Rattle.store_model.specs.Ranges.{keys_in}
use Rattle.compaction_model.specs.Versions.{kept_versions}

abbrev pub count_kept : History → ℕ → ℕ
count_kept h c = length (flat_map (kept_versions h c) (keys_in h all_keys))
