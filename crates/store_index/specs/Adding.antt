-- The entries once the changes of a revision were made, one after the other.
use Rattle.std.specs.Prelude.{ℕ, List, [], ◌∷◌, ◌++◌, Option, None, Some}
use Rattle.etcd_types.specs.declared.record.Kv.{Kv}
use Rattle.etcd_types.specs.Records.{after_put}
use Rattle.store_model.specs.declared.history.KeyChange.{KeyChange}
use Rattle.store_model.specs.declared.history.KeyChange.TheVariants.{Put, Delete}
use Rattle.store_model.specs.History.{changed_key}
use Rattle.compaction_model.specs.declared.version.Version.{Version}
use Rattle.compaction_model.specs.Versions.{versions_in, last_left}
use Rattle.store_index.specs.Maps.{Entries, versions_of, added, taken}

-- the version that a change makes, where `old` is its key's record before it
abbrev pub version_from : ℕ → KeyChange → Option Kv → Version
version_from revision (Put key value lease) old = record { revision = revision; left = Some (after_put old key value lease revision) }
version_from revision (Delete key) old = record { revision = revision; left = None }

abbrev pub version_of : ℕ → KeyChange → Entries → Version
version_of revision c es = version_from revision c (last_left (versions_of es (changed_key c)) None)

abbrev pub with_change : ℕ → KeyChange → Entries → Entries
with_change revision c es = added (changed_key c) (version_of revision c es) es

abbrev pub added_all : ℕ → List KeyChange → Entries → Entries
added_all revision [] es = es
added_all revision (c ∷ cs) es = added_all revision cs (with_change revision c es)

-- without the newest version of each of these keys, that of the last one first
abbrev pub taken_all : List (List ℕ) → Entries → Entries
taken_all [] es = es
taken_all (k ∷ ks) es = taken k (taken_all ks es)

-- the versions of a key, with those that the changes make of it behind them
abbrev pub with_changes : ℕ → List KeyChange → List Version → List ℕ → List Version
with_changes revision changes vs k = vs ++ versions_in revision k changes (last_left vs None)
