-- The records of a range as entries of their own, to which a running request's changes can be added.
use Rattle.std.specs.Prelude.{List, [], ◌∷◌, Some}
use Rattle.etcd_types.specs.declared.record.Kv.{Kv}
use Rattle.store_index.specs.Maps.{Entries, added}

abbrev pub with_record : Kv → Entries → Entries
with_record kv es = added kv.key (record { revision = kv.modified; left = Some kv }) es

abbrev pub with_records : List Kv → Entries → Entries
with_records [] es = es
with_records (kv ∷ kvs) es = with_records kvs (with_record kv es)
