-- A record's members in the order of their text. Only private clauses cite it.
use Rattle.std.specs.Prelude.{List, [], ◌∷◌}
use Rattle.etcd_types.specs.declared.record.Kv.{Kv}
use Rattle.json_model.specs.FieldNames as names
use Rattle.direct_json.specs.Parts.{Part, number, bytes}

abbrev pub record_parts : Kv → List Part
record_parts kv =
    number names.create_revision.0 kv.create
    ∷ bytes names.key.0 kv.key
    ∷ number names.lease.0 kv.lease
    ∷ number names.mod_revision.0 kv.modified
    ∷ bytes names.value.0 kv.value
    ∷ number names.version.0 kv.version
    ∷ []
