-- A key that is attached to a lease.
use Rattle.std.specs.Prelude.{ℕ, List, Result}
use Rattle.serde_json.specs.Data.{Data}
use Rattle.json_model.specs.declared.fault.FieldFault.{FieldFault}
use Rattle.json_model.specs.FieldNames as names
use Rattle.json_model.specs.Fields.{bytes_from}

unfoldable pub key_of : Data → Result (List ℕ) FieldFault
key_of = bytes_from names.keys.0
