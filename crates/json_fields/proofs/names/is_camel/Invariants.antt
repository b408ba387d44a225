-- What is left of the key is to be what is left of the name.
use Rattle.std.proofs.Common.{◌≡◌, ◌≤◌, length, drop}
use Rattle.std.specs.Str.{bytes_eq}
use Rattle.json_model.specs.Names.{camel, camel_from}
use Rattle.json_fields.proofs.names.is_camel.Given as goal

abbrev pub invariant-loop-byte : goal.invariant-loop-byte
invariant-loop-byte l = record {
  within : l.at ≤ length l.key;
  rest : bytes_eq (drop l.at l.key) (camel_from l.raised (drop l.byte-index l.name)) ≡ bytes_eq l.key (camel l.name);
}
