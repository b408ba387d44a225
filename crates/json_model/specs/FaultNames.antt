-- How a fault of a request is worded, with the name that it has: the product's own texts.
use Rattle.std.specs.Prelude.{ℕ, ◌++◌, List, Option, None, Some, codes}
use Rattle.json_model.specs.declared.fault.ApiFault.{ApiFault}
use Rattle.json_model.specs.declared.fault.ApiFault.TheVariants as api
use Rattle.json_model.specs.declared.fault.FieldFault.{FieldFault}
use Rattle.json_model.specs.declared.fault.FieldFault.TheVariants as fields
use Rattle.json_model.specs.Faults.{api_fault_text}

-- the field that a fault names
abbrev pub field_named : FieldFault → Option (List ℕ)
field_named (fields.WrongKind name) = Some name
field_named (fields.BadNumber name) = Some name
field_named (fields.BadBase64 name) = Some name
field_named (fields.UnknownField name) = Some name
field_named (fields.TwiceNamed name) = Some name
field_named (fields.BadEnum name) = Some name
field_named fields.NoMemory = None

-- the name that a fault has
abbrev pub named_in : ApiFault → Option (List ℕ)
named_in api.NoSuchPath = None
named_in api.NotJson = None
named_in (api.Unsupported name) = Some name
named_in (api.Field why) = field_named why
named_in api.NoMemory = None

abbrev pub with_name : List ℕ → Option (List ℕ) → List ℕ
with_name words None = words
with_name words (Some name) = words ++ codes ": " ++ name

-- the words of a refusal
abbrev pub fault_words : ApiFault → List ℕ
fault_words why = with_name (codes "proxy: " ++ api_fault_text why) (named_in why)
