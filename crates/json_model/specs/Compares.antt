-- What a compare of a transaction says.
use Rattle.std.specs.Prelude.{ℕ, ◌==◌, if◌then◌else◌, Bool, true, false, List, [], Result, Ok, Err}
use Rattle.serde_json.specs.Data.{Data, Members}
use Rattle.etcd_types.specs.declared.operation.Compare.{Compare}
use Rattle.etcd_types.specs.declared.operation.Target.{Target}
use Rattle.etcd_types.specs.declared.operation.Target.TheVariants.{Version, Create, Modified, Value, Lease}
use Rattle.etcd_types.specs.declared.operation.Relation.{Relation}
use Rattle.etcd_types.specs.declared.operation.Relation.TheVariants.{Equal, Greater, Less, NotEqual}
use Rattle.json_model.specs.declared.fault.FieldFault.{FieldFault}
use Rattle.json_model.specs.declared.fault.FieldFault.TheVariants.{WrongKind}
use Rattle.json_model.specs.Faults.{◌>>=◌}
use Rattle.json_model.specs.Known.{only}
use Rattle.json_model.specs.FieldNames as names
use Rattle.json_model.specs.FieldNames.{FieldName}
use Rattle.json_model.specs.Fields.{members_from, number_at, bytes_at, choice_at, list_at, is_there, items_or_none, each}
use Rattle.json_model.specs.Tables.{compare_fields, relations, targets}

-- by its number
abbrev pub relation_of : ℕ → Relation
relation_of n = if n == 0 then Equal else if n == 1 then Greater else if n == 2 then Less else NotEqual

abbrev pub target_of : ℕ → Target
target_of n = if n == 0 then Version else if n == 1 then Create else if n == 2 then Modified else if n == 3 then Value else Lease

abbrev pub is_version : Target → Bool
is_version Version = true
is_version Create = false
is_version Modified = false
is_version Value = false
is_version Lease = false

abbrev pub is_create : Target → Bool
is_create Version = false
is_create Create = true
is_create Modified = false
is_create Value = false
is_create Lease = false

abbrev pub is_modified : Target → Bool
is_modified Version = false
is_modified Create = false
is_modified Modified = true
is_modified Value = false
is_modified Lease = false

abbrev pub is_value : Target → Bool
is_value Version = false
is_value Create = false
is_value Modified = false
is_value Value = true
is_value Lease = false

abbrev pub is_lease : Target → Bool
is_lease Version = false
is_lease Create = false
is_lease Modified = false
is_lease Value = false
is_lease Lease = true

-- what another target's operand is, which may not be there
abbrev pub absent : {A : Type 0} → A → FieldName → Members → Result A FieldFault
absent default name ms = if is_there name ms then Err (WrongKind name.0) else Ok default

abbrev pub number_operand : Bool → FieldName → Members → Result ℕ FieldFault
number_operand wanted name ms = if wanted then number_at name ms else absent 0 name ms

abbrev pub value_operand : Bool → FieldName → Members → Result (List ℕ) FieldFault
value_operand wanted name ms = if wanted then bytes_at name ms else absent [] name ms

abbrev pub chosen_number : Target → ℕ → ℕ → ℕ → ℕ → ℕ
chosen_number Version version create modified lease = version
chosen_number Create version create modified lease = create
chosen_number Modified version create modified lease = modified
chosen_number Value version create modified lease = 0
chosen_number Lease version create modified lease = lease

unfoldable pub version_in : Target → Members → Result ℕ FieldFault
version_in target ms = number_operand (is_version target) names.version ms

unfoldable pub create_in : Target → Members → Result ℕ FieldFault
create_in target ms = number_operand (is_create target) names.create_revision ms

unfoldable pub modified_in : Target → Members → Result ℕ FieldFault
modified_in target ms = number_operand (is_modified target) names.mod_revision ms

unfoldable pub value_in : Target → Members → Result (List ℕ) FieldFault
value_in target ms = value_operand (is_value target) names.value ms

unfoldable pub lease_in : Target → Members → Result ℕ FieldFault
lease_in target ms = number_operand (is_lease target) names.lease ms

-- the number and the value that the target's field gives
unfoldable pub operand_in : Target → Members → Result (ℕ × List ℕ) FieldFault
operand_in target ms = do
  version ← version_in target ms
  create ← create_in target ms
  modified ← modified_in target ms
  value ← value_in target ms
  lease ← lease_in target ms
  Ok (chosen_number target version create modified lease, value)

unfoldable pub comparison_in : Members → Result (Relation × Target) FieldFault
comparison_in ms = do
  relation ← choice_at relations names.result ms
  target ← choice_at targets names.target ms
  Ok (relation_of relation, target_of target)

unfoldable pub compare_in : Data → Result Compare FieldFault
compare_in d = do
  ms ← members_from names.compare.0 d
  known ← only ms compare_fields
  comparison ← comparison_in ms
  key ← bytes_at names.key ms
  operand ← operand_in comparison.1 ms
  end ← bytes_at names.range_end ms
  Ok (record {
    range = record { key = key; end = end };
    target = comparison.1;
    relation = comparison.0;
    number = operand.0;
    value = operand.1;
  })

abbrev pub compares_in : Members → Result (List Compare) FieldFault
compares_in ms = list_at names.compare ms >>= λ ds. each compare_in (items_or_none ds)
