-- Fields of an object, each read by its kind. An absent field, and one that is null, has the kind's default.
use Rattle.std.specs.Prelude.{ℕ, ◌^◌, ◌==◌, not, ℤ, pos, Bool, false, is_some, List, [], ◌∷◌, Option, Some, None, option_and_then, Result, Ok, Err}
use Rattle.serde_json.specs.Data.{Data, null, boolean, number, string, array, object, Items, no_items, item, Members, no_members}
use Rattle.serde_json.specs.Find.{get_member, as_u64, as_i64}
use Rattle.json_model.specs.declared.fault.FieldFault.{FieldFault}
use Rattle.json_model.specs.declared.fault.FieldFault.TheVariants.{WrongKind, BadNumber, BadBase64, BadEnum}
use Rattle.json_model.specs.Faults.{◌>>=◌}
use Rattle.json_model.specs.FieldNames.{FieldName}
use Rattle.json_model.specs.Names.{number_named, number_in}
use Rattle.json_model.specs.Numbers.{below, decimal_of, signed_of}
use Rattle.json_model.specs.Base64.{or_else, decoded}

-- null is as if nothing were there
abbrev pub present : Option Data → Option Data
present None = None
present (Some null) = None
present (Some (boolean b)) = Some (boolean b)
present (Some (number n)) = Some (number n)
present (Some (string s)) = Some (string s)
present (Some (array ds)) = Some (array ds)
present (Some (object ms)) = Some (object ms)

-- the value under the plain name or the lowerCamelCase one
abbrev pub found : List ℕ → List ℕ → Members → Option Data
found plain camelled ms = present (or_else (get_member plain ms) (get_member camelled ms))

abbrev pub read_or : {A : Type 0} → A → (Data → Result A FieldFault) → Option Data → Result A FieldFault
read_or default read None = Ok default
read_or default read (Some d) = read d

abbrev pub or_fault : {A : Type 0} → FieldFault → Option A → Result A FieldFault
or_fault fault None = Err fault
or_fault fault (Some x) = Ok x

-- ---- the kinds, as a value under a name

-- a number below the limit, as a JSON number without fraction or exponent or as its decimal text
abbrev pub number_from : ℕ → List ℕ → Data → Result ℕ FieldFault
number_from limit name null = Err (WrongKind name)
number_from limit name (boolean b) = Err (WrongKind name)
number_from limit name (number n) = or_fault (BadNumber name) (option_and_then (below limit) (as_u64 n))
number_from limit name (string s) = or_fault (BadNumber name) (decimal_of limit s)
number_from limit name (array ds) = Err (WrongKind name)
number_from limit name (object ms) = Err (WrongKind name)

abbrev pub signed_from : List ℕ → Data → Result ℤ FieldFault
signed_from name null = Err (WrongKind name)
signed_from name (boolean b) = Err (WrongKind name)
signed_from name (number n) = or_fault (BadNumber name) (as_i64 n)
signed_from name (string s) = or_fault (BadNumber name) (signed_of s)
signed_from name (array ds) = Err (WrongKind name)
signed_from name (object ms) = Err (WrongKind name)

abbrev pub bytes_from : List ℕ → Data → Result (List ℕ) FieldFault
bytes_from name null = Err (WrongKind name)
bytes_from name (boolean b) = Err (WrongKind name)
bytes_from name (number n) = Err (WrongKind name)
bytes_from name (string s) = or_fault (BadBase64 name) (decoded s)
bytes_from name (array ds) = Err (WrongKind name)
bytes_from name (object ms) = Err (WrongKind name)

abbrev pub flag_from : List ℕ → Data → Result Bool FieldFault
flag_from name null = Err (WrongKind name)
flag_from name (boolean b) = Ok b
flag_from name (number n) = Err (WrongKind name)
flag_from name (string s) = Err (WrongKind name)
flag_from name (array ds) = Err (WrongKind name)
flag_from name (object ms) = Err (WrongKind name)

-- an enum's value by its name, or by its number
abbrev pub choice_from : List ℕ → List ℕ → Data → Result ℕ FieldFault
choice_from table name null = Err (WrongKind name)
choice_from table name (boolean b) = Err (WrongKind name)
choice_from table name (number n) = or_fault (BadEnum name) (option_and_then (λ m. number_in m table) (as_u64 n))
choice_from table name (string s) = or_fault (BadEnum name) (number_named s table)
choice_from table name (array ds) = Err (WrongKind name)
choice_from table name (object ms) = Err (WrongKind name)

abbrev pub items_from : List ℕ → Data → Result Items FieldFault
items_from name null = Err (WrongKind name)
items_from name (boolean b) = Err (WrongKind name)
items_from name (number n) = Err (WrongKind name)
items_from name (string s) = Err (WrongKind name)
items_from name (array ds) = Ok ds
items_from name (object ms) = Err (WrongKind name)

abbrev pub members_from : List ℕ → Data → Result Members FieldFault
members_from name null = Err (WrongKind name)
members_from name (boolean b) = Err (WrongKind name)
members_from name (number n) = Err (WrongKind name)
members_from name (string s) = Err (WrongKind name)
members_from name (array ds) = Err (WrongKind name)
members_from name (object ms) = Ok ms

abbrev pub some_of : {A : Type 0} → Result A FieldFault → Result (Option A) FieldFault
some_of r = r >>= λ x. Ok (Some x)

-- ---- the kinds, as a field

abbrev pub number_field : ℕ → List ℕ → List ℕ → Members → Result ℕ FieldFault
number_field limit plain camelled ms = read_or 0 (number_from limit plain) (found plain camelled ms)

abbrev pub signed_field : List ℕ → List ℕ → Members → Result ℤ FieldFault
signed_field plain camelled ms = read_or (pos 0) (signed_from plain) (found plain camelled ms)

abbrev pub bytes_field : List ℕ → List ℕ → Members → Result (List ℕ) FieldFault
bytes_field plain camelled ms = read_or [] (bytes_from plain) (found plain camelled ms)

abbrev pub flag_field : List ℕ → List ℕ → Members → Result Bool FieldFault
flag_field plain camelled ms = read_or false (flag_from plain) (found plain camelled ms)

abbrev pub choice_field : List ℕ → List ℕ → List ℕ → Members → Result ℕ FieldFault
choice_field table plain camelled ms = read_or 0 (choice_from table plain) (found plain camelled ms)

abbrev pub list_field : List ℕ → List ℕ → Members → Result (Option Items) FieldFault
list_field plain camelled ms = read_or None (λ d. some_of (items_from plain d)) (found plain camelled ms)

abbrev pub child_field : List ℕ → List ℕ → Members → Result (Option Members) FieldFault
child_field plain camelled ms = read_or None (λ d. some_of (members_from plain d)) (found plain camelled ms)

-- ---- the same of a field by its two names

abbrev pub value_at : FieldName → Members → Option Data
value_at name ms = found name.0 name.1 ms

abbrev pub is_there : FieldName → Members → Bool
is_there name ms = is_some (value_at name ms)

-- kind n
abbrev pub number_at : FieldName → Members → Result ℕ FieldFault
number_at name ms = number_field (2 ^ 63) name.0 name.1 ms

-- a cluster's or a member's number
abbrev pub wide_at : FieldName → Members → Result ℕ FieldFault
wide_at name ms = number_field (2 ^ 64) name.0 name.1 ms

-- kind i
abbrev pub signed_at : FieldName → Members → Result ℤ FieldFault
signed_at name ms = signed_field name.0 name.1 ms

-- kind b
abbrev pub bytes_at : FieldName → Members → Result (List ℕ) FieldFault
bytes_at name ms = bytes_field name.0 name.1 ms

-- kind f
abbrev pub flag_at : FieldName → Members → Result Bool FieldFault
flag_at name ms = flag_field name.0 name.1 ms

-- kind e
abbrev pub choice_at : List ℕ → FieldName → Members → Result ℕ FieldFault
choice_at table name ms = choice_field table name.0 name.1 ms

-- kind l
abbrev pub list_at : FieldName → Members → Result (Option Items) FieldFault
list_at name ms = list_field name.0 name.1 ms

-- kind o
abbrev pub child_at : FieldName → Members → Result (Option Members) FieldFault
child_at name ms = child_field name.0 name.1 ms

-- ---- what is there of a kind, faults left aside

abbrev pub is_yes : Option Data → Bool
is_yes None = false
is_yes (Some null) = false
is_yes (Some (boolean b)) = b
is_yes (Some (number n)) = false
is_yes (Some (string s)) = false
is_yes (Some (array ds)) = false
is_yes (Some (object ms)) = false

abbrev pub number_of : Data → Option ℕ
number_of null = None
number_of (boolean b) = None
number_of (number n) = option_and_then (below (2 ^ 63)) (as_u64 n)
number_of (string s) = decimal_of (2 ^ 63) s
number_of (array ds) = None
number_of (object ms) = None

abbrev pub above_zero : Option ℕ → Bool
above_zero None = false
above_zero (Some n) = not (n == 0)

abbrev pub is_nonzero : Option Data → Bool
is_nonzero None = false
is_nonzero (Some d) = above_zero (number_of d)

-- ---- lists

abbrev pub items_or_none : Option Items → Items
items_or_none None = no_items
items_or_none (Some ds) = ds

abbrev pub members_or_none : Option Members → Members
members_or_none None = no_members
members_or_none (Some ms) = ms

-- each member of a list, in their order
abbrev pub each : {A : Type 0} → (Data → Result A FieldFault) → Items → Result (List A) FieldFault
each read no_items = Ok []
each read (item d ds) = read d >>= λ x. each read ds >>= λ xs. Ok (x ∷ xs)
