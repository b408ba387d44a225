-- Fields as they are written: under the plain name, with defaults left out.
use Rattle.std.specs.Prelude.{ℕ, zero, suc, ℤ, pos, negsuc, Bool, true, false, List, [], ◌∷◌, Option, Some, None, decimal}
use Rattle.std.specs.Fmt.{signed_decimal}
use Rattle.base64.specs.Engines.{standard}
use Rattle.base64.specs.GeneralPurpose.{encode_of}
use Rattle.serde_json.specs.Data.{unsigned, Data, boolean, number, string, array, object, Items, no_items, item, Members, no_members, put}
use Rattle.json_model.specs.FieldNames.{FieldName}
use Rattle.json_model.specs.Names.{name_at}

-- numbers are text
abbrev pub number_value : ℕ → Option Data
number_value zero = None
number_value (suc n) = Some (string (decimal (suc n)))

abbrev pub signed_value : ℤ → Option Data
signed_value (pos zero) = None
signed_value (pos (suc n)) = Some (string (signed_decimal (pos (suc n))))
signed_value (negsuc n) = Some (string (signed_decimal (negsuc n)))

-- bytes are base64 in the standard alphabet, with padding
abbrev pub text_of : List ℕ → Data
text_of b = string (encode_of standard b)

abbrev pub bytes_value : List ℕ → Option Data
bytes_value [] = None
bytes_value (b ∷ bs) = Some (text_of (b ∷ bs))

abbrev pub flag_value : Bool → Option Data
flag_value false = None
flag_value true = Some (boolean true)

abbrev pub named_or_number : ℕ → Option (List ℕ) → Data
named_or_number n None = number (unsigned n)
named_or_number n (Some name) = string name

-- an enum's value is its name, or its number where it has none
abbrev pub choice_value : List ℕ → ℕ → Option Data
choice_value table zero = None
choice_value table (suc n) = Some (named_or_number (suc n) (name_at (suc n) table))

abbrev pub list_value : Items → Option Data
list_value no_items = None
list_value (item d ds) = Some (array (item d ds))

-- ---- an object by its fields

abbrev pub with_field : List ℕ → Option Data → Members → Members
with_field name None ms = ms
with_field name (Some d) ms = put name d ms

abbrev pub Field : Type 0
Field = List ℕ × Option Data

abbrev pub field : FieldName → Option Data → Field
field name value = (name.0, value)

abbrev pub with_fields : Members → List Field → Members
with_fields ms [] = ms
with_fields ms (field ∷ fields) = with_fields (with_field field.0 field.1 ms) fields

abbrev pub members_of : List Field → Members
members_of fields = with_fields no_members fields

abbrev pub object_of : List Field → Data
object_of fields = object (members_of fields)

abbrev pub items_of : {A : Type 0} → (A → Data) → List A → Items
items_of write [] = no_items
items_of write (x ∷ xs) = item (write x) (items_of write xs)
