-- JSON texts (RFC 8259) while they are written from left to right, without spaces: the text so far, and whether a comma comes
-- before what is written next. An opening is what stands before a value, with its comma.
use Rattle.std.specs.Prelude.{ℕ, zero, suc, Bool, true, false, List, [], ◌∷◌, ◌++◌, drop, Some, None, decimal}
use Rattle.base64.specs.Engines.{standard}
use Rattle.base64.specs.GeneralPurpose.{encode_of}
use Rattle.json.specs.Print.{escape, quoted}
use Rattle.serde_json.specs.Data.{Data, Items, no_items, item}
use Rattle.serde_json.specs.Written.{comma_if, compact_text}
use Rattle.json_model.specs.Written.{Field}

abbrev pub TextSoFar : Type 0
TextSoFar = List ℕ × Bool

-- an opening without its comma, where nothing stands before
abbrev pub after : Bool → List ℕ → List ℕ
after true opening = opening
after false opening = drop 1 opening

abbrev pub begun : List ℕ → TextSoFar → TextSoFar
begun opening d = (d.0 ++ after d.1 opening, false)

abbrev pub ended : ℕ → TextSoFar → TextSoFar
ended closing d = (d.0 ++ closing ∷ [], true)

abbrev pub with_whole : List ℕ → TextSoFar → TextSoFar
with_whole member d = (d.0 ++ after d.1 member, true)

abbrev pub with_flag : List ℕ → Bool → TextSoFar → TextSoFar
with_flag member true d = with_whole member d
with_flag member false d = d

-- a text as it stands in a string, whose first quotation mark the opening has
abbrev pub with_text : List ℕ → List ℕ → TextSoFar → TextSoFar
with_text opening text d = (((d.0 ++ after d.1 opening) ++ escape text) ++ 34 ∷ [], true)

abbrev pub with_number : List ℕ → ℕ → TextSoFar → TextSoFar
with_number opening zero d = d
with_number opening (suc n) d = with_text opening (decimal (suc n)) d

abbrev pub with_bytes : List ℕ → List ℕ → TextSoFar → TextSoFar
with_bytes opening [] d = d
with_bytes opening (b ∷ bs) d = with_text opening (encode_of standard (b ∷ bs)) d

-- ---- the same by values

abbrev pub with_member : List ℕ → Data → TextSoFar → TextSoFar
with_member name value d = (d.0 ++ (comma_if d.1 ++ (quoted name ++ 58 ∷ compact_text value)), true)

abbrev pub with_field : Field → TextSoFar → TextSoFar
with_field (name, None) d = d
with_field (name, Some value) d = with_member name value d

abbrev pub with_item : Data → TextSoFar → TextSoFar
with_item value d = (d.0 ++ (comma_if d.1 ++ compact_text value), true)

abbrev pub with_items : Items → TextSoFar → TextSoFar
with_items no_items d = d
with_items (item value values) d = with_items values (with_item value d)
