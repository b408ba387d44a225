-- What an object's text is made of, member by member, as `Draft` writes it.
use Rattle.std.specs.Prelude.{ℕ, Bool, List, [], ◌∷◌, ◌++◌, Option, Some}
use Rattle.serde_json.specs.Data.{Data}
use Rattle.serde_json.specs.Written.{compact_text}
use Rattle.json_model.specs.Written.{Field, number_value, bytes_value, flag_value}
use Rattle.direct_json.specs.Drafts as draft
use Rattle.direct_json.specs.Drafts.{TextSoFar}

-- a member of this name: a number, bytes, a flag, a value that is written in one piece, or what a function writes for a value
pub data Part : Type 0 where
  number : List ℕ → ℕ → Part
  bytes : List ℕ → List ℕ → Part
  flag : List ℕ → Bool → Part
  whole : List ℕ → Data → Part
  field : List ℕ → Option Data → Part

-- what stands before the member's value
abbrev pub opening : List ℕ → List ℕ → List ℕ
opening name begin = 44 ∷ 34 ∷ (name ++ 34 ∷ 58 ∷ begin)

abbrev pub with_part : Part → TextSoFar → TextSoFar
with_part (number name n) d = draft.with_number (opening name (34 ∷ [])) n d
with_part (bytes name b) d = draft.with_bytes (opening name (34 ∷ [])) b d
with_part (flag name b) d = draft.with_flag (opening name (116 ∷ 114 ∷ 117 ∷ 101 ∷ [])) b d
with_part (whole name value) d = draft.with_whole (opening name (compact_text value)) d
with_part (field name value) d = draft.with_field (name, value) d

abbrev pub with_parts : List Part → TextSoFar → TextSoFar
with_parts [] d = d
with_parts (p ∷ ps) d = with_parts ps (with_part p d)

abbrev pub part_name : Part → List ℕ
part_name (number name n) = name
part_name (bytes name b) = name
part_name (flag name b) = name
part_name (whole name value) = name
part_name (field name value) = name

abbrev pub part_value : Part → Option Data
part_value (number name n) = number_value n
part_value (bytes name b) = bytes_value b
part_value (flag name b) = flag_value b
part_value (whole name value) = Some value
part_value (field name value) = value

abbrev pub fields_of : List Part → List Field
fields_of [] = []
fields_of (p ∷ ps) = (part_name p, part_value p) ∷ fields_of ps
