-- An object that is written part by part is the object of its fields.
use Rattle.std.proofs.Common.{◌≡◌, ℕ, ◌+◌, ◌<◌, ◌≤◌, Bool, true, false, ◌&&◌, List, [], ◌∷◌, ◌++◌, length, get_or, drop, refl, sym, ap, ◌∙◌, append_assoc}
use Rattle.std.specs.Str.{bytes_eq}
use Rattle.std.proofs.lemmas.Bool.{and_parts}
use Rattle.std.proofs.lemmas.Slice.Eq.{bytes_eq-Decides}
use Rattle.std.proofs.lemmas.List.{at_drop_more, at_drop_all}
use Rattle.json.specs.Print.{escape}
use Rattle.serde_json.specs.Data.{Data, boolean, object, Members, no_members}
use Rattle.json_model.specs.Written.{Field, flag_value, members_of, items_of}
use Rattle.direct_json.specs.Drafts.{TextSoFar, begun, ended, with_flag, with_member, with_item, with_items}
use Rattle.direct_json.specs.Parts.{Part, number, bytes, flag, whole, field, opening, with_part, with_parts, part_name, part_value, fields_of}
use Rattle.direct_json.proofs.InOrder.{member_if, in_order, all_placed, all_have_places}
use Rattle.direct_json.proofs.Finished.{finished, Opens, number_next, bytes_next, member_next, field_next, whole_written, object_member, object_item}

-- a name that needs no escape
abbrev pub is_clean : List ℕ → Bool
is_clean name = bytes_eq (escape name) name

abbrev pub are_clean : List Part → Bool
are_clean [] = true
are_clean (p ∷ ps) = is_clean (part_name p) && are_clean ps

opens : (name begin : List ℕ) → is_clean name ≡ true → Opens (opening name begin) name begin
opens name begin e =
    ap (λ (x : List ℕ). 44 ∷ 34 ∷ x) (sym (append_assoc name (34 ∷ []) (58 ∷ begin)))
    ∙ ap (λ (x : List ℕ). 44 ∷ ((34 ∷ (x ++ 34 ∷ [])) ++ 58 ∷ begin)) (sym ((bytes_eq-Decides (escape name) name).0 e))

flag_next : (name : List ℕ) (b : Bool) (d : TextSoFar) (ms : Members) → is_clean name ≡ true
    → finished (with_flag (opening name (116 ∷ 114 ∷ 117 ∷ 101 ∷ [])) b d) ms ≡ finished d (member_if name (flag_value b) ms)
flag_next name true d ms e = ap (λ (x : TextSoFar). finished x ms) (whole_written _ name (boolean true) d (opens name _ e)) ∙ member_next name (boolean true) d ms
flag_next name false d ms e = refl

part_next : (p : Part) (d : TextSoFar) (ms : Members) → is_clean (part_name p) ≡ true → finished (with_part p d) ms ≡ finished d (member_if (part_name p) (part_value p) ms)
part_next (number name n) d ms e = number_next _ name n d ms (opens name _ e)
part_next (bytes name b) d ms e = bytes_next _ name b d ms (opens name _ e)
part_next (flag name b) d ms e = flag_next name b d ms e
part_next (whole name value) d ms e = ap (λ (x : TextSoFar). finished x ms) (whole_written _ name value d (opens name _ e)) ∙ member_next name value d ms
part_next (field name value) d ms e = field_next name value d ms

parts_next : (ps : List Part) (d : TextSoFar) → are_clean ps ≡ true → finished (with_parts ps d) no_members ≡ finished d (in_order (fields_of ps))
parts_next [] d e = refl
parts_next (p ∷ ps) d e =
    let both = and_parts (is_clean (part_name p)) _ e in
    parts_next ps (with_part p d) both.1 ∙ part_next p d (in_order (fields_of ps)) both.0

-- the parts stand in the fields' byte order, and no name needs an escape
pub record AreParts (ps : List Part) (fs : List Field) : Type 0 where
  pub clean : are_clean ps ≡ true
  pub places : all_have_places [] fs ≡ true
  pub ordered : fields_of ps ≡ all_placed [] fs

pub parts_member : (o k : List ℕ) (ps : List Part) (fs : List Field) (d : TextSoFar) → Opens o k (123 ∷ []) → AreParts ps fs
    → ended 125 (with_parts ps (begun o d)) ≡ with_member k (object (members_of fs)) d
parts_member o k ps fs d opens are =
    object_member o k fs d (with_parts ps (begun o d)) opens are.places
    (parts_next ps (begun o d) are.clean ∙ ap (λ (gs : List Field). finished (begun o d) (in_order gs)) are.ordered)

pub parts_item : (ps : List Part) (fs : List Field) (d : TextSoFar) → AreParts ps fs → ended 125 (with_parts ps (begun (44 ∷ 123 ∷ []) d)) ≡ with_item (object (members_of fs)) d
parts_item ps fs d are =
    let first = begun (44 ∷ 123 ∷ []) d in
    object_item fs d (with_parts ps first) are.places
    (parts_next ps first are.clean ∙ ap (λ (gs : List Field). finished first (in_order gs)) are.ordered)

-- ---- a loop that writes one item after another

pub item_more : {A : Type 0} (write : A → Data) (all : TextSoFar) (d next : TextSoFar) (xs : List A) (i : ℕ) (x none : A)
    → i < length xs → x ≡ get_or xs i none → next ≡ with_item (write x) d
    → with_items (items_of write (drop i xs)) d ≡ all → with_items (items_of write (drop (i + 1) xs)) next ≡ all
item_more write all d next xs i x none below at is so_far =
    let rest = items_of write (drop (i + 1) xs) in
    ap (with_items rest) (is ∙ ap (λ (y : _). with_item (write y) d) at)
    ∙ sym (at_drop_more (λ ys. with_items (items_of write ys) d) xs i none below)
    ∙ so_far

pub no_item_more : {A : Type 0} (write : A → Data) (all d : TextSoFar) (xs : List A) (i : ℕ)
    → length xs ≤ i → with_items (items_of write (drop i xs)) d ≡ all → d ≡ all
no_item_more write all d xs i above so_far = sym (at_drop_all (λ ys. with_items (items_of write ys) d) xs i above) ∙ so_far
