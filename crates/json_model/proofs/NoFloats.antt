-- No field is written with a fraction, so the text of an object by its fields is the compact one.
use Rattle.std.proofs.Common.{◌≡◌, ℕ, zero, suc, ℤ, pos, negsuc, Bool, true, false, ◌||◌, List, [], ◌∷◌, Option, Some, None, Ordering, Less, Equal, Greater, nat_cmp, refl}
use Rattle.std.specs.Ordering.{match_ordering}
use Rattle.std.specs.Cmp.Lexicographic.{slice_cmp}
use Rattle.std.proofs.lemmas.Bool.{or_parts}
use Rattle.etcd_types.proofs.Bools.{or_none}
use Rattle.serde_json.specs.Data.{Data, Items, no_items, item, Members, no_members, member, put}
use Rattle.serde_json.specs.Written.{has_float, items_have_float, members_have_float}
use Rattle.json_model.specs.Names.{name_at}
use Rattle.json_model.specs.Written.{Field, number_value, signed_value, bytes_value, flag_value, named_or_number, choice_value, list_value, with_field, with_fields, members_of, items_of}

-- ---- objects by their fields

abbrev pub field_float : Option Data → Bool
field_float None = false
field_float (Some d) = has_float d

abbrev pub fields_float : List Field → Bool
fields_float [] = false
fields_float (f ∷ fs) = field_float f.1 || fields_float fs

put_float : (k : List ℕ) (d : Data) (ms : Members) → has_float d ≡ false → members_have_float ms ≡ false → members_have_float (put k d ms) ≡ false
put_float k d no_members e h = or_none _ _ e h
put_float k d (member l x ms) e h =
    let p = or_parts (has_float x) _ h in
    placed (slice_cmp nat_cmp k l) _ _ _ (or_none _ _ e h) (or_none _ _ e p.1) (or_none _ _ p.0 (put_float k d ms e p.1))
  where
    placed : (o : Ordering) (a b c : Members) → members_have_float a ≡ false → members_have_float b ≡ false → members_have_float c ≡ false → members_have_float (match_ordering o a b c) ≡ false
    placed Less a b c x y z = x
    placed Equal a b c x y z = y
    placed Greater a b c x y z = z

with_float : (k : List ℕ) (o : Option Data) (ms : Members) → field_float o ≡ false → members_have_float ms ≡ false → members_have_float (with_field k o ms) ≡ false
with_float k None ms e h = h
with_float k (Some d) ms e h = put_float k d ms e h

over_float : (fs : List Field) (ms : Members) → fields_float fs ≡ false → members_have_float ms ≡ false → members_have_float (with_fields ms fs) ≡ false
over_float [] ms e h = h
over_float (f ∷ fs) ms e h = let p = or_parts (field_float f.1) _ e in over_float fs (with_field f.0 f.1 ms) p.1 (with_float f.0 f.1 ms p.0 h)

pub members_float : (fs : List Field) → fields_float fs ≡ false → members_have_float (members_of fs) ≡ false
members_float fs e = over_float fs no_members e refl

-- ---- the kinds

pub number_float : (n : ℕ) → field_float (number_value n) ≡ false
number_float zero = refl
number_float (suc n) = refl

pub signed_float : (z : ℤ) → field_float (signed_value z) ≡ false
signed_float (pos zero) = refl
signed_float (pos (suc n)) = refl
signed_float (negsuc n) = refl

pub bytes_float : (b : List ℕ) → field_float (bytes_value b) ≡ false
bytes_float [] = refl
bytes_float (x ∷ b) = refl

pub flag_float : (b : Bool) → field_float (flag_value b) ≡ false
flag_float true = refl
flag_float false = refl

named_float : (n : ℕ) (o : Option (List ℕ)) → has_float (named_or_number n o) ≡ false
named_float n None = refl
named_float n (Some name) = refl

pub choice_float : (table : List ℕ) (n : ℕ) → field_float (choice_value table n) ≡ false
choice_float table zero = refl
choice_float table (suc n) = named_float (suc n) (name_at (suc n) table)

pub list_float : (ds : Items) → items_have_float ds ≡ false → field_float (list_value ds) ≡ false
list_float no_items e = refl
list_float (item d ds) e = e

pub items_float : {A : Type 0} (write : A → Data) (xs : List A) → ((x : A) → has_float (write x) ≡ false) → items_have_float (items_of write xs) ≡ false
items_float write [] h = refl
items_float write (x ∷ xs) h = or_none _ _ (h x) (items_float write xs h)
