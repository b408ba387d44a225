-- An object's members by its fields, where the fields stand in another order than their names.
use Rattle.std.proofs.Common.{◌≡◌, ℕ, Bool, true, false, ◌&&◌, List, [], ◌∷◌, Option, Some, None, Ordering, Less, Equal, Greater, refl, ap, ◌∙◌, nat_cmp}
use Rattle.std.specs.Ordering.{match_ordering}
use Rattle.std.specs.Cmp.Lexicographic.{slice_cmp}
use Rattle.std.proofs.lemmas.Bool.{and_parts}
use Rattle.serde_json.specs.Data.{Data, Members, no_members, member, put}
use Rattle.json_model.specs.Written.{Field, with_field, with_fields, members_of}

-- the members that are there, in the order of the fields
abbrev pub member_if : List ℕ → Option Data → Members → Members
member_if name None ms = ms
member_if name (Some d) ms = member name d ms

abbrev pub in_order : List Field → Members
in_order [] = no_members
in_order (f ∷ fs) = member_if f.0 f.1 (in_order fs)

-- the field at its place among fields in byte order of their names
abbrev pub placed : Field → List Field → List Field
placed f [] = f ∷ []
placed f (g ∷ gs) = match_ordering (slice_cmp nat_cmp f.0 g.0) (f ∷ g ∷ gs) (f ∷ gs) (g ∷ placed f gs)

abbrev pub all_placed : List Field → List Field → List Field
all_placed gs [] = gs
all_placed gs (f ∷ fs) = all_placed (placed f gs) fs

-- ---- a place is free where no name is the same, and all names behind it come later

abbrev is_less : Ordering → Bool
is_less Less = true
is_less Equal = false
is_less Greater = false

abbrev before_all : List ℕ → List Field → Bool
before_all name [] = true
before_all name (g ∷ gs) = is_less (slice_cmp nat_cmp name g.0) && before_all name gs

abbrev has_place : List ℕ → List Field → Bool
has_place name [] = true
has_place name (g ∷ gs) = match_ordering (slice_cmp nat_cmp name g.0) (before_all name gs) false (has_place name gs)

abbrev pub all_have_places : List Field → List Field → Bool
all_have_places gs [] = true
all_have_places gs (f ∷ fs) = has_place f.0 gs && all_have_places (placed f gs) fs

less : (o : Ordering) → is_less o ≡ true → o ≡ Less
less Less e = refl
less Equal e = absurd (cc)
less Greater e = absurd (cc)

first_of_two : (name : List ℕ) (d : Data) (other : List ℕ) (o : Option Data) (ms : Members)
    → is_less (slice_cmp nat_cmp name other) ≡ true → put name d ms ≡ member name d ms → put name d (member_if other o ms) ≡ member name d (member_if other o ms)
first_of_two name d other None ms e h = h
first_of_two name d other (Some x) ms e h = rw (less (slice_cmp nat_cmp name other) e) refl

put_first : (name : List ℕ) (d : Data) (gs : List Field) → before_all name gs ≡ true → put name d (in_order gs) ≡ member name d (in_order gs)
put_first name d [] e = refl
put_first name d (g ∷ gs) e =
    let p = and_parts (is_less (slice_cmp nat_cmp name g.0)) _ e in
    first_of_two name d g.0 g.1 (in_order gs) p.0 (put_first name d gs p.1)

behind : (name : List ℕ) (d : Data) (other : List ℕ) (o : Option Data) (ms rest : Members)
    → slice_cmp nat_cmp name other ≡ Greater → put name d ms ≡ rest → put name d (member_if other o ms) ≡ member_if other o rest
behind name d other None ms rest is h = h
behind name d other (Some x) ms rest is h = rw is (ap (member other x) h)

put_at : (o : Ordering) (name : List ℕ) (d : Data) (g : Field) (gs : List Field) → slice_cmp nat_cmp name g.0 ≡ o
    → match_ordering o (before_all name gs) false (has_place name gs) ≡ true
    → (has_place name gs ≡ true → put name d (in_order gs) ≡ in_order (placed (name, Some d) gs))
    → put name d (in_order (g ∷ gs)) ≡ in_order (match_ordering o ((name, Some d) ∷ g ∷ gs) ((name, Some d) ∷ gs) (g ∷ placed (name, Some d) gs))
put_at Less name d g gs is e later = first_of_two name d g.0 g.1 (in_order gs) (ap is_less is) (put_first name d gs e)
put_at Equal name d g gs is e later = absurd (cc)
put_at Greater name d g gs is e later = behind name d g.0 g.1 (in_order gs) _ is (later e)

put_placed : (name : List ℕ) (d : Data) (gs : List Field) → has_place name gs ≡ true → put name d (in_order gs) ≡ in_order (placed (name, Some d) gs)
put_placed name d [] e = refl
put_placed name d (g ∷ gs) e = put_at _ name d g gs refl e (λ h. put_placed name d gs h)

none_at : (o : Ordering) (name : List ℕ) (g : Field) (gs : List Field) → match_ordering o (before_all name gs) false (has_place name gs) ≡ true
    → (has_place name gs ≡ true → in_order gs ≡ in_order (placed (name, None) gs))
    → in_order (g ∷ gs) ≡ in_order (match_ordering o ((name, None) ∷ g ∷ gs) ((name, None) ∷ gs) (g ∷ placed (name, None) gs))
none_at Less name g gs e later = refl
none_at Equal name g gs e later = absurd (cc)
none_at Greater name g gs e later = ap (member_if g.0 g.1) (later e)

none_placed : (name : List ℕ) (gs : List Field) → has_place name gs ≡ true → in_order gs ≡ in_order (placed (name, None) gs)
none_placed name [] e = refl
none_placed name (g ∷ gs) e = none_at _ name g gs e (λ h. none_placed name gs h)

field_placed : (name : List ℕ) (o : Option Data) (gs : List Field) → has_place name gs ≡ true → with_field name o (in_order gs) ≡ in_order (placed (name, o) gs)
field_placed name None gs e = none_placed name gs e
field_placed name (Some d) gs e = put_placed name d gs e

fields_placed : (gs fs : List Field) → all_have_places gs fs ≡ true → with_fields (in_order gs) fs ≡ in_order (all_placed gs fs)
fields_placed gs [] e = refl
fields_placed gs (f ∷ fs) e =
    let p = and_parts (has_place f.0 gs) _ e in
    ap (λ (ms : Members). with_fields ms fs) (field_placed f.0 f.1 gs p.0) ∙ fields_placed (placed f gs) fs p.1

-- an object's members are its fields in byte order of their names
pub members_placed : (fs : List Field) → all_have_places [] fs ≡ true → members_of fs ≡ in_order (all_placed [] fs)
members_placed fs e = fields_placed [] fs e
