-- How deep an object nests by its fields.
use Rattle.std.proofs.Common.{◌≡◌, ℕ, zero, suc, ◌≤◌, max, List, [], ◌∷◌, Option, Some, None, Ordering, Less, Equal, Greater, nat_cmp, refl, ap, arith}
use Rattle.std.specs.Ordering.{match_ordering}
use Rattle.std.specs.Cmp.Lexicographic.{slice_cmp}
use Rattle.serde_json.specs.Data.{Data, array, Items, no_items, item, Members, no_members, member, put, depth, items_depth, members_depth}
use Rattle.serde_json.specs.Find.{get_member}
use Rattle.json_model.specs.Written.{Field, number_value, bytes_value, list_value, with_field, with_fields, members_of, items_of}

abbrev pub value_depth : Option Data → ℕ
value_depth None = 0
value_depth (Some d) = depth d

abbrev pub fields_depth : List Field → ℕ
fields_depth [] = 0
fields_depth (f ∷ fs) = max (value_depth f.1) (fields_depth fs)

put_depth_at : (o : Ordering) (k l : List ℕ) (d x : Data) (ms later : Members) → members_depth later ≤ max (depth d) (members_depth ms)
    → members_depth (match_ordering o (member k d (member l x ms)) (member l d ms) (member l x later)) ≤ max (depth d) (max (depth x) (members_depth ms))
put_depth_at Less k l d x ms later h = omega arith
put_depth_at Equal k l d x ms later h = omega arith
put_depth_at Greater k l d x ms later h = omega (arith, h)

put_depth : (k : List ℕ) (d : Data) (ms : Members) → members_depth (put k d ms) ≤ max (depth d) (members_depth ms)
put_depth k d no_members = omega arith
put_depth k d (member l x ms) = put_depth_at (slice_cmp nat_cmp k l) k l d x ms (put k d ms) (put_depth k d ms)

field_depth : (k : List ℕ) (o : Option Data) (ms : Members) → members_depth (with_field k o ms) ≤ max (value_depth o) (members_depth ms)
field_depth k None ms = omega arith
field_depth k (Some d) ms = put_depth k d ms

over_depth : (fs : List Field) (ms : Members) → members_depth (with_fields ms fs) ≤ max (fields_depth fs) (members_depth ms)
over_depth [] ms = omega arith
over_depth (f ∷ fs) ms =
    let one = field_depth f.0 f.1 ms in
    let rest = over_depth fs (with_field f.0 f.1 ms) in
    omega (arith, one, rest)

-- an object's members nest no deeper than its fields
pub members_within : (fs : List Field) (n : ℕ) → fields_depth fs ≤ n → members_depth (members_of fs) ≤ n
members_within fs n h = let all = over_depth fs no_members in omega (arith, all, h)

-- ---- the kinds

pub number_depth : (n : ℕ) → value_depth (number_value n) ≡ 0
number_depth zero = refl
number_depth (suc n) = refl

pub bytes_depth : (b : List ℕ) → value_depth (bytes_value b) ≡ 0
bytes_depth [] = refl
bytes_depth (x ∷ b) = refl

pub items_within : {A : Type 0} (write : A → Data) (xs : List A) (n : ℕ) → ((x : A) → depth (write x) ≤ n) → items_depth (items_of write xs) ≤ n
items_within write [] n h = omega arith
items_within write (x ∷ xs) n h =
    let one = h x in
    let rest = items_within write xs n h in
    omega (arith, one, rest)

pub list_within : (ds : Items) (n : ℕ) → items_depth ds ≤ n → value_depth (list_value ds) ≤ suc n
list_within no_items n h = omega arith
list_within (item d ds) n h = omega (arith, h)

-- ---- parts of a value nest no deeper than the value

pub left_of : (a b n : ℕ) → max a b ≤ n → a ≤ n
left_of a b n h = omega arith

pub right_of : (a b n : ℕ) → max a b ≤ n → b ≤ n
right_of a b n h = omega arith

-- what stands under a name nests no deeper than the members
found_depth : (o : Ordering) (q : List ℕ) (d x : Data) (ms : Members) → match_ordering o (get_member q ms) (Some d) (get_member q ms) ≡ Some x → ((y : Data) → get_member q ms ≡ Some y → depth y ≤ members_depth ms) → depth x ≤ max (depth d) (members_depth ms)
found_depth Less q d x ms e h = let deep : depth x ≤ members_depth ms = h x e in omega arith
found_depth Equal q d x ms e h = let same : d ≡ x = cc in let deep : depth d ≡ depth x = ap depth same in omega arith
found_depth Greater q d x ms e h = let deep : depth x ≤ members_depth ms = h x e in omega arith

member_depth : (q : List ℕ) (ms : Members) (x : Data) → get_member q ms ≡ Some x → depth x ≤ members_depth ms
member_depth q no_members x e = absurd (cc)
member_depth q (member k d ms) x e = found_depth (slice_cmp nat_cmp q k) q d x ms e (λ y f. member_depth q ms y f)

-- a list nests no deeper than the object that has it
pub list_depth : (q : List ℕ) (fs : List Field) (ds : Items) (n : ℕ) → get_member q (members_of fs) ≡ list_value ds → members_depth (members_of fs) ≤ n → items_depth ds ≤ n
list_depth q fs no_items n e h = omega arith
list_depth q fs (item d ds) n e h =
    let within : depth (array (item d ds)) ≤ members_depth (members_of fs) = member_depth q (members_of fs) (array (item d ds)) e in
    omega arith
