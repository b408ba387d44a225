-- Fields of an object whose strings are bytes, read by their kinds: numbers of a text, bytes, and faults that name bytes.
use Rattle.std.proofs.Common.{◌≡◌, ℕ, zero, suc, ◌<◌, ◌≤◌, ◌^◌, Bool, true, false, cond, List, [], ◌∷◌, length, Option, None, Some, is_some, option_and_then, Result, Ok, Err, Ordering, Less, Equal, Greater, refl, arith, nat_cmp}
use Rattle.std.specs.Prelude.{nat_lt, find, position, slice_get}
use Rattle.std.specs.List.{position_or_len}
use Rattle.std.specs.Ordering.{match_ordering}
use Rattle.std.specs.Cmp.Lexicographic.{slice_cmp}
use Rattle.std.specs.Str.{bytes_eq}
use Rattle.std.specs.Str.Parse.{digits_value}
use Rattle.std.proofs.lemmas.Bool.{ltb-true}
use Rattle.serde_json.specs.Data.{Data, null, boolean, number, string, array, object, Items, no_items, item, Members, no_members, member}
use Rattle.serde_json.specs.Find.{get_member, as_u64}
use Rattle.json_model.specs.declared.fault.FieldFault.{FieldFault}
use Rattle.json_model.specs.declared.fault.FieldFault.TheVariants as fields
use Rattle.json_model.specs.Base64.{or_else, decoded}
use Rattle.json_model.specs.Faults.{◌>>=◌}
use Rattle.json_model.specs.FieldNames.{FieldName}
use Rattle.json_model.specs.Fields.{present, value_at, read_or, or_fault, number_from, bytes_from, flag_from, choice_from, items_from, members_from, some_of, number_at, bytes_at, flag_at, choice_at, list_at, child_at, items_or_none, each}
use Rattle.json_model.specs.Known.{is_twice, known, all_known, only}
use Rattle.json_model.specs.Names.{words, is_spelling, field_of, one_byte, name_at, number_named, if_named, number_in}
use Rattle.json_model.specs.Numbers.{is_canonical, below, decimal_of}
use Rattle.text_laws.specs.Values.Fits.{AllOf, If, Bytes, Number}
use Rattle.text_laws.proofs.Values.Alls.{either}
use Rattle.text_laws.specs.Posts.Laws.{FaultBytes}
use Rattle.text_laws.proofs.Posts.Decoded.{decoded_bytes_fit}
use Rattle.text_laws.proofs.Posts.Values.{Good, GoodItems, GoodMembers, count_items}

-- what is read fits, or names bytes
abbrev pub Reads : {A : Type 0} → (A → Type 0) → Result A FieldFault → Type 0
Reads P (Ok x) = P x
Reads P (Err f) = FaultBytes f

pub bound : {A B : Type 0} (P : A → Type 0) (Q : B → Type 0) (r : Result A FieldFault) (f : A → Result B FieldFault) → Reads P r → ((x : A) → P x → Reads Q (f x)) → Reads Q (r >>= f)
bound P Q (Ok x) f h k = k x h
bound P Q (Err e) f h k = h

abbrev pub Any : {A : Type 0} → A → Type 0
Any x = Unit {0}

-- ---- what stands under a name

member_good : (n : ℕ) (k : List ℕ) (ms : Members) → GoodMembers n ms → If (Good n) (get_member k ms)
member_good n k no_members h = tt
member_good n k (member l d ms) h = chosen (slice_cmp nat_cmp k l) (member_good n k ms h.2)
  where
    chosen : (o : Ordering) → If (Good n) (get_member k ms) → If (Good n) (match_ordering o (get_member k ms) (Some d) (get_member k ms))
    chosen Less g = g
    chosen Equal g = h.1
    chosen Greater g = g

or_good : (n : ℕ) (a b : Option Data) → If (Good n) a → If (Good n) b → If (Good n) (or_else a b)
or_good n None b f g = g
or_good n (Some d) b f g = f

present_good : (n : ℕ) (o : Option Data) → If (Good n) o → If (Good n) (present o)
present_good n None h = tt
present_good n (Some null) h = tt
present_good n (Some (boolean b)) h = tt
present_good n (Some (number x)) h = tt
present_good n (Some (string s)) h = h
present_good n (Some (array ds)) h = h
present_good n (Some (object ms)) h = h

pub value_good : (n : ℕ) (name : FieldName) (ms : Members) → GoodMembers n ms → If (Good n) (value_at name ms)
value_good n name ms h =
    present_good n (or_else (get_member name.0 ms) (get_member name.1 ms)) (or_good n (get_member name.0 ms) (get_member name.1 ms) (member_good n name.0 ms h) (member_good n name.1 ms h))

-- ---- the kinds

or_reads : {A : Type 0} (P : A → Type 0) (f : FieldFault) (o : Option A) → FaultBytes f → If P o → Reads P (or_fault f o)
or_reads P f None b h = b
or_reads P f (Some x) b h = h

below_number : (x : ℕ) → If Number (below (2 ^ 63) x)
below_number x = by_test (nat_lt x (2 ^ 63)) refl
  where
    by_test : (b : Bool) → nat_lt x (2 ^ 63) ≡ b → If Number (cond b (Some x) None)
    by_test true e = let l = ltb-true x (2 ^ 63) e in omega (arith, l)
    by_test false e = tt

wide_number : (o : Option ℕ) → If Number (option_and_then (below (2 ^ 63)) o)
wide_number None = tt
wide_number (Some x) = below_number x

number_reads : (name : List ℕ) (o : Option Data) → Bytes name → Reads Number (read_or 0 (number_from (2 ^ 63) name) o)
number_reads name None b = omega arith
number_reads name (Some null) b = b
number_reads name (Some (boolean x)) b = b
number_reads name (Some (number x)) b = or_reads Number (fields.BadNumber name) (option_and_then (below (2 ^ 63)) (as_u64 x)) b (wide_number (as_u64 x))
number_reads name (Some (string s)) b = or_reads Number (fields.BadNumber name) (decimal_of (2 ^ 63) s) b (either (If Number) (is_canonical s) (below (2 ^ 63) (digits_value 10 s)) None (below_number (digits_value 10 s)) tt)
number_reads name (Some (array ds)) b = b
number_reads name (Some (object ms)) b = b

pub number_at_reads : (name : FieldName) (ms : Members) → Bytes name.0 → Reads Number (number_at name ms)
number_at_reads name ms b = number_reads name.0 (value_at name ms) b

bytes_reads : (n : ℕ) (name : List ℕ) (o : Option Data) → Bytes name → If (Good n) o → Reads Bytes (read_or [] (bytes_from name) o)
bytes_reads n name None b h = tt
bytes_reads n name (Some null) b h = b
bytes_reads n name (Some (boolean x)) b h = b
bytes_reads n name (Some (number x)) b h = b
bytes_reads n name (Some (string s)) b h = or_reads Bytes (fields.BadBase64 name) (decoded s) b (decoded_bytes_fit s h)
bytes_reads n name (Some (array ds)) b h = b
bytes_reads n name (Some (object ms)) b h = b

pub bytes_at_reads : (n : ℕ) (name : FieldName) (ms : Members) → Bytes name.0 → GoodMembers n ms → Reads Bytes (bytes_at name ms)
bytes_at_reads n name ms b h = bytes_reads n name.0 (value_at name ms) b (value_good n name ms h)

flag_reads : (name : List ℕ) (o : Option Data) → Bytes name → Reads Any (read_or false (flag_from name) o)
flag_reads name None b = tt
flag_reads name (Some null) b = b
flag_reads name (Some (boolean x)) b = tt
flag_reads name (Some (number x)) b = b
flag_reads name (Some (string s)) b = b
flag_reads name (Some (array ds)) b = b
flag_reads name (Some (object ms)) b = b

pub flag_at_reads : (name : FieldName) (ms : Members) → Bytes name.0 → Reads Any (flag_at name ms)
flag_at_reads name ms b = flag_reads name.0 (value_at name ms) b

-- ---- a name of a table

there : {A : Type 0} (xs : List A) (i : ℕ) → is_some (slice_get xs i) ≡ true → i < length xs
there [] i e = absurd (cc)
there (x ∷ xs) zero e = omega arith
there (x ∷ xs) (suc i) e = let r = there xs i e in omega (arith, r)

named_small : (table : List ℕ) (n : ℕ) → If (λ (m : ℕ). m < length (words table)) (if_named table n)
named_small table n = by_test (is_some (name_at n table)) refl
  where
    by_test : (b : Bool) → is_some (name_at n table) ≡ b → If (λ (m : ℕ). m < length (words table)) (cond b (Some n) None)
    by_test true e = there (words table) n e
    by_test false e = tt

one_named : (table : List ℕ) (o : Option ℕ) → If (λ (m : ℕ). m < length (words table)) (option_and_then (if_named table) o)
one_named table None = tt
one_named table (Some n) = named_small table n

wide_named : (table : List ℕ) (o : Option ℕ) → If (λ (m : ℕ). m < length (words table)) (option_and_then (λ m. number_in m table) o)
wide_named table None = tt
wide_named table (Some n) = one_named table (one_byte n)

position_small : {A : Type 0} (p : A → Bool) (xs : List A) → If (λ (m : ℕ). m < length xs) (option_and_then one_byte (position p xs))
position_small {A} p xs = by_test (nat_lt (position_or_len p xs) (length xs)) refl
  where
    by_test : (b : Bool) → nat_lt (position_or_len p xs) (length xs) ≡ b → If (λ (m : ℕ). m < length xs) (option_and_then one_byte (cond b (Some (position_or_len p xs)) None))
    by_test true e = let l = ltb-true (position_or_len p xs) (length xs) e in either (If (λ (m : ℕ). m < length xs)) (nat_lt (position_or_len p xs) 256) (Some (position_or_len p xs)) None l tt
    by_test false e = tt

abbrev pub IsNamed : List ℕ → ℕ → Type 0
IsNamed table n = n < length (words table)

pub choice_reads : (table name : List ℕ) (d : Data) → Bytes name → Reads (IsNamed table) (choice_from table name d)
choice_reads table name null b = b
choice_reads table name (boolean x) b = b
choice_reads table name (number x) b = or_reads (IsNamed table) (fields.BadEnum name) (option_and_then (λ m. number_in m table) (as_u64 x)) b (wide_named table (as_u64 x))
choice_reads table name (string s) b = or_reads (IsNamed table) (fields.BadEnum name) (number_named s table) b (position_small (λ n. bytes_eq s n) (words table))
choice_reads table name (array ds) b = b
choice_reads table name (object ms) b = b

pub choice_at_reads : (table : List ℕ) (name : FieldName) (ms : Members) → Bytes name.0 → 0 < length (words table) → Reads (IsNamed table) (choice_at table name ms)
choice_at_reads table name ms b some = by_value (value_at name ms)
  where
    by_value : (o : Option Data) → Reads (IsNamed table) (read_or 0 (choice_from table name.0) o)
    by_value None = some
    by_value (Some d) = choice_reads table name.0 d b

-- ---- lists and objects

abbrev pub GoodList : ℕ → Items → Type 0
GoodList n ds = (count_items ds ≤ n) × GoodItems n ds

list_reads : (n : ℕ) (name : List ℕ) (o : Option Data) → Bytes name → If (Good n) o → Reads (If (GoodList n)) (read_or None (λ d. some_of (items_from name d)) o)
list_reads n name None b h = tt
list_reads n name (Some null) b h = b
list_reads n name (Some (boolean x)) b h = b
list_reads n name (Some (number x)) b h = b
list_reads n name (Some (string s)) b h = b
list_reads n name (Some (array ds)) b h = h
list_reads n name (Some (object ms)) b h = b

pub list_at_reads : (n : ℕ) (name : FieldName) (ms : Members) → Bytes name.0 → GoodMembers n ms → Reads (If (GoodList n)) (list_at name ms)
list_at_reads n name ms b h = list_reads n name.0 (value_at name ms) b (value_good n name ms h)

pub object_reads : (n : ℕ) (name : List ℕ) (d : Data) → Bytes name → Good n d → Reads (GoodMembers n) (members_from name d)
object_reads n name null b h = b
object_reads n name (boolean x) b h = b
object_reads n name (number x) b h = b
object_reads n name (string s) b h = b
object_reads n name (array ds) b h = b
object_reads n name (object ms) b h = h

pub child_at_reads : (n : ℕ) (name : FieldName) (ms : Members) → Bytes name.0 → GoodMembers n ms → Reads (If (GoodMembers n)) (child_at name ms)
child_at_reads n name ms b h = by_value (value_at name ms) (value_good n name ms h)
  where
    by_value : (o : Option Data) → If (Good n) o → Reads (If (GoodMembers n)) (read_or None (λ d. some_of (members_from name.0 d)) o)
    by_value None k = tt
    by_value (Some d) k = bound (GoodMembers n) (If (GoodMembers n)) (members_from name.0 d) _ (object_reads n name.0 d b k) (λ m g. g)

-- as many as the list has members
pub record EachOf {A : Type 0} (P : A → Type 0) (most : ℕ) (xs : List A) : Type 0 where
  pub all : AllOf P xs
  pub few : length xs ≤ most

pub each_reads : {A : Type 0} (P : A → Type 0) (n : ℕ) (read : Data → Result A FieldFault) → ((d : Data) → Good n d → Reads P (read d)) → (ds : Items) → GoodItems n ds → Reads (EachOf P (count_items ds)) (each read ds)
each_reads P n read f no_items h = record { all = tt; few = omega arith }
each_reads P n read f (item d ds) h =
    bound P (EachOf P (count_items (item d ds))) (read d) _ (f d h.0)
    (λ x k. bound (EachOf P (count_items ds)) (EachOf P (count_items (item d ds))) (each read ds) _ (each_reads P n read f ds h.1) (λ xs g. record { all = (k, g.all); few = (let few = g.few in omega (arith, few)) }))

pub listed_reads : {A : Type 0} (P : A → Type 0) (n : ℕ) (read : Data → Result A FieldFault) → ((d : Data) → Good n d → Reads P (read d)) → (o : Option Items) → If (GoodList n) o → Reads (EachOf P n) (each read (items_or_none o))
listed_reads P n read f None h = record { all = tt; few = omega arith }
listed_reads {A} P n read f (Some ds) h = wider (each read ds) (each_reads P n read f ds h.1)
  where
    wider : (r : Result (List A) FieldFault) → Reads (EachOf P (count_items ds)) r → Reads (EachOf P n) r
    wider (Ok xs) g = let a = g.few in let b = h.0 in record { all = g.all; few = omega (arith, a, b) }
    wider (Err e) g = g

-- ---- the keys that an object may have

found_bytes : (p : List ℕ → Bool) (xs : List (List ℕ)) → AllOf Bytes xs → If Bytes (find p xs)
found_bytes p [] h = tt
found_bytes p (x ∷ xs) h = either (If Bytes) (p x) (Some x) (find p xs) h.0 (found_bytes p xs h.1)

known_reads : (key : List ℕ) (o : Option (List ℕ)) (all : Members) → Bytes key → If Bytes o → Reads Any (known key o all)
known_reads key None all b h = b
known_reads key (Some name) all b h = either (Reads Any) (is_twice name all) _ _ h tt

all_known_reads : (n : ℕ) (ms : Members) (names : List (List ℕ)) (all : Members) → AllOf Bytes names → GoodMembers n ms → Reads Any (all_known ms names all)
all_known_reads n no_members names all b h = tt
all_known_reads n (member k d ms) names all b h =
    bound Any Any (known k (field_of k names) all) _ (known_reads k (field_of k names) all h.0 (found_bytes (λ name. is_spelling k name) names b)) (λ t g. all_known_reads n ms names all b h.2)

pub only_reads : (n : ℕ) (ms : Members) (table : List ℕ) → AllOf Bytes (words table) → GoodMembers n ms → Reads Any (only ms table)
unfolding only
only_reads n ms table b h = all_known_reads n ms (words table) ms b h
