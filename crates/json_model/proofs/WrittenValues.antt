-- What is written for a value is read back as the value.
use Rattle.std.proofs.Common.{◌≡◌, ◌⊎◌, inl, inr, ℕ, zero, suc, ◌<◌, ◌^◌, ◌==◌, Bool, true, false, not, List, [], ◌∷◌, length, get_or, lit<, Option, Some, None, Result, Ok, decimal, refl, ap, ◌∙◌, arith}
use Rattle.std.specs.List.{AllByRecursion}
use Rattle.std.proofs.lemmas.Bool.{cond-true, lt-ltb}
use Rattle.std.proofs.lemmas.Bool.Decides.{nat_tests}
use Rattle.std.proofs.lemmas.Fmt.{digits_decimal, digits_value-decimal, first_decimal, decimal_nonempty, decimal_digit}
use Rattle.base64.specs.Engines.{standard}
use Rattle.base64.specs.GeneralPurpose.{encode_of, IsBytes}
use Rattle.base64.proofs.EngineFacts.{decode_of-encode_of}
use Rattle.serde_json.specs.Data.{Data, object, Items, no_items, item, Members}
use Rattle.etcd_types.proofs.Bools.{and_both}
use Rattle.json_model.specs.declared.fault.FieldFault.{FieldFault}
use Rattle.json_model.specs.Faults.{◌>>=◌}
use Rattle.json_model.specs.Base64.{or_else, decoded}
use Rattle.json_model.specs.FieldNames.{FieldName}
use Rattle.json_model.specs.Numbers.{begins_well, is_canonical, below, decimal_of}
use Rattle.json_model.specs.Fields as fields
use Rattle.json_model.specs.Fields.{present, read_or, number_from, signed_from, bytes_from, flag_from, choice_from, items_from, number_at, wide_at, signed_at, bytes_at, flag_at, choice_at, list_at, child_at, value_at, items_or_none, each}
use Rattle.json_model.specs.Written.{Field, members_of, number_value, bytes_value, flag_value, choice_value, list_value, text_of, items_of}
use Rattle.json_model.proofs.Decimals.{own}
use Rattle.json_model.proofs.WrittenObjects.{lookup, distinct, found_written}

not_eq : (a : ℕ) → 48 < a → not (a == 48) ≡ true
not_eq a h = grind (arith, nat_tests)

-- ---- decimal text

begins : (ds : List ℕ) → 0 < length ds → (48 < get_or ds 0 0) ⊎ (length ds ≡ 1) → begins_well ds ≡ true
begins [] some h = absurd (omega arith)
begins (d ∷ []) some h = refl
begins (d ∷ e ∷ ds) some (inl h) = not_eq d h
begins (d ∷ e ∷ ds) some (inr h) = absurd (omega arith)

decimal_begins : (n : ℕ) → n < 2 ^ 64 → begins_well (decimal n) ≡ true
decimal_begins zero h = ap begins_well (decimal_digit 0 (lit< tt))
decimal_begins (suc n) h = begins (decimal (suc n)) (decimal_nonempty (suc n) h) (inl (first_decimal (suc n) (omega arith) h))

decimal_canonical : (n : ℕ) → n < 2 ^ 64 → is_canonical (decimal n) ≡ true
decimal_canonical n h = and_both _ _ (decimal_begins n h) (digits_decimal own n h)

pub decimal_back : (limit n : ℕ) → n < limit → n < 2 ^ 64 → decimal_of limit (decimal n) ≡ Some n
decimal_back limit n within h =
    cond-true _ _ _ (decimal_canonical n h) ∙ ap (below limit) (digits_value-decimal own n h) ∙ cond-true _ _ _ (lt-ltb n limit within)

-- ---- each kind of value, as it is found

number_value_back : (limit : ℕ) (name : List ℕ) (n : ℕ) → n < limit → n < 2 ^ 64 → read_or 0 (number_from limit name) (present (number_value n)) ≡ Ok n
number_value_back limit name zero within h = refl
number_value_back limit name (suc n) within h = rw (decimal_back limit (suc n) within h) refl

bytes_decoded : (b : List ℕ) → IsBytes b → decoded (encode_of standard b) ≡ Some b
bytes_decoded b h = rw (decode_of-encode_of standard b refl h) refl

pub text_back : (name b : List ℕ) → IsBytes b → bytes_from name (text_of b) ≡ Ok b
text_back name b h = rw (bytes_decoded b h) refl

bytes_value_back : (name b : List ℕ) → IsBytes b → read_or [] (bytes_from name) (present (bytes_value b)) ≡ Ok b
bytes_value_back name [] h = refl
bytes_value_back name (x ∷ b) h = text_back name (x ∷ b) h

flag_value_back : (name : List ℕ) (b : Bool) → read_or false (flag_from name) (present (flag_value b)) ≡ Ok b
flag_value_back name true = refl
flag_value_back name false = refl

some_items : Items → Option Items
some_items no_items = None
some_items (item d ds) = Some (item d ds)

list_value_back : (name : List ℕ) (ds : Items) → read_or None (λ d. fields.some_of (items_from name d)) (present (list_value ds)) ≡ Ok (some_items ds)
unfolding some_items
list_value_back name no_items = refl
list_value_back name (item d ds) = refl

items_back : (ds : Items) → items_or_none (some_items ds) ≡ ds
unfolding some_items
items_back no_items = refl
items_back (item d ds) = refl

-- ---- the same as fields, where `o` is what stands under the field's two names

abbrev pub Found : FieldName → List Field → Option Data → Type 0
Found name fs o = or_else (lookup name.0 fs) (lookup name.1 fs) ≡ o

pub number_back : (name : FieldName) (fs : List Field) (n : ℕ) → distinct fs ≡ true → Found name fs (number_value n) → n < 2 ^ 63 → number_at name (members_of fs) ≡ Ok n
number_back name fs n e is h =
    let wide : n < 2 ^ 64 = omega arith in
    ap (read_or 0 (number_from (2 ^ 63) name.0)) (found_written name fs _ e is) ∙ number_value_back (2 ^ 63) name.0 n h wide

pub wide_back : (name : FieldName) (fs : List Field) (n : ℕ) → distinct fs ≡ true → Found name fs (number_value n) → n < 2 ^ 64 → wide_at name (members_of fs) ≡ Ok n
wide_back name fs n e is h = ap (read_or 0 (number_from (2 ^ 64) name.0)) (found_written name fs _ e is) ∙ number_value_back (2 ^ 64) name.0 n h h

pub bytes_back : (name : FieldName) (fs : List Field) (b : List ℕ) → distinct fs ≡ true → Found name fs (bytes_value b) → IsBytes b → bytes_at name (members_of fs) ≡ Ok b
bytes_back name fs b e is h = ap (read_or [] (bytes_from name.0)) (found_written name fs _ e is) ∙ bytes_value_back name.0 b h

pub flag_back : (name : FieldName) (fs : List Field) (b : Bool) → distinct fs ≡ true → Found name fs (flag_value b) → flag_at name (members_of fs) ≡ Ok b
flag_back name fs b e is = ap (read_or false (flag_from name.0)) (found_written name fs _ e is) ∙ flag_value_back name.0 b

-- a value that reads back alone reads back as a field
pub choice_back : (table : List ℕ) (name : FieldName) (fs : List Field) (n : ℕ) → distinct fs ≡ true → Found name fs (choice_value table n)
    → read_or 0 (choice_from table name.0) (present (choice_value table n)) ≡ Ok n → choice_at table name (members_of fs) ≡ Ok n
choice_back table name fs n e is h = ap (read_or 0 (choice_from table name.0)) (found_written name fs _ e is) ∙ h

pub child_back : (name : FieldName) (fs : List Field) (ms : Members) → distinct fs ≡ true → Found name fs (Some (object ms)) → child_at name (members_of fs) ≡ Ok (Some ms)
child_back name fs ms e is = ap (read_or None (λ d. fields.some_of (fields.members_from name.0 d))) (found_written name fs _ e is)

pub no_child : (name : FieldName) (fs : List Field) → distinct fs ≡ true → Found name fs None → child_at name (members_of fs) ≡ Ok None
no_child name fs e is = ap (read_or None (λ d. fields.some_of (fields.members_from name.0 d))) (found_written name fs _ e is)

-- a list is read back where each of its members is
pub each_back : {A : Type 0} (read : Data → Result A FieldFault) (write : A → Data) (xs : List A) → AllByRecursion (λ x. read (write x) ≡ Ok x) xs → each read (items_of write xs) ≡ Ok xs
each_back read write [] h = refl
each_back read write (x ∷ xs) h = rw (h.0, each_back read write xs h.1) refl

pub list_back : {A : Type 0} (name : FieldName) (fs : List Field) (read : Data → Result A FieldFault) (ds : Items) (xs : List A) → distinct fs ≡ true → Found name fs (list_value ds)
    → each read ds ≡ Ok xs → (list_at name (members_of fs) >>= λ o. each read (items_or_none o)) ≡ Ok xs
list_back name fs read ds xs e is h =
    ap (λ r. r >>= λ o. each read (items_or_none o)) (ap (read_or None (λ d. fields.some_of (items_from name.0 d))) (found_written name fs _ e is) ∙ list_value_back name.0 ds)
    ∙ ap (each read) (items_back ds) ∙ h
