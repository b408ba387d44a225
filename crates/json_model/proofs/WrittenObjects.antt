-- Objects by their fields: what is found in them, and which keys they have.
use Rattle.std.proofs.Common.{◌≡◌, ℕ, Bool, true, false, cond, ◌&&◌, ◌||◌, not, List, [], ◌∷◌, Option, Some, None, Result, Ok, Err, Ordering, Less, Equal, Greater, refl, sym, ap, ◌∙◌, subst, true≢false, nat_cmp}
use Rattle.std.specs.Prelude.{⊤}
use Rattle.std.specs.Str.{bytes_eq}
use Rattle.std.specs.List.{list_all}
use Rattle.std.specs.Ordering.{match_ordering}
use Rattle.std.specs.Cmp.Lexicographic.{slice_cmp}
use Rattle.std.proofs.lemmas.Bool.{and_parts, or_parts}
use Rattle.std.proofs.lemmas.Slice.Eq.{bytes_eq-Decides}
use Rattle.serde_json.specs.Data.{Data, Members, no_members, member, put}
use Rattle.serde_json.specs.Find.{get_member}
use Rattle.serde_json.proofs.Views.{get_member-put, get_member-put_other}
use Rattle.etcd_types.proofs.Bools.{or_none, not_true}
use Rattle.json_model.specs.declared.fault.FieldFault.{FieldFault}
use Rattle.json_model.specs.Faults.{◌>>=◌}
use Rattle.json_model.specs.Base64.{or_else}
use Rattle.json_model.specs.Names.{words, camel, field_of}
use Rattle.json_model.specs.FieldNames.{FieldName}
use Rattle.json_model.specs.Fields.{present, value_at}
use Rattle.json_model.specs.Known.{has_key, is_twice, known, all_known, only, first_twice, unless_twice, once}
use Rattle.json_model.specs.Written.{Field, with_field, with_fields, members_of}

-- the value of the field of this name
abbrev pub lookup : List ℕ → List Field → Option Data
lookup q [] = None
lookup q (f ∷ fs) = cond (bytes_eq f.0 q) f.1 (lookup q fs)

abbrev pub has_name : List ℕ → List Field → Bool
has_name q [] = false
has_name q (f ∷ fs) = bytes_eq f.0 q || has_name q fs

-- no name stands twice
abbrev pub distinct : List Field → Bool
distinct [] = true
distinct (f ∷ fs) = not (has_name f.0 fs) && distinct fs

-- ---- names

is_same : (p q : List ℕ) → bytes_eq p q ≡ true → p ≡ q
is_same p q e = (bytes_eq-Decides p q).0 e

is_other : (p q : List ℕ) → bytes_eq p q ≡ false → p ≡ q → ⊥
is_other p q e s = true≢false (sym ((bytes_eq-Decides p q).1 s) ∙ e)

-- ---- what is found

else_none : {A : Type 0} (o : Option A) → or_else o None ≡ o
else_none None = refl
else_none (Some x) = refl

-- what is found with other fields laid over what was there
abbrev lookup_over : List ℕ → List Field → Option Data → Option Data
lookup_over q [] under = under
lookup_over q (f ∷ fs) under = cond (bytes_eq f.0 q) (or_else f.1 under) (lookup_over q fs under)

lookup_bare : (q : List ℕ) (fs : List Field) → lookup_over q fs None ≡ lookup q fs
lookup_bare q [] = refl
lookup_bare q (f ∷ fs) = ap₃ (bytes_eq f.0 q) (else_none f.1) (lookup_bare q fs)
  where
    ap₃ : (b : Bool) {x y u v : Option Data} → x ≡ y → u ≡ v → cond b x u ≡ cond b y v
    ap₃ true e f = e
    ap₃ false e f = f

absent : (q : List ℕ) (fs : List Field) (under : Option Data) → has_name q fs ≡ false → lookup_over q fs under ≡ under
absent q [] under e = refl
absent q (f ∷ fs) under e = let p = or_parts (bytes_eq f.0 q) _ e in rw p.0 (absent q fs under p.1)

get_same : (q : List ℕ) (o : Option Data) (ms : Members) → get_member q (with_field q o ms) ≡ or_else o (get_member q ms)
get_same q None ms = refl
get_same q (Some d) ms = get_member-put q d ms

get_other : (q k : List ℕ) (o : Option Data) (ms : Members) → (q ≡ k → ⊥) → get_member q (with_field k o ms) ≡ get_member q ms
get_other q k None ms other = refl
get_other q k (Some d) ms other = get_member-put_other q k d ms other

get_first : (q : List ℕ) (f : Field) (fs : List Field) (ms : Members) (b : Bool) → bytes_eq f.0 q ≡ b → has_name f.0 fs ≡ false
    → lookup_over q fs (get_member q (with_field f.0 f.1 ms)) ≡ cond b (or_else f.1 (get_member q ms)) (lookup_over q fs (get_member q ms))
get_first q f fs ms true is none =
    let e = is_same f.0 q is in
    absent q fs _ (subst (λ (n : List ℕ). has_name n fs ≡ false) e none)
    ∙ subst (λ (n : List ℕ). get_member n (with_field f.0 f.1 ms) ≡ or_else f.1 (get_member n ms)) e (get_same f.0 f.1 ms)
get_first q f fs ms false is none = ap (lookup_over q fs) (get_other q f.0 f.1 ms (λ e. is_other f.0 q is (sym e)))

get_over : (q : List ℕ) (fs : List Field) (ms : Members) → distinct fs ≡ true → get_member q (with_fields ms fs) ≡ lookup_over q fs (get_member q ms)
get_over q [] ms e = refl
get_over q (f ∷ fs) ms e =
    let p = and_parts (not (has_name f.0 fs)) _ e in
    get_over q fs (with_field f.0 f.1 ms) p.1 ∙ get_first q f fs ms _ refl (not_true _ p.0)

pub get_written : (q : List ℕ) (fs : List Field) → distinct fs ≡ true → get_member q (members_of fs) ≡ lookup q fs
get_written q fs e = get_over q fs no_members e ∙ lookup_bare q fs

pub found_written : (name : FieldName) (fs : List Field) (o : Option Data) → distinct fs ≡ true → or_else (lookup name.0 fs) (lookup name.1 fs) ≡ o → value_at name (members_of fs) ≡ present o
found_written name fs o e is = ap present (ap₂ (get_written name.0 fs e) (get_written name.1 fs e) ∙ is)
  where
    ap₂ : {x y u v : Option Data} → x ≡ y → u ≡ v → or_else x u ≡ or_else y v
    ap₂ e f = λ i. or_else (e i) (f i)

-- a field with one name, and one whose other name isn't there
pub one_name : (o : Option Data) → or_else o o ≡ o
one_name None = refl
one_name (Some d) = refl

pub two_names : (o : Option Data) → or_else o None ≡ o
two_names o = else_none o

-- ---- which keys are there

no_key_put : (q k : List ℕ) (d : Data) (ms : Members) → bytes_eq k q ≡ false → has_key q ms ≡ false → has_key q (put k d ms) ≡ false
no_key_put q k d no_members e h = or_none _ _ e h
no_key_put q k d (member l x ms) e h =
    let p = or_parts (bytes_eq l q) _ h in
    placed (slice_cmp nat_cmp k l) _ _ _ (or_none _ _ e h) (or_none _ _ p.0 p.1) (or_none _ _ p.0 (no_key_put q k d ms e p.1))
  where
    placed : (o : Ordering) (a b c : Members) → has_key q a ≡ false → has_key q b ≡ false → has_key q c ≡ false → has_key q (match_ordering o a b c) ≡ false
    placed Less a b c x y z = x
    placed Equal a b c x y z = y
    placed Greater a b c x y z = z

no_key_field : (q k : List ℕ) (o : Option Data) (ms : Members) → bytes_eq k q ≡ false → has_key q ms ≡ false → has_key q (with_field k o ms) ≡ false
no_key_field q k None ms e h = h
no_key_field q k (Some d) ms e h = no_key_put q k d ms e h

no_key : (q : List ℕ) (fs : List Field) (ms : Members) → has_name q fs ≡ false → has_key q ms ≡ false → has_key q (with_fields ms fs) ≡ false
no_key q [] ms e h = h
no_key q (f ∷ fs) ms e h = let p = or_parts (bytes_eq f.0 q) _ e in no_key q fs (with_field f.0 f.1 ms) p.1 (no_key_field q f.0 f.1 ms p.0 h)

-- the field isn't there under its other name
abbrev pub is_single : List Field → List ℕ → Bool
is_single fs name = bytes_eq name (camel name) || not (has_name (camel name) fs)

abbrev pub is_known : List Field → Option (List ℕ) → Bool
is_known fs None = false
is_known fs (Some name) = is_single fs name

and_absent : (a b : Bool) → b ≡ false → a && b ≡ false
and_absent true b e = e
and_absent false b e = refl

single_by : (fs : List Field) (name : List ℕ) (b : Bool) → bytes_eq name (camel name) ≡ b → b || not (has_name (camel name) fs) ≡ true → is_twice name (members_of fs) ≡ false
single_by fs name true is e = rw is refl
single_by fs name false is e =
    and_absent (not (bytes_eq name (camel name)) && has_key name (members_of fs)) _ (no_key (camel name) fs no_members (not_true _ e) refl)

not_twice : (fs : List Field) (name : List ℕ) → is_single fs name ≡ true → is_twice name (members_of fs) ≡ false
not_twice fs name e = single_by fs name _ refl e

known_ok : (fs : List Field) (key : List ℕ) (o : Option (List ℕ)) → is_known fs o ≡ true → known key o (members_of fs) ≡ Ok tt
known_ok fs key None e = absurd (cc)
known_ok fs key (Some name) e = rw (not_twice fs name e) refl

both_ok : (r s : Result ⊤ FieldFault) → r ≡ Ok tt → s ≡ Ok tt → (r >>= λ done. s) ≡ Ok tt
both_ok r s e f = ap (λ q. q >>= λ done. s) e ∙ f

ok_parts : (r s : Result ⊤ FieldFault) → (r >>= λ done. s) ≡ Ok tt → (r ≡ Ok tt) × (s ≡ Ok tt)
ok_parts (Ok done) s e = (refl, e)
ok_parts (Err fault) s e = absurd (cc)

known_put : (names : List (List ℕ)) (all : Members) (k : List ℕ) (d : Data) (ms : Members) → known k (field_of k names) all ≡ Ok tt → all_known ms names all ≡ Ok tt → all_known (put k d ms) names all ≡ Ok tt
known_put names all k d no_members e h = both_ok _ _ e h
known_put names all k d (member l x ms) e h =
    let p = ok_parts (known l (field_of l names) all) _ h in
    placed (slice_cmp nat_cmp k l) _ _ _ (both_ok _ _ e h) (both_ok _ _ p.0 p.1) (both_ok _ _ p.0 (known_put names all k d ms e p.1))
  where
    placed : (o : Ordering) (a b c : Members) → all_known a names all ≡ Ok tt → all_known b names all ≡ Ok tt → all_known c names all ≡ Ok tt → all_known (match_ordering o a b c) names all ≡ Ok tt
    placed Less a b c x y z = x
    placed Equal a b c x y z = y
    placed Greater a b c x y z = z

known_field : (names : List (List ℕ)) (all : Members) (k : List ℕ) (o : Option Data) (ms : Members) → known k (field_of k names) all ≡ Ok tt → all_known ms names all ≡ Ok tt → all_known (with_field k o ms) names all ≡ Ok tt
known_field names all k None ms e h = h
known_field names all k (Some d) ms e h = known_put names all k d ms e h

known_fields : (names : List (List ℕ)) (whole fs : List Field) (ms : Members) → list_all (λ f. is_known whole (field_of f.0 names)) fs ≡ true → all_known ms names (members_of whole) ≡ Ok tt
    → all_known (with_fields ms fs) names (members_of whole) ≡ Ok tt
known_fields names whole [] ms e h = h
known_fields names whole (f ∷ fs) ms e h =
    let p = and_parts (is_known whole (field_of f.0 names)) _ e in
    known_fields names whole fs (with_field f.0 f.1 ms) p.1 (known_field names (members_of whole) f.0 f.1 ms (known_ok whole f.0 (field_of f.0 names) p.0) h)

-- what is written has known keys alone
pub only_written : (allowed : List ℕ) (fs : List Field) → list_all (λ f. is_known fs (field_of f.0 (words allowed))) fs ≡ true → only (members_of fs) allowed ≡ Ok tt
unfolding only
only_written allowed fs e = known_fields (words allowed) fs fs no_members e refl

none_twice : (fs : List Field) (names : List (List ℕ)) → list_all (is_single fs) names ≡ true → first_twice names (members_of fs) ≡ None
none_twice fs [] e = refl
none_twice fs (name ∷ names) e = let p = and_parts (is_single fs name) _ e in rw (not_twice fs name p.0) (none_twice fs names p.1)

pub once_written : (names : List ℕ) (fs : List Field) → list_all (is_single fs) (words names) ≡ true → once (members_of fs) names ≡ Ok tt
unfolding once
once_written names fs e = ap unless_twice (none_twice fs (words names) e)
