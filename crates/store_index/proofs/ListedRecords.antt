-- What the entries of an ordered map show of a range has rising keys, and exactly the records of the range.
use Rattle.std.proofs.Common.{◌≡◌, ℕ, Bool, true, false, cond, not, List, [], ◌∷◌, Option, None, Some, map, filter, filter_map, Contains, ◌⊎◌, inl, inr, refl, sym, ◌∙◌, ap, subst, arith}
use Rattle.std.specs.List.{All, AllByRecursion, list_all, cons_option}
use Rattle.std.specs.List.Sorted.{IsStrictlySortedBy}
use Rattle.std.specs.Option.{unwrap_or}
use Rattle.std.specs.Ordering.{nat_cmp, is_le, eq_by_cmp, ordering_reverse}
use Rattle.std.specs.declared.cmp.Ordering.{Ordering}
use Rattle.std.specs.declared.cmp.Ordering.TheVariants.{Less}
use Rattle.std.specs.Cmp.Lexicographic.{slice_cmp}
use Rattle.std.specs.Map.{keys_of, lookup}
use Rattle.std.specs.BTreeMap.{is_at}
use Rattle.std.specs.Cmp.{eq_by_cmp_equiv}
use Rattle.std.proofs.lemmas.Cmp.{nat_list_cmp_total}
use Rattle.std.proofs.lemmas.List.Elements.{All-head, All-tail, All-contains_itself, All-weaker, Contains-append_left, Contains-append_right, Contains-append_cases, Contains-push, Contains-push_cases}
use Rattle.std.proofs.lemmas.Map.Views.{lookup-from_Contains}
use Rattle.std.proofs.lemmas.Map.Keys.{IsDistinct-from_sorted}
use Rattle.etcd_types.specs.declared.record.Kv.{Kv}
use Rattle.etcd_types.specs.declared.key_range.KeyRange.{KeyRange}
use Rattle.etcd_types.specs.Keys.{same, before}
use Rattle.etcd_types.specs.Ranges.{contains}
use Rattle.etcd_types.proofs.Bools.{and_both}
use Rattle.etcd_types.proofs.KeyOrder.{same-equal}
use Rattle.store_model.specs.History.{History}
use Rattle.store_model.specs.Records.{record_now}
use Rattle.store_model.specs.Ranges.{records_now}
use Rattle.store_model.specs.Leases.{record_key}
use Rattle.store_laws.specs.Requests.Ranges.{AreRising}
use Rattle.store_laws.proofs.Requests.RangeProofs.{keyed-now, ranges_rise, ranges_are_exact}
use Rattle.compaction_laws.proofs.SameRecords.{rising_same}
use Rattle.compaction_model.specs.declared.version.Version.{Version}
use Rattle.store_index.specs.Maps.{Entries, AreOrdered, versions_of, shown_by}
use Rattle.store_index.specs.Listings.{ListingsAreRanges}

abbrev Entry : Type 0
Entry = List ℕ × List Version

abbrev Read : Type 0
Read = List Version → Option Kv

-- an entry of the range is read as the history has its key
abbrev IsRead : Read → History → KeyRange → Entry → Type 0
IsRead read h range e = contains range e.0 ≡ true → read e.1 ≡ record_now h e.0

abbrev IsBefore : List ℕ → List ℕ → Type 0
IsBefore k q = slice_cmp nat_cmp k q ≡ Less

pub shown-cons : (read : Read) (range : KeyRange) (e : Entry) (es : Entries)
    → shown_by read range (e ∷ es) ≡ cond (contains range e.0) (cons_option (read e.1) (shown_by read range es)) (shown_by read range es)
shown-cons read range e es = by_test (contains range e.0)
  where
    by_test : (b : Bool) → filter_map (λ (f : Entry). read f.1) (cond b (e ∷ filter (λ (f : Entry). contains range f.0) es) (filter (λ (f : Entry). contains range f.0) es))
        ≡ cond b (cons_option (read e.1) (shown_by read range es)) (shown_by read range es)
    by_test true = refl
    by_test false = refl

-- rising keys

pub less_before : (a b : List ℕ) → IsBefore a b → before a b ≡ true
less_before a b e = ap (λ (o : Ordering). not (is_le o)) (nat_list_cmp_total.antisymm b a ∙ ap ordering_reverse e)

passed : (p : List ℕ → Bool) (h : History) (k : List ℕ) (b : Bool) (o : Option Kv) (rest : List Kv) → (b ≡ true → o ≡ record_now h k) → p k ≡ true
    → list_all p (map record_key rest) ≡ true → list_all p (map record_key (cond b (cons_option o rest) rest)) ≡ true
passed p h k false o rest e t a = a
passed p h k true None rest e t a = a
passed p h k true (Some kv) rest e t a = and_both (p kv.key) _ (ap p (keyed-now h k kv (sym (e refl))) ∙ t) a

all_behind : (read : Read) (h : History) (range : KeyRange) (k : List ℕ) (es : Entries) → AllByRecursion (IsBefore k) (keys_of es) → All (IsRead read h range) es
    → list_all (before k) (map record_key (shown_by read range es)) ≡ true
all_behind read h range k [] a r = refl
all_behind read h range k (e ∷ es) a r =
    subst (λ (kvs : List Kv). list_all (before k) (map record_key kvs) ≡ true) (sym (shown-cons read range e es))
    (passed (before k) h e.0 (contains range e.0) (read e.1) (shown_by read range es) (All-head (IsRead read h range) e es r) (less_before k e.0 a.0)
    (all_behind read h range k es a.1 (All-tail (IsRead read h range) e es r)))

rise_on : (h : History) (k : List ℕ) (b : Bool) (o : Option Kv) (rest : List Kv) → (b ≡ true → o ≡ record_now h k) → list_all (before k) (map record_key rest) ≡ true
    → AreRising (map record_key rest) → AreRising (map record_key (cond b (cons_option o rest) rest))
rise_on h k false o rest e a r = r
rise_on h k true None rest e a r = r
rise_on h k true (Some kv) rest e a r =
    (subst (λ (j : List ℕ). list_all (before j) (map record_key rest) ≡ true) (sym (keyed-now h k kv (sym (e refl)))) a, r)

shown_rise : (read : Read) (h : History) (range : KeyRange) (es : Entries) → IsStrictlySortedBy (slice_cmp nat_cmp) (keys_of es) → All (IsRead read h range) es
    → AreRising (map record_key (shown_by read range es))
unfolding IsStrictlySortedBy
shown_rise read h range [] s r = tt
shown_rise read h range (e ∷ es) s r =
    subst (λ (kvs : List Kv). AreRising (map record_key kvs)) (sym (shown-cons read range e es))
    (rise_on h e.0 (contains range e.0) (read e.1) (shown_by read range es) (All-head (IsRead read h range) e es r)
    (all_behind read h range e.0 es s.0 (All-tail (IsRead read h range) e es r)) (shown_rise read h range es s.1 (All-tail (IsRead read h range) e es r)))

-- what is shown is a record of the range

none_in : (x : Kv) → Contains [] x → ⊥
none_in x c = omega arith

first_or_later : (o : Option Kv) (rest : List Kv) (kv : Kv) → Contains (cons_option o rest) kv → (o ≡ Some kv) ⊎ Contains rest kv
first_or_later None rest kv c = inr c
first_or_later (Some other) rest kv c =
    elim (Contains-append_cases (other ∷ []) rest kv c) [
      | inl one ↦ inl (elim (Contains-push_cases [] other kv one) [ inl n ↦ absurd (none_in kv n) | inr e ↦ ap Some e ])
      | inr d ↦ inr d
    ]

was_shown : (h : History) (range : KeyRange) (k : List ℕ) (b : Bool) (o : Option Kv) (rest : List Kv) (kv : Kv) → contains range k ≡ b → (b ≡ true → o ≡ record_now h k)
    → (Contains rest kv → (record_now h kv.key ≡ Some kv) × (contains range kv.key ≡ true)) → Contains (cond b (cons_option o rest) rest) kv
    → (record_now h kv.key ≡ Some kv) × (contains range kv.key ≡ true)
was_shown h range k false o rest kv t e later c = later c
was_shown h range k true o rest kv t e later c =
    elim (first_or_later o rest kv c) [
      | inl f ↦
          let found : record_now h k ≡ Some kv = sym (e refl) ∙ f in
          let key : kv.key ≡ k = keyed-now h k kv found in
          (ap (record_now h) key ∙ found, ap (contains range) key ∙ t)
      | inr d ↦ later d
    ]

shown_are : (read : Read) (h : History) (range : KeyRange) (es : Entries) (kv : Kv) → All (IsRead read h range) es → Contains (shown_by read range es) kv
    → (record_now h kv.key ≡ Some kv) × (contains range kv.key ≡ true)
shown_are read h range [] kv r c = absurd (none_in kv c)
shown_are read h range (e ∷ es) kv r c =
    was_shown h range e.0 (contains range e.0) (read e.1) (shown_by read range es) kv refl (All-head (IsRead read h range) e es r)
    (λ d. shown_are read h range es kv (All-tail (IsRead read h range) e es r) d)
    (subst (λ (kvs : List Kv). Contains kvs kv) (shown-cons read range e es) c)

-- and every record of the range is shown

first_shown : (o : Option Kv) (rest : List Kv) (kv : Kv) → o ≡ Some kv → Contains (cons_option o rest) kv
first_shown o rest kv e = subst (λ (p : Option Kv). Contains (cons_option p rest) kv) (sym e) (Contains-append_left (kv ∷ []) rest kv (Contains-push [] kv))

later_shown : (b : Bool) (o : Option Kv) (rest : List Kv) (kv : Kv) → Contains rest kv → Contains (cond b (cons_option o rest) rest) kv
later_shown false o rest kv c = c
later_shown true None rest kv c = c
later_shown true (Some other) rest kv c = Contains-append_right (other ∷ []) rest kv c

found_shown : (read : Read) (range : KeyRange) (k : List ℕ) (kv : Kv) (es : Entries) → contains range k ≡ true → read [] ≡ None
    → read (versions_of es k) ≡ Some kv → Contains (shown_by read range es) kv
found_shown read range k kv [] i n e = absurd (cc)
found_shown read range k kv (f ∷ es) i n e =
    subst (λ (kvs : List Kv). Contains kvs kv) (sym (shown-cons read range f es)) (by_key (same k f.0) refl e (λ d. found_shown read range k kv es i n d))
  where
    by_key : (b : Bool) → same k f.0 ≡ b → read (unwrap_or (cond b (Some f.1) (lookup (is_at (slice_cmp nat_cmp k)) es)) []) ≡ Some kv
        → (read (versions_of es k) ≡ Some kv → Contains (shown_by read range es) kv)
        → Contains (cond (contains range f.0) (cons_option (read f.1) (shown_by read range es)) (shown_by read range es)) kv
    by_key true t g later =
        let within : contains range f.0 ≡ true = ap (contains range) (sym (same-equal k f.0 t)) ∙ i in
        subst (λ (b : Bool). Contains (cond b (cons_option (read f.1) (shown_by read range es)) (shown_by read range es)) kv) (sym within)
        (first_shown (read f.1) (shown_by read range es) kv g)
    by_key false t g later = later_shown (contains range f.0) (read f.1) (shown_by read range es) kv (later g)

pub there : (es : Entries) → AreOrdered es → (e : Entry) → Contains es e → lookup (is_at (slice_cmp nat_cmp e.0)) es ≡ Some e.1
there es ordered e c =
    lookup-from_Contains {eq = eq_by_cmp (slice_cmp nat_cmp)} (eq_by_cmp_equiv nat_list_cmp_total) e.0 e.1 es
    (IsDistinct-from_sorted (slice_cmp nat_cmp) (keys_of es) ordered) c

pub listings_are_ranges : ListingsAreRanges
listings_are_ranges es read h range ordered n reads =
    let all : All (IsRead read h range) es =
    All-weaker (Contains es) (IsRead read h range) (λ e f within. ap (λ (o : Option (List Version)). read (unwrap_or o [])) (sym (there es ordered e f)) ∙ reads e.0 within) es
    (All-contains_itself es) in
    rising_same (shown_by read range es) (records_now h range) (shown_rise read h range es ordered all) (ranges_rise h range)
    (λ kv c. (ranges_are_exact h range kv).1 (shown_are read h range es kv all c))
    (λ kv c. let is = (ranges_are_exact h range kv).0 c in found_shown read range kv.key kv es is.1 n (reads kv.key is.1 ∙ is.0))
