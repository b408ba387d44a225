-- A range shows exactly the records of its keys, in the order of the keys.
use Rattle.std.proofs.Common.{◌≡◌, ℕ, ◌+◌, Bool, true, false, cond, not, List, [], ◌∷◌, Option, None, Some, map, filter_map, Contains, ◌⊎◌, inl, inr, refl, sym, ◌∙◌, ap, subst, arith}
use Rattle.std.specs.List.{list_any, list_all, cons_option}
use Rattle.std.proofs.lemmas.List.Elements.{Contains-append_left, Contains-append_right, Contains-append_cases, Contains-push, Contains-push_cases}
use Rattle.etcd_types.specs.declared.record.Kv.{Kv}
use Rattle.etcd_types.specs.declared.key_range.KeyRange.{KeyRange}
use Rattle.etcd_types.specs.Keys.{up_to, before, same}
use Rattle.etcd_types.specs.Ranges.{contains}
use Rattle.etcd_types.specs.Records.{after_put}
use Rattle.etcd_types.proofs.Bools.{and_both, and_first, and_second, false_not, or_either, or_left, or_right}
use Rattle.etcd_types.proofs.KeyOrder.{not_up_to, same-equal, same-itself, up_to-before, up_to-both}
use Rattle.store_model.specs.declared.history.KeyChange.{KeyChange}
use Rattle.store_model.specs.declared.history.KeyChange.TheVariants.{Put, Delete}
use Rattle.store_model.specs.History.{History, changed_key}
use Rattle.store_model.specs.Records.{after_change, after_changes, after_revisions, record_now}
use Rattle.store_model.specs.Ranges.{with_key, with_changed_key, with_changed_keys, with_history_keys, keys_in, records_now}
use Rattle.store_model.specs.Leases.{record_key}
use Rattle.store_laws.specs.Requests.Ranges.{AreRising, RangesRise, RangesAreExact}

abbrev Key : Type 0
Key = List ℕ

-- not b, where b would make c hold, and c doesn't
not_from : (b c : Bool) → (b ≡ true → c ≡ true) → c ≡ false → not b ≡ true
not_from true c i e = absurd (cc (i refl))
not_from false c i e = refl

-- the order of keys

before_from : (l k : Key) → up_to l k ≡ true → same l k ≡ false → before l k ≡ true
before_from l k u s = not_from (up_to k l) (same l k) (λ v. up_to-both l k u v) s

all_along : (k l : Key) (ms : List Key) → up_to l k ≡ false → list_all (before l) ms ≡ true → list_all (before k) ms ≡ true
all_along k l [] u a = refl
all_along k l (m ∷ ms) u a =
    and_both (before k m) _ (up_to-before k l m (not_up_to l k u) (and_first (before l m) _ a)) (all_along k l ms u (and_second (before l m) _ a))

-- keys put in their places

all_by : (p : Key → Bool) (s u : Bool) (xs ys zs : List Key) → list_all p xs ≡ true → list_all p ys ≡ true → list_all p zs ≡ true
    → list_all p (cond s xs (cond u ys zs)) ≡ true
all_by p true u xs ys zs h k m = h
all_by p false true xs ys zs h k m = k
all_by p false false xs ys zs h k m = m

all-with_key : (p : Key → Bool) (k : Key) (ks : List Key) → p k ≡ true → list_all p ks ≡ true → list_all p (with_key k ks) ≡ true
all-with_key p k [] h a = and_both (p k) true h refl
all-with_key p k (l ∷ ls) h a =
    all_by p (same l k) (up_to l k) (l ∷ ls) (l ∷ with_key k ls) (k ∷ l ∷ ls)
    a
    (and_both (p l) _ (and_first (p l) _ a) (all-with_key p k ls h (and_second (p l) _ a)))
    (and_both (p k) _ h a)

rising_by : (k l : Key) (ls : List Key) (s u : Bool) → same l k ≡ s → up_to l k ≡ u → AreRising (l ∷ ls) → AreRising (with_key k ls)
    → AreRising (cond s (l ∷ ls) (cond u (l ∷ with_key k ls) (k ∷ l ∷ ls)))
rising_by k l ls true u e f r i = r
rising_by k l ls false true e f r i = (all-with_key (before l) k ls (before_from l k f e) r.0, i)
rising_by k l ls false false e f r i =
    (and_both (before k l) _ (false_not (up_to l k) f) (all_along k l ls f r.0), r)

rising-with_key : (k : Key) (ks : List Key) → AreRising ks → AreRising (with_key k ks)
rising-with_key k [] r = (refl, tt)
rising-with_key k (l ∷ ls) r = rising_by k l ls (same l k) (up_to l k) refl refl r (rising-with_key k ls r.1)

rising_either : (b : Bool) (xs ys : List Key) → AreRising xs → AreRising ys → AreRising (cond b xs ys)
rising_either true xs ys h k = h
rising_either false xs ys h k = k

rising-changes : (range : KeyRange) (cs : List KeyChange) (keys : List Key) → AreRising keys → AreRising (with_changed_keys range cs keys)
rising-changes range [] keys r = r
rising-changes range (c ∷ cs) keys r =
    rising-changes range cs (with_changed_key range c keys)
    (rising_either (contains range (changed_key c)) (with_key (changed_key c) keys) keys (rising-with_key (changed_key c) keys r) r)

rising-history : (range : KeyRange) (h : History) (keys : List Key) → AreRising keys → AreRising (with_history_keys range h keys)
rising-history range [] keys r = r
rising-history range (cs ∷ h) keys r = rising-history range h (with_changed_keys range cs keys) (rising-changes range cs keys r)

-- each key is in the range

within_either : (p : Key → Bool) (b : Bool) (xs ys : List Key) → (b ≡ true → list_all p xs ≡ true) → list_all p ys ≡ true → list_all p (cond b xs ys) ≡ true
within_either p true xs ys h k = h refl
within_either p false xs ys h k = k

within-changes : (range : KeyRange) (cs : List KeyChange) (keys : List Key) → list_all (contains range) keys ≡ true
    → list_all (contains range) (with_changed_keys range cs keys) ≡ true
within-changes range [] keys a = a
within-changes range (c ∷ cs) keys a =
    within-changes range cs (with_changed_key range c keys)
    (within_either (contains range) (contains range (changed_key c)) (with_key (changed_key c) keys) keys (λ e. all-with_key (contains range) (changed_key c) keys e a) a)

within-history : (range : KeyRange) (h : History) (keys : List Key) → list_all (contains range) keys ≡ true
    → list_all (contains range) (with_history_keys range h keys) ≡ true
within-history range [] keys a = a
within-history range (cs ∷ h) keys a = within-history range h (with_changed_keys range cs keys) (within-changes range cs keys a)

-- which keys are there

has_key : Key → List Key → Bool
has_key k ks = list_any (same k) ks

has_itself : (k : Key) (ks : List Key) → has_key k (k ∷ ks) ≡ true
unfolding has_key
has_itself k ks = or_left (same k k) _ (same-itself k)

has_by : (x : Key) (s u : Bool) (xs ys zs : List Key) → (s ≡ true → has_key x xs ≡ true) → has_key x ys ≡ true → has_key x zs ≡ true
    → has_key x (cond s xs (cond u ys zs)) ≡ true
has_by x true u xs ys zs h k m = h refl
has_by x false true xs ys zs h k m = k
has_by x false false xs ys zs h k m = m

has-with_key : (k : Key) (ks : List Key) → has_key k (with_key k ks) ≡ true
unfolding has_key
has-with_key k [] = has_itself k []
has-with_key k (l ∷ ls) =
    has_by k (same l k) (up_to l k) (l ∷ ls) (l ∷ with_key k ls) (k ∷ l ∷ ls)
    (λ e. subst (λ (j : Key). has_key j (l ∷ ls) ≡ true) (same-equal l k e) (has_itself l ls))
    (or_right (same k l) _ (has-with_key k ls))
    (has_itself k (l ∷ ls))

still-with_key : (x k : Key) (ks : List Key) → has_key x ks ≡ true → has_key x (with_key k ks) ≡ true
unfolding has_key
still-with_key x k [] e = absurd (cc)
still-with_key x k (l ∷ ls) e =
    has_by x (same l k) (up_to l k) (l ∷ ls) (l ∷ with_key k ls) (k ∷ l ∷ ls)
    (λ s. e)
    (elim (or_either (same x l) _ e) [ inl s ↦ or_left (same x l) _ s | inr t ↦ or_right (same x l) _ (still-with_key x k ls t) ])
    (or_right (same x k) _ e)

has_either : (x : Key) (b : Bool) (xs ys : List Key) → has_key x xs ≡ true → has_key x ys ≡ true → has_key x (cond b xs ys) ≡ true
has_either x true xs ys h k = h
has_either x false xs ys h k = k

-- where a record is there, its key is among the keys
Known : Key → Option Kv → List Key → Type 0
Known x old keys = (kv : Kv) → old ≡ Some kv → has_key x keys ≡ true

still-changed : (range : KeyRange) (x : Key) (c : KeyChange) (keys : List Key) → has_key x keys ≡ true → has_key x (with_changed_key range c keys) ≡ true
still-changed range x c keys e =
    has_either x (contains range (changed_key c)) (with_key (changed_key c) keys) keys (still-with_key x (changed_key c) keys e) e

has-changed : (range : KeyRange) (x : Key) (c : KeyChange) (keys : List Key) → contains range x ≡ true → same (changed_key c) x ≡ true
    → has_key x (with_changed_key range c keys) ≡ true
has-changed range x c keys i e =
    subst (λ (j : Key). contains range j ≡ true → has_key j (with_changed_key range c keys) ≡ true) (same-equal (changed_key c) x e)
    (λ j. rw j (has-with_key (changed_key c) keys)) i

known_by : (range : KeyRange) (x : Key) (c : KeyChange) (keys : List Key) (b : Bool) (new old : Option Kv) → contains range x ≡ true
    → (b ≡ true → same (changed_key c) x ≡ true) → Known x old keys → Known x (cond b new old) (with_changed_key range c keys)
unfolding Known
known_by range x c keys true new old i s n = λ kv e. has-changed range x c keys i (s refl)
known_by range x c keys false new old i s n = λ kv e. still-changed range x c keys (n kv e)

known-change : (range : KeyRange) (revision : ℕ) (x : Key) (c : KeyChange) (old : Option Kv) (keys : List Key) → contains range x ≡ true
    → Known x old keys → Known x (after_change revision x c old) (with_changed_key range c keys)
known-change range revision x (Put key value lease) old keys i n =
    known_by range x (Put key value lease) keys (same key x) (Some (after_put old x value lease revision)) old i (λ e. e) n
known-change range revision x (Delete key) old keys i n = known_by range x (Delete key) keys (same key x) None old i (λ e. e) n

known-changes : (range : KeyRange) (revision : ℕ) (x : Key) (cs : List KeyChange) (old : Option Kv) (keys : List Key) → contains range x ≡ true
    → Known x old keys → Known x (after_changes revision x cs old) (with_changed_keys range cs keys)
known-changes range revision x [] old keys i n = n
known-changes range revision x (c ∷ cs) old keys i n =
    known-changes range revision x cs (after_change revision x c old) (with_changed_key range c keys) i (known-change range revision x c old keys i n)

known-history : (range : KeyRange) (revision : ℕ) (x : Key) (h : History) (old : Option Kv) (keys : List Key) → contains range x ≡ true
    → Known x old keys → Known x (after_revisions revision x h old) (with_history_keys range h keys)
known-history range revision x [] old keys i n = n
known-history range revision x (cs ∷ h) old keys i n =
    known-history range (revision + 1) x h (after_changes revision x cs old) (with_changed_keys range cs keys) i (known-changes range revision x cs old keys i n)

known-now : (h : History) (range : KeyRange) (x : Key) (kv : Kv) → contains range x ≡ true → record_now h x ≡ Some kv → has_key x (keys_in h range) ≡ true
unfolding Known
known-now h range x kv i e = known-history range 2 x h None [] i (λ kv e. absurd (cc)) kv e

-- a record has the key that it was looked up by
Keyed : Key → Option Kv → Type 0
Keyed x old = (kv : Kv) → old ≡ Some kv → kv.key ≡ x

put_key_is : (old : Option Kv) (x value : List ℕ) (lease revision : ℕ) → (after_put old x value lease revision).key ≡ x
put_key_is None x value lease revision = refl
put_key_is (Some kv) x value lease revision = refl

keyed_by : (x : Key) (b : Bool) (new old : Option Kv) → Keyed x new → Keyed x old → Keyed x (cond b new old)
keyed_by x true new old h k = h
keyed_by x false new old h k = k

keyed-change : (revision : ℕ) (x : Key) (c : KeyChange) (old : Option Kv) → Keyed x old → Keyed x (after_change revision x c old)
unfolding Keyed
keyed-change revision x (Put key value lease) old k =
    keyed_by x (same key x) (Some (after_put old x value lease revision)) old
    (λ kv e. let f : kv ≡ after_put old x value lease revision = cc in ap record_key f ∙ put_key_is old x value lease revision) k
keyed-change revision x (Delete key) old k = keyed_by x (same key x) None old (λ kv e. absurd (cc)) k

keyed-changes : (revision : ℕ) (x : Key) (cs : List KeyChange) (old : Option Kv) → Keyed x old → Keyed x (after_changes revision x cs old)
keyed-changes revision x [] old k = k
keyed-changes revision x (c ∷ cs) old k = keyed-changes revision x cs (after_change revision x c old) (keyed-change revision x c old k)

keyed-history : (revision : ℕ) (x : Key) (h : History) (old : Option Kv) → Keyed x old → Keyed x (after_revisions revision x h old)
keyed-history revision x [] old k = k
keyed-history revision x (cs ∷ h) old k = keyed-history (revision + 1) x h (after_changes revision x cs old) (keyed-changes revision x cs old k)

pub keyed-now : (h : History) (x : Key) (kv : Kv) → record_now h x ≡ Some kv → kv.key ≡ x
unfolding Keyed
keyed-now h x kv e = keyed-history 2 x h None (λ kv e. absurd (cc)) kv e

-- the records of the keys

all_shown : (p : Key → Bool) (h : History) (o : Option Kv) (k : Key) (rest : List Kv) → record_now h k ≡ o → p k ≡ true → list_all p (map record_key rest) ≡ true
    → list_all p (map record_key (cons_option o rest)) ≡ true
all_shown p h None k rest e a b = b
all_shown p h (Some kv) k rest e a b = and_both (p kv.key) _ (subst (λ (j : Key). p j ≡ true) (sym (keyed-now h k kv e)) a) b

pub all-records : (p : Key → Bool) (h : History) (ks : List Key) → list_all p ks ≡ true → list_all p (map record_key (filter_map (record_now h) ks)) ≡ true
all-records p h [] a = refl
all-records p h (k ∷ ks) a =
    all_shown p h (record_now h k) k (filter_map (record_now h) ks) refl (and_first (p k) _ a) (all-records p h ks (and_second (p k) _ a))

rising_shown : (h : History) (o : Option Kv) (k : Key) (rest : List Kv) → record_now h k ≡ o → list_all (before k) (map record_key rest) ≡ true
    → AreRising (map record_key rest) → AreRising (map record_key (cons_option o rest))
rising_shown h None k rest e a r = r
rising_shown h (Some kv) k rest e a r =
    (subst (λ (j : Key). list_all (before j) (map record_key rest) ≡ true) (sym (keyed-now h k kv e)) a, r)

rising-records : (h : History) (ks : List Key) → AreRising ks → AreRising (map record_key (filter_map (record_now h) ks))
rising-records h [] r = tt
rising-records h (k ∷ ks) r =
    rising_shown h (record_now h k) k (filter_map (record_now h) ks) refl (all-records (before k) h ks r.0) (rising-records h ks r.1)

pub ranges_rise : RangesRise
ranges_rise h range = rising-records h (keys_in h range) (rising-history range h [] tt)

-- every record of a range has its key there
pub records-within : (h : History) (range : KeyRange) → list_all (contains range) (map record_key (records_now h range)) ≡ true
records-within h range = all-records (contains range) h (keys_in h range) (within-history range h [] refl)

contains_first : (o : Option Kv) (rest : List Kv) (kv : Kv) → o ≡ Some kv → Contains (cons_option o rest) kv
contains_first o rest kv e = subst (λ (p : Option Kv). Contains (cons_option p rest) kv) (sym e) (Contains-append_left (kv ∷ []) rest kv (Contains-push [] kv))

contains_later : (o : Option Kv) (rest : List Kv) (kv : Kv) → Contains rest kv → Contains (cons_option o rest) kv
contains_later None rest kv c = c
contains_later (Some other) rest kv c = Contains-append_right (other ∷ []) rest kv c

shown_there : (h : History) (ks : List Key) (k : Key) (kv : Kv) → has_key k ks ≡ true → record_now h k ≡ Some kv → Contains (filter_map (record_now h) ks) kv
unfolding has_key
shown_there h [] k kv e r = absurd (cc)
shown_there h (l ∷ ls) k kv e r =
    elim (or_either (same k l) _ e) [
      | inl s ↦ contains_first (record_now h l) (filter_map (record_now h) ls) kv (ap (record_now h) (sym (same-equal k l s)) ∙ r)
      | inr t ↦ contains_later (record_now h l) (filter_map (record_now h) ls) kv (shown_there h ls k kv t r)
    ]

there_cases : (o : Option Kv) (rest : List Kv) (kv : Kv) → Contains (cons_option o rest) kv → (o ≡ Some kv) ⊎ Contains rest kv
there_cases None rest kv c = inr c
there_cases (Some other) rest kv c =
    elim (Contains-append_cases (other ∷ []) rest kv c) [
      | inl one ↦ inl (ap Some (only_one other kv one))
      | inr d ↦ inr d
    ]
  where
    only_one : (other kv : Kv) → Contains (other ∷ []) kv → other ≡ kv
    only_one other kv c =
        elim (Contains-push_cases [] other kv c) [ inl none ↦ absurd (nothing_in kv none) | inr e ↦ e ]
      where
        nothing_in : (kv : Kv) → Contains [] kv → ⊥
        nothing_in kv c = omega arith

there_shown : (p : Key → Bool) (h : History) (ks : List Key) (kv : Kv) → list_all p ks ≡ true → Contains (filter_map (record_now h) ks) kv
    → (record_now h kv.key ≡ Some kv) × (p kv.key ≡ true)
there_shown p h [] kv a c = absurd (nothing kv c)
  where
    nothing : (kv : Kv) → Contains [] kv → ⊥
    nothing kv c = omega arith
there_shown p h (k ∷ ks) kv a c =
    elim (there_cases (record_now h k) (filter_map (record_now h) ks) kv c) [
      | inl e ↦
          let key = keyed-now h k kv e in
          (ap (record_now h) key ∙ e, subst (λ (j : Key). p j ≡ true) (sym key) (and_first (p k) _ a))
      | inr d ↦ there_shown p h ks kv (and_second (p k) _ a) d
    ]

pub ranges_are_exact : RangesAreExact
ranges_are_exact h range kv = (
  λ c. there_shown (contains range) h (keys_in h range) kv (within-history range h [] refl) c,
  λ (e, i). shown_there h (keys_in h range) kv.key kv (known-now h range kv.key kv i e) e,
)
