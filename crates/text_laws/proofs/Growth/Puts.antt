-- Each record is of a key that was put, and the records of a range have different keys; so there are no more of them than puts.
use Rattle.std.proofs.Common.{◌≡◌, ◌⊎◌, inl, inr, ℕ, suc, ◌+◌, ◌≤◌, Bool, true, false, cond, List, [], ◌∷◌, ◌++◌, length, map, Option, None, Some, Contains, refl, sym, subst, arith}
use Rattle.std.specs.List.{list_all}
use Rattle.etcd_types.proofs.Bools.{and_first, and_second}
use Rattle.etcd_types.proofs.KeyOrder.{same-equal, not_before_itself}
use Rattle.etcd_types.specs.Keys.{same, before}
use Rattle.etcd_types.specs.declared.record.Kv.{Kv}
use Rattle.etcd_types.specs.Records.{after_put}
use Rattle.store_model.specs.declared.history.KeyChange.{KeyChange}
use Rattle.store_model.specs.declared.history.KeyChange.TheVariants.{Put, Delete}
use Rattle.store_model.specs.History.{History}
use Rattle.store_model.specs.Leases.{record_key}
use Rattle.store_model.specs.Ranges.{records_now}
use Rattle.store_model.specs.Records.{after_change, after_changes, after_revisions, record_now}
use Rattle.store_laws.specs.Requests.Ranges.{AreRising}
use Rattle.store_laws.proofs.Requests.RangeProofs.{ranges_rise, ranges_are_exact}
use Rattle.text_laws.specs.Values.Fits.{AllOf}
use Rattle.text_laws.proofs.Values.Alls.{length_map}
use Rattle.text_laws.specs.Growth.Growth.{put_keys, keys_put, RecordsWerePut}

abbrev Key : Type 0
Key = List ℕ

abbrev In : Key → List Key → Type 0
In k [] = ⊥
In k (x ∷ xs) = (k ≡ x) ⊎ In k xs

in_left : (k : Key) (xs ys : List Key) → In k xs → In k (xs ++ ys)
in_left k [] ys h = absurd h
in_left k (x ∷ xs) ys (inl e) = inl e
in_left k (x ∷ xs) ys (inr h) = inr (in_left k xs ys h)

in_right : (k : Key) (xs ys : List Key) → In k ys → In k (xs ++ ys)
in_right k [] ys h = h
in_right k (x ∷ xs) ys h = inr (in_right k xs ys h)

-- ---- a record is of a key that was put

abbrev IsThere : Option Kv → Type 0
IsThere None = ⊥
IsThere (Some kv) = Unit {0}

change_puts : (revision : ℕ) (k : Key) (c : KeyChange) (cs : List KeyChange) (old : Option Kv) → IsThere (after_change revision k c old) → In k (put_keys (c ∷ cs)) ⊎ IsThere old
change_puts revision k (Put key value lease) cs old h = by_test (same key k) refl h
  where
    by_test : (b : Bool) → same key k ≡ b → IsThere (cond b (Some (after_put old k value lease revision)) old) → In k (key ∷ put_keys cs) ⊎ IsThere old
    by_test true e g = inl (inl (sym (same-equal key k e)))
    by_test false e g = inr g
change_puts revision k (Delete key) cs old h = by_test (same key k) h
  where
    by_test : (b : Bool) → IsThere (cond b None old) → In k (put_keys cs) ⊎ IsThere old
    by_test true g = absurd g
    by_test false g = inr g

wider : (k : Key) (c : KeyChange) (cs : List KeyChange) → In k (put_keys cs) → In k (put_keys (c ∷ cs))
wider k (Put key value lease) cs h = inr h
wider k (Delete key) cs h = h

changes_put : (revision : ℕ) (k : Key) (cs : List KeyChange) (old : Option Kv) → IsThere (after_changes revision k cs old) → In k (put_keys cs) ⊎ IsThere old
changes_put revision k [] old h = inr h
changes_put revision k (c ∷ cs) old h = by_rest (changes_put revision k cs (after_change revision k c old) h)
  where
    by_rest : In k (put_keys cs) ⊎ IsThere (after_change revision k c old) → In k (put_keys (c ∷ cs)) ⊎ IsThere old
    by_rest (inl i) = inl (wider k c cs i)
    by_rest (inr g) = change_puts revision k c cs old g

revisions_put : (revision : ℕ) (k : Key) (h : History) (old : Option Kv) → IsThere (after_revisions revision k h old) → In k (keys_put h) ⊎ IsThere old
revisions_put revision k [] old g = inr g
revisions_put revision k (cs ∷ h) old g = by_rest (revisions_put (revision + 1) k h (after_changes revision k cs old) g)
  where
    by_first : In k (put_keys cs) ⊎ IsThere old → In k (put_keys cs ++ keys_put h) ⊎ IsThere old
    by_first (inl i) = inl (in_left k (put_keys cs) (keys_put h) i)
    by_first (inr f) = inr f

    by_rest : In k (keys_put h) ⊎ IsThere (after_changes revision k cs old) → In k (put_keys cs ++ keys_put h) ⊎ IsThere old
    by_rest (inl i) = inl (in_right k (put_keys cs) (keys_put h) i)
    by_rest (inr f) = by_first (changes_put revision k cs old f)

was_put : (h : History) (kv : Kv) → record_now h kv.key ≡ Some kv → In kv.key (keys_put h)
was_put h kv e = by_none (revisions_put 2 kv.key h None (subst IsThere (sym e) tt))
  where
    by_none : In kv.key (keys_put h) ⊎ IsThere None → In kv.key (keys_put h)
    by_none (inl i) = i
    by_none (inr f) = absurd f

-- ---- different keys of a list are no more than it has

-- without one of a key
record Without (k : Key) (ls : List Key) : Type 0 where
  rest : List Key
  count : length ls ≡ suc (length rest)
  others : (j : Key) → (j ≡ k → ⊥) → In j ls → In j rest

other_first : (k x j : Key) (xs : List Key) → k ≡ x → (j ≡ k → ⊥) → (j ≡ x) ⊎ In j xs → In j xs
other_first k x j xs e n (inl f) = absurd (n (cc))
other_first k x j xs e n (inr i) = i

other_rest : (k x j : Key) (xs : List Key) (v : Without k xs) → (j ≡ k → ⊥) → (j ≡ x) ⊎ In j xs → In j (x ∷ v.rest)
other_rest k x j xs v n (inl f) = inl f
other_rest k x j xs v n (inr i) = inr (v.others j n i)

without : (k : Key) (ls : List Key) → In k ls → Without k ls
without k [] h = absurd h
without k (x ∷ xs) (inl e) = record { rest = xs; count = refl; others = λ j n i. other_first k x j xs e n i }
without k (x ∷ xs) (inr h) =
    let v = without k xs h in
    let c = v.count in
    record { rest = x ∷ v.rest; count = omega (arith, c); others = λ j n i. other_rest k x j xs v n i }

abbrev AreIn : List Key → List Key → Type 0
AreIn ks ls = AllOf (λ k. In k ls) ks

fewer_in : (k : Key) (ks ls : List Key) (w : Without k ls) → list_all (before k) ks ≡ true → AreIn ks ls → AreIn ks w.rest
fewer_in k [] ls w e h = tt
fewer_in k (j ∷ ks) ls w e h = (
  w.others j (λ f. not_before_itself k (subst (λ (x : Key). before k x ≡ true) f (and_first (before k j) (list_all (before k) ks) e))) h.0,
  fewer_in k ks ls w (and_second (before k j) (list_all (before k) ks) e) h.1,
)

different_few : (ks ls : List Key) → AreRising ks → AreIn ks ls → length ks ≤ length ls
different_few [] ls r h = omega arith
different_few (k ∷ ks) ls r h =
    let w = without k ls h.0 in
    let rest = different_few ks w.rest r.1 (fewer_in k ks ls w r.0 h.1) in
    let c = w.count in
    omega (arith, rest, c)

-- ---- records

keys_were_put : (h : History) (kvs : List Kv) → ((kv : Kv) → Contains kvs kv → record_now h kv.key ≡ Some kv) → AreIn (map record_key kvs) (keys_put h)
keys_were_put h [] f = tt
keys_were_put h (kv ∷ kvs) f = (was_put h kv (f kv (0, omega arith, refl)), keys_were_put h kvs (λ x c. f x (suc c.0, (let l = c.1 in omega (arith, l)), c.2)))

pub records_were_put : RecordsWerePut
records_were_put h range =
    let kvs = records_now h range in
    let l = different_few (map record_key kvs) (keys_put h) (ranges_rise h range) (keys_were_put h kvs (λ kv c. ((ranges_are_exact h range kv).0 c).0)) in
    let e = length_map record_key kvs in
    omega (arith, l, e)
