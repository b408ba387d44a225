-- Records that are deleted: those of a range, and those of a lease.
use Rattle.std.proofs.Common.{◌≡◌, ℕ, ◌+◌, Bool, true, false, cond, ◌||◌, List, [], ◌∷◌, length, Option, None, Some, Contains, ◌⊎◌, inl, inr, map, filter, refl, sym, ◌∙◌, ap, subst, arith}
use Rattle.std.specs.List.{list_all}
use Rattle.std.proofs.lemmas.List.Elements.{Contains-append_cases, Contains-push_cases}
use Rattle.etcd_types.specs.declared.record.Kv.{Kv}
use Rattle.etcd_types.specs.declared.key_range.KeyRange.{KeyRange}
use Rattle.etcd_types.specs.Keys.{same}
use Rattle.etcd_types.specs.Ranges.{contains}
use Rattle.etcd_types.proofs.Bools.{and_first, and_second, or_left, or_right, same_tests}
use Rattle.etcd_types.proofs.KeyOrder.{same-equal, same-itself}
use Rattle.store_model.specs.History.{History}
use Rattle.store_model.specs.Records.{record_now}
use Rattle.store_model.specs.Ranges.{records_now}
use Rattle.store_model.specs.State.{State}
use Rattle.store_model.specs.Transactions.{deletion}
use Rattle.store_model.specs.Leases.{all_keys, is_attached, attached, record_key, ended}
use Rattle.store_model.proofs.HistoryLemmas.{record_now-with_revision}
use Rattle.store_model.proofs.RunLemmas.{has_record, deletions-record}
use Rattle.store_laws.proofs.Requests.RangeProofs.{keyed-now, records-within, ranges_are_exact}

pub nothing_in : (kv : Kv) → Contains [] kv → ⊥
nothing_in kv c = omega arith

only_one : (other kv : Kv) → Contains (other ∷ []) kv → other ≡ kv
only_one other kv c = elim (Contains-push_cases [] other kv c) [ inl none ↦ absurd (nothing_in kv none) | inr e ↦ e ]

pub there_first : (x kv : Kv) (xs : List Kv) → Contains (x ∷ xs) kv → (x ≡ kv) ⊎ Contains xs kv
there_first x kv xs c = elim (Contains-append_cases (x ∷ []) xs kv c) [ inl one ↦ inl (only_one x kv one) | inr d ↦ inr d ]

-- a member that passes the test is found among those that do
has-passing : (p : Kv → Bool) (xs : List Kv) (kv : Kv) (k : List ℕ) → Contains xs kv → p kv ≡ true → same kv.key k ≡ true → has_record k (filter p xs) ≡ true
has-passing p [] kv k c e f = absurd (nothing_in kv c)
has-passing p (x ∷ xs) kv k c e f = by_test (λ d. has-passing p xs kv k d e f) (p x) refl
  where
    by_test : (Contains xs kv → has_record k (filter p xs) ≡ true) → (t : Bool) → p x ≡ t → has_record k (cond t (x ∷ filter p xs) (filter p xs)) ≡ true
    by_test later true g =
        elim (there_first x kv xs c) [
          | inl is ↦ or_left (same x.key k) _ (subst (λ (y : Kv). same y.key k ≡ true) (sym is) f)
          | inr d ↦ or_right (same x.key k) _ (later d)
        ]
    by_test later false g =
        elim (there_first x kv xs c) [
          | inl is ↦ absurd (let h : p x ≡ p kv = ap p is in cc)
          | inr d ↦ later d
        ]

has-member : (xs : List Kv) (kv : Kv) (k : List ℕ) → Contains xs kv → same kv.key k ≡ true → has_record k xs ≡ true
has-member [] kv k c f = absurd (nothing_in kv c)
has-member (x ∷ xs) kv k c f =
    elim (there_first x kv xs c) [
      | inl is ↦ or_left (same x.key k) _ (subst (λ (y : Kv). same y.key k ≡ true) (sym is) f)
      | inr d ↦ or_right (same x.key k) _ (has-member xs kv k d f)
    ]

keyed_same : (h : History) (k : List ℕ) (kv : Kv) → record_now h k ≡ Some kv → same kv.key k ≡ true
keyed_same h k kv e = subst (λ (j : List ℕ). same j k ≡ true) (sym (keyed-now h k kv e)) (same-itself k)

pub listed : (h : History) (r : KeyRange) (k : List ℕ) (kv : Kv) → record_now h k ≡ Some kv → contains r k ≡ true → Contains (records_now h r) kv
listed h r k kv e i =
    let key = keyed-now h k kv e in
    (ranges_are_exact h r kv).1 (ap (record_now h) key ∙ e, subst (λ (j : List ℕ). contains r j ≡ true) (sym key) i)

-- a key on a lease is among the lease's
pub attached-has : (h : History) (number : ℕ) (k : List ℕ) (kv : Kv) → record_now h k ≡ Some kv → is_attached number kv ≡ true → has_record k (attached h number) ≡ true
attached-has h number k kv e a =
    has-passing (is_attached number) (records_now h all_keys) kv k (listed h all_keys k kv e refl) a (keyed_same h k kv e)

-- a key that is found among records whose keys pass a test passes it

pub has-tested : (test : List ℕ → Bool) (k : List ℕ) (kvs : List Kv) → list_all test (map record_key kvs) ≡ true → has_record k kvs ≡ true → test k ≡ true
has-tested test k [] a e = absurd (cc)
has-tested test k (kv ∷ kvs) a e = by_test (λ g. has-tested test k kvs (and_second (test kv.key) _ a) g) (same kv.key k) refl
  where
    by_test : (has_record k kvs ≡ true → test k ≡ true) → (t : Bool) → same kv.key k ≡ t → test k ≡ true
    by_test later true f = subst (λ (j : List ℕ). test j ≡ true) (same-equal kv.key k f) (and_first (test kv.key) _ a)
    by_test later false f = later (subst (λ (t : Bool). t || has_record k kvs ≡ true) f e)

-- what a deleted range leaves
pub deleted-record : (h : History) (r : KeyRange) (k : List ℕ) → cond (has_record k (records_now h r)) None (record_now h k) ≡ cond (contains r k) None (record_now h k)
deleted-record h r k = by_found (record_now h k) refl
  where
    by_found : (o : Option Kv) → record_now h k ≡ o → cond (has_record k (records_now h r)) None o ≡ cond (contains r k) None o
    by_found None e = nothing (has_record k (records_now h r)) (contains r k)
      where
        nothing : (a b : Bool) → ◌≡◌ {A = Option Kv} (cond a None None) (cond b None None)
        nothing true true = refl
        nothing true false = refl
        nothing false true = refl
        nothing false false = refl
    by_found (Some kv) e =
        ap (λ (t : Bool). cond t None (Some kv))
        (same_tests (has_record k (records_now h r)) (contains r k) (λ f. has-tested (contains r) k (records_now h r) (records-within h r) f) (λ i. has-member (records_now h r) kv k (listed h r k kv e i) (keyed_same h k kv e)))

-- what the end of a lease leaves
pub ended-record : (s : State) (number : ℕ) (k : List ℕ) → record_now (ended s number).history k ≡ cond (has_record k (attached s.history number)) None (record_now s.history k)
ended-record s number k =
    record_now-with_revision s.history k (map deletion (attached s.history number)) ∙ deletions-record (length s.history + 2) k (attached s.history number) (record_now s.history k)
