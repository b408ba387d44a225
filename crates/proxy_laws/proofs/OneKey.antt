-- The range of one key shows that key's record, if there is one, and nothing else.
use Rattle.std.proofs.Common.{◌≡◌, ℕ, true, List, [], ◌∷◌, map, Option, None, Some, Contains, refl, sym, ◌∙◌, ap, subst, arith}
use Rattle.std.specs.Option.{option_to_list}
use Rattle.etcd_types.specs.declared.record.Kv.{Kv}
use Rattle.etcd_types.specs.declared.key_range.KeyRange.{KeyRange}
use Rattle.etcd_types.specs.Keys.{before, same}
use Rattle.etcd_types.specs.Ranges.{is_one, contains}
use Rattle.etcd_types.proofs.Bools.{and_first}
use Rattle.etcd_types.proofs.KeyOrder.{not_before_itself, same-equal, same-itself}
use Rattle.store_model.specs.History.{History}
use Rattle.store_model.specs.Records.{record_now}
use Rattle.store_model.specs.Ranges.{records_now}
use Rattle.store_model.specs.Leases.{record_key}
use Rattle.store_laws.specs.Requests.Ranges.{AreRising}
use Rattle.store_laws.proofs.Requests.RangeProofs.{ranges_rise, ranges_are_exact, keyed-now}

one_contains : (r : KeyRange) (k : List ℕ) → is_one r ≡ true → contains r k ≡ same k r.key
one_contains r k e = rw e refl

-- a key of the range is its key
one_is : (r : KeyRange) (k : List ℕ) → is_one r ≡ true → contains r k ≡ true → k ≡ r.key
one_is r k e c = same-equal k r.key (sym (one_contains r k e) ∙ c)

first_there : (kv : Kv) (kvs : List Kv) → Contains (kv ∷ kvs) kv
first_there kv kvs = (0, omega arith, refl)

second_there : (kv other : Kv) (kvs : List Kv) → Contains (kv ∷ other ∷ kvs) other
second_there kv other kvs = (1, omega arith, refl)

nothing_there : (kv : Kv) → Contains [] kv → ⊥
nothing_there kv c = omega arith

shown : (h : History) (r : KeyRange) (kvs : List Kv) (o : Option Kv) → is_one r ≡ true → records_now h r ≡ kvs → record_now h r.key ≡ o → kvs ≡ option_to_list o
shown h r [] None e is found = refl
shown h r [] (Some kv) e is found =
    let key = keyed-now h r.key kv found in
    let here = (ranges_are_exact h r kv).1 (ap (record_now h) key ∙ found, one_contains r kv.key e ∙ subst (λ (k : List ℕ). same k r.key ≡ true) (sym key) (same-itself r.key)) in
    absurd (nothing_there kv (subst (λ (kvs : List Kv). Contains kvs kv) is here))
shown h r (kv ∷ []) o e is found =
    let there = (ranges_are_exact h r kv).0 (subst (λ (kvs : List Kv). Contains kvs kv) (sym is) (first_there kv [])) in
    let key = one_is r kv.key e there.1 in
    ap option_to_list (sym there.0 ∙ ap (record_now h) key ∙ found)
shown h r (kv ∷ other ∷ kvs) o e is found =
    let there = (ranges_are_exact h r kv).0 (subst (λ (kvs : List Kv). Contains kvs kv) (sym is) (first_there kv (other ∷ kvs))) in
    let behind = (ranges_are_exact h r other).0 (subst (λ (kvs : List Kv). Contains kvs other) (sym is) (second_there kv other kvs)) in
    let key = one_is r kv.key e there.1 in
    let other_key = one_is r other.key e behind.1 in
    let rising = subst (λ (kvs : List Kv). AreRising (map record_key kvs)) is (ranges_rise h r) in
    let less = and_first (before kv.key other.key) _ rising.0 in
    absurd (not_before_itself r.key (subst (λ (j : List ℕ). before j r.key ≡ true) key (subst (λ (j : List ℕ). before kv.key j ≡ true) other_key less)))

pub records_one : (h : History) (r : KeyRange) → is_one r ≡ true → records_now h r ≡ option_to_list (record_now h r.key)
records_one h r e = shown h r (records_now h r) (record_now h r.key) e refl refl
