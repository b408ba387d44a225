-- Leases stay proper and in order where a proper one is added or one is taken away; which lease has a number.
use Rattle.std.proofs.Common.{◌≡◌, ℕ, ◌≤◌, ◌<◌, ◌==◌, ◌||◌, nat_lt, Bool, true, false, cond, List, [], ◌∷◌, Option, None, Some, is_some, refl, sym, ap, ◌∙◌, subst, inl, inr, arith, eqb-true}
use Rattle.std.specs.List.{insert, remove, slice_get}
use Rattle.std.specs.Option.{option_map}
use Rattle.etcd_types.proofs.Bools.{or_either}
use Rattle.store_model.specs.declared.lease.Lease.{Lease}
use Rattle.store_model.specs.Leases.{lease_number, with_lease, without_lease, granted}
use Rattle.store_model.specs.Transactions.{has_lease}
use Rattle.store_world.specs.ProperLeases.{IsProper, AreProper}
use Rattle.store_world.specs.Rising.{AreRising, place_in, put_in, taken_from, row_of}
use Rattle.store_world.proofs.RisingLemmas.{rising_put, rising_taken, inserted, removed, misses, none_taken, none_found}

proper_either : (b : Bool) (xs ys : List Lease) → AreProper xs → AreProper ys → AreProper (cond b xs ys)
proper_either true xs ys h k = h
proper_either false xs ys h k = k

pub AreProper-with_lease : (lease : Lease) (leases : List Lease) → IsProper lease → AreProper leases → AreProper (with_lease lease leases)
AreProper-with_lease lease [] h k = (h, tt)
AreProper-with_lease lease (other ∷ others) h k =
    proper_either (nat_lt other.number lease.number) (other ∷ with_lease lease others) (lease ∷ other ∷ others)
    (k.0, AreProper-with_lease lease others h k.1) (h, k)

pub AreProper-without_lease : (number : ℕ) (leases : List Lease) → AreProper leases → AreProper (without_lease number leases)
AreProper-without_lease number [] k = tt
AreProper-without_lease number (lease ∷ leases) k =
    proper_either (lease.number == number) leases (lease ∷ without_lease number leases)
    k.1 (k.0, AreProper-without_lease number leases k.1)

-- a lease that is there has a positive number
pub there_positive : (number : ℕ) (leases : List Lease) → AreProper leases → has_lease leases number ≡ true → 0 < number
there_positive number [] k e = absurd (cc)
there_positive number (lease ∷ leases) k e =
    elim (or_either (lease.number == number) (has_lease leases number) e) [
      | inl same ↦ let is : lease.number ≡ number = eqb-true lease.number number same in subst (λ (n : ℕ). 0 < n) is k.0.1
      | inr later ↦ there_positive number leases k.1 later
    ]

-- the edits by their general names

with_is : (lease : Lease) (leases : List Lease) → with_lease lease leases ≡ put_in lease_number lease leases
with_is lease [] = refl
with_is lease (other ∷ others) = ap (λ (l : List Lease). cond (nat_lt other.number lease.number) (other ∷ l) (lease ∷ other ∷ others)) (with_is lease others)

without_is : (n : ℕ) (leases : List Lease) → without_lease n leases ≡ taken_from lease_number n leases
without_is n [] = refl
without_is n (lease ∷ leases) = ap (λ (l : List Lease). cond (lease.number == n) leases (lease ∷ l)) (without_is n leases)

pub rising_with : (lease : Lease) (leases : List Lease) → AreRising lease_number leases → AreRising lease_number (with_lease lease leases)
rising_with lease leases r = subst (λ (l : List Lease). AreRising lease_number l) (sym (with_is lease leases)) (rising_put lease_number lease leases r)

pub rising_without : (n : ℕ) (leases : List Lease) → AreRising lease_number leases → AreRising lease_number (without_lease n leases)
rising_without n leases r = subst (λ (l : List Lease). AreRising lease_number l) (sym (without_is n leases)) (rising_taken lease_number n leases r)

-- at the place of a number

pub placed : (lease : Lease) (leases : List Lease) → with_lease lease leases ≡ insert leases (place_in lease_number lease.number leases) lease
placed lease leases = with_is lease leases ∙ sym (inserted lease_number lease leases)

pub taken_at : (n : ℕ) (leases : List Lease) (lease : Lease) → slice_get leases (place_in lease_number n leases) ≡ Some lease → lease.number ≡ n
    → without_lease n leases ≡ remove leases (place_in lease_number n leases)
taken_at n leases lease there is = without_is n leases ∙ removed lease_number n leases lease there is

pub none_at : (n : ℕ) (leases : List Lease) → AreRising lease_number leases → ((lease : Lease) → slice_get leases (place_in lease_number n leases) ≡ Some lease → lease.number ≡ n → ⊥)
    → without_lease n leases ≡ leases
none_at n leases r never = without_is n leases ∙ none_taken lease_number n leases (misses lease_number n leases r never)

pub none_of : (n : ℕ) (leases : List Lease) → AreRising lease_number leases → ((lease : Lease) → slice_get leases (place_in lease_number n leases) ≡ Some lease → lease.number ≡ n → ⊥)
    → row_of lease_number n leases ≡ None
none_of n leases r never = none_found lease_number n leases (misses lease_number n leases r never)

-- the lease of a number

pub mapped_some : {X Y : Type 0} (r : Option X) (f : X → Y) → is_some (option_map f r) ≡ is_some r
mapped_some None f = refl
mapped_some (Some x) f = refl

pub has_is : (n : ℕ) (leases : List Lease) → has_lease leases n ≡ is_some (row_of lease_number n leases)
has_is n [] = refl
has_is n (lease ∷ leases) = by (lease.number == n) (has_is n leases)
  where
    by : (b : Bool) → has_lease leases n ≡ is_some (row_of lease_number n leases) → b || has_lease leases n ≡ is_some (cond b (Some lease) (row_of lease_number n leases))
    by true e = refl
    by false e = e

abbrev ttl_in : Option Lease → ℕ
ttl_in None = 0
ttl_in (Some lease) = lease.ttl

granted_in : (n : ℕ) (leases : List Lease) → granted leases n ≡ ttl_in (row_of lease_number n leases)
granted_in n [] = refl
granted_in n (lease ∷ leases) = by (lease.number == n) (granted_in n leases)
  where
    by : (b : Bool) → granted leases n ≡ ttl_in (row_of lease_number n leases) → cond b lease.ttl (granted leases n) ≡ ttl_in (cond b (Some lease) (row_of lease_number n leases))
    by true e = refl
    by false e = e

pub granted_is : (n : ℕ) (leases : List Lease) (lease : Lease) → row_of lease_number n leases ≡ Some lease → granted leases n ≡ lease.ttl
granted_is n leases lease is = granted_in n leases ∙ ap ttl_in is

pub granted_none : (n : ℕ) (leases : List Lease) → row_of lease_number n leases ≡ None → granted leases n ≡ 0
granted_none n leases is = granted_in n leases ∙ ap ttl_in is

pub granted_short : (n : ℕ) (leases : List Lease) → AreProper leases → granted leases n ≤ 9_000_000_000
granted_short n [] p = omega arith
granted_short n (lease ∷ leases) p = by (lease.number == n) (granted_short n leases p.1)
  where
    by : (b : Bool) → granted leases n ≤ 9_000_000_000 → cond b lease.ttl (granted leases n) ≤ 9_000_000_000
    by true le = p.0.0
    by false le = le
