-- Which leases are there after one was granted or has ended.
use Rattle.std.proofs.Common.{◌≡◌, ◌≢◌, ℕ, ◌≤◌, ◌==◌, nat_lt, Bool, true, false, cond, ◌||◌, List, [], ◌∷◌, refl, sym, ◌∙◌, ap, arith}
use Rattle.std.proofs.lemmas.Bool.Decides.{nat_tests}
use Rattle.store_model.specs.declared.lease.Lease.{Lease}
use Rattle.store_model.specs.Leases.{granted, with_lease, without_lease}
use Rattle.store_model.specs.Transactions.{has_lease}
use Rattle.store_laws.specs.Lives.Sound.{rise_above}
use Rattle.store_laws.proofs.Lives.LeaseLists.{none-below}
use Rattle.etcd_types.proofs.Bools.{and_second}

turned : (a b c : Bool) → a || (b || c) ≡ b || (a || c)
turned true true c = refl
turned true false c = refl
turned false b c = refl

pub has-with_lease : (lease : Lease) (leases : List Lease) (n : ℕ) → has_lease (with_lease lease leases) n ≡ lease.number == n || has_lease leases n
has-with_lease lease [] n = refl
has-with_lease lease (other ∷ others) n = by_test (nat_lt other.number lease.number) (has-with_lease lease others n)
  where
    by_test : (t : Bool) → has_lease (with_lease lease others) n ≡ lease.number == n || has_lease others n
        → has_lease (cond t (other ∷ with_lease lease others) (lease ∷ other ∷ others)) n ≡ lease.number == n || has_lease (other ∷ others) n
    by_test true h = ap (λ (b : Bool). other.number == n || b) h ∙ turned (other.number == n) (lease.number == n) (has_lease others n)
    by_test false h = refl

apart_numbers : (a b c : ℕ) → (a == b) ≡ true → (c == b) ≡ false → (a == c) ≡ false
apart_numbers a b c e f = grind (arith, nat_tests)

pub has-other : (number : ℕ) (leases : List Lease) (n : ℕ) → (n == number) ≡ false → has_lease (without_lease number leases) n ≡ has_lease leases n
has-other number [] n d = refl
has-other number (lease ∷ leases) n d = by_test (lease.number == number) refl (has-other number leases n d)
  where
    by_test : (t : Bool) → (lease.number == number) ≡ t → has_lease (without_lease number leases) n ≡ has_lease leases n
        → has_lease (cond t leases (lease ∷ without_lease number leases)) n ≡ has_lease (lease ∷ leases) n
    by_test true e h = ap (λ (b : Bool). b || has_lease leases n) (sym (apart_numbers lease.number number n e d))
    by_test false e h = ap (λ (b : Bool). lease.number == n || b) h

pub has-itself : (low number : ℕ) (leases : List Lease) → rise_above low leases ≡ true → has_lease (without_lease number leases) number ≡ false
has-itself low number [] r = refl
has-itself low number (lease ∷ leases) r = by_test (lease.number == number) refl (has-itself lease.number number leases rest)
  where
    rest : rise_above lease.number leases ≡ true
    rest = and_second _ (rise_above lease.number leases) (and_second (nat_lt low lease.number) _ r)

    below : (lease.number == number) ≡ true → number ≤ lease.number
    below e = grind (arith, nat_tests)

    by_test : (t : Bool) → (lease.number == number) ≡ t → has_lease (without_lease number leases) number ≡ false → has_lease (cond t leases (lease ∷ without_lease number leases)) number ≡ false
    by_test true e h = none-below lease.number number leases (below e) rest
    by_test false e h = ap (λ (b : Bool). b || has_lease (without_lease number leases) number) e ∙ h

pub granted-there : (leases : List Lease) (n : ℕ) → granted leases n ≢ 0 → has_lease leases n ≡ true
granted-there [] n g = absurd (g refl)
granted-there (lease ∷ leases) n g = by_test (lease.number == n) g (λ h. granted-there leases n h)
  where
    by_test : (t : Bool) → cond t lease.ttl (granted leases n) ≢ 0 → (granted leases n ≢ 0 → has_lease leases n ≡ true) → t || has_lease leases n ≡ true
    by_test true h f = refl
    by_test false h f = f h
