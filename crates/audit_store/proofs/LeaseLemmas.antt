-- Leases stay proper where a proper one is added or one is taken away.
use Rattle.std.proofs.Common.{◌≡◌, ℕ, ◌<◌, ◌==◌, nat_lt, Bool, true, false, cond, List, [], ◌∷◌, subst, inl, inr, eqb-true}
use Rattle.etcd_types.proofs.Bools.{or_either}
use Rattle.store_model.specs.declared.lease.Lease.{Lease}
use Rattle.store_model.specs.Leases.{with_lease, without_lease}
use Rattle.store_model.specs.Transactions.{has_lease}
use Rattle.audit_store.specs.ProperLeases.{IsProper, AreProper}

proper_either : (b : Bool) (xs ys : List Lease) → AreProper xs → AreProper ys → AreProper (cond b xs ys)
proper_either true xs ys h k = h
proper_either false xs ys h k = k

pub AreProper-with_lease : (lease : Lease) (leases : List Lease) → IsProper lease → AreProper leases → AreProper (with_lease lease leases)
AreProper-with_lease lease [] h k = (h, tt)
AreProper-with_lease lease (other ∷ others) h k =
    proper_either (nat_lt other.number lease.number) (other ∷ with_lease lease others) (lease ∷ other ∷ others)
    (k.0, AreProper-with_lease lease others h k.1) (h, k)

pub AreProper-without_lease : (number : ℕ) (leases : List Lease) → AreProper leases → AreProper (without_lease number leases)
AreProper-without_lease number [] k = tt
AreProper-without_lease number (lease ∷ leases) k =
    proper_either (lease.number == number) leases (lease ∷ without_lease number leases)
    k.1 (k.0, AreProper-without_lease number leases k.1)

-- a lease that is there has a positive number
pub there_positive : (number : ℕ) (leases : List Lease) → AreProper leases → has_lease leases number ≡ true → 0 < number
there_positive number [] k e = absurd (cc)
there_positive number (lease ∷ leases) k e =
    elim (or_either (lease.number == number) (has_lease leases number) e) [
      | inl same ↦ let is : lease.number ≡ number = eqb-true lease.number number same in subst (λ (n : ℕ). 0 < n) is k.0.1
      | inr later ↦ there_positive number leases k.1 later
    ]
