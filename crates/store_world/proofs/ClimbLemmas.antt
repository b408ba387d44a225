-- Leases whose numbers climb: edits that keep them so, and the least number that is free.
use Rattle.std.proofs.Common.{◌≡◌, ℕ, zero, suc, ◌+◌, ◌≤◌, ◌<◌, ◌==◌, ◌||◌, nat_lt, Bool, true, false, cond, List, [], ◌∷◌, Some, length, get_or, refl, sym, ap, ◌∙◌, subst, arith, ltb-true, ltb-false, eqb-true, eq-eqb}
use Rattle.std.specs.List.{slice_get}
use Rattle.std.proofs.lemmas.Bool.Decides.{nat_tests}
use Rattle.std.proofs.lemmas.Option.{slice_get-get_or}
use Rattle.etcd_types.proofs.Bools.{or_first, or_second}
use Rattle.store_model.specs.declared.lease.Lease.{Lease}
use Rattle.store_model.specs.Leases.{with_lease, without_lease, least_free, least_free_from}
use Rattle.store_model.specs.Transactions.{has_lease}
use Rattle.store_world.specs.ProperLeases.{Climb}
use Rattle.store_world.proofs.RisingLemmas.{past, differs}

-- ---- edits

climb_lower : (a b : ℕ) (ls : List Lease) → a ≤ b → Climb b ls → Climb a ls
climb_lower a b [] le k = tt
climb_lower a b (l ∷ ls) le k = (let more = k.0 in omega (arith, le, more), k.1)

climb_either : (n : ℕ) (b : Bool) (xs ys : List Lease) → Climb n xs → Climb n ys → Climb n (cond b xs ys)
climb_either n true xs ys f g = f
climb_either n false xs ys f g = g

pub climb_with : (low : ℕ) (lease : Lease) (ls : List Lease) → Climb low ls → low < lease.number → has_lease ls lease.number ≡ false → Climb low (with_lease lease ls)
climb_with low lease [] k lt new = (lt, tt)
climb_with low lease (l ∷ ls) k lt new =
    by (nat_lt l.number lease.number) refl (λ less. climb_with l.number lease ls k.1 less (or_second (l.number == lease.number) (has_lease ls lease.number) new))
  where
    by : (b : Bool) → nat_lt l.number lease.number ≡ b → (l.number < lease.number → Climb l.number (with_lease lease ls)) → Climb low (cond b (l ∷ with_lease lease ls) (lease ∷ l ∷ ls))
    by true e rest = (k.0, rest (ltb-true l.number lease.number e))
    by false e rest =
        (lt, (past l.number lease.number (ltb-false l.number lease.number e) (or_first (l.number == lease.number) (has_lease ls lease.number) new), k.1))

pub climb_without : (low n : ℕ) (ls : List Lease) → Climb low ls → Climb low (without_lease n ls)
climb_without low n [] k = tt
climb_without low n (l ∷ ls) k =
    climb_either low (l.number == n) ls (l ∷ without_lease n ls) (climb_lower low l.number ls (let more = k.0 in omega (arith, more)) k.1)
    (k.0, climb_without l.number n ls k.1)

-- ---- the least number that is free isn't there

lower : (a b : ℕ) → a < b → (a == b) ≡ false
lower a b lt = grind (arith, nat_tests)

none_below : (low n : ℕ) (ls : List Lease) → n ≤ low → Climb low ls → has_lease ls n ≡ false
none_below low n [] le k = refl
none_below low n (l ∷ ls) le k =
    let more = k.0 in
    ap (λ (b : Bool). b || has_lease ls n) (differs l.number n (omega (arith, le, more))) ∙ none_below l.number n ls (omega (arith, le, more)) k.1

record Free (low n : ℕ) (ls : List Lease) : Type 0 where
  above : low < n
  free : has_lease ls n ≡ false

free_from : (low : ℕ) (ls : List Lease) → Climb low ls → Free low (least_free_from (low + 1) ls) ls
free_from low [] k = record { above = omega arith; free = refl }
free_from low (l ∷ ls) k = by (l.number == low + 1) refl (λ more. free_from (low + 1) ls more)
  where
    by : (b : Bool) → (l.number == low + 1) ≡ b → (Climb (low + 1) ls → Free (low + 1) (least_free_from (low + 1 + 1) ls) ls)
        → Free low (cond b (least_free_from (low + 1 + 1) ls) (low + 1)) (l ∷ ls)
    by true e rest =
        let is : l.number ≡ low + 1 = eqb-true l.number (low + 1) e in
        let h = rest (subst (λ (n : ℕ). Climb n ls) is k.1) in
        let above = h.above in
        record {
          above = omega (arith, above);
          free = ap (λ (b : Bool). b || has_lease ls (least_free_from (low + 1 + 1) ls)) (lower l.number (least_free_from (low + 1 + 1) ls) (omega (arith, is, above))) ∙ h.free;
        }
    by false e rest =
        let more = k.0 in
        record { above = omega arith; free = ap (λ (b : Bool). b || has_lease ls (low + 1)) e ∙ none_below l.number (low + 1) ls (omega (arith, more)) k.1 }

pub least_free_free : (ls : List Lease) → Climb 0 ls → has_lease ls (least_free_from 1 ls) ≡ false
least_free_free ls k = let f = free_from 0 ls k in f.free

-- ---- it is found where the numbers are no longer taken in a row

-- a number is above the low one by its place at the least
apart : (low n : ℕ) (ls : List Lease) (d : Lease) → Climb low ls → n < length ls → low + n + 1 ≤ (get_or ls n d).number
apart low n [] d k lt = absurd (omega (arith, lt))
apart low zero (l ∷ ls) d k lt = let more = k.0 in omega (arith, more)
apart low (suc n) (l ∷ ls) d k lt = let more = k.0 in let far = apart l.number n ls d k.1 (omega (arith, lt)) in omega (arith, more, far)

first_row : (i : ℕ) (l : Lease) (ls : List Lease) → Climb l.number ls → i ≤ length ls → l.number + i ≤ (get_or (l ∷ ls) i l).number
first_row zero l ls k le = omega arith
first_row (suc i) l ls k le = let far = apart l.number i ls l k (omega (arith, le)) in omega (arith, far)

free_at : (n i : ℕ) (ls : List Lease) → Climb n ls → i ≤ length ls → ((k : ℕ) (d : Lease) → i ≡ k + 1 → (get_or ls k d).number ≡ n + i)
    → ((d : Lease) → i < length ls → ((get_or ls i d).number == n + i + 1) ≡ false) → least_free_from (n + 1) ls ≡ n + i + 1
free_at n i [] k le taken free = omega (arith, le)
free_at n zero (l ∷ ls) k le taken free =
    let here : n + 0 + 1 ≡ n + 1 = omega arith in
    let first : (l.number == n + 1) ≡ false = ap (λ (m : ℕ). l.number == m) (omega arith) ∙ free l (omega arith) in
    ap (λ (b : Bool). cond b (least_free_from (n + 1 + 1) ls) (n + 1)) first ∙ omega arith
free_at n (suc i) (l ∷ ls) k le taken free =
    let more = k.0 in
    let last : (get_or (l ∷ ls) i l).number ≡ n + suc i = taken i l (omega arith) in
    let far = first_row i l ls k.1 (omega (arith, le)) in
    let first : l.number ≡ n + 1 = omega (arith, more, last, far) in
    ap (λ (b : Bool). cond b (least_free_from (n + 1 + 1) ls) (n + 1)) (eq-eqb l.number (n + 1) first)
    ∙ free_at (n + 1) i ls (subst (λ (m : ℕ). Climb m ls) first k.1) (omega (arith, le))
    (λ j d e. let t : (get_or ls j d).number ≡ n + suc i = taken (suc j) d (omega (arith, e)) in omega (arith, t))
    (λ d lt. ap (λ (m : ℕ). (get_or ls i d).number == m) (omega arith) ∙ free d (omega (arith, lt)))
    ∙ omega arith

pub gap_at : (low high : ℕ) (ls : List Lease) → Climb 0 ls → low ≤ high → high ≤ low → high ≤ length ls → ((n : ℕ) (v : Lease) → low ≡ n + 1 → slice_get ls n ≡ Some v → v.number ≡ low)
    → ((v : Lease) → slice_get ls high ≡ Some v → (v.number == high + 1) ≡ false) → low + 1 ≡ least_free ls
gap_at low high ls k a b within taken free =
    let last : high ≡ low = omega (arith, a, b) in
    let there : low ≤ length ls = omega (arith, a, within) in
    let here : low + 1 ≡ 0 + low + 1 = omega arith in
    here
    ∙ sym (free_at 0 low ls k there
    (λ n d e. let t = taken n (get_or ls n d) e (slice_get-get_or ls n d (omega (arith, e, there))) in omega (arith, t))
    (λ d lt. ap (λ (m : ℕ). (get_or ls low d).number == m) (sym here)
    ∙ subst (λ (m : ℕ). ((get_or ls m d).number == m + 1) ≡ false) last (free (get_or ls high d) (slice_get-get_or ls high d (omega (arith, last, lt))))))
