-- Lists of leases by rising numbers: a lease that is put in its place, and one that ends.
use Rattle.std.proofs.Common.{◌≡◌, ℕ, ◌+◌, ◌<◌, ◌≤◌, Bool, true, false, cond, ◌||◌, ◌==◌, nat_lt, List, [], ◌∷◌, refl, ◌∙◌, ap, subst, arith}
use Rattle.std.proofs.lemmas.Bool.Decides.{nat_tests}
use Rattle.etcd_types.proofs.Bools.{or_first, or_right, or_second}
use Rattle.store_model.specs.declared.lease.Lease.{Lease}
use Rattle.store_model.specs.Transactions.{has_lease}
use Rattle.store_model.specs.Leases.{least_free_from, least_free, with_lease, without_lease, granted_ttl, asked_number}
use Rattle.store_laws.specs.Lives.Sound.{rise_above, is_granted}

pub record Rises (low : ℕ) (lease : Lease) (leases : List Lease) : Type 0 where
  pub above : low < lease.number
  pub lives : 1 ≤ lease.ttl
  pub rest : rise_above lease.number leases ≡ true

pub rises : (low : ℕ) (lease : Lease) (leases : List Lease) → rise_above low (lease ∷ leases) ≡ true → Rises low lease leases
rises low lease leases e = record { above = grind (arith, nat_tests); lives = grind (arith, nat_tests); rest = grind (arith, nat_tests) }

rise : (low : ℕ) (lease : Lease) (leases : List Lease) → low < lease.number → 1 ≤ lease.ttl → rise_above lease.number leases ≡ true → rise_above low (lease ∷ leases) ≡ true
rise low lease leases a l r = grind (arith, nat_tests)

pub rise-lower : (a b : ℕ) (leases : List Lease) → a ≤ b → rise_above b leases ≡ true → rise_above a leases ≡ true
rise-lower a b [] l e = refl
rise-lower a b (lease ∷ leases) l e =
    let r = rises b lease leases e in
    let above : a < lease.number = let q = r.above in omega arith in
    rise a lease leases above r.lives r.rest

-- numbers that aren't above the low one aren't there
pub none-below : (low n : ℕ) (leases : List Lease) → n ≤ low → rise_above low leases ≡ true → has_lease leases n ≡ false
none-below low n [] l e = refl
none-below low n (lease ∷ leases) l e =
    let r = rises low lease leases e in
    let q = r.above in
    let other : (lease.number == n) ≡ false = grind (arith, nat_tests) in
    let more : n ≤ lease.number = omega arith in
    ap (λ (b : Bool). b || has_lease leases n) other ∙ none-below lease.number n leases more r.rest

record Free (low n : ℕ) (leases : List Lease) : Type 0 where
  above : low < n
  free : has_lease leases n ≡ false

free_from : (low : ℕ) (leases : List Lease) → rise_above low leases ≡ true → Free low (least_free_from (low + 1) leases) leases
free_from low [] e = record { above = omega arith; free = refl }
free_from low (lease ∷ leases) e = by_test (λ f. free_from (low + 1) leases f) (lease.number == low + 1) refl
  where
    by_test : (rise_above (low + 1) leases ≡ true → Free (low + 1) (least_free_from (low + 1 + 1) leases) leases) → (t : Bool) → (lease.number == low + 1) ≡ t → Free low (cond t (least_free_from (low + 1 + 1) leases) (low + 1)) (lease ∷ leases)
    by_test later true f =
        let r = rises low lease leases e in
        let is : lease.number ≡ low + 1 = grind (arith, nat_tests) in
        let h = later (subst (λ (n : ℕ). rise_above n leases ≡ true) is r.rest) in
        let a = h.above in
        let other : (lease.number == least_free_from (low + 1 + 1) leases) ≡ false = grind (arith, nat_tests) in
        record { above = omega arith; free = ap (λ (b : Bool). b || has_lease leases (least_free_from (low + 1 + 1) leases)) other ∙ h.free }
    by_test later false f =
        let r = rises low lease leases e in
        let q = r.above in
        let more : low + 1 ≤ lease.number = omega arith in
        record { above = omega arith; free = ap (λ (b : Bool). b || has_lease leases (low + 1)) f ∙ none-below lease.number (low + 1) leases more r.rest }

positive : (number : ℕ) → (number == 0) ≡ false → 0 < number
positive number e = grind (arith, nat_tests)

-- the number that a grant gets is positive and new
pub asked-free : (leases : List Lease) (number : ℕ) → rise_above 0 leases ≡ true → has_lease leases number ≡ false
    → (0 < asked_number leases number) × (has_lease leases (asked_number leases number) ≡ false)
asked-free leases number r f = by_test (number == 0) refl
  where
    by_test : (t : Bool) → (number == 0) ≡ t → (0 < cond t (least_free leases) number) × (has_lease leases (cond t (least_free leases) number) ≡ false)
    by_test true e = let h = free_from 0 leases r in (h.above, h.free)
    by_test false e = (positive number e, f)

lives : (ttl : ℕ) → 1 ≤ granted_ttl ttl
lives ttl = omega arith

pub rise-with_lease : (low : ℕ) (lease : Lease) (leases : List Lease) → low < lease.number → 1 ≤ lease.ttl → has_lease leases lease.number ≡ false → rise_above low leases ≡ true
    → rise_above low (with_lease lease leases) ≡ true
rise-with_lease low lease [] a l f e = rise low lease [] a l refl
rise-with_lease low lease (other ∷ others) a l f e = by_test (λ less r. rise-with_lease other.number lease others less l (or_second (other.number == lease.number) _ f) r) (nat_lt other.number lease.number) refl
  where
    by_test : (other.number < lease.number → rise_above other.number others ≡ true → rise_above other.number (with_lease lease others) ≡ true) → (t : Bool) → nat_lt other.number lease.number ≡ t → rise_above low (cond t (other ∷ with_lease lease others) (lease ∷ other ∷ others)) ≡ true
    by_test later true g =
        let r = rises low other others e in
        let less : other.number < lease.number = grind (arith, nat_tests) in
        rise low other (with_lease lease others) r.above r.lives (later less r.rest)
    by_test later false g =
        let r = rises low other others e in
        let differs = or_first (other.number == lease.number) _ f in
        let less : lease.number < other.number = grind (arith, nat_tests) in
        rise low lease (other ∷ others) a l (rise lease.number other others less r.lives r.rest)

pub rise-without_lease : (low number : ℕ) (leases : List Lease) → rise_above low leases ≡ true → rise_above low (without_lease number leases) ≡ true
rise-without_lease low number [] e = refl
rise-without_lease low number (lease ∷ leases) e = by_test (λ r. rise-without_lease lease.number number leases r) (lease.number == number) refl
  where
    by_test : (rise_above lease.number leases ≡ true → rise_above lease.number (without_lease number leases) ≡ true) → (t : Bool) → (lease.number == number) ≡ t → rise_above low (cond t leases (lease ∷ without_lease number leases)) ≡ true
    by_test later true f =
        let r = rises low lease leases e in
        let q = r.above in
        rise-lower low lease.number leases (omega arith) r.rest
    by_test later false f =
        let r = rises low lease leases e in
        rise low lease (without_lease number leases) r.above r.lives (later r.rest)

-- what is still granted

has_either : (b : Bool) (xs ys : List Lease) (n : ℕ) → has_lease xs n ≡ true → has_lease ys n ≡ true → has_lease (cond b xs ys) n ≡ true
has_either true xs ys n f g = f
has_either false xs ys n f g = g

or_both : (a b c : Bool) → (b ≡ true → c ≡ true) → a || b ≡ true → a || c ≡ true
or_both true b c f e = refl
or_both false b c f e = f e

pub still-with_lease : (lease : Lease) (leases : List Lease) (n : ℕ) → has_lease leases n ≡ true → has_lease (with_lease lease leases) n ≡ true
still-with_lease lease [] n e = absurd (cc)
still-with_lease lease (other ∷ others) n e =
    has_either (nat_lt other.number lease.number) (other ∷ with_lease lease others) (lease ∷ other ∷ others) n
    (or_both (other.number == n) (has_lease others n) (has_lease (with_lease lease others) n) (λ f. still-with_lease lease others n f) e)
    (or_right (lease.number == n) _ e)

pub still-without_lease : (number : ℕ) (leases : List Lease) (n : ℕ) → (n == number) ≡ false → has_lease leases n ≡ true → has_lease (without_lease number leases) n ≡ true
still-without_lease number [] n d e = absurd (cc)
still-without_lease number (lease ∷ leases) n d e = by_test (λ g. still-without_lease number leases n d g) (lease.number == number) refl
  where
    by_test : (has_lease leases n ≡ true → has_lease (without_lease number leases) n ≡ true) → (t : Bool) → (lease.number == number) ≡ t → has_lease (cond t leases (lease ∷ without_lease number leases)) n ≡ true
    by_test later true f =
        let other : (lease.number == n) ≡ false = grind (arith, nat_tests) in
        subst (λ (b : Bool). b || has_lease leases n ≡ true) other e
    by_test later false f =
        or_both (lease.number == n) (has_lease leases n) (has_lease (without_lease number leases) n) later e

-- of a number that may be none

pub granted_both : (a b : List Lease) (n : ℕ) → (has_lease a n ≡ true → has_lease b n ≡ true) → is_granted a n ≡ true → is_granted b n ≡ true
granted_both a b n f e = or_both (n == 0) (has_lease a n) (has_lease b n) f e
