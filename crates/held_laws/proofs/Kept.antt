-- What is kept by number, and what is numbered: looking up behind a change.
use Rattle.std.proofs.Common.{◌≡◌, ℕ, zero, suc, ◌-◌, ◌==◌, Bool, true, false, cond, ◌||◌, Less, Equal, Greater, List, [], ◌∷◌, set, slice_get, None, Some, refl, ap, sym, ◌∙◌, arith}
use Rattle.std.proofs.lemmas.Bool.Decides.{nat_tests}
use Rattle.std.specs.BTreeSet.{BTreeSet, insert_key, contains}
use Rattle.std.specs.Cmp.{nat_cmp_total}
use Rattle.std.specs.FinMap.Entries.{find-put}
use Rattle.std.specs.Ordering.{nat_cmp, match_ordering, is_eq}
use Rattle.world_model.specs.Places.{kept_at, with_kept, is_among, with_number, nth, with_nth}
use Rattle.world_model.specs.State.{Numbered}

tied : (k : ℕ) → nat_cmp k k ≡ Equal
tied k = grind (arith, nat_tests)

untied : (q k : ℕ) → (q == k) ≡ false → is_eq (nat_cmp q k) ≡ false
untied q k e = grind (arith, nat_tests)

pub kept_itself : {A : Type 0} (es : Numbered A) (k : ℕ) (x : A) → kept_at (with_kept es k x) k ≡ Some x
kept_itself es k x = find-put nat_cmp nat_cmp_total k k x es ∙ ap (λ o. cond (is_eq o) (Some x) (kept_at es k)) (tied k)

pub kept_other : {A : Type 0} (es : Numbered A) (q k : ℕ) (x : A) → (q == k) ≡ false → kept_at (with_kept es k x) q ≡ kept_at es q
kept_other es q k x e = find-put nat_cmp nat_cmp_total q k x es ∙ ap (λ b. cond b (Some x) (kept_at es q)) (untied q k e)

-- ---- sets of numbers

has : List ℕ → ℕ → Bool
has ns q = contains nat_cmp (record { keys = ns }) q

has_cons : (n : ℕ) (ns : List ℕ) (q : ℕ) → has (n ∷ ns) q ≡ cond (is_eq (nat_cmp q n)) true (has ns q)
unfolding has
has_cons n ns q = elim (nat_cmp q n) as (λ o. (is_eq o || contains nat_cmp (record { keys = ns }) q) ≡ cond (is_eq o) true (contains nat_cmp (record { keys = ns }) q)) [ Less ↦ refl | Equal ↦ refl | Greater ↦ refl ]

has_new : (ns : List ℕ) (k : ℕ) → has (insert_key nat_cmp ns k) k ≡ true
has_new [] k = has_cons k [] k ∙ ap (λ o. cond (is_eq o) true (has [] k)) (tied k)
has_new (n ∷ ns) k =
    elim (nat_cmp k n) as (λ o. nat_cmp k n ≡ o → has (match_ordering o (k ∷ n ∷ ns) (n ∷ ns) (n ∷ insert_key nat_cmp ns k)) k ≡ true) [
      | Less ↦ λ e. has_cons k (n ∷ ns) k ∙ ap (λ o. cond (is_eq o) true (has (n ∷ ns) k)) (tied k)
      | Equal ↦ λ e. has_cons n ns k ∙ ap (λ o. cond (is_eq o) true (has ns k)) e
      | Greater ↦ λ e. has_cons n (insert_key nat_cmp ns k) k ∙ ap (λ o. cond (is_eq o) true (has (insert_key nat_cmp ns k) k)) e ∙ has_new ns k
    ] refl

true_or : (b : Bool) (x : Bool) → x ≡ true → cond b true x ≡ true
true_or true x e = refl
true_or false x e = e

has_still : (ns : List ℕ) (k q : ℕ) → has ns q ≡ true → has (insert_key nat_cmp ns k) q ≡ true
has_still [] k q e = has_cons k [] q ∙ true_or (is_eq (nat_cmp q k)) (has [] q) e
has_still (n ∷ ns) k q e =
    elim (nat_cmp k n) as (λ o. has (match_ordering o (k ∷ n ∷ ns) (n ∷ ns) (n ∷ insert_key nat_cmp ns k)) q ≡ true) [
      | Less ↦ has_cons k (n ∷ ns) q ∙ true_or (is_eq (nat_cmp q k)) (has (n ∷ ns) q) e
      | Equal ↦ e
      | Greater ↦ has_cons n (insert_key nat_cmp ns k) q ∙ by (is_eq (nat_cmp q n)) (has_still ns k q) (sym (has_cons n ns q) ∙ e)
    ]
  where
    by : (b : Bool) → (has ns q ≡ true → has (insert_key nat_cmp ns k) q ≡ true) → cond b true (has ns q) ≡ true → cond b true (has (insert_key nat_cmp ns k) q) ≡ true
    by true ih e = refl
    by false ih e = ih e

pub among_new : (ns : BTreeSet ℕ) (k : ℕ) → is_among (with_number ns k) k ≡ true
unfolding has
among_new ns k = has_new ns.keys k

pub among_still : (ns : BTreeSet ℕ) (k q : ℕ) → is_among ns q ≡ true → is_among (with_number ns k) q ≡ true
unfolding has
among_still ns k q e = has_still ns.keys k q e

pub not_among : (ns : BTreeSet ℕ) (k q : ℕ) → is_among (with_number ns k) q ≡ false → is_among ns q ≡ false
not_among ns k q e = by (is_among ns q) refl
  where
    by : (b : Bool) → is_among ns q ≡ b → b ≡ false
    by false h = refl
    by true h = absurd (let t : true ≡ false = sym (among_still ns k q h) ∙ e in cc)

-- ---- lists that are numbered from 1

set_at : {A : Type 0} (xs : List A) (k : ℕ) (x y : A) → slice_get xs k ≡ Some x → slice_get (set xs k y) k ≡ Some y
set_at [] k x y e = absurd (cc)
set_at (z ∷ xs) zero x y e = refl
set_at (z ∷ xs) (suc k) x y e = set_at xs k x y e

set_other : {A : Type 0} (xs : List A) (k j : ℕ) (y : A) → (j == k) ≡ false → slice_get (set xs k y) j ≡ slice_get xs j
set_other [] k j y e = refl
set_other (z ∷ xs) zero zero y e = absurd (let t : (zero == zero) ≡ true = tied_zero in cc)
  where
    tied_zero : (0 == 0) ≡ true
    tied_zero = refl
set_other (z ∷ xs) zero (suc j) y e = refl
set_other (z ∷ xs) (suc k) zero y e = refl
set_other (z ∷ xs) (suc k) (suc j) y e = set_other xs k j y (fewer j k e)
  where
    fewer : (j k : ℕ) → (suc j == suc k) ≡ false → (j == k) ≡ false
    fewer j k e = grind (arith, nat_tests)

pub nth_itself : {A : Type 0} (xs : List A) (number : ℕ) (x y : A) → nth xs number ≡ Some x → nth (with_nth xs number y) number ≡ Some y
nth_itself xs number x y e = by (number == 0) e
  where
    by : (b : Bool) → cond b None (slice_get xs (number - 1)) ≡ Some x → cond b None (slice_get (set xs (number - 1) y) (number - 1)) ≡ Some y
    by true e = absurd (cc)
    by false e = set_at xs (number - 1) x y e

pub nth_other : {A : Type 0} (xs : List A) (number q : ℕ) (x y : A) → nth xs number ≡ Some x → (q == number) ≡ false → nth (with_nth xs number y) q ≡ nth xs q
nth_other xs number q x y e n = by (number == 0) refl e (q == 0) refl
  where
    apart : (q number : ℕ) → (q == number) ≡ false → (number == 0) ≡ false → (q == 0) ≡ false → (q - 1 == number - 1) ≡ false
    apart q number n z w = grind (arith, nat_tests)

    by : (b : Bool) → (number == 0) ≡ b → cond b None (slice_get xs (number - 1)) ≡ Some x → (c : Bool) → (q == 0) ≡ c → cond c None (slice_get (set xs (number - 1) y) (q - 1)) ≡ cond c None (slice_get xs (q - 1))
    by true z e c w = absurd (cc)
    by false z e true w = refl
    by false z e false w = set_other xs (number - 1) (q - 1) y (apart q number n z w)
