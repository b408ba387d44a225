-- Sets of numbers, and lists that grow by one.
use Rattle.std.proofs.Common.{◌≡◌, ℕ, zero, suc, ◌-◌, ◌==◌, Bool, true, false, cond, ◌||◌, Less, Equal, Greater, List, [], ◌∷◌, ◌++◌, slice_get, None, Some, refl, ap, sym, ◌∙◌, arith}
use Rattle.std.proofs.lemmas.Bool.Decides.{nat_tests}
use Rattle.std.specs.BTreeSet.{BTreeSet, insert_key, contains}
use Rattle.std.specs.Ordering.{nat_cmp, match_ordering, is_eq}
use Rattle.world_model.specs.Places.{is_among, with_number, nth}

untied : (q k : ℕ) → (q == k) ≡ false → is_eq (nat_cmp q k) ≡ false
untied q k e = grind (arith, nat_tests)

has : List ℕ → ℕ → Bool
has ns q = contains nat_cmp (record { keys = ns }) q

has_cons : (n : ℕ) (ns : List ℕ) (q : ℕ) → has (n ∷ ns) q ≡ cond (is_eq (nat_cmp q n)) true (has ns q)
unfolding has
has_cons n ns q = elim (nat_cmp q n) as (λ o. (is_eq o || contains nat_cmp (record { keys = ns }) q) ≡ cond (is_eq o) true (contains nat_cmp (record { keys = ns }) q)) [ Less ↦ refl | Equal ↦ refl | Greater ↦ refl ]

has_other : (ns : List ℕ) (k q : ℕ) → (q == k) ≡ false → has (insert_key nat_cmp ns k) q ≡ has ns q
has_other [] k q e = has_cons k [] q ∙ ap (λ b. cond b true (has [] q)) (untied q k e)
has_other (n ∷ ns) k q e =
    elim (nat_cmp k n) as (λ o. has (match_ordering o (k ∷ n ∷ ns) (n ∷ ns) (n ∷ insert_key nat_cmp ns k)) q ≡ has (n ∷ ns) q) [
      | Less ↦ has_cons k (n ∷ ns) q ∙ ap (λ b. cond b true (has (n ∷ ns) q)) (untied q k e)
      | Equal ↦ refl
      | Greater ↦ has_cons n (insert_key nat_cmp ns k) q ∙ ap (λ b. cond (is_eq (nat_cmp q n)) true b) (has_other ns k q e) ∙ sym (has_cons n ns q)
    ]

pub among_other : (ns : BTreeSet ℕ) (k q : ℕ) → (q == k) ≡ false → is_among (with_number ns k) q ≡ is_among ns q
unfolding has
among_other ns k q e = has_other ns.keys k q e

-- ---- lists

get_still : {A : Type 0} (xs : List A) (y : A) (j : ℕ) (z : A) → slice_get xs j ≡ Some z → slice_get (xs ++ y ∷ []) j ≡ Some z
get_still [] y j z e = absurd (cc)
get_still (x ∷ xs) y zero z e = e
get_still (x ∷ xs) y (suc j) z e = get_still xs y j z e

pub nth_still : {A : Type 0} (xs : List A) (y : A) (number : ℕ) (z : A) → nth xs number ≡ Some z → nth (xs ++ y ∷ []) number ≡ Some z
nth_still xs y number z e = by (number == 0) e
  where
    by : (b : Bool) → cond b None (slice_get xs (number - 1)) ≡ Some z → cond b None (slice_get (xs ++ y ∷ []) (number - 1)) ≡ Some z
    by true e = absurd (cc)
    by false e = get_still xs y (number - 1) z e
