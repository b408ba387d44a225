-- What is kept for a pair, and that nothing else changes.
use Rattle.std.proofs.Common.{◌≡◌, ℕ, Bool, true, false, not, cond, ◌==◌, ◌&&◌, List, Option, None, Some, is_some, refl, sym, ◌∙◌, ap, arith}
use Rattle.std.proofs.lemmas.Bool.{eqb-true}
use Rattle.std.proofs.lemmas.Bool.Decides.{nat_tests}
use Rattle.std.specs.Ordering.{nat_cmp, is_eq, ordering_then}
use Rattle.std.specs.declared.cmp.Ordering.{Ordering}
use Rattle.std.specs.declared.cmp.Ordering.TheVariants.{Less, Equal, Greater}
use Rattle.first_places.specs.Places.{from_start, is_pair, pair_cmp, place_at}
use Rattle.first_places.specs.Firsts.{Tells, told_at}

tied : (a b : ℕ) → is_eq (nat_cmp a b) ≡ (a == b)
tied a b = grind (arith, nat_tests)

both_tied : (o r : Ordering) → is_eq (ordering_then o r) ≡ (is_eq o && is_eq r)
both_tied Less r = refl
both_tied Equal r = refl
both_tied Greater r = refl

pub pair_tied : (w n a b : ℕ) → is_eq (pair_cmp (w, n) (a, b)) ≡ is_pair (Some (w, n)) a b
pair_tied w n a b = both_tied (nat_cmp w a) (nat_cmp n b) ∙ (λ i. tied w a i && tied n b i)

pub first_same : (w n a b : ℕ) → is_pair (Some (w, n)) a b ≡ true → w ≡ a
first_same w n a b e = eqb-true w a (one (w == a) (n == b) e)
  where
    one : (b c : Bool) → b && c ≡ true → b ≡ true
    one true c e = refl
    one false c e = e

pub second_same : (w n a b : ℕ) → is_pair (Some (w, n)) a b ≡ true → n ≡ b
second_same w n a b e = eqb-true n b (two (w == a) (n == b) e)
  where
    two : (b c : Bool) → b && c ≡ true → c ≡ true
    two true c e = e
    two false c e = absurd cc

-- a place from the start on stays
pub already : (w n place m : ℕ) (start : ℕ → ℕ) (kept : List ((ℕ × ℕ) × ℕ)) → from_start (start w) (place_at kept w n) ≡ Some m → Tells (Some (w, n)) start place kept kept
already w n place m start kept there a b = by (is_pair (Some (w, n)) a b) refl
  where
    by : (t : Bool) → is_pair (Some (w, n)) a b ≡ t → place_at kept a b ≡ told_at t (start a) place (place_at kept a b)
    by false e = refl
    by true e =
        let here : from_start (start a) (place_at kept a b) ≡ Some m =
        (λ i. from_start (start (sym (first_same w n a b e) i)) (place_at kept (sym (first_same w n a b e) i) (sym (second_same w n a b e) i))) ∙ there in
        sym (ap (λ (o : Option ℕ). cond (not (is_some o)) (Some place) (place_at kept a b)) here)

-- where there was none, it is this one
pub newly : (w n place : ℕ) (start : ℕ → ℕ) (old new : List ((ℕ × ℕ) × ℕ)) → from_start (start w) (place_at old w n) ≡ None
    → ((a b : ℕ) → place_at new a b ≡ cond (is_pair (Some (w, n)) a b) (Some place) (place_at old a b)) → Tells (Some (w, n)) start place old new
newly w n place start old new none put a b = put a b ∙ by (is_pair (Some (w, n)) a b) refl
  where
    by : (t : Bool) → is_pair (Some (w, n)) a b ≡ t → cond t (Some place) (place_at old a b) ≡ told_at t (start a) place (place_at old a b)
    by false e = refl
    by true e =
        let here : from_start (start a) (place_at old a b) ≡ None =
        (λ i. from_start (start (sym (first_same w n a b e) i)) (place_at old (sym (first_same w n a b e) i) (sym (second_same w n a b e) i))) ∙ none in
        sym (ap (λ (o : Option ℕ). cond (not (is_some o)) (Some place) (place_at old a b)) here)
