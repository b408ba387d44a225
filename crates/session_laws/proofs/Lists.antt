-- What stands in a list at a number, where one more is pushed or one is changed.
use Rattle.std.proofs.Common.{◌≡◌, inl, inr, ℕ, zero, suc, ◌+◌, ◌-◌, ◌==◌, Bool, true, false, cond, List, [], ◌∷◌, ◌++◌, length, slice_get, Option, None, Some, refl, sym, ◌∙◌, ap, arith}
use Rattle.world_model.specs.Places.{nth}
use Rattle.core_laws.proofs.Steps.Lists.{number_itself}
use Rattle.held_laws.proofs.Opens.{nth_push}

get_front : {A : Type 0} (xs : List A) (y : A) (i : ℕ) (z : A) → slice_get xs i ≡ Some z → slice_get (xs ++ y ∷ []) i ≡ Some z
get_front [] y i z e = absurd (cc)
get_front (x ∷ xs) y zero z e = e
get_front (x ∷ xs) y (suc i) z e = get_front xs y i z e

pub nth_front : {A : Type 0} (xs : List A) (y : A) (number : ℕ) (z : A) → nth xs number ≡ Some z → nth (xs ++ y ∷ []) number ≡ Some z
nth_front xs y number z e = by (number == 0) e
  where
    by : (b : Bool) → cond b None (slice_get xs (number - 1)) ≡ Some z → cond b None (slice_get (xs ++ y ∷ []) (number - 1)) ≡ Some z
    by true e = absurd (cc)
    by false e = get_front xs y (number - 1) z e

get_past : {A : Type 0} (xs : List A) → slice_get xs (length xs) ≡ None
get_past [] = refl
get_past (x ∷ xs) = get_past xs

-- nothing stands behind the last
pub nth_next : {A : Type 0} (xs : List A) → nth xs (length xs + 1) ≡ None
nth_next xs = by (length xs + 1 == 0)
  where
    less : (n : ℕ) → n + 1 - 1 ≡ n
    less n = omega arith

    by : (b : Bool) → cond b None (slice_get xs (length xs + 1 - 1)) ≡ None
    by true = refl
    by false = ap (slice_get xs) (less (length xs)) ∙ get_past xs

-- at every other number it is as it was
pub nth_pushed : {A : Type 0} (xs : List A) (y : A) (number : ℕ) → (number == length xs + 1) ≡ false → nth (xs ++ y ∷ []) number ≡ nth xs number
nth_pushed {A} xs y number n = by (nth (xs ++ y ∷ []) number) refl (nth xs number) refl
  where
    not_last : {B : Type 0} → number ≡ length xs + 1 → B
    not_last e = absurd (let f : true ≡ false = sym (number_itself number) ∙ ap (λ (m : ℕ). number == m) e ∙ n in cc)

    by : (o : Option A) → nth (xs ++ y ∷ []) number ≡ o → (q : Option A) → nth xs number ≡ q → o ≡ q
    by None e None f = refl
    by None e (Some z) f = absurd (let g : None ≡ Some z = sym e ∙ nth_front xs y number z f in cc)
    by (Some z) e q f = elim (nth_push xs y number z e) [ inl g ↦ sym g ∙ f | inr g ↦ not_last g.0 ]
