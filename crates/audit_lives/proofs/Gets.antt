-- What stands at a place of a list behind one element more.
use Rattle.std.proofs.Common.{◌≡◌, ℕ, zero, suc, ◌<◌, ◌==◌, Bool, false, List, [], ◌∷◌, ◌++◌, length, Some, refl, sym, ◌∙◌, arith}
use Rattle.std.specs.Prelude.{slice_get}
use Rattle.std.proofs.lemmas.Bool.Decides.{nat_tests}

pub last_got : {A : Type 0} (xs : List A) (y : A) → slice_get (xs ++ y ∷ []) (length xs) ≡ Some y
last_got [] y = refl
last_got (x ∷ xs) y = last_got xs y

pub before_got : {A : Type 0} (xs : List A) (y : A) (n : ℕ) → n < length xs → slice_get (xs ++ y ∷ []) n ≡ slice_get xs n
before_got [] y n l = absurd (omega (arith, l))
before_got (x ∷ xs) y zero l = refl
before_got (x ∷ xs) y (suc n) l = before_got xs y n (omega (arith, l))

same_next : (m n : ℕ) → (suc m == suc n) ≡ (m == n)
same_next m n = grind (arith, nat_tests)

pub other_got : {A : Type 0} (xs : List A) (y : A) (n : ℕ) → (length xs == n) ≡ false → slice_get (xs ++ y ∷ []) n ≡ slice_get xs n
other_got [] y zero e = absurd (cc)
other_got [] y (suc n) e = refl
other_got (x ∷ xs) y zero e = refl
other_got (x ∷ xs) y (suc n) e = other_got xs y n (sym (same_next (length xs) n) ∙ e)
