-- Numbers, and maps of numbers.
use Rattle.std.proofs.Common.{◌≡◌, ◌≢◌, ℕ, ◌==◌, Bool, true, false, cond, ap, arith}
use Rattle.std.proofs.lemmas.Bool.Decides.{nat_tests}
use Rattle.cache_laws.specs.Moves.View.{put}

pub same_number : (a b : ℕ) → (a == b) ≡ true → a ≡ b
same_number a b e = grind (arith, nat_tests)

pub other_number : (a b : ℕ) → (a == b) ≡ false → a ≢ b
other_number a b e = grind (arith, nat_tests)

pub itself : (a : ℕ) → (a == a) ≡ true
itself a = grind (arith, nat_tests)

pub put_here : {A : Type 0} (m : ℕ → A) (i j : ℕ) (x : A) → (j == i) ≡ true → put m i x j ≡ x
put_here m i j x e = ap (λ (t : Bool). cond t x (m j)) e

pub put_other : {A : Type 0} (m : ℕ → A) (i j : ℕ) (x : A) → (j == i) ≡ false → put m i x j ≡ m j
put_other m i j x e = ap (λ (t : Bool). cond t x (m j)) e
