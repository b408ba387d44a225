-- Lists that compare as the same by a test are one, where the test tells one member from another.
use Rattle.std.proofs.Common.{◌≡◌, Bool, true, false, ◌==◌, List, [], ◌∷◌, length, refl, arith}
use Rattle.std.proofs.lemmas.Bool.{eqb-true, eq-eqb}
use Rattle.std.specs.List.{list_all, zip}
use Rattle.etcd_types.proofs.Bools.{and_first, and_second, and_both}
use Rattle.equal_values.specs.Lists.{same_all, same_flag}

zipped-equal : {A : Type 0} (test : A → A → Bool) → ((a b : A) → test a b ≡ true → a ≡ b) → (xs ys : List A) → length xs ≡ length ys → list_all (λ p. test p.0 p.1) (zip xs ys) ≡ true → xs ≡ ys
zipped-equal test one [] [] l e = refl
zipped-equal test one [] (y ∷ ys) l e = absurd (omega (arith, l))
zipped-equal test one (x ∷ xs) [] l e = absurd (omega (arith, l))
zipped-equal test one (x ∷ xs) (y ∷ ys) l e =
    let rest = list_all (λ p. test p.0 p.1) (zip xs ys) in
    λ i. one x y (and_first (test x y) rest e) i ∷ zipped-equal test one xs ys (omega (arith, l)) (and_second (test x y) rest e) i

pub all-equal : {A : Type 0} (test : A → A → Bool) → ((a b : A) → test a b ≡ true → a ≡ b) → (xs ys : List A) → same_all test xs ys ≡ true → xs ≡ ys
all-equal test one xs ys e =
    let pairs = list_all (λ p. test p.0 p.1) (zip xs ys) in
    zipped-equal test one xs ys (eqb-true (length xs) (length ys) (and_first (length xs == length ys) pairs e)) (and_second (length xs == length ys) pairs e)

zipped-itself : {A : Type 0} (test : A → A → Bool) → ((a : A) → test a a ≡ true) → (xs : List A) → list_all (λ p. test p.0 p.1) (zip xs xs) ≡ true
zipped-itself test one [] = refl
zipped-itself test one (x ∷ xs) = and_both (test x x) (list_all (λ p. test p.0 p.1) (zip xs xs)) (one x) (zipped-itself test one xs)

pub all-itself : {A : Type 0} (test : A → A → Bool) → ((a : A) → test a a ≡ true) → (xs : List A) → same_all test xs xs ≡ true
all-itself test one xs = and_both (length xs == length xs) (list_all (λ p. test p.0 p.1) (zip xs xs)) (eq-eqb (length xs) (length xs) refl) (zipped-itself test one xs)

pub flag-equal : (a b : Bool) → same_flag a b ≡ true → a ≡ b
flag-equal true true e = refl
flag-equal true false e = absurd (cc)
flag-equal false true e = absurd (cc)
flag-equal false false e = refl

pub flag-itself : (a : Bool) → same_flag a a ≡ true
flag-itself true = refl
flag-itself false = refl
