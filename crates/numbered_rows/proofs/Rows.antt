-- What holds of each row of a list that is in order, from what is found in it.
use Rattle.std.proofs.Common.{◌≡◌, ℕ, true, false, cond, [], ◌∷◌, Some, None, refl, ap, arith}
use lib.Dec.{T}
use Rattle.std.specs.Ordering.{nat_cmp}
use Rattle.std.specs.FinMap.{is_sorted}
use Rattle.std.proofs.lemmas.Bool.Decides.{nat_tests}
use Rattle.numbered_rows.specs.Numbered.{Numbered, same_number, at}
use Rattle.numbered_rows.proofs.Places.{none_found, below_head, rest_T}

pub alike : (n : ℕ) → same_number n n ≡ true
alike n = grind (arith, nat_tests)

pub one_number : (m n : ℕ) → same_number m n ≡ true → m ≡ n
one_number m n e = grind (arith, nat_tests)

-- Of each row.

abbrev pub EachRow : {A : Type 0} → (ℕ → A → Type 0) → Numbered A → Type 0
EachRow P [] = Unit {0}
EachRow P (e ∷ es) = P e.0 e.1 × EachRow P es

pub each_row : {A : Type 0} (P : ℕ → A → Type 0) (es : Numbered A) → T (is_sorted nat_cmp es) → ((n : ℕ) (a : A) → at es n ≡ Some a → P n a) → EachRow P es
each_row P [] s h = tt
each_row P (e ∷ es) s h =
    (h e.0 e.1 (ap (λ b. cond b (Some e.1) (at es e.0)) (alike e.0)), each_row P es (rest_T e es s) (λ n a f. h n a (later n a f)))
  where
    later : (n : ℕ) (a : _) → at es n ≡ Some a → at (e ∷ es) n ≡ Some a
    later n a f =
        elim (same_number n e.0) as (λ b. same_number n e.0 ≡ b → cond b (Some e.1) (at es n) ≡ Some a) [
          | true ↦ λ t. absurd (let gone : at es e.0 ≡ None = none_found es e.0 (below_head e es s) in let one : n ≡ e.0 = one_number n e.0 t in cc)
          | false ↦ λ t. f
        ] refl
