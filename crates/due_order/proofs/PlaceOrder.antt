-- The order of due jobs is that of lists of numbers, and so what is earlier than an earlier one is earlier.
use Rattle.std.proofs.Common.{◌≡◌, ℕ, ◌<◌, ◌==◌, Bool, true, false, not, ◌||◌, ◌&&◌, nat_lt, List, [], ◌∷◌, refl, sym, ◌∙◌, ap, inl, inr, arith}
use Rattle.std.proofs.lemmas.Bool.{cases_order}
use Rattle.std.proofs.lemmas.Bool.Decides.{nat_tests}
use Rattle.etcd_types.specs.Keys.{up_to}
use Rattle.etcd_types.proofs.Bools.{and_false, or_false, not_true, false_not, not_false}
use Rattle.etcd_types.proofs.KeyOrder.{up_to-along, up_to-either, head_below, head_same, head_above}
use Rattle.wait_model.specs.declared.due.Place.{Place}
use Rattle.wait_model.specs.DueOrder.{less_then, kind_rank, is_earlier}

-- a place as a list of numbers
abbrev numbers : Place → List ℕ
numbers p = p.since ∷ kind_rank p.kind ∷ p.number ∷ []

less_by_lists : (a b : ℕ) (rest : Bool) (xs ys : List ℕ) → rest ≡ not (up_to ys xs) → less_then a b rest ≡ not (up_to (b ∷ ys) (a ∷ xs))
less_by_lists a b rest xs ys h =
    elim (cases_order a b) [
      | inl e ↦ same_first e
      | inr o ↦ elim o [ inl l ↦ below l | inr g ↦ above g ]
    ]
  where
    same_first : a ≡ b → less_then a b rest ≡ not (up_to (b ∷ ys) (a ∷ xs))
    same_first e =
        let lt : nat_lt a b ≡ false = grind (arith, nat_tests) in
        let eq : (a == b) ≡ true = grind (arith, nat_tests) in
        ap (λ t. t || ((a == b) && rest)) lt ∙ ap (λ t. t && rest) eq ∙ h ∙ ap not (sym (head_same a ys xs)) ∙ ap (λ n. not (up_to (n ∷ ys) (a ∷ xs))) e

    below : a < b → less_then a b rest ≡ not (up_to (b ∷ ys) (a ∷ xs))
    below l =
        let lt : nat_lt a b ≡ true = grind (arith, nat_tests) in
        ap (λ t. t || ((a == b) && rest)) lt ∙ ap not (sym (head_above b a ys xs l))

    above : b < a → less_then a b rest ≡ not (up_to (b ∷ ys) (a ∷ xs))
    above g =
        let lt : nat_lt a b ≡ false = grind (arith, nat_tests) in
        let eq : (a == b) ≡ false = grind (arith, nat_tests) in
        ap (λ t. t || ((a == b) && rest)) lt ∙ ap (λ t. t && rest) eq ∙ ap not (sym (head_below b a ys xs g))

by_numbers : (p q : Place) → is_earlier p q ≡ not (up_to (numbers q) (numbers p))
by_numbers p q =
    less_by_lists p.since q.since (less_then (kind_rank p.kind) (kind_rank q.kind) (nat_lt p.number q.number)) (kind_rank p.kind ∷ p.number ∷ []) (kind_rank q.kind ∷ q.number ∷ [])
    (less_by_lists (kind_rank p.kind) (kind_rank q.kind) (nat_lt p.number q.number) (p.number ∷ []) (q.number ∷ [])
    (last p.number q.number))
  where
    last : (n m : ℕ) → nat_lt n m ≡ not (up_to (m ∷ []) (n ∷ []))
    last n m =
        sym (ap (λ t. nat_lt n m || t) (and_false (n == m)) ∙ or_false (nat_lt n m)) ∙ less_by_lists n m false [] [] refl

-- what is earlier than an earlier one is earlier
pub earlier_along : (p q r : Place) → is_earlier p q ≡ true → is_earlier q r ≡ true → is_earlier p r ≡ true
earlier_along p q r pq qr =
    let a : up_to (numbers q) (numbers p) ≡ false = not_true _ (sym (by_numbers p q) ∙ pq) in
    let b : up_to (numbers r) (numbers q) ≡ false = not_true _ (sym (by_numbers q r) ∙ qr) in
    by_numbers p r ∙ false_not _ (by_test a b (up_to (numbers r) (numbers p)) refl)
  where
    by_test : up_to (numbers q) (numbers p) ≡ false → up_to (numbers r) (numbers q) ≡ false → (t : Bool) → up_to (numbers r) (numbers p) ≡ t → up_to (numbers r) (numbers p) ≡ false
    by_test a b false e = e
    by_test a b true e =
        absurd (elim (up_to-either (numbers q) (numbers p)) [
          | inl u ↦ cc
          | inr v ↦ let w : up_to (numbers r) (numbers q) ≡ true = up_to-along (numbers r) (numbers p) (numbers q) e v in cc
        ])

-- what isn't earlier than one that isn't earlier isn't earlier
pub no_earlier_along : (p q r : Place) → is_earlier p q ≡ false → is_earlier q r ≡ false → is_earlier p r ≡ false
no_earlier_along p q r pq qr =
    let a : up_to (numbers q) (numbers p) ≡ true = not_false _ (sym (by_numbers p q) ∙ pq) in
    let b : up_to (numbers r) (numbers q) ≡ true = not_false _ (sym (by_numbers q r) ∙ qr) in
    by_numbers p r ∙ ap not (up_to-along (numbers r) (numbers q) (numbers p) b a)
