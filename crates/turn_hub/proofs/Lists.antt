-- Beginnings of lists, and numbers added up over all views.
use Rattle.std.proofs.Common.{◌≡◌, ℕ, zero, suc, ◌+◌, ◌<◌, ◌≤◌, ◌≢◌, Bool, true, false, cond, eqb, ltb, List, [], ◌∷◌, ◌++◌, length, set, sym, refl, ap, ◌∙◌, subst, ⊎_elim, append_assoc, length-append, arith}
use Rattle.std.proofs.lemmas.Bool.Decides.{nat_tests}
use Rattle.std.proofs.lemmas.List.{append-nil}
use mathlib.Core.Option.{some, some-injective, some-ne-none}
use lib.ListN.{get_elem?}
use Rattle.atomic_table.proofs.Lists.{at_set}
use Rattle.turn_hub.specs.History.{Begins, times}
use Rattle.turn_hub.specs.Views.{longer}
use Rattle.turn_hub.specs.Rule.{total, AllBegin}

module _ {A : Type 0} where
  pub begins-refl : (xs : List A) → Begins xs xs
  begins-refl xs = ([], sym (append-nil xs))

  pub begins-trans : (xs ys zs : List A) → Begins xs ys → Begins ys zs → Begins xs zs
  begins-trans xs ys zs p q = (p.0 ++ q.0, q.1 ∙ ap (λ (l : List A). l ++ q.0) p.1 ∙ append_assoc xs p.0 q.0)

  pub begins-more : (xs ys zs : List A) → Begins xs ys → Begins xs (ys ++ zs)
  begins-more xs ys zs p = begins-trans xs ys (ys ++ zs) p (zs, refl)

  pub begins-length : (xs ys : List A) → Begins xs ys → length xs ≤ length ys
  begins-length xs ys p = omega (arith, length-append xs p.0, ap (λ (l : List A). length l) p.1)

  both_begin : (xs ys r s : List A) → xs ++ r ≡ ys ++ s → length xs ≤ length ys → Begins xs ys
  both_begin [] ys r s e h = (ys, refl)
  both_begin (x ∷ xs) [] r s e h = absurd (omega arith)
  both_begin (x ∷ xs) (y ∷ ys) r s e h =
      let t = both_begin xs ys r s (cc) (omega arith) in let p = t.1 in let q : x ≡ y = (cc) in (t.0, (cc))

  -- of two beginnings of one list, the shorter begins the longer
  pub shorter_begins : (xs ys log : List A) → Begins xs log → Begins ys log → length xs ≤ length ys → Begins xs ys
  shorter_begins xs ys log p q h = both_begin xs ys p.0 q.0 (sym p.1 ∙ q.1) h

  pub longer-begins : (xs ys log : List A) → Begins xs log → Begins ys log → Begins (longer xs ys) log
  longer-begins xs ys log p q = elim (ltb (length xs) (length ys)) as (λ b. Begins (cond b ys xs) log) [ true ↦ q | false ↦ p ]

  pub all_begin-more : (hs : List (List A)) (log more : List A) → AllBegin hs log → AllBegin hs (log ++ more)
  all_begin-more [] log more p = tt
  all_begin-more (h ∷ hs) log more p = (begins-more h log more p.0, all_begin-more hs log more p.1)

pub longer-length : {A : Type 0} (xs ys : List A) → (length xs ≤ length (longer xs ys)) × (length ys ≤ length (longer xs ys))
longer-length xs ys = longer-at xs ys (ltb (length xs) (length ys)) refl
  where
    longer-at : {A : Type 0} (xs ys : List A) (b : Bool) → ltb (length xs) (length ys) ≡ b → (length xs ≤ length (cond b ys xs)) × (length ys ≤ length (cond b ys xs))
    longer-at xs ys true e = (let h : length xs < length ys = grind (arith, nat_tests) in omega arith, omega arith)
    longer-at xs ys false e = (omega arith, grind (arith, nat_tests))

pub times-append : (k : ℕ) (xs ys : List ℕ) → times k (xs ++ ys) ≡ times k xs + times k ys
times-append k [] ys = omega arith
times-append k (x ∷ xs) ys =
    let h = times-append k xs ys in
    elim (eqb x k) as (λ b. cond b (1 + times k (xs ++ ys)) (times k (xs ++ ys)) ≡ cond b (1 + times k xs) (times k xs) + times k ys) [ true ↦ omega arith | false ↦ h ]

module _ {V : Type 0} (f : V → ℕ) where
  pub total-append : (vs ws : List V) → total f (vs ++ ws) ≡ total f vs + total f ws
  total-append [] ws = omega arith
  total-append (v ∷ vs) ws = let h = total-append vs ws in omega arith

  pub total_set : (views : List V) (id : ℕ) (v w : V) → get_elem? views id ≡ some v → total f (set views id w) + f v ≡ total f views + f w
  total_set [] id v w at = absurd (some-ne-none v (sym at))
  total_set (u ∷ views) zero v w at = let e : f u ≡ f v = ap f (some-injective u v at) in omega arith
  total_set (u ∷ views) (suc id) v w at = let h = total_set views id v w at in omega arith

  pub total_at : (views : List V) (id : ℕ) (v : V) → get_elem? views id ≡ some v → f v ≤ total f views
  total_at [] id v at = absurd (some-ne-none v (sym at))
  total_at (u ∷ views) zero v at = let e : f u ≡ f v = ap f (some-injective u v at) in omega arith
  total_at (u ∷ views) (suc id) v at = let h = total_at views id v at in omega arith

  pub total_none : (views : List V) → ((id : ℕ) (v : V) → get_elem? views id ≡ some v → f v ≡ 0) → total f views ≡ 0
  total_none [] none = refl
  total_none (v ∷ views) none =
      let here = none 0 v refl in let there = total_none views (λ id. none (suc id)) in omega arith

pub at_here : {V : Type 0} (views : List V) (id : ℕ) (v w : V) → get_elem? views id ≡ some v → get_elem? (set views id w) id ≡ some w
at_here [] id v w at = absurd (some-ne-none v (sym at))
at_here (u ∷ views) zero v w at = refl
at_here (u ∷ views) (suc id) v w at = at_here views id v w at

-- what holds of the new view and of each other view holds of all
pub each_set : {V : Type 0} (Q : ℕ → V → Type 0) (views : List V) (id : ℕ) (w : V) → Q id w → ((j : ℕ) (u : V) → j ≢ id → get_elem? views j ≡ some u → Q j u)
    → (j : ℕ) (u : V) → get_elem? (set views id w) j ≡ some u → Q j u
each_set {V} Q views id w here there j u at =
    ⊎_elim (λ t. let P : ℕ → Type 0 = λ i. Q i w in let R : V → Type 0 = λ x. Q j x in subst R t.1 (subst P (sym t.0) here)) (λ t. there j u t.0 t.1) (at_set views id j w u at)
