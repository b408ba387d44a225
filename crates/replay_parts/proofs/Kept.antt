-- A value that is put at a number, at the place of its row or in the gap for it.
use Rattle.std.proofs.Common.{◌≡◌, ℕ, IsTrue, cond, [], ◌∷◌, Some, get_or, set, refl, sym, ◌∙◌, ap, subst, arith}
use Rattle.std.specs.declared.cmp.Ordering.TheVariants.{Less, Equal, Greater}
use Rattle.std.specs.FinMap.Entries.{by_order, find-put}
use Rattle.std.specs.List.{insert}
use Rattle.std.specs.Ordering.{nat_cmp, is_eq}
use Rattle.std.proofs.lemmas.Bool.Decides.{nat_tests}
use Rattle.std.proofs.lemmas.Cmp.{nat_cmp_total}
use Rattle.numbered_rows.proofs.NumberedLaws.{in_order-with_at}
use Rattle.numbered_rows.proofs.Places.{put-place, put-gap}
use Rattle.numbered_rows.specs.Numbered.{Numbered, is_in_order}
use Rattle.numbered_rows.specs.Places.{IsPlace, IsGap}
use Rattle.world_model.specs.Places.{kept_at, with_kept}

pub put_in_place : {A : Type 0} (es : Numbered A) (k : ℕ) (x : A) (i : ℕ) (row : ℕ × A) → IsPlace es k i → row ≡ get_or es i row → set es i (row.0, x) ≡ with_kept es k x
put_in_place es k x i row p e =
    let Claim : ℕ × _ → Type 0 = λ r. set es i (r.0, x) ≡ with_kept es k x in
    subst Claim (sym e) (sym (put-place es k x i row p))

pub in_order-put_in_place : {A : Type 0} (es : Numbered A) (k : ℕ) (x : A) (i : ℕ) (row : ℕ × A) → IsTrue (is_in_order es) → IsPlace es k i → row ≡ get_or es i row → IsTrue (is_in_order (set es i (row.0, x)))
in_order-put_in_place es k x i row s p e = subst (λ (es : Numbered _). IsTrue (is_in_order es)) (sym (put_in_place es k x i row p e)) (in_order-with_at es k (Some x) s)

pub put_in_gap : {A : Type 0} (es : Numbered A) (k : ℕ) (x : A) (i : ℕ) → IsGap es k i → insert es i (k, x) ≡ with_kept es k x
put_in_gap es k x i g = sym (put-gap es k x i g)

pub in_order-put_in_gap : {A : Type 0} (es : Numbered A) (k : ℕ) (x : A) (i : ℕ) → IsTrue (is_in_order es) → IsGap es k i → IsTrue (is_in_order (insert es i (k, x)))
in_order-put_in_gap es k x i s g = subst (λ (es : Numbered _). IsTrue (is_in_order es)) (sym (put_in_gap es k x i g)) (in_order-with_at es k (Some x) s)

-- What is put twice.

tied : (k : ℕ) → nat_cmp k k ≡ Equal
tied k = grind (arith, nat_tests)

pub put_put : {A : Type 0} (es : Numbered A) (k : ℕ) (x y : A) → with_kept (with_kept es k x) k y ≡ with_kept es k y
put_put [] k x y = ap (λ o. by_order o ((k, y) ∷ (k, x) ∷ []) ((k, y) ∷ []) ((k, x) ∷ (k, y) ∷ [])) (tied k)
put_put (e ∷ es) k x y =
    elim (nat_cmp k e.0) as (λ o. nat_cmp k e.0 ≡ o → with_kept (by_order o ((k, x) ∷ e ∷ es) ((e.0, x) ∷ es) (e ∷ with_kept es k x)) k y ≡ by_order o ((k, y) ∷ e ∷ es) ((e.0, y) ∷ es) (e ∷ with_kept es k y)) [
      | Less ↦ λ p. ap (λ o. by_order o ((k, y) ∷ (k, x) ∷ e ∷ es) ((k, y) ∷ e ∷ es) ((k, x) ∷ with_kept (e ∷ es) k y)) (tied k)
      | Equal ↦ λ p. ap (λ o. by_order o ((k, y) ∷ (e.0, x) ∷ es) ((e.0, y) ∷ es) ((e.0, x) ∷ with_kept es k y)) p
      | Greater ↦ λ p.
          ap (λ o. by_order o ((k, y) ∷ e ∷ with_kept es k x) ((e.0, y) ∷ with_kept es k x) (e ∷ with_kept (with_kept es k x) k y)) p
          ∙ ap (λ fs. e ∷ fs) (put_put es k x y)
    ] refl

pub kept_is_there : {A : Type 0} (es : Numbered A) (k : ℕ) (x : A) → kept_at (with_kept es k x) k ≡ Some x
kept_is_there es k x =
    find-put nat_cmp nat_cmp_total k k x es ∙ ap (λ o. cond (is_eq o) (Some x) (kept_at es k)) (tied k)
