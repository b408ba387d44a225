-- Keys left out of what is kept by key.
use Rattle.std.proofs.Common.{◌≡◌, ℕ, Bool, true, false, not, cond, ◌||◌, List, [], ◌∷◌, ap, refl, ◌∙◌}
use Rattle.proxy_model.specs.Keyed.{Keyed}
use Rattle.wait_model.specs.Edits.{without}

-- two tests that agree leave out the same
pub without_same : {A : Type 0} (p q : List ℕ → Bool) (es : Keyed A) → ((k : List ℕ) → p k ≡ q k) → without p es ≡ without q es
without_same p q [] h = refl
without_same p q (e ∷ es) h = λ i. cond (not (h e.0 i)) (e ∷ without_same p q es h i) (without_same p q es h i)

pub without_none : {A : Type 0} (p : List ℕ → Bool) (es : Keyed A) → ((k : List ℕ) → p k ≡ false) → without p es ≡ es
without_none p [] h = refl
without_none p (e ∷ es) h =
    ap (λ b. cond (not b) (e ∷ without p es) (without p es)) (h e.0) ∙ ap (λ (fs : Keyed _). e ∷ fs) (without_none p es h)

pub without_twice : {A : Type 0} (p q : List ℕ → Bool) (es : Keyed A) → without q (without p es) ≡ without (λ k. p k || q k) es
without_twice p q [] = refl
without_twice p q (e ∷ es) = one (p e.0) (without_twice p q es)
  where
    one : (b : Bool) → without q (without p es) ≡ without (λ k. p k || q k) es → without q (cond (not b) (e ∷ without p es) (without p es)) ≡ cond (not (b || q e.0)) (e ∷ without (λ k. p k || q k) es) (without (λ k. p k || q k) es)
    one true r = r
    one false r = λ i. cond (not (q e.0)) (e ∷ r i) (r i)
