-- What stands at a key after one change at each key, and what a test of all keys says of one.
use Rattle.std.proofs.Common.{◌≡◌, ℕ, Bool, true, false, not, cond, List, [], ◌∷◌, Option, None, Some, is_some, refl, sym, ◌∙◌, ap, subst}
use Rattle.std.specs.List.{list_any}
use Rattle.std.specs.Ordering.{nat_cmp}
use Rattle.std.specs.Cmp.Lexicographic.{slice_cmp}
use Rattle.std.specs.FinMap.Entries.{find-where_key, below_all}
use Rattle.std.proofs.lemmas.Map.Lookups.{exact_bytes}
use Rattle.etcd_types.specs.Keys.{same}
use Rattle.etcd_types.proofs.KeyOrder.{same-equal, same-itself}
use Rattle.proxy_model.specs.Keyed.{Keyed, at, is_in_order}
use Rattle.std.specs.Option.{option_map}
use Rattle.wait_model.specs.Edits.{each, without}
use Rattle.etcd_types.proofs.Bools.{or_first, or_second}
use Rattle.wait_model.proofs.Bools.{or_rest}

pub at-each : {A B : Type 0} (f : List ℕ → A → B) (es : Keyed A) (k : List ℕ) → at (each f es) k ≡ option_map (f k) (at es k)
at-each f [] k = refl
at-each {A} {B} f (e ∷ es) k =
    elim (same k e.0) as (λ b. same k e.0 ≡ b → cond b (Some (f e.0 e.1)) (at (each f es) k) ≡ option_map (f k) (cond b (Some e.1) (at es k))) [
      | true ↦ λ t. ap (λ (j : List ℕ). Some (f j e.1)) (sym (same-equal k e.0 t))
      | false ↦ λ t. at-each f es k
    ] refl

pub at-without : {A : Type 0} (p : List ℕ → Bool) (es : Keyed A) (k : List ℕ) → at (without p es) k ≡ cond (p k) None (at es k)
at-without p es k =
    find-where_key (slice_cmp nat_cmp) (λ x. not (p x)) k (λ x e. ap (λ (y : List ℕ). not (p y)) (sym (exact_bytes k x e))) es ∙ turned (p k)
  where
    turned : (b : Bool) → cond (not b) (at es k) None ≡ cond b None (at es k)
    turned true = refl
    turned false = refl

-- the keys stay as they are, and in order
below-each : {A B : Type 0} (f : List ℕ → A → B) (k : List ℕ) (es : Keyed A) → below_all (slice_cmp nat_cmp) k (each f es) ≡ below_all (slice_cmp nat_cmp) k es
below-each f k [] = refl
below-each f k (e ∷ es) = rw (below-each f k es) refl

pub in_order-each : {A B : Type 0} (f : List ℕ → A → B) (es : Keyed A) → is_in_order (each f es) ≡ is_in_order es
in_order-each f [] = refl
in_order-each f (e ∷ es) = rw (below-each f e.0 es, in_order-each f es) refl

-- where no key that stands passes the test, one that passes has nothing
pub none_any : {A : Type 0} (p : List ℕ → Bool) (es : Keyed A) (k : List ℕ) → list_any (λ e. p e.0) es ≡ false → p k ≡ true → is_some (at es k) ≡ false
none_any p [] k n t = refl
none_any p (e ∷ es) k n t =
    elim (same k e.0) as (λ b. same k e.0 ≡ b → is_some (cond b (Some e.1) (at es k)) ≡ false) [
      | true ↦ λ s. let q = sym (subst (λ (j : List ℕ). p j ≡ true) (same-equal k e.0 s) t) ∙ or_first (p e.0) (list_any (λ f. p f.0) es) n in absurd (cc)
      | false ↦ λ s. none_any p es k (or_second (p e.0) (list_any (λ f. p f.0) es) n) t
    ] refl

-- where some key that stands passes, there is one with something at it
pub some_any : {A : Type 0} (p : List ℕ → Bool) (es : Keyed A) → list_any (λ e. p e.0) es ≡ true → (k : List ℕ) × (p k ≡ true) × (is_some (at es k) ≡ true)
some_any p [] t = absurd (cc)
some_any p (e ∷ es) t =
    elim (p e.0) as (λ b. p e.0 ≡ b → (k : List ℕ) × (p k ≡ true) × (is_some (at (e ∷ es) k) ≡ true)) [
      | true ↦ λ s. (e.0, s, ap (λ (b : Bool). is_some (cond b (Some e.1) (at es e.0))) (same-itself e.0))
      | false ↦ λ s. let r = some_any p es (or_rest (p e.0) (list_any (λ f. p f.0) es) s t) in (r.0, r.1, behind (same r.0 e.0) e.1 (at es r.0) r.2)
    ] refl
  where
    behind : {A : Type 0} (b : Bool) (x : A) (o : Option A) → is_some o ≡ true → is_some (cond b (Some x) o) ≡ true
    behind true x o h = refl
    behind false x o h = h
