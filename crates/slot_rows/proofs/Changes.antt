-- One row changed, by its place.
use Rattle.std.proofs.Common.{◌≡◌, ℕ, zero, suc, List, [], ◌∷◌, get_or, set, length, refl, sym, ap, ◌∙◌}
use Rattle.std.specs.Ordering.{nat_cmp}
use Rattle.std.specs.Cmp.Lexicographic.{slice_cmp}
use Rattle.std.specs.FinMap.Entries.{below_all}
use Rattle.std.specs.Option.{option_map}
use Rattle.proxy_model.specs.Keyed.{Keyed, with_at, changed_at, is_in_order}
use Rattle.keyed_rows.specs.Places.{IsPlace}
use Rattle.keyed_rows.proofs.Places.{at-place, put-place}
use Rattle.slot_rows.specs.Roomy.{changed_in}

pub set-changed : {A : Type 0} (es : Keyed A) (i : ℕ) (f : A → A) (d : List ℕ × A) → set es i ((get_or es i d).0, f (get_or es i d).1) ≡ changed_in es i f
set-changed [] i f d = refl
set-changed (e ∷ es) zero f d = refl
set-changed (e ∷ es) (suc i) f d = ap (λ fs. e ∷ fs) (set-changed es i f d)

pub length-changed : {A : Type 0} (es : Keyed A) (i : ℕ) (f : A → A) → length (changed_in es i f) ≡ length es
length-changed [] i f = refl
length-changed (e ∷ es) zero f = refl
length-changed (e ∷ es) (suc i) f = ap suc (length-changed es i f)

below-changed : {A : Type 0} (k : List ℕ) (es : Keyed A) (i : ℕ) (f : A → A) → below_all (slice_cmp nat_cmp) k (changed_in es i f) ≡ below_all (slice_cmp nat_cmp) k es
below-changed k [] i f = refl
below-changed k (e ∷ es) zero f = refl
below-changed k (e ∷ es) (suc i) f = rw (below-changed k es i f) refl

pub in_order-changed_in : {A : Type 0} (es : Keyed A) (i : ℕ) (f : A → A) → is_in_order (changed_in es i f) ≡ is_in_order es
in_order-changed_in [] i f = refl
in_order-changed_in (e ∷ es) zero f = refl
in_order-changed_in (e ∷ es) (suc i) f = rw (below-changed e.0 es i f, in_order-changed_in es i f) refl

pub changed_in-place : {A : Type 0} (es : Keyed A) (k : List ℕ) (i : ℕ) (f : A → A) → IsPlace es k i → changed_in es i f ≡ changed_at es k f
changed_in-place [] k i f p = absurd p
changed_in-place (e ∷ es) k i f p =
    sym (set-changed (e ∷ es) i f e) ∙ sym (ap (λ o. with_at (e ∷ es) k (option_map f o)) (at-place (e ∷ es) k i e p) ∙ put-place (e ∷ es) k (f (get_or (e ∷ es) i e).1) i e p)
