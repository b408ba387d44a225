-- Rows left out by a test of each: the keys stay in order, and in a list that is in order the test may look at what stands at the key.
use Rattle.std.proofs.Common.{◌≡◌, ℕ, Bool, true, false, not, cond, ◌&&◌, IsTrue, List, [], ◌∷◌, filter, Option, Some, refl, sym, ◌∙◌, ap}
use lib.Dec.{T}
use Rattle.std.specs.Ordering.{is_eq, is_lt}
use Rattle.std.specs.FinMap.{is_sorted}
use Rattle.std.specs.FinMap.Entries.{below_all}
use Rattle.etcd_types.proofs.KeyOrder.{same-itself}
use Rattle.proxy_model.specs.Keyed.{Keyed, at, is_in_order}
use Rattle.proxy_model.proofs.KeyedLaws.{to_T, from_T}
use Rattle.wait_model.specs.Edits.{without}
use Rattle.keyed_rows.proofs.Places.{order, first_T, second_part, less, turned, first_part}

both_T : (a b : Bool) → T a → T b → T (a && b)
both_T true b x y = y
both_T false b x y = absurd x

below-filter : {A : Type 0} (p : List ℕ × A → Bool) (k : List ℕ) (es : Keyed A) → T (below_all order k es) → T (below_all order k (filter p es))
below-filter p k [] h = tt
below-filter p k (e ∷ es) h = one (p e) (below-filter p k es (second_part (is_lt (order k e.0)) _ h))
  where
    one : (b : Bool) → T (below_all order k (filter p es)) → T (below_all order k (cond b (e ∷ filter p es) (filter p es)))
    one true r = both_T (is_lt (order k e.0)) _ (first_T (is_lt (order k e.0)) _ h) r
    one false r = r

sorted-filter : {A : Type 0} (p : List ℕ × A → Bool) (es : Keyed A) → T (is_sorted order es) → T (is_sorted order (filter p es))
sorted-filter p [] h = tt
sorted-filter p (e ∷ es) h = one (p e) (sorted-filter p es (second_part (below_all order e.0 es) _ h))
  where
    one : (b : Bool) → T (is_sorted order (filter p es)) → T (is_sorted order (cond b (e ∷ filter p es) (filter p es)))
    one true r = both_T (below_all order e.0 (filter p es)) _ (below-filter p e.0 es (first_T (below_all order e.0 es) _ h)) r
    one false r = r

pub in_order-filter : {A : Type 0} (p : List ℕ × A → Bool) (es : Keyed A) → IsTrue (is_in_order es) → IsTrue (is_in_order (filter p es))
in_order-filter p es h = from_T _ (sorted-filter p es (to_T _ h))

-- each of these rows is what stands at its key
abbrev AllAt : {A : Type 0} → Keyed A → Keyed A → Type 0
AllAt es [] = Unit {0}
AllAt es (f ∷ fs) = (at es f.0 ≡ Some f.1) × AllAt es fs

-- also behind one more row, whose key is below all
behind : {A : Type 0} (e : List ℕ × A) (es fs : Keyed A) → T (below_all order e.0 fs) → AllAt es fs → AllAt (e ∷ es) fs
behind e es [] b h = tt
behind e es (f ∷ fs) b h =
    let l = less (order e.0 f.0) (first_part (is_lt (order e.0 f.0)) _ b) in
    (ap (λ c. cond c (Some e.1) (at es f.0)) (ap is_eq (turned e.0 f.0 _ l)) ∙ h.0, behind e es fs (second_part (is_lt (order e.0 f.0)) _ b) h.1)

all_at : {A : Type 0} (es : Keyed A) → T (is_sorted order es) → AllAt es es
all_at [] s = tt
all_at (e ∷ es) s =
    (ap (λ c. cond c (Some e.1) (at es e.0)) (same-itself e.0), behind e es es (first_T (below_all order e.0 es) _ s) (all_at es (second_part (below_all order e.0 es) _ s)))

by_keys : {A : Type 0} (q : Option A → Bool) (es fs : Keyed A) → AllAt es fs → filter (λ f. not (q (Some f.1))) fs ≡ filter (λ f. not (q (at es f.0))) fs
by_keys q es [] h = refl
by_keys q es (f ∷ fs) h = λ i.
    let b = ap (λ o. not (q o)) (sym h.0) i in
    cond b (f ∷ by_keys q es fs h.1 i) (by_keys q es fs h.1 i)

pub left_out : {A : Type 0} (q : Option A → Bool) (es : Keyed A) → IsTrue (is_in_order es) → filter (λ e. not (q (Some e.1))) es ≡ without (λ k. q (at es k)) es
left_out q es h = by_keys q es es (all_at es (to_T _ h))
