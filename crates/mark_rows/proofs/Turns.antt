-- What comes of a row that goes while another one goes in, and of a row at the place of its own mark.
use Rattle.std.proofs.Common.{◌≡◌, ℕ, zero, suc, ◌-◌, ◌<◌, ◌≤◌, true, false, cond, ◌==◌, IsTrue, List, [], ◌∷◌, length, get_or, set, None, Some, is_some, refl, sym, ◌∙◌, ap, subst, arith}
use lib.Dec.{T}
use Rattle.std.specs.Ordering.{is_eq, ordering_index}
use Rattle.std.specs.declared.cmp.Ordering.{Ordering}
use Rattle.std.specs.declared.cmp.Ordering.TheVariants.{Less, Equal, Greater}
use Rattle.std.specs.List.{insert, remove}
use Rattle.std.specs.FinMap.{is_sorted}
use Rattle.std.specs.FinMap.Entries.{below_all}
use Rattle.std.proofs.lemmas.Cmp.{nat_list_cmp_total}
use Rattle.etcd_types.specs.Keys.{same}
use Rattle.etcd_types.proofs.KeyOrder.{same-equal}
use Rattle.proxy_model.specs.Keyed.{Keyed, at, with_at, is_in_order}
use Rattle.proxy_model.proofs.KeyedLaws.{to_T, at-with_at, in_order-with_at}
use Rattle.keyed_rows.specs.Places.{IsPlace, IsGap}
use Rattle.keyed_rows.proofs.Places.{order, first_part, first_T, second_part, less, put-place, place-is_some, at-gap}
use Rattle.keyed_rows.proofs.Edits.{removed, put_in_gap}

-- The row at a mark's place has this mark.

key_there : {A : Type 0} (es : Keyed A) (k : List ℕ) (i : ℕ) (d : List ℕ × A) → IsPlace es k i → (get_or es i d).0 ≡ k
key_there [] k i d p = absurd p
key_there (e ∷ es) k zero d p = sym (same-equal k e.0 (ap is_eq p))
key_there (e ∷ es) k (suc i) d p = key_there es k i d p.1

pub set_in_place : {A : Type 0} (es : Keyed A) (k : List ℕ) (x : A) (i : ℕ) → IsPlace es k i → set es i (k, x) ≡ with_at es k (Some x)
set_in_place [] k x i p = absurd p
set_in_place (e ∷ es) k x i p =
    subst (λ (j : List ℕ). set (e ∷ es) i (j, x) ≡ with_at (e ∷ es) k (Some x)) (key_there (e ∷ es) k i e p) (sym (put-place (e ∷ es) k x i e p))

pub in_order-set_in_place : {A : Type 0} (es : Keyed A) (k : List ℕ) (x : A) (i : ℕ) → IsTrue (is_in_order es) → IsPlace es k i → IsTrue (is_in_order (set es i (k, x)))
in_order-set_in_place es k x i s p = rw (set_in_place es k x i p) (in_order-with_at es k (Some x) s)

-- A gap among the rows without one of them.

gap_of_next : {A : Type 0} (e : List ℕ × A) (es : Keyed A) (j : List ℕ) → T (is_sorted order (e ∷ es)) → order j e.0 ≡ Less → IsGap es j 0
gap_of_next e [] j s h = tt
gap_of_next e (f ∷ fs) j s h =
    nat_list_cmp_total.trans j e.0 f.0 h (less (order e.0 f.0) (first_part _ _ (first_T (below_all order e.0 (f ∷ fs)) _ s)))

gap_before : {A : Type 0} (es : Keyed A) (j : List ℕ) (i g : ℕ) → T (is_sorted order es) → IsGap es j g → g ≤ i → i < length es → IsGap (remove es i) j g
gap_before [] j i g s h l m = absurd (omega arith)
gap_before (e ∷ es) j zero zero s h l m = gap_of_next e es j s h
gap_before (e ∷ es) j (suc i) zero s h l m = h
gap_before (e ∷ es) j zero (suc g) s h l m = absurd (omega arith)
gap_before (e ∷ es) j (suc i) (suc g) s h l m =
    (h.0, gap_before es j i g (second_part (below_all order e.0 es) _ s) h.1 (omega arith) (omega arith))

gap_behind : {A : Type 0} (es : Keyed A) (j : List ℕ) (i g : ℕ) → IsGap es j (suc g) → i ≤ g → IsGap (remove es i) j g
gap_behind [] j i g h l = absurd h
gap_behind (e ∷ es) j zero g h l = h.1
gap_behind (e ∷ es) j (suc i) zero h l = absurd (omega arith)
gap_behind (e ∷ es) j (suc i) (suc g) h l = (h.0, gap_behind es j i g h.1 (omega arith))

-- One row goes, and another one goes into the gap for it.

pub turned_before : {A : Type 0} (es : Keyed A) (k j : List ℕ) (x : A) (i g : ℕ) → IsTrue (is_in_order es) → IsPlace es k i → i < length es → IsGap es j g → g ≤ i → insert (remove es i) g (j, x) ≡ with_at (with_at es k None) j (Some x)
turned_before es k j x i g s p m h l =
    put_in_gap (remove es i) j x g (gap_before es j i g (to_T _ s) h l m) ∙ ap (λ (t : Keyed _). with_at t j (Some x)) (removed es k i s p)

pub turned_behind : {A : Type 0} (es : Keyed A) (k j : List ℕ) (x : A) (i g : ℕ) → IsTrue (is_in_order es) → IsPlace es k i → IsGap es j g → i < g → insert (remove es i) (g - 1) (j, x) ≡ with_at (with_at es k None) j (Some x)
turned_behind es k j x i g s p h l =
    let more : g ≡ suc (g - 1) = omega arith in
    put_in_gap (remove es i) j x (g - 1) (gap_behind es j i (g - 1) (subst (λ n. IsGap es j n) more h) (omega arith)) ∙ ap (λ (t : Keyed _). with_at t j (Some x)) (removed es k i s p)

pub in_order-turned : {A : Type 0} (es ts : Keyed A) (k j : List ℕ) (x : A) → IsTrue (is_in_order es) → ts ≡ with_at (with_at es k None) j (Some x) → IsTrue (is_in_order ts)
in_order-turned es ts k j x s e = rw e (in_order-with_at (with_at es k None) j (Some x) (in_order-with_at es k None s))

-- Where there is a row at the other mark, it is there without the first one, too.

pub unequal : (o : Ordering) → (ordering_index o == 1) ≡ false → is_eq o ≡ false
unequal Less e = refl
unequal Equal e = absurd (cc)
unequal Greater e = refl

pub other_stays : {A : Type 0} (es : Keyed A) (k j : List ℕ) (i h : ℕ) → IsTrue (is_in_order es) → IsPlace es k i → IsPlace es j h → same k j ≡ false → is_some (at (remove es i) j) ≡ true
other_stays es k j i h s p q n =
    ap (λ (t : Keyed _). is_some (at t j)) (removed es k i s p) ∙ ap is_some (at-with_at es k j None) ∙ ap (λ b. is_some (cond b None (at es j))) n ∙ place-is_some es j h q

pub is_there : {A : Type 0} (es : Keyed A) (k : List ℕ) (i : ℕ) → IsTrue (is_in_order es) → is_some (at es k) ≡ true → IsGap es k i → ⊥
is_there es k i s e g = let none = ap is_some (at-gap es k i (to_T _ s) g) in cc
