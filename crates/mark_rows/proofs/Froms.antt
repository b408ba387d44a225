-- What stands from a mark on is what is behind its place; each number is there, unless its mark comes before.
use Rattle.std.proofs.Common.{◌≡◌, ℕ, zero, suc, Bool, true, false, not, cond, ◌||◌, ◌&&◌, IsTrue, List, [], ◌∷◌, drop, None, Some, refl, sym, ◌∙◌, ap, subst}
use lib.Dec.{T}
use Rattle.std.specs.Ordering.{nat_cmp, is_le, is_eq, is_lt}
use Rattle.std.specs.declared.cmp.Ordering.{Ordering}
use Rattle.std.specs.declared.cmp.Ordering.TheVariants.{Less, Equal, Greater}
use Rattle.std.specs.Cmp.Lexicographic.{slice_cmp}
use Rattle.std.specs.FinMap.{is_sorted}
use Rattle.std.specs.FinMap.Entries.{below_all}
use Rattle.etcd_types.specs.Keys.{before, same}
use Rattle.etcd_types.proofs.Bools.{or_right}
use Rattle.etcd_types.proofs.KeyOrder.{same-equal, same-itself, up_to-itself}
use Rattle.proxy_model.specs.Keyed.{Keyed, at, with_at, is_in_order}
use Rattle.proxy_model.proofs.KeyedLaws.{at-with_at, in_order-with_at, same_keyed}
use Rattle.keyed_rows.specs.Places.{IsPlace, IsGap}
use Rattle.mark_rows.specs.From.{rows_from}

pub from_place : {A : Type 0} (es : Keyed A) (k : List ℕ) (i : ℕ) → IsPlace es k i → drop i es ≡ rows_from k es
from_place [] k i p = absurd p
from_place (e ∷ es) k zero p = sym (ap (λ o. cond (not (is_le o)) (rows_from k es) (e ∷ es)) p)
from_place (e ∷ es) k (suc i) p =
    from_place es k i p.1 ∙ sym (ap (λ o. cond (not (is_le o)) (rows_from k es) (e ∷ es)) p.0)

pub from_gap : {A : Type 0} (es : Keyed A) (k : List ℕ) (i : ℕ) → IsGap es k i → drop i es ≡ rows_from k es
from_gap [] k zero g = refl
from_gap [] k (suc i) g = absurd g
from_gap (e ∷ es) k zero g = sym (ap (λ o. cond (not (is_le o)) (rows_from k es) (e ∷ es)) g)
from_gap (e ∷ es) k (suc i) g =
    from_gap es k i g.1 ∙ sym (ap (λ o. cond (not (is_le o)) (rows_from k es) (e ∷ es)) g.0)

-- what is put again where it was taken out is there as before
pub turned_itself : {A : Type 0} (es : Keyed A) (k j : List ℕ) (x : A) → IsTrue (is_in_order es) → at es k ≡ Some x → same k j ≡ true → es ≡ with_at (with_at es k None) j (Some x)
turned_itself es k j x s h e =
    same_keyed es (with_at (with_at es k None) j (Some x)) s (in_order-with_at (with_at es k None) j (Some x) (in_order-with_at es k None s)) (λ i.
    sym (at-with_at (with_at es k None) j i (Some x) ∙ ap (λ o. cond (same j i) (Some x) o) (at-with_at es k i None) ∙ one i))
  where
    one_key : k ≡ j
    one_key = same-equal k j e

    there : (i : List ℕ) (b : Bool) → same j i ≡ b → cond b (Some x) (cond b None (at es i)) ≡ at es i
    there i true f =
        let g : at es j ≡ Some x = subst (λ (y : List ℕ). at es y ≡ Some x) one_key h in
        sym (subst (λ (y : List ℕ). at es y ≡ Some x) (same-equal j i f) g)
    there i false f = refl

    one : (i : List ℕ) → cond (same j i) (Some x) (cond (same k i) None (at es i)) ≡ at es i
    one i =
        ap (λ (y : List ℕ). cond (same j i) (Some x) (cond (same y i) None (at es i))) one_key ∙ there i (same j i) refl

-- The first one from a mark on.

first_part : (a b : Bool) → T (a && b) → a ≡ true
first_part true b h = refl
first_part false b h = absurd h

second_part : (a b : Bool) → T (a && b) → T b
second_part true b h = h
second_part false b h = absurd h

first_T : (a b : Bool) → T (a && b) → T a
first_T true b h = tt
first_T false b h = absurd h

less : (o : Ordering) → is_lt o ≡ true → o ≡ Less
less Less e = refl
less Equal e = absurd (cc)
less Greater e = absurd (cc)

-- what is below none of a list isn't before its first
pub not_before : (es : Keyed ℕ) (x j : List ℕ) (n : ℕ) → T (below_all (slice_cmp nat_cmp) x es) → at es j ≡ Some n → before j x ≡ false
not_before [] x j n b e = absurd (cc)
not_before (y ∷ es) x j n b e =
    elim (same j y.0) as (λ c. same j y.0 ≡ c → cond c (Some y.1) (at es j) ≡ Some n → before j x ≡ false) [
      | true ↦ λ s f.
          let l : slice_cmp nat_cmp x y.0 ≡ Less = less (slice_cmp nat_cmp x y.0) (first_part _ _ b) in
          subst (λ (k : List ℕ). before k x ≡ false) (sym (same-equal j y.0 s)) (ap (λ o. not (is_le o)) l)
      | false ↦ λ s f. not_before es x j n (second_part (is_lt (slice_cmp nat_cmp x y.0)) _ b) f
    ] refl e

-- none of a list that is below all is it
pub not_below : (es : Keyed ℕ) (x j : List ℕ) (n : ℕ) → T (below_all (slice_cmp nat_cmp) x es) → at es j ≡ Some n → same j x ≡ true → ⊥
not_below [] x j n b e t = cc
not_below (y ∷ es) x j n b e t =
    elim (same j y.0) as (λ c. same j y.0 ≡ c → cond c (Some y.1) (at es j) ≡ Some n → ⊥) [
      | true ↦ λ s f.
          let l : slice_cmp nat_cmp x y.0 ≡ Less = less (slice_cmp nat_cmp x y.0) (first_part _ _ b) in
          let one : x ≡ y.0 = sym (same-equal j x t) ∙ same-equal j y.0 s in
          let itself : same x y.0 ≡ true = subst (λ (k : List ℕ). same x k ≡ true) one (same-itself x) in
          let other : same x y.0 ≡ false = ap is_eq l in
          cc
      | false ↦ λ s f. not_below es x j n (second_part (is_lt (slice_cmp nat_cmp x y.0)) _ b) f t
    ] refl e

not_itself : (j x : List ℕ) → same j x ≡ true → before j x ≡ false
not_itself j x s = subst (λ (k : List ℕ). before k x ≡ false) (sym (same-equal j x s)) (ap not (up_to-itself x))

-- each comes before the mark, or not before the first one
pub each_from : (es : Keyed ℕ) (k j : List ℕ) (n : ℕ) (e : List ℕ × ℕ) (rest : Keyed ℕ) → T (is_sorted (slice_cmp nat_cmp) es) → rows_from k es ≡ e ∷ rest → at es j ≡ Some n → before j k || not (before j e.0) ≡ true
each_from [] k j n e rest s f h = absurd (cc)
each_from (x ∷ es) k j n e rest s f h =
    by_first (λ p q. each_from es k j n e rest (second_part (below_all (slice_cmp nat_cmp) x.0 es) _ s) p q) (before x.0 k) refl f
  where
    by_key : (at es j ≡ Some n → before j k || not (before j e.0) ≡ true) → before x.0 k ≡ true → (c : Bool) → same j x.0 ≡ c → cond c (Some x.1) (at es j) ≡ Some n → before j k || not (before j e.0) ≡ true
    by_key later b true t g = ap (λ c. c || not (before j e.0)) (subst (λ (y : List ℕ). before y k ≡ true) (sym (same-equal j x.0 t)) b)
    by_key later b false t g = later g

    is_no_sooner : (c : Bool) → same j x.0 ≡ c → cond c (Some x.1) (at es j) ≡ Some n → before j x.0 ≡ false
    is_no_sooner true t g = not_itself j x.0 t
    is_no_sooner false t g = not_before es x.0 j n (first_T (below_all (slice_cmp nat_cmp) x.0 es) _ s) g

    here : x ∷ es ≡ e ∷ rest → before j k || not (before j e.0) ≡ true
    here f =
        let first : x ≡ e = cc in
        or_right (before j k) (not (before j e.0)) (ap (λ (y : List ℕ × ℕ). not (before j y.0)) (sym first) ∙ ap not (is_no_sooner (same j x.0) refl h))

    by_first : (rows_from k es ≡ e ∷ rest → at es j ≡ Some n → before j k || not (before j e.0) ≡ true) → (b : Bool) → before x.0 k ≡ b → cond b (rows_from k es) (x ∷ es) ≡ e ∷ rest → before j k || not (before j e.0) ≡ true
    by_first later true b f = by_key (later f) b (same j x.0) refl h
    by_first later false b f = here f

-- where there is none, each comes before the mark
pub none_from : (es : Keyed ℕ) (k j : List ℕ) (n : ℕ) → rows_from k es ≡ [] → at es j ≡ Some n → before j k ≡ true
none_from [] k j n f h = absurd (cc)
none_from (x ∷ es) k j n f h =
    by_first (λ p q. none_from es k j n p q) (before x.0 k) refl f
  where
    by_key : (at es j ≡ Some n → before j k ≡ true) → before x.0 k ≡ true → (c : Bool) → same j x.0 ≡ c → cond c (Some x.1) (at es j) ≡ Some n → before j k ≡ true
    by_key later b true t g = subst (λ (y : List ℕ). before y k ≡ true) (sym (same-equal j x.0 t)) b
    by_key later b false t g = later g

    by_first : (rows_from k es ≡ [] → at es j ≡ Some n → before j k ≡ true) → (b : Bool) → before x.0 k ≡ b → cond b (rows_from k es) (x ∷ es) ≡ [] → before j k ≡ true
    by_first later true b f = by_key (later f) b (same j x.0) refl h
    by_first later false b f = absurd (cc)

-- the first one stands in the list, and doesn't come before the mark
pub first_from : (es : Keyed ℕ) (k : List ℕ) (e : List ℕ × ℕ) (rest : Keyed ℕ) → T (is_sorted (slice_cmp nat_cmp) es) → rows_from k es ≡ e ∷ rest → (at es e.0 ≡ Some e.1) × (before e.0 k ≡ false)
first_from [] k e rest s f = absurd (cc)
first_from (x ∷ es) k e rest s f =
    by_first (λ p. first_from es k e rest (second_part (below_all (slice_cmp nat_cmp) x.0 es) _ s) p) (before x.0 k) refl f
  where
    behind : (c : Bool) → same e.0 x.0 ≡ c → at es e.0 ≡ Some e.1 → cond c (Some x.1) (at es e.0) ≡ Some e.1
    behind false t g = g
    behind true t g =
        absurd (not_below es x.0 e.0 e.1 (first_T (below_all (slice_cmp nat_cmp) x.0 es) _ s) g t)

    by_first : (rows_from k es ≡ e ∷ rest → (at es e.0 ≡ Some e.1) × (before e.0 k ≡ false)) → (b : Bool) → before x.0 k ≡ b → cond b (rows_from k es) (x ∷ es) ≡ e ∷ rest → (at (x ∷ es) e.0 ≡ Some e.1) × (before e.0 k ≡ false)
    by_first later true b f = let next = later f in (behind (same e.0 x.0) refl next.0, next.1)
    by_first later false b f =
        let first : x ≡ e = cc in
        subst (λ (y : List ℕ × ℕ). (at (x ∷ es) y.0 ≡ Some y.1) × (before y.0 k ≡ false)) first (ap (λ c. cond c (Some x.1) (at es x.0)) (same-itself x.0), b)
