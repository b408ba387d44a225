-- What a search by key finds in a list that is in order, and what an edit at that place does.
use Rattle.std.proofs.Common.{◌≡◌, ℕ, zero, suc, ◌<◌, ◌≤◌, Bool, true, false, not, cond, ◌&&◌, IsTrue, List, [], ◌∷◌, length, filter, get_or, set, None, Some, is_some, Result, Ok, Err, IfOk, IfErr, refl, sym, ◌∙◌, ap, subst, ◌⊎◌, inl, inr, arith}
use lib.Dec.{T}
use Rattle.std.specs.declared.cmp.Ordering.{Ordering}
use Rattle.std.specs.declared.cmp.Ordering.TheVariants.{Less, Equal, Greater}
use Rattle.std.specs.Ordering.{nat_cmp, is_eq, is_lt, ordering_reverse, ordering_index}
use Rattle.std.specs.Cmp.Lexicographic.{slice_cmp}
use Rattle.std.specs.List.{insert, remove, AllWithin, HoldsAt}
use Rattle.std.specs.List.Sorted.{IsSearchInRange, IsBinarySearchResult, IsNonDecreasingBy}
use Rattle.std.specs.FinMap.{put, is_sorted}
use Rattle.std.specs.FinMap.Entries.{below_all, by_order}
use Rattle.std.proofs.lemmas.Bool.{cases_lt}
use Rattle.std.proofs.lemmas.Cmp.{nat_list_cmp_total}
use Rattle.std.proofs.lemmas.Map.Lookups.{exact_bytes}
use Rattle.etcd_types.specs.Keys.{same}
use Rattle.proxy_model.specs.Keyed.{Keyed, at, with_at, changed_at, is_in_order}
use Rattle.std.specs.Option.{option_map}
use Rattle.proxy_model.proofs.KeyedLaws.{to_T, in_order-with_at}
use Rattle.keyed_rows.specs.Places.{IsPlace, IsGap}

abbrev pub order : List ℕ → List ℕ → Ordering
order = slice_cmp nat_cmp

pub turned : (a b : List ℕ) (o : Ordering) → order a b ≡ o → order b a ≡ ordering_reverse o
turned a b o e = nat_list_cmp_total.antisymm b a ∙ ap ordering_reverse e

pub first_part : (a b : Bool) → T (a && b) → a ≡ true
first_part true b h = refl
first_part false b h = absurd h

pub first_T : (a b : Bool) → T (a && b) → T a
first_T true b h = tt
first_T false b h = absurd h

pub second_part : (a b : Bool) → T (a && b) → T b
second_part true b h = h
second_part false b h = absurd h

pub less : (o : Ordering) → is_lt o ≡ true → o ≡ Less
less Less e = refl
less Equal e = absurd (cc)
less Greater e = absurd (cc)

-- no key of the list is k
abbrev NoKey : {A : Type 0} → Keyed A → List ℕ → Type 0
NoKey [] k = Unit {0}
NoKey (e ∷ es) k = (is_eq (order k e.0) ≡ false) × NoKey es k

none_found : {A : Type 0} (es : Keyed A) (k : List ℕ) → NoKey es k → at es k ≡ None
none_found [] k n = refl
none_found (e ∷ es) k n = ap (λ b. cond b (Some e.1) (at es k)) n.0 ∙ none_found es k n.1

none_left_out : {A : Type 0} (es : Keyed A) (k : List ℕ) → NoKey es k → filter (λ e. not (same k e.0)) es ≡ es
none_left_out [] k n = refl
none_left_out (e ∷ es) k n =
    let rest = filter (λ f. not (same k f.0)) es in
    ap (λ b. cond (not b) (e ∷ rest) rest) n.0 ∙ ap (λ fs. e ∷ fs) (none_left_out es k n.1)

-- a key below one that is below all keys is none of them
below_is_none : {A : Type 0} (es : Keyed A) (k x : List ℕ) → order k x ≡ Less → T (below_all order x es) → NoKey es k
below_is_none [] k x l b = tt
below_is_none (e ∷ es) k x l b =
    (ap is_eq (nat_list_cmp_total.trans k x e.0 l (less (order x e.0) (first_part _ _ b))), below_is_none es k x l (second_part (is_lt (order x e.0)) _ b))

tied_is_none : {A : Type 0} (es : Keyed A) (k x : List ℕ) → order k x ≡ Equal → T (below_all order x es) → NoKey es k
tied_is_none [] k x l b = tt
tied_is_none (e ∷ es) k x l b =
    (ap is_eq (nat_list_cmp_total.congr k x e.0 l ∙ less (order x e.0) (first_part _ _ b)), tied_is_none es k x l (second_part (is_lt (order x e.0)) _ b))

gap_is_none : {A : Type 0} (es : Keyed A) (k : List ℕ) (i : ℕ) → T (is_sorted order es) → IsGap es k i → NoKey es k
gap_is_none [] k zero s g = tt
gap_is_none [] k (suc i) s g = absurd g
gap_is_none (e ∷ es) k zero s g = (ap is_eq g, below_is_none es k e.0 g (first_T (below_all order e.0 es) _ s))
gap_is_none (e ∷ es) k (suc i) s g = (ap is_eq g.0, gap_is_none es k i (second_part (below_all order e.0 es) _ s) g.1)

-- At the place of the key.

pub at-place : {A : Type 0} (es : Keyed A) (k : List ℕ) (i : ℕ) (d : List ℕ × A) → IsPlace es k i → at es k ≡ Some (get_or es i d).1
at-place [] k i d p = absurd p
at-place (e ∷ es) k zero d p = ap (λ o. cond (is_eq o) (Some e.1) (at es k)) p
at-place (e ∷ es) k (suc i) d p = ap (λ o. cond (is_eq o) (Some e.1) (at es k)) p.0 ∙ at-place es k i d p.1

pub place-is_some : {A : Type 0} (es : Keyed A) (k : List ℕ) (i : ℕ) → IsPlace es k i → is_some (at es k) ≡ true
place-is_some [] k i p = absurd p
place-is_some (e ∷ es) k zero p = ap (λ o. is_some (cond (is_eq o) (Some e.1) (at es k))) p
place-is_some (e ∷ es) k (suc i) p = ap (λ o. is_some (cond (is_eq o) (Some e.1) (at es k))) p.0 ∙ place-is_some es k i p.1

pub put-place : {A : Type 0} (es : Keyed A) (k : List ℕ) (x : A) (i : ℕ) (d : List ℕ × A) → IsPlace es k i → put order k x es ≡ set es i ((get_or es i d).0, x)
put-place [] k x i d p = absurd p
put-place (e ∷ es) k x zero d p = ap (λ o. by_order o ((k, x) ∷ e ∷ es) ((e.0, x) ∷ es) (e ∷ put order k x es)) p
put-place (e ∷ es) k x (suc i) d p =
    ap (λ o. by_order o ((k, x) ∷ e ∷ es) ((e.0, x) ∷ es) (e ∷ put order k x es)) p.0 ∙ ap (λ fs. e ∷ fs) (put-place es k x i d p.1)

pub without-place : {A : Type 0} (es : Keyed A) (k : List ℕ) (i : ℕ) → T (is_sorted order es) → IsPlace es k i → filter (λ e. not (same k e.0)) es ≡ remove es i
without-place [] k i s p = absurd p
without-place (e ∷ es) k zero s p =
    let rest = filter (λ f. not (same k f.0)) es in
    ap (λ o. cond (not (is_eq o)) (e ∷ rest) rest) p ∙ none_left_out es k (tied_is_none es k e.0 p (first_T (below_all order e.0 es) _ s))
without-place (e ∷ es) k (suc i) s p =
    let rest = filter (λ f. not (same k f.0)) es in
    ap (λ o. cond (not (is_eq o)) (e ∷ rest) rest) p.0 ∙ ap (λ fs. e ∷ fs) (without-place es k i (second_part (below_all order e.0 es) _ s) p.1)

-- At the gap for it.

pub at-gap : {A : Type 0} (es : Keyed A) (k : List ℕ) (i : ℕ) → T (is_sorted order es) → IsGap es k i → at es k ≡ None
at-gap es k i s g = none_found es k (gap_is_none es k i s g)

pub without-gap : {A : Type 0} (es : Keyed A) (k : List ℕ) (i : ℕ) → T (is_sorted order es) → IsGap es k i → filter (λ e. not (same k e.0)) es ≡ es
without-gap es k i s g = none_left_out es k (gap_is_none es k i s g)

pub put-gap : {A : Type 0} (es : Keyed A) (k : List ℕ) (x : A) (i : ℕ) → IsGap es k i → put order k x es ≡ insert es i (k, x)
put-gap [] k x zero g = refl
put-gap [] k x (suc i) g = absurd g
put-gap (e ∷ es) k x zero g = ap (λ o. by_order o ((k, x) ∷ e ∷ es) ((e.0, x) ∷ es) (e ∷ put order k x es)) g
put-gap (e ∷ es) k x (suc i) g =
    ap (λ o. by_order o ((k, x) ∷ e ∷ es) ((e.0, x) ∷ es) (e ∷ put order k x es)) g.0 ∙ ap (λ fs. e ∷ fs) (put-gap es k x i g.1)

-- What a binary search answers.

head_below : {A : Type 0} (es : Keyed A) (x : List ℕ) (j : ℕ) (d : List ℕ × A) → T (below_all order x es) → j < length es → order x (get_or es j d).0 ≡ Less
head_below [] x j d b l = absurd (omega arith)
head_below (e ∷ es) x zero d b l = less (order x e.0) (first_part _ _ b)
head_below (e ∷ es) x (suc j) d b l = head_below es x j d (second_part (is_lt (order x e.0)) _ b) (omega arith)

keys_rise : {A : Type 0} (es : Keyed A) (i j : ℕ) (d : List ℕ × A) → T (is_sorted order es) → i < j → j < length es → order (get_or es i d).0 (get_or es j d).0 ≡ Less
keys_rise [] i j d s l m = absurd (omega arith)
keys_rise (e ∷ es) i zero d s l m = absurd (omega arith)
keys_rise (e ∷ es) zero (suc j) d s l m =
    head_below es e.0 j d (first_T (below_all order e.0 es) _ s) (omega arith)
keys_rise (e ∷ es) (suc i) (suc j) d s l m =
    keys_rise es i j d (second_part (below_all order e.0 es) _ s) (omega arith) (omega arith)

index_up : (x y k : List ℕ) → order x y ≡ Less → ordering_index (order x k) ≤ ordering_index (order y k)
index_up x y k l =
    elim (order y k) as (λ o. order y k ≡ o → ordering_index (order x k) ≤ ordering_index o) [
      | Less ↦ λ e. rw (nat_list_cmp_total.trans x y k l e) (omega arith)
      | Equal ↦ λ e. rw (subst (λ (z : List ℕ). order x z ≡ Less) (exact_bytes y k e) l) (omega arith)
      | Greater ↦ λ e. at_most (order x k)
    ] refl
  where
    at_most : (o : Ordering) → ordering_index o ≤ ordering_index Greater
    at_most Less = omega arith
    at_most Equal = omega arith
    at_most Greater = omega arith

same_index : (a b : ℕ) → a ≡ b → a ≤ b
same_index a b e = omega arith

comparisons_rise : {A : Type 0} (es : Keyed A) (k : List ℕ) → T (is_sorted order es) → IsNonDecreasingBy (λ e. ordering_index (order e.0 k)) es
comparisons_rise es k s i j d l m =
    elim (decided i j l) [
      | inl lt ↦ index_up (get_or es i d).0 (get_or es j d).0 k (keys_rise es i j d s lt m)
      | inr e ↦ same_index _ _ (ap (λ n. ordering_index (order (get_or es n d).0 k)) e)
    ]
  where
    decided : (i j : ℕ) → i ≤ j → (i < j) ⊎ (i ≡ j)
    decided i j l = elim (cases_lt i j) [ inl lt ↦ inl lt | inr ge ↦ inr (omega arith) ]

place_from : {A : Type 0} (es : Keyed A) (k : List ℕ) (i : ℕ) → T (is_sorted order es) → i < length es → HoldsAt (λ e. order e.0 k ≡ Equal) es i → IsPlace es k i
place_from [] k i s l h = absurd (omega arith)
place_from (e ∷ es) k zero s l h = turned e.0 k Equal (h e)
place_from (e ∷ es) k (suc i) s l h =
    let here = get_or es i e in
    let less_than = head_below es e.0 i e (first_T (below_all order e.0 es) _ s) (omega arith) in (
      turned e.0 k Less (subst (λ (z : List ℕ). order e.0 z ≡ Less) (exact_bytes here.0 k (h e)) less_than),
      place_from es k i (second_part (below_all order e.0 es) _ s) (omega arith) h,
    )

gap_from : {A : Type 0} (es : Keyed A) (k : List ℕ) (i : ℕ) → i ≤ length es → AllWithin (λ e. order e.0 k ≡ Less) es 0 i → AllWithin (λ e. order e.0 k ≡ Greater) es i (length es) → IsGap es k i
gap_from [] k zero l f b = tt
gap_from [] k (suc i) l f b = absurd (omega arith)
gap_from (e ∷ es) k zero l f b = turned e.0 k Greater (b 0 e (omega arith) (omega arith))
gap_from (e ∷ es) k (suc i) l f b = (
  turned e.0 k Less (f 0 e (omega arith) (omega arith)),
  gap_from es k i (omega arith) (λ j d p q. f (suc j) d (omega arith) (omega arith)) (λ j d p q. b (suc j) d (omega arith) (omega arith)),
)

pub searched : {A : Type 0} (es : Keyed A) (k : List ℕ) → T (is_sorted order es) → (r : Result ℕ ℕ) → IsSearchInRange r (length es) → IsBinarySearchResult (λ e. order e.0 k) es r → record { found : IfOk r (IsPlace es k); in_range : IfOk r (λ i. i < length es); up_to_end : IfErr r (λ i. i ≤ length es); absent : IfErr r (IsGap es k) }
searched es k s (Ok i) l h = record { found = place_from es k i s l h; absent = tt; in_range = l; up_to_end = tt }
searched es k s (Err i) l h =
    let parted = h (comparisons_rise es k s) in
    record { found = tt; absent = gap_from es k i l parted.0 parted.1; in_range = tt; up_to_end = l }

-- What an edit there does to the list as a map.

pub changed-place : {A : Type 0} (es : Keyed A) (k : List ℕ) (i : ℕ) (f : A → A) (row : List ℕ × A) → IsPlace es k i → row ≡ get_or es i row → set es i (row.0, f row.1) ≡ changed_at es k f
changed-place es k i f row p e =
    let Claim : List ℕ × _ → Type 0 = λ r. set es i (r.0, f r.1) ≡ changed_at es k f in
    subst Claim (sym e) (sym (ap (λ o. with_at es k (option_map f o)) (at-place es k i row p) ∙ put-place es k (f (get_or es i row).1) i row p))

pub changed-gap : {A : Type 0} (es : Keyed A) (k : List ℕ) (i : ℕ) (f : A → A) → IsTrue (is_in_order es) → IsGap es k i → es ≡ changed_at es k f
changed-gap es k i f s g =
    sym (ap (λ o. with_at es k (option_map f o)) (at-gap es k i (to_T _ s) g) ∙ without-gap es k i (to_T _ s) g)

pub found-place : {A : Type 0} (es : Keyed A) (k : List ℕ) (i : ℕ) (row : List ℕ × A) → IsPlace es k i → row ≡ get_or es i row → Some row.1 ≡ at es k
found-place es k i row p e = sym (at-place es k i row p ∙ ap (λ (r : List ℕ × _). Some r.1) (sym e))

pub in_order-changed : {A : Type 0} (es : Keyed A) (k : List ℕ) (f : A → A) → IsTrue (is_in_order es) → IsTrue (is_in_order (changed_at es k f))
in_order-changed es k f s = in_order-with_at es k _ s
