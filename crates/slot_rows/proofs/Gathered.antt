-- The rows gathered in an order of slots: each by its place, by its slot and by its key.
use Rattle.std.proofs.Common.{◌≡◌, ℕ, zero, suc, ◌<◌, ◌≤◌, true, IsTrue, List, [], ◌∷◌, length, get_or, map, Some, Result, Ok, Err, IfOk, IfErr, refl, sym, ◌∙◌, ap, subst, arith}
use Rattle.std.proofs.lemmas.List.{get_or_default, get_or-map, length-map}
use Rattle.std.specs.declared.cmp.Ordering.{Ordering}
use Rattle.std.specs.declared.cmp.Ordering.TheVariants.{Less, Equal, Greater}
use Rattle.std.specs.Ordering.{is_eq, ordering_index}
use Rattle.std.specs.List.{All}
use Rattle.std.specs.List.Sorted.{IsSearchInRange, IsBinarySearchResult, IsNonDecreasingBy, IsPartitionPoint}
use Rattle.etcd_types.proofs.KeyOrder.{same-itself}
use Rattle.proxy_model.specs.Keyed.{Keyed, at, is_in_order}
use Rattle.proxy_model.proofs.KeyedLaws.{to_T}
use Rattle.keyed_rows.specs.Places.{IsPlace, IsGap}
use Rattle.keyed_rows.proofs.Places.{order, searched, at-place}
use Rattle.slot_rows.specs.Slots.{gathered, IsKept, order_at}

-- By their places.

same_rows : {A : Type 0} (rows : Keyed A) (d e : List ℕ × A) (ss : List ℕ) → All (λ s. s < length rows) ss → map (λ s. get_or rows s d) ss ≡ map (λ s. get_or rows s e) ss
same_rows rows d e [] w = refl
same_rows rows d e (s ∷ ss) w =
    λ i. get_or_default rows s d e (w 0 0 (omega arith)) i ∷ same_rows rows d e ss (λ k x l. w (suc k) x (omega arith)) i

pub gathered_by : {A : Type 0} (rows : Keyed A) (ss : List ℕ) (d : List ℕ × A) → All (λ s. s < length rows) ss → gathered rows ss ≡ map (λ s. get_or rows s d) ss
gathered_by [] [] d w = refl
gathered_by [] (s ∷ ss) d w = let none : s < 0 = w 0 0 (omega arith) in absurd (omega arith)
gathered_by (row ∷ rows) ss d w = same_rows (row ∷ rows) row d ss w

pub length-gathered : {A : Type 0} (rows : Keyed A) (ss : List ℕ) → All (λ s. s < length rows) ss → length (gathered rows ss) ≡ length ss
length-gathered [] [] w = refl
length-gathered [] (s ∷ ss) w = let none : s < 0 = w 0 0 (omega arith) in absurd (omega arith)
length-gathered (row ∷ rows) ss w = length-map ss (λ s. get_or (row ∷ rows) s row)

pub gathered_at : {A : Type 0} (rows : Keyed A) (ss : List ℕ) (p : ℕ) (d : List ℕ × A) → All (λ s. s < length rows) ss → p < length ss → get_or (gathered rows ss) p d ≡ get_or rows (get_or ss p 0) d
gathered_at rows ss p d w l =
    ap (λ (es : Keyed _). get_or es p d) (gathered_by rows ss d w) ∙ get_or-map (λ s. get_or rows s d) ss p 0 d l

-- By their keys.

pub equal : (o : Ordering) → is_eq o ≡ true → o ≡ Equal
equal Less e = absurd (cc)
equal Equal e = refl
equal Greater e = absurd (cc)

pub itself : (k : List ℕ) → order k k ≡ Equal
itself k = equal (order k k) (same-itself k)

place_once : {A : Type 0} (es : Keyed A) (k : List ℕ) (i j : ℕ) → IsPlace es k i → IsPlace es k j → i ≡ j
place_once [] k i j p q = absurd p
place_once (e ∷ es) k zero zero p q = refl
place_once (e ∷ es) k zero (suc j) p q = let both : Equal ≡ Greater = sym p ∙ q.0 in absurd (cc)
place_once (e ∷ es) k (suc i) zero p q = let both : Equal ≡ Greater = sym q ∙ p.0 in absurd (cc)
place_once (e ∷ es) k (suc i) (suc j) p q = ap suc (place_once es k i j p.1 q.1)

place_of : {A : Type 0} (es : Keyed A) (k : List ℕ) (i : ℕ) (d : List ℕ × A) → IsTrue (is_in_order es) → i < length es → order (get_or es i d).0 k ≡ Equal → IsPlace es k i
place_of es k i d s l e =
    (searched es k (to_T _ s) (Ok i) l (λ x. subst (λ (r : List ℕ × _). order r.0 k ≡ Equal) (get_or_default es i d x l) e)).found

-- the row in a slot stands at the slot's place, under its key
pub slot_place : {A : Type 0} (rows : Keyed A) (ss : List ℕ) (p : ℕ) (k : List ℕ) (d : List ℕ × A) → IsKept rows ss → p < length ss → order (get_or rows (get_or ss p 0) d).0 k ≡ Equal → IsPlace (gathered rows ss) k p
slot_place rows ss p k d kept l e =
    let same = length-gathered rows ss kept.within in
    place_of (gathered rows ss) k p d kept.in_order (omega arith) (ap (λ (r : List ℕ × _). order r.0 k) (gathered_at rows ss p d kept.within l) ∙ e)

-- no slot has two places
pub once : {A : Type 0} (rows : Keyed A) (ss : List ℕ) (p q : ℕ) (d : List ℕ × A) → IsKept rows ss → p < length ss → q < length ss → get_or ss p 0 ≡ get_or ss q 0 → p ≡ q
once rows ss p q d kept l m e =
    let k = (get_or rows (get_or ss p 0) d).0 in
    place_once (gathered rows ss) k p q
    (slot_place rows ss p k d kept l (itself k))
    (slot_place rows ss q k d kept m (subst (λ (s : ℕ). order (get_or rows s d).0 k ≡ Equal) e (itself k)))

-- what the row in a slot has is what stands at its key
pub at-slot : {A : Type 0} (rows : Keyed A) (ss : List ℕ) (s : ℕ) (k : List ℕ) (d : List ℕ × A) → IsKept rows ss → s < length rows → order (get_or rows s d).0 k ≡ Equal → Some (get_or rows s d).1 ≡ at (gathered rows ss) k
at-slot rows ss s k d kept l e =
    let a = kept.placed s l in
    let there = ap (λ (n : ℕ). get_or rows n d) a.there in
    let place = slot_place rows ss a.place k d kept a.within (ap (λ (r : List ℕ × _). order r.0 k) there ∙ e) in
    sym (at-place (gathered rows ss) k a.place d place ∙ ap (λ (r : List ℕ × _). Some r.1) (gathered_at rows ss a.place d kept.within a.within ∙ there))

-- the place of a key is that of the slot in which its row lies
pub place-slot : {A : Type 0} (rows : Keyed A) (ss : List ℕ) (s p : ℕ) (d : List ℕ × A) → IsKept rows ss → s < length rows → IsPlace (gathered rows ss) (get_or rows s d).0 p → get_or ss p 0 ≡ s
place-slot rows ss s p d kept l is =
    let a = kept.placed s l in
    let k = (get_or rows s d).0 in
    let there = ap (λ (n : ℕ). get_or rows n d) a.there in
    let place = slot_place rows ss a.place k d kept a.within (ap (λ (r : List ℕ × _). order r.0 k) there ∙ itself k) in
    ap (λ (n : ℕ). get_or ss n 0) (place_once (gathered rows ss) k p a.place is place) ∙ a.there

-- What a search finds that compares the rows in the slots.

pub order_at-row : {A : Type 0} (rows : Keyed A) (k : List ℕ) (s : ℕ) (d : List ℕ × A) → s < length rows → order_at rows k s ≡ order (get_or rows s d).0 k
order_at-row [] k s d l = absurd (omega arith)
order_at-row (row ∷ rows) k zero d l = refl
order_at-row (row ∷ rows) k (suc s) d l = order_at-row rows k s d (omega arith)

pub order_at-none : {A : Type 0} (rows : Keyed A) (k : List ℕ) (s : ℕ) → length rows ≤ s → order_at rows k s ≡ Less
order_at-none [] k s l = refl
order_at-none (row ∷ rows) k zero l = absurd (omega arith)
order_at-none (row ∷ rows) k (suc s) l = order_at-none rows k s (omega arith)

compared : {A : Type 0} (rows : Keyed A) (ss : List ℕ) (k : List ℕ) (p n : ℕ) (d : List ℕ × A) → IsKept rows ss → p < length ss → order_at rows k (get_or ss p n) ≡ order (get_or (gathered rows ss) p d).0 k
compared rows ss k p n d kept l =
    ap (order_at rows k) (get_or_default ss p n 0 l) ∙ order_at-row rows k (get_or ss p 0) d (kept.within p 0 l) ∙ sym (ap (λ (r : List ℕ × _). order r.0 k) (gathered_at rows ss p d kept.within l))

pub searched_slots : {A : Type 0} (rows : Keyed A) (ss : List ℕ) (k : List ℕ) → IsKept rows ss → (r : Result ℕ ℕ) → IsSearchInRange r (length ss) → IsBinarySearchResult (order_at rows k) ss r → record { found : IfOk r (IsPlace (gathered rows ss) k); in_range : IfOk r (λ i. i < length (gathered rows ss)); up_to_end : IfErr r (λ i. i ≤ length (gathered rows ss)); absent : IfErr r (IsGap (gathered rows ss) k) }
searched_slots [] ss k kept (Ok p) l h = let none : get_or ss p 0 < 0 = kept.within p 0 l in absurd (omega arith)
searched_slots [] [] k kept (Err zero) l h = record { found = tt; in_range = tt; up_to_end = omega arith; absent = tt }
searched_slots [] [] k kept (Err (suc i)) l h = absurd (omega arith)
searched_slots [] (s ∷ ss) k kept (Err i) l h = let none : s < 0 = kept.within 0 0 (omega arith) in absurd (omega arith)
searched_slots (row ∷ rows) ss k kept (Ok p) l h =
    let same = length-gathered (row ∷ rows) ss kept.within in
    let place = place_of (gathered (row ∷ rows) ss) k p row kept.in_order (omega arith) (sym (compared (row ∷ rows) ss k p 0 row kept l) ∙ h 0) in
    record { found = place; in_range = omega arith; up_to_end = tt; absent = tt }
searched_slots (row ∷ rows) ss k kept (Err i) l h =
    let es = gathered (row ∷ rows) ss in
    let same : length es ≡ length ss = length-gathered (row ∷ rows) ss kept.within in
    let rises : IsNonDecreasingBy (λ (e : List ℕ × _). ordering_index (order e.0 k)) es → IsNonDecreasingBy (λ s. ordering_index (order_at (row ∷ rows) k s)) ss = λ r a b n le lt.
    let first = ap ordering_index (compared (row ∷ rows) ss k a n row kept (omega arith)) in
    let second = ap ordering_index (compared (row ∷ rows) ss k b n row kept lt) in
    let here = r a b row le (omega arith) in omega (arith, first, second, here) in
    let parted : IsNonDecreasingBy (λ (e : List ℕ × _). ordering_index (order e.0 k)) es → IsPartitionPoint (λ (e : List ℕ × _). order e.0 k ≡ Less) (λ (e : List ℕ × _). order e.0 k ≡ Greater) es i = λ r.
    let parts = h (rises r) in (
      λ j d p q. sym (compared (row ∷ rows) ss k j 0 d kept (omega arith)) ∙ parts.0 j 0 p q,
      λ j d p q. sym (compared (row ∷ rows) ss k j 0 d kept (omega arith)) ∙ parts.1 j 0 p (omega arith),
    ) in
    let found = searched es k (to_T _ kept.in_order) (Err i) (omega arith) parted in
    record { found = tt; in_range = tt; up_to_end = omega arith; absent = found.absent }
