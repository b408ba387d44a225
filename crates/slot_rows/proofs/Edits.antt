-- What edits of the rows and of the order of their slots make of the gathered rows, and that the rows stay kept.
use Rattle.std.proofs.Common.{◌≡◌, ◌≢◌, ℕ, ◌+◌, ◌-◌, ◌<◌, ◌≤◌, ◌++◌, IsTrue, List, [], ◌∷◌, length, get_or, set, refl, sym, ◌∙◌, ap, subst, inl, inr, arith}
use Rattle.std.proofs.lemmas.Bool.{cases_eq, cases_lt, cases_order}
use Rattle.std.proofs.lemmas.List.{get_or_default, get_or_push, get_or_append_left, get_or-set_same, get_or-set_other, length-set, length_push, get_or_read, same_lists}
use Rattle.std.proofs.lemmas.List.Edits.{length-insert, get_or-insert_below, get_or-insert_at, get_or-insert_above, length-remove, get_or-remove_below, get_or-remove_above}
use Rattle.std.specs.List.{insert, remove, All, SwappedAt}
use Rattle.std.specs.declared.cmp.Ordering.TheVariants.{Equal}
use Rattle.proxy_model.specs.Keyed.{Keyed, changed_at, is_in_order}
use Rattle.keyed_rows.proofs.Edits.{in_order-removed}
use Rattle.slot_rows.specs.Roomy.{changed_in}
use Rattle.slot_rows.specs.Slots.{gathered, IsAmong, IsKept}
use Rattle.keyed_rows.proofs.Places.{order}
use Rattle.slot_rows.proofs.Changes.{set-changed, changed_in-place, in_order-changed_in}
use Rattle.slot_rows.proofs.Gathered.{length-gathered, gathered_at, once, itself, slot_place}

gathered_is : {A : Type 0} (rows es : Keyed A) (ss : List ℕ) → All (λ s. s < length rows) ss → length es ≡ length ss → ((k : ℕ) (d : List ℕ × A) → k < length ss → get_or rows (get_or ss k 0) d ≡ get_or es k d) → gathered rows ss ≡ es
gathered_is rows es ss w same each =
    let lengths = length-gathered rows ss w in
    same_lists (gathered rows ss) es (lengths ∙ sym same) (λ k d l. gathered_at rows ss k d w (omega arith) ∙ each k d (omega arith))

-- Another row in the slot at a place.

within-set : {A : Type 0} (rows : Keyed A) (ss : List ℕ) (s : ℕ) (row : List ℕ × A) → All (λ n. n < length rows) ss → All (λ n. n < length (set rows s row)) ss
within-set rows ss s row w k d l = let same = length-set rows s row in let here = w k d l in omega arith

pub gathered-set : {A : Type 0} (rows : Keyed A) (ss : List ℕ) (p : ℕ) (row : List ℕ × A) → IsKept rows ss → p < length ss → gathered (set rows (get_or ss p 0) row) ss ≡ set (gathered rows ss) p row
gathered-set rows ss p row kept l =
    gathered_is (set rows (get_or ss p 0) row) (set (gathered rows ss) p row) ss
    (within-set rows ss (get_or ss p 0) row kept.within)
    (length-set (gathered rows ss) p row ∙ length-gathered rows ss kept.within)
    each
  where
    each : (k : ℕ) (d : List ℕ × _) → k < length ss → get_or (set rows (get_or ss p 0) row) (get_or ss k 0) d ≡ get_or (set (gathered rows ss) p row) k d
    each k d m =
        let same = length-gathered rows ss kept.within in
        elim (cases_eq k p) [
          | inl e ↦
              ap (λ (n : ℕ). get_or (set rows (get_or ss p 0) row) (get_or ss n 0) d) e
              ∙ get_or-set_same rows (get_or ss p 0) row d (kept.within p 0 l)
              ∙ sym (ap (λ (n : ℕ). get_or (set (gathered rows ss) p row) n d) e ∙ get_or-set_same (gathered rows ss) p row d (omega arith))
          | inr n ↦
              get_or-set_other rows (get_or ss p 0) (get_or ss k 0) row d (λ e. n (once rows ss k p d kept m l e))
              ∙ sym (gathered_at rows ss k d kept.within m)
              ∙ sym (get_or-set_other (gathered rows ss) p k row d n)
        ]

pub kept-set : {A : Type 0} (rows : Keyed A) (ss : List ℕ) (p : ℕ) (row : List ℕ × A) → IsKept rows ss → p < length ss → IsTrue (is_in_order (set (gathered rows ss) p row)) → IsKept (set rows (get_or ss p 0) row) ss
kept-set rows ss p row kept l o = record {
  in_order = subst (λ (es : Keyed _). IsTrue (is_in_order es)) (sym (gathered-set rows ss p row kept l)) o;
  within = within-set rows ss (get_or ss p 0) row kept.within;
  placed = λ s m. let same = length-set rows (get_or ss p 0) row in kept.placed s (omega arith);
}

-- What the row in the slot at a place has is changed.

changed_row : {A : Type 0} (es : Keyed A) (p : ℕ) (f : A → A) (row : List ℕ × A) → row ≡ get_or es p row → set es p (row.0, f row.1) ≡ changed_in es p f
changed_row es p f row e =
    let Claim : List ℕ × _ → Type 0 = λ r. set es p (r.0, f r.1) ≡ changed_in es p f in subst Claim (sym e) (set-changed es p f row)

pub record IsSlotRow {A : Type 0} (rows : Keyed A) (ss : List ℕ) (p slot : ℕ) (row : List ℕ × A) : Type 0 where
  pub within : p < length (gathered rows ss)
  pub slot_read : slot ≡ get_or ss p slot
  pub row_is : row ≡ get_or rows slot row

slot_is : {A : Type 0} (rows : Keyed A) (ss : List ℕ) (p slot : ℕ) (row : List ℕ × A) → IsKept rows ss → IsSlotRow rows ss p slot row → slot ≡ get_or ss p 0
slot_is rows ss p slot row kept x =
    let same = length-gathered rows ss kept.within in
    let within = x.within in
    get_or_read ss p slot (omega arith) x.slot_read 0

slot_changed : {A : Type 0} (rows : Keyed A) (ss : List ℕ) (p slot : ℕ) (row : List ℕ × A) (f : A → A) → IsKept rows ss → IsSlotRow rows ss p slot row → set (gathered rows ss) p (row.0, f row.1) ≡ changed_in (gathered rows ss) p f
slot_changed rows ss p slot row f kept x =
    let same = length-gathered rows ss kept.within in
    let within = x.within in
    changed_row (gathered rows ss) p f row (x.row_is ∙ ap (λ (s : ℕ). get_or rows s row) (slot_is rows ss p slot row kept x) ∙ sym (gathered_at rows ss p row kept.within (omega arith)))

pub gathered-changed : {A : Type 0} (rows : Keyed A) (ss : List ℕ) (p slot : ℕ) (row : List ℕ × A) (f : A → A) → IsKept rows ss → IsSlotRow rows ss p slot row → gathered (set rows slot (row.0, f row.1)) ss ≡ changed_in (gathered rows ss) p f
gathered-changed rows ss p slot row f kept x =
    let same = length-gathered rows ss kept.within in
    let within = x.within in
    ap (λ (s : ℕ). gathered (set rows s (row.0, f row.1)) ss) (slot_is rows ss p slot row kept x) ∙ gathered-set rows ss p (row.0, f row.1) kept (omega arith) ∙ slot_changed rows ss p slot row f kept x

pub kept-changed : {A : Type 0} (rows : Keyed A) (ss : List ℕ) (p slot : ℕ) (row : List ℕ × A) (f : A → A) → IsKept rows ss → IsSlotRow rows ss p slot row → IsKept (set rows slot (row.0, f row.1)) ss
kept-changed rows ss p slot row f kept x =
    let same = length-gathered rows ss kept.within in
    let within = x.within in
    let in_order : IsTrue (is_in_order (set (gathered rows ss) p (row.0, f row.1))) = ap is_in_order (slot_changed rows ss p slot row f kept x) ∙ in_order-changed_in (gathered rows ss) p f ∙ kept.in_order in
    subst (λ (s : ℕ). IsKept (set rows s (row.0, f row.1)) ss) (sym (slot_is rows ss p slot row kept x)) (kept-set rows ss p (row.0, f row.1) kept (omega arith) in_order)

-- What the row in a slot has is changed, which lies there under its key.

pub record IsKeyRow {A : Type 0} (rows : Keyed A) (slot : ℕ) (k : List ℕ) (row : List ℕ × A) : Type 0 where
  pub within : slot < length rows
  pub row_is : row ≡ get_or rows slot row
  pub here : order row.0 k ≡ Equal

key_row : {A : Type 0} (rows : Keyed A) (ss : List ℕ) (slot : ℕ) (k : List ℕ) (row : List ℕ × A) → (kept : IsKept rows ss) → (x : IsKeyRow rows slot k row) → IsSlotRow rows ss (kept.placed slot x.within).place slot row
key_row rows ss slot k row kept x =
    let a = kept.placed slot x.within in
    let same = length-gathered rows ss kept.within in
    let within = a.within in
    record { within = omega arith; slot_read = sym (get_or_default ss a.place slot 0 a.within ∙ a.there); row_is = x.row_is }

pub kept-changed_at : {A : Type 0} (rows : Keyed A) (ss : List ℕ) (slot : ℕ) (k : List ℕ) (row : List ℕ × A) (f : A → A) → IsKept rows ss → IsKeyRow rows slot k row → IsKept (set rows slot (row.0, f row.1)) ss
kept-changed_at rows ss slot k row f kept x =
    kept-changed rows ss (kept.placed slot x.within).place slot row f kept (key_row rows ss slot k row kept x)

pub gathered-changed_at : {A : Type 0} (rows : Keyed A) (ss : List ℕ) (slot : ℕ) (k : List ℕ) (row : List ℕ × A) (f : A → A) → IsKept rows ss → IsKeyRow rows slot k row → gathered (set rows slot (row.0, f row.1)) ss ≡ changed_at (gathered rows ss) k f
gathered-changed_at rows ss slot k row f kept x =
    let a = kept.placed slot x.within in
    let there : order (get_or rows (get_or ss a.place 0) row).0 k ≡ Equal = ap (λ (n : ℕ). order (get_or rows n row).0 k) a.there ∙ ap (λ (r : List ℕ × _). order r.0 k) (sym x.row_is) ∙ x.here in
    gathered-changed rows ss a.place slot row f kept (key_row rows ss slot k row kept x)
    ∙ changed_in-place (gathered rows ss) k a.place f (slot_place rows ss a.place k row kept a.within there)

-- One more row in a slot behind all, at a place in the order.

insert_behind : {X : Type 0} (xs : List X) (g : ℕ) (y d : X) (k : ℕ) → g < k → g ≤ length xs → get_or (insert xs g y) k d ≡ get_or xs (k - 1) d
insert_behind xs g y d k l m =
    let one_more : k ≡ (k - 1) + 1 = omega arith in
    ap (λ (j : ℕ). get_or (insert xs g y) j d) one_more ∙ get_or-insert_above xs g y d (k - 1) (omega arith) m

within-insert : {A : Type 0} (rows : Keyed A) (ss : List ℕ) (g : ℕ) (row : List ℕ × A) → All (λ s. s < length rows) ss → g ≤ length ss → All (λ s. s < length (rows ++ row ∷ [])) (insert ss g (length rows))
within-insert rows ss g row w l k d m =
    let longer = length_push rows row in
    let more = length-insert ss g (length rows) l in
    elim (cases_order k g) [
      | inl e ↦
          let here : get_or (insert ss g (length rows)) k d ≡ length rows = ap (λ (n : ℕ). get_or (insert ss g (length rows)) n d) e ∙ get_or-insert_at ss g (length rows) d l in
          omega arith
      | inr o ↦ elim o [
        | inl lt ↦ let here = get_or-insert_below ss g (length rows) d k lt l in let old = w k d (omega arith) in omega arith
        | inr gt ↦ let here = insert_behind ss g (length rows) d k gt l in let old = w (k - 1) d (omega arith) in omega arith
      ]
    ]

pub gathered-insert : {A : Type 0} (rows : Keyed A) (ss : List ℕ) (g : ℕ) (row : List ℕ × A) → IsKept rows ss → g ≤ length ss → gathered (rows ++ row ∷ []) (insert ss g (length rows)) ≡ insert (gathered rows ss) g row
gathered-insert rows ss g row kept l =
    let same = length-gathered rows ss kept.within in
    gathered_is (rows ++ row ∷ []) (insert (gathered rows ss) g row) (insert ss g (length rows))
    (within-insert rows ss g row kept.within l)
    (length-insert (gathered rows ss) g row (omega arith) ∙ ap (λ (n : ℕ). n + 1) same ∙ sym (length-insert ss g (length rows) l))
    each
  where
    old : (j : ℕ) (d : List ℕ × _) → j < length ss → get_or (rows ++ row ∷ []) (get_or ss j 0) d ≡ get_or (gathered rows ss) j d
    old j d m = get_or_append_left rows (row ∷ []) d (get_or ss j 0) (kept.within j 0 m) ∙ sym (gathered_at rows ss j d kept.within m)

    each : (k : ℕ) (d : List ℕ × _) → k < length (insert ss g (length rows)) → get_or (rows ++ row ∷ []) (get_or (insert ss g (length rows)) k 0) d ≡ get_or (insert (gathered rows ss) g row) k d
    each k d m =
        let same = length-gathered rows ss kept.within in
        let more = length-insert ss g (length rows) l in
        let le : g ≤ length (gathered rows ss) = omega arith in
        elim (cases_order k g) [
          | inl e ↦
              ap (λ (n : ℕ). get_or (rows ++ row ∷ []) (get_or (insert ss g (length rows)) n 0) d) e
              ∙ ap (λ (s : ℕ). get_or (rows ++ row ∷ []) s d) (get_or-insert_at ss g (length rows) 0 l)
              ∙ get_or_push rows row d (length rows) refl
              ∙ sym (ap (λ (n : ℕ). get_or (insert (gathered rows ss) g row) n d) e ∙ get_or-insert_at (gathered rows ss) g row d le)
          | inr o ↦ elim o [
            | inl lt ↦
                ap (λ (s : ℕ). get_or (rows ++ row ∷ []) s d) (get_or-insert_below ss g (length rows) 0 k lt l)
                ∙ old k d (omega arith)
                ∙ sym (get_or-insert_below (gathered rows ss) g row d k lt le)
            | inr gt ↦
                ap (λ (s : ℕ). get_or (rows ++ row ∷ []) s d) (insert_behind ss g (length rows) 0 k gt l)
                ∙ old (k - 1) d (omega arith)
                ∙ sym (insert_behind (gathered rows ss) g row d k gt le)
          ]
        ]

pub kept-insert : {A : Type 0} (rows : Keyed A) (ss : List ℕ) (g : ℕ) (row : List ℕ × A) → IsKept rows ss → g ≤ length ss → IsTrue (is_in_order (insert (gathered rows ss) g row)) → IsKept (rows ++ row ∷ []) (insert ss g (length rows))
kept-insert rows ss g row kept l o = record {
  in_order = subst (λ (es : Keyed _). IsTrue (is_in_order es)) (sym (gathered-insert rows ss g row kept l)) o;
  within = within-insert rows ss g row kept.within l;
  placed = λ s m.
      let more = length-insert ss g (length rows) l in
      elim (cases_eq s (length rows)) [
        | inl e ↦ record { place = g; within = omega arith; there = get_or-insert_at ss g (length rows) 0 l ∙ sym e }
        | inr n ↦ old s (let longer = length_push rows row in omega arith)
      ];
}
  where
    old : (s : ℕ) → s < length rows → IsAmong (insert ss g (length rows)) s
    old s m =
        let more = length-insert ss g (length rows) l in
        let a = kept.placed s m in
        let within = a.within in
        elim (cases_lt a.place g) [
          | inl lt ↦ record { place = a.place; within = omega arith; there = get_or-insert_below ss g (length rows) 0 a.place lt l ∙ a.there }
          | inr ge ↦ record { place = a.place + 1; within = omega arith; there = get_or-insert_above ss g (length rows) 0 a.place ge l ∙ a.there }
        ]

-- The rows in two slots change places, and in the order their slots do.

pub record Exchanged {A : Type 0} (rows rows' : Keyed A) (ss ss' : List ℕ) (p q : ℕ) : Type 0 where
  pub first : p < length ss
  pub second : q < length ss
  pub rows_are : SwappedAt rows rows' (get_or ss p 0) (get_or ss q 0)
  pub slots_are : SwappedAt ss ss' p q
  pub same_rows : length rows' ≡ length rows
  pub same_slots : length ss' ≡ length ss

within-exchanged : {A : Type 0} (rows rows' : Keyed A) (ss ss' : List ℕ) (p q : ℕ) → IsKept rows ss → Exchanged rows rows' ss ss' p q → All (λ s. s < length rows') ss'
within-exchanged rows rows' ss ss' p q kept x k d m =
    let same = x.same_rows in
    let same' = x.same_slots in
    elim (cases_eq k p) [
      | inl e ↦ let here : get_or ss' k d ≡ get_or ss q d = ap (λ (n : ℕ). get_or ss' n d) e ∙ x.slots_are.0 d in let old = kept.within q d x.second in omega arith
      | inr n ↦ elim (cases_eq k q) [
        | inl e ↦ let here : get_or ss' k d ≡ get_or ss p d = ap (λ (n : ℕ). get_or ss' n d) e ∙ x.slots_are.1 d in let old = kept.within p d x.first in omega arith
        | inr o ↦ let here : get_or ss' k d ≡ get_or ss k d = x.slots_are.2 k d n o in let old = kept.within k d (omega arith) in omega arith
      ]
    ]

pub gathered-exchanged : {A : Type 0} (rows rows' : Keyed A) (ss ss' : List ℕ) (p q : ℕ) → IsKept rows ss → Exchanged rows rows' ss ss' p q → gathered rows' ss' ≡ gathered rows ss
gathered-exchanged rows rows' ss ss' p q kept x =
    gathered_is rows' (gathered rows ss) ss' (within-exchanged rows rows' ss ss' p q kept x) (length-gathered rows ss kept.within ∙ sym x.same_slots) each
  where
    each : (k : ℕ) (d : List ℕ × _) → k < length ss' → get_or rows' (get_or ss' k 0) d ≡ get_or (gathered rows ss) k d
    each k d m =
        let same' = x.same_slots in
        let l : k < length ss = omega arith in
        elim (cases_eq k p) [
          | inl e ↦
              ap (λ (s : ℕ). get_or rows' s d) (ap (λ (n : ℕ). get_or ss' n 0) e ∙ x.slots_are.0 0)
              ∙ x.rows_are.1 d
              ∙ ap (λ (n : ℕ). get_or rows (get_or ss n 0) d) (sym e)
              ∙ sym (gathered_at rows ss k d kept.within l)
          | inr n ↦ elim (cases_eq k q) [
            | inl e ↦
                ap (λ (s : ℕ). get_or rows' s d) (ap (λ (n : ℕ). get_or ss' n 0) e ∙ x.slots_are.1 0)
                ∙ x.rows_are.0 d
                ∙ ap (λ (n : ℕ). get_or rows (get_or ss n 0) d) (sym e)
                ∙ sym (gathered_at rows ss k d kept.within l)
            | inr o ↦
                ap (λ (s : ℕ). get_or rows' s d) (x.slots_are.2 k 0 n o)
                ∙ x.rows_are.2 (get_or ss k 0) d (λ e. n (once rows ss k p d kept l x.first e)) (λ e. o (once rows ss k q d kept l x.second e))
                ∙ sym (gathered_at rows ss k d kept.within l)
          ]
        ]

pub kept-exchanged : {A : Type 0} (rows rows' : Keyed A) (ss ss' : List ℕ) (p q : ℕ) → IsKept rows ss → Exchanged rows rows' ss ss' p q → IsKept rows' ss'
kept-exchanged rows rows' ss ss' p q kept x = record {
  in_order = subst (λ (es : Keyed _). IsTrue (is_in_order es)) (sym (gathered-exchanged rows rows' ss ss' p q kept x)) kept.in_order;
  within = within-exchanged rows rows' ss ss' p q kept x;
  placed = λ s m. let same = x.same_rows in moved s (kept.placed s (omega arith));
}
  where
    moved : (s : ℕ) → IsAmong ss s → IsAmong ss' s
    moved s a =
        let same' = x.same_slots in
        let first = x.first in
        let second = x.second in
        let within = a.within in
        elim (cases_eq a.place p) [
          | inl e ↦ record { place = q; within = omega arith; there = x.slots_are.1 0 ∙ ap (λ (n : ℕ). get_or ss n 0) (sym e) ∙ a.there }
          | inr n ↦ elim (cases_eq a.place q) [
            | inl e ↦ record { place = p; within = omega arith; there = x.slots_are.0 0 ∙ ap (λ (n : ℕ). get_or ss n 0) (sym e) ∙ a.there }
            | inr o ↦ record { place = a.place; within = omega arith; there = x.slots_are.2 a.place 0 n o ∙ a.there }
          ]
        ]

-- The row in the last slot is taken out, with its place.

pub record IsLast {A : Type 0} (rows front : Keyed A) (ss : List ℕ) (p : ℕ) : Type 0 where
  pub row : List ℕ × A
  pub is : rows ≡ front ++ row ∷ []
  pub within : p < length ss
  pub last : get_or ss p 0 ≡ length front

-- any other slot of the order is among those that stay, and its row is
other_slot : {A : Type 0} (rows front : Keyed A) (ss : List ℕ) (p j : ℕ) → IsKept rows ss → IsLast rows front ss p → j < length ss → j ≢ p → get_or ss j 0 < length front
other_slot rows front ss p j kept x l n =
    let longer : length rows ≡ length front + 1 = ap length x.is ∙ length_push front x.row in
    let old = kept.within j 0 l in
    let last = x.last in
    let other : get_or ss j 0 ≢ length front = λ e. n (once rows ss j p x.row kept l x.within (e ∙ sym x.last)) in omega arith

other_row : {A : Type 0} (rows front : Keyed A) (ss : List ℕ) (p j : ℕ) (d : List ℕ × A) → IsKept rows ss → IsLast rows front ss p → j < length ss → j ≢ p → get_or front (get_or ss j 0) d ≡ get_or (gathered rows ss) j d
other_row rows front ss p j d kept x l n =
    sym (get_or_append_left front (x.row ∷ []) d (get_or ss j 0) (other_slot rows front ss p j kept x l n))
    ∙ ap (λ (rs : Keyed _). get_or rs (get_or ss j 0) d) (sym x.is)
    ∙ sym (gathered_at rows ss j d kept.within l)

within-dropped : {A : Type 0} (rows front : Keyed A) (ss : List ℕ) (p : ℕ) → IsKept rows ss → IsLast rows front ss p → All (λ s. s < length front) (remove ss p)
within-dropped rows front ss p kept x k d m =
    let fewer = length-remove ss p x.within in
    let within = x.within in
    let same = get_or_default (remove ss p) k d 0 m in
    elim (cases_lt k p) [
      | inl lt ↦ let here = get_or-remove_below ss p 0 k lt x.within in let other : k ≢ p = omega arith in let old = other_slot rows front ss p k kept x (omega arith) other in omega arith
      | inr ge ↦ let here = get_or-remove_above ss p 0 k ge x.within in let other : k + 1 ≢ p = omega arith in let old = other_slot rows front ss p (k + 1) kept x (omega arith) other in omega arith
    ]

pub gathered-dropped : {A : Type 0} (rows front : Keyed A) (ss : List ℕ) (p : ℕ) → IsKept rows ss → IsLast rows front ss p → gathered front (remove ss p) ≡ remove (gathered rows ss) p
gathered-dropped rows front ss p kept x = gathered_is front (remove (gathered rows ss) p) (remove ss p) (within-dropped rows front ss p kept x) lengths each
  where
    inside : p < length (gathered rows ss)
    inside = let same = length-gathered rows ss kept.within in let within = x.within in omega arith

    lengths : length (remove (gathered rows ss) p) ≡ length (remove ss p)
    lengths = let same = length-gathered rows ss kept.within in let fewer = length-remove (gathered rows ss) p inside in let fewer' = length-remove ss p x.within in omega arith

    each : (k : ℕ) (d : List ℕ × _) → k < length (remove ss p) → get_or front (get_or (remove ss p) k 0) d ≡ get_or (remove (gathered rows ss) p) k d
    each k d m =
        let fewer = length-remove ss p x.within in
        let within = x.within in
        elim (cases_lt k p) [
          | inl lt ↦
              let other : k ≢ p = omega arith in
              ap (λ (s : ℕ). get_or front s d) (get_or-remove_below ss p 0 k lt x.within) ∙ other_row rows front ss p k d kept x (omega arith) other ∙ sym (get_or-remove_below (gathered rows ss) p d k lt inside)
          | inr ge ↦
              let other : k + 1 ≢ p = omega arith in
              ap (λ (s : ℕ). get_or front s d) (get_or-remove_above ss p 0 k ge x.within) ∙ other_row rows front ss p (k + 1) d kept x (omega arith) other ∙ sym (get_or-remove_above (gathered rows ss) p d k ge inside)
        ]

pub kept-dropped : {A : Type 0} (rows front : Keyed A) (ss : List ℕ) (p : ℕ) → IsKept rows ss → IsLast rows front ss p → IsTrue (is_in_order (remove (gathered rows ss) p)) → IsKept front (remove ss p)
kept-dropped rows front ss p kept x o = record {
  in_order = subst (λ (es : Keyed _). IsTrue (is_in_order es)) (sym (gathered-dropped rows front ss p kept x)) o;
  within = within-dropped rows front ss p kept x;
  placed = λ s m. let longer : length rows ≡ length front + 1 = ap length x.is ∙ length_push front x.row in moved s m (kept.placed s (omega arith));
}
  where
    moved : (s : ℕ) → s < length front → IsAmong ss s → IsAmong (remove ss p) s
    moved s m a =
        let fewer = length-remove ss p x.within in
        let within = x.within in
        let inside = a.within in
        elim (cases_order a.place p) [
          | inl e ↦ let same : s ≡ length front = sym a.there ∙ ap (λ (n : ℕ). get_or ss n 0) e ∙ x.last in absurd (omega arith)
          | inr o ↦ elim o [
            | inl lt ↦ record { place = a.place; within = omega arith; there = get_or-remove_below ss p 0 a.place lt x.within ∙ a.there }
            | inr gt ↦
                let one_more : (a.place - 1) + 1 ≡ a.place = omega arith in
                record { place = a.place - 1; within = omega arith; there = get_or-remove_above ss p 0 (a.place - 1) (omega arith) x.within ∙ ap (λ (n : ℕ). get_or ss n 0) one_more ∙ a.there }
          ]
        ]

-- The row at a place is taken out: it changes places with the row in the last slot, and then goes with its place.

pub record IsTaken {A : Type 0} (rows rows' front : Keyed A) (ss ss' rest : List ℕ) (p q : ℕ) (row : List ℕ × A) : Type 0 where
  pub exchanged : Exchanged rows rows' ss ss' p q
  pub last : get_or ss q 0 + 1 ≡ length rows
  pub front_is : rows' ≡ front ++ row ∷ []
  pub rest_is : rest ≡ remove ss' p

pub taken_by : {A : Type 0} (rows rows' front : Keyed A) (ss ss' rest : List ℕ) (p q slot last : ℕ) (row : List ℕ × A) → IsKept rows ss → p < length (gathered rows ss) → q < length ss → get_or ss q 0 + 1 ≡ length rows → slot ≡ get_or ss p slot → last ≡ get_or ss q last → SwappedAt rows rows' slot last → SwappedAt ss ss' p q → length rows' ≡ length rows → length ss' ≡ length ss → rows' ≡ front ++ row ∷ [] → rest ≡ remove ss' p → IsTaken rows rows' front ss ss' rest p q row
taken_by rows rows' front ss ss' rest p q slot last row kept l m b slot_read last_read x y same_rows same_slots f r =
    let same = length-gathered rows ss kept.within in
    let slot_is = get_or_read ss p slot (omega arith) slot_read 0 in
    let last_is = get_or_read ss q last m last_read 0 in
    record {
      exchanged = record {
        first = omega arith;
        second = m;
        rows_are = subst (λ (n : ℕ). SwappedAt rows rows' n (get_or ss q 0)) slot_is (subst (λ (n : ℕ). SwappedAt rows rows' slot n) last_is x);
        slots_are = y;
        same_rows = same_rows;
        same_slots = same_slots;
      };
      last = b;
      front_is = f;
      rest_is = r;
    }

behind : {A : Type 0} (rows rows' front : Keyed A) (ss ss' rest : List ℕ) (p q : ℕ) (row : List ℕ × A) → IsTaken rows rows' front ss ss' rest p q row → get_or ss q 0 ≡ length front
behind rows rows' front ss ss' rest p q row x =
    let longer : length rows' ≡ length front + 1 = ap length x.front_is ∙ length_push front row in
    let same = x.exchanged.same_rows in
    let last = x.last in omega arith

taken_last : {A : Type 0} (rows rows' front : Keyed A) (ss ss' rest : List ℕ) (p q : ℕ) (row : List ℕ × A) → IsTaken rows rows' front ss ss' rest p q row → IsLast rows' front ss' p
taken_last rows rows' front ss ss' rest p q row x =
    let same = x.exchanged.same_slots in
    let first = x.exchanged.first in
    record {
      row = row;
      is = x.front_is;
      within = omega arith;
      last = x.exchanged.slots_are.0 0 ∙ behind rows rows' front ss ss' rest p q row x;
    }

pub gathered-taken : {A : Type 0} (rows rows' front : Keyed A) (ss ss' rest : List ℕ) (p q : ℕ) (row : List ℕ × A) → IsKept rows ss → IsTaken rows rows' front ss ss' rest p q row → gathered front rest ≡ remove (gathered rows ss) p
gathered-taken rows rows' front ss ss' rest p q row kept x =
    ap (gathered front) x.rest_is
    ∙ gathered-dropped rows' front ss' p (kept-exchanged rows rows' ss ss' p q kept x.exchanged) (taken_last rows rows' front ss ss' rest p q row x)
    ∙ ap (λ (es : Keyed _). remove es p) (gathered-exchanged rows rows' ss ss' p q kept x.exchanged)

pub kept-taken : {A : Type 0} (rows rows' front : Keyed A) (ss ss' rest : List ℕ) (p q : ℕ) (row : List ℕ × A) → IsKept rows ss → IsTaken rows rows' front ss ss' rest p q row → IsKept front rest
kept-taken rows rows' front ss ss' rest p q row kept x =
    let kept' = kept-exchanged rows rows' ss ss' p q kept x.exchanged in
    let y = taken_last rows rows' front ss ss' rest p q row x in
    let k = (get_or rows' (get_or ss' p 0) row).0 in
    let place = slot_place rows' ss' p k row kept' y.within (itself k) in
    subst (λ (ns : List ℕ). IsKept front ns) (sym x.rest_is) (kept-dropped rows' front ss' p kept' y (in_order-removed (gathered rows' ss') k p kept'.in_order place))

pub row-taken : {A : Type 0} (rows rows' front : Keyed A) (ss ss' rest : List ℕ) (p q : ℕ) (row : List ℕ × A) → IsKept rows ss → IsTaken rows rows' front ss ss' rest p q row → row ≡ get_or (gathered rows ss) p row
row-taken rows rows' front ss ss' rest p q row kept x =
    sym (get_or_push front row row (get_or ss q 0) (sym (behind rows rows' front ss ss' rest p q row x)))
    ∙ ap (λ (rs : Keyed _). get_or rs (get_or ss q 0) row) (sym x.front_is)
    ∙ x.exchanged.rows_are.1 row
    ∙ sym (gathered_at rows ss p row kept.within x.exchanged.first)
