-- What an edit at a key's place does to the table.
use Rattle.std.proofs.Common.{◌≡◌, ◌≢◌, ℕ, zero, suc, ◌+◌, ◌-◌, ◌<◌, length, ◌++◌, true, List, [], ◌∷◌, map, take, drop, get_or, set, IsTrue, None, Some, is_some, refl, sym, ◌∙◌, ap, subst, arith}
use Rattle.std.proofs.lemmas.List.{get_or-set_same}
use Rattle.std.specs.List.{insert, remove}
use Rattle.std.specs.Option.{option_map}
use Rattle.proxy_model.specs.declared.lease.Entry.{Entry}
use Rattle.proxy_model.specs.Keyed.{Keyed, at, with_at, changed_at, is_in_order}
use Rattle.proxy_model.specs.LeaseTable.{Table, change, hold}
use Rattle.proxy_model.proofs.KeyedLaws.{to_T, in_order-with_at}
use Rattle.keyed_rows.specs.Places.{IsPlace, IsGap}
use Rattle.slot_rows.specs.Roomy.{changed_in}
use Rattle.slot_rows.proofs.Changes.{set-changed, changed_in-place}
use Rattle.keyed_rows.proofs.Places.{changed-gap, at-place, put-place, place-is_some, put-gap, without-place, without-gap}

-- One row changed, by its place.

pub set_is_changed : (es : Keyed Entry) (i : ℕ) (f : Entry → Entry) (row : List ℕ × Entry) → row ≡ get_or es i row → set es i (row.0, f row.1) ≡ changed_in es i f
set_is_changed es i f row e =
    let Claim : List ℕ × Entry → Type 0 = λ r. set es i (r.0, f r.1) ≡ changed_in es i f in subst Claim (sym e) (set-changed es i f row)

pub changed_table : (t : Table) (k : List ℕ) (f : Entry → Entry) (i : ℕ) → IsPlace t.entries k i → ◌≡◌ {A = Table} (record t { entries = changed_in t.entries i f }) (change t k f)
changed_table t k f i p = ap (λ (es : Keyed Entry). record t { entries = es }) (changed_in-place t.entries k i f p)

pub unchanged_table : (t : Table) (k : List ℕ) (f : Entry → Entry) (i : ℕ) → IsTrue (is_in_order t.entries) → IsGap t.entries k i → t ≡ change t k f
unchanged_table t k f i s g = ap (λ (es : Keyed Entry). record t { entries = es }) (changed-gap t.entries k i f s g)

-- What is read of one row before and after its turn.
pub record IsTurned (es : Keyed Entry) (i : ℕ) (f : Entry → Entry) (old : List ℕ × Entry) (after : Keyed Entry) (row : List ℕ × Entry) : Type 0 where
  pub within : i < length es
  pub old_is : old ≡ get_or es i old
  pub after_is : after ≡ changed_in es i f
  pub row_is : row ≡ get_or after i row

pub turned_rows : (es : Keyed Entry) (i : ℕ) (f : Entry → Entry) (old : List ℕ × Entry) (after : Keyed Entry) (row : List ℕ × Entry) → IsTurned es i f old after row → after ≡ set es i (old.0, f old.1)
turned_rows es i f old after row x = x.after_is ∙ sym (set_is_changed es i f old x.old_is)

pub turned_row : (es : Keyed Entry) (i : ℕ) (f : Entry → Entry) (old : List ℕ × Entry) (after : Keyed Entry) (row : List ℕ × Entry) → IsTurned es i f old after row → row ≡ (old.0, f old.1)
turned_row es i f old after row x =
    x.row_is ∙ ap (λ (es : Keyed Entry). get_or es i row) (turned_rows es i f old after row x) ∙ get_or-set_same es i (old.0, f old.1) row x.within

-- Each row up to a place is changed.

done-next : {A : Type 0} (f : A → A) (es : Keyed A) (i : ℕ) → changed_in (map (λ e. (e.0, f e.1)) (take i es) ++ drop i es) i f ≡ map (λ e. (e.0, f e.1)) (take (suc i) es) ++ drop (suc i) es
done-next f [] zero = refl
done-next f [] (suc i) = refl
done-next f (e ∷ es) zero = refl
done-next f (e ∷ es) (suc i) = ap (λ fs. (e.0, f e.1) ∷ fs) (done-next f es i)

pub done_more : {A : Type 0} (f : A → A) (es : Keyed A) (i : ℕ) → changed_in (map (λ e. (e.0, f e.1)) (take i es) ++ drop i es) i f ≡ map (λ e. (e.0, f e.1)) (take (i + 1) es) ++ drop (i + 1) es
done_more f es i =
    let one_more : suc i ≡ i + 1 = omega arith in done-next f es i ∙ ap (λ (n : ℕ). map (λ e. (e.0, f e.1)) (take n es) ++ drop n es) one_more

-- A new entry in the gap for the key.

pub not_absent : (es : Keyed Entry) (k : List ℕ) (i : ℕ) → IsPlace es k i → at es k ≢ None
not_absent es k i p e = let found : is_some (at es k) ≡ true = place-is_some es k i p in cc

pub in_order-held : (es : Keyed Entry) (k : List ℕ) (e : Entry) (i : ℕ) → IsTrue (is_in_order es) → IsGap es k i → IsTrue (is_in_order (insert es i (k, e)))
in_order-held es k e i s g = rw (← (put-gap es k e i g)) (in_order-with_at es k (Some e) s)

pub held_table : (t : Table) (k : List ℕ) (e : Entry) (i spare : ℕ) → IsGap t.entries k i → spare ≡ t.spare - 1 → ◌≡◌ {A = Table} (record { entries = insert t.entries i (k, e); spare = spare }) (hold t k e)
held_table t k e i spare g s j = record { entries = sym (put-gap t.entries k e i g) j; spare = s j }

-- No entry at the place of the key.

pub in_order-removed : (es : Keyed Entry) (k : List ℕ) (i : ℕ) → IsTrue (is_in_order es) → IsPlace es k i → IsTrue (is_in_order (remove es i))
in_order-removed es k i s p = rw (← (without-place es k i (to_T _ s) p)) (in_order-with_at es k None s)

pub removed : (es : Keyed Entry) (k : List ℕ) (i : ℕ) → IsTrue (is_in_order es) → IsPlace es k i → remove es i ≡ with_at es k None
removed es k i s p = sym (without-place es k i (to_T _ s) p)

pub none_removed : (es : Keyed Entry) (k : List ℕ) (i : ℕ) → IsTrue (is_in_order es) → IsGap es k i → es ≡ with_at es k None
none_removed es k i s g = sym (without-gap es k i (to_T _ s) g)
