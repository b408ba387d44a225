-- A turn of an entry whose rescind isn't to be sent before or after it changes nothing of what is known of due rescinds.
use Rattle.std.proofs.Common.{◌≡◌, ℕ, zero, suc, ◌+◌, true, false, cond, ◌&&◌, Bool, List, [], ◌∷◌, length, get_or, Option, None, Some, refl, sym, ◌∙◌, ap, subst}
use lib.Dec.{T}
use Rattle.std.specs.declared.cmp.Ordering.TheVariants.{Less, Equal, Greater}
use Rattle.std.specs.Ordering.{is_eq}
use Rattle.std.specs.FinMap.{is_sorted}
use Rattle.std.specs.FinMap.Entries.{below_all}
use Rattle.proxy_model.specs.declared.lease.Entry.{Entry}
use Rattle.proxy_model.specs.Keyed.{Keyed, at, changed_at, is_in_order}
use Rattle.proxy_model.proofs.KeyedLaws.{to_T}
use Rattle.proxy_model.specs.declared.lease.Phase.{Phase}
use Rattle.proxy_model.specs.declared.lease.Phase.TheVariants as phase
use Rattle.proxy_model.specs.LeaseTable.{phase_after_write}
use Rattle.wait_model.specs.Phases.{is_rescind_due, is_rescind_due_phase}
use Rattle.keyed_rows.specs.Places.{IsPlace}
use Rattle.keyed_rows.proofs.Places.{order, second_part, at-place, at-gap}
use Rattle.slot_rows.specs.Roomy.{changed_in}
use Rattle.slot_rows.proofs.Changes.{length-changed, in_order-changed_in, changed_in-place}
use Rattle.lease_table.specs.Dues.{IsKept, one_if, due_count, first_due}
use Rattle.lease_table.specs.Turns.{turned, is_write, is_open, is_quiet_at}
use Rattle.lease_table.specs.declared.turns.Turn.TheVariants as turn
use Rattle.lease_table.specs.declared.turns.Turn.{Turn}

-- what stands at a key has a place

place_there : {A : Type 0} (es : Keyed A) (k : List ℕ) (x : A) → T (is_sorted order es) → at es k ≡ Some x → (i : ℕ) × IsPlace es k i
place_there [] k x s h = absurd (cc)
place_there (e ∷ es) k x s h =
    elim (order k e.0) as (λ o. order k e.0 ≡ o → (i : ℕ) × IsPlace (e ∷ es) k i) [
      | Less ↦ λ l. let none = at-gap (e ∷ es) k 0 s l in absurd (cc)
      | Equal ↦ λ l. (0, l)
      | Greater ↦ λ l.
          let later = place_there es k x (second_part (below_all order e.0 es) _ s) (sym (ap (λ o. cond (is_eq o) (Some e.1) (at es k)) l) ∙ h) in
          (suc later.0, (l, later.1))
    ] refl

-- by the row's place

same_count : (es : Keyed Entry) (i : ℕ) (f : Entry → Entry) (d : List ℕ × Entry) → is_rescind_due (get_or es i d).1 ≡ false → is_rescind_due (f (get_or es i d).1) ≡ false → due_count (changed_in es i f) ≡ due_count es
same_count [] i f d b a = refl
same_count (e ∷ es) zero f d b a = ap (λ c. one_if c + due_count es) (a ∙ sym b)
same_count (e ∷ es) (suc i) f d b a = ap (λ n. one_if (is_rescind_due e.1) + n) (same_count es i f d b a)

same_first : (es : Keyed Entry) (i : ℕ) (f : Entry → Entry) (d : List ℕ × Entry) → is_rescind_due (get_or es i d).1 ≡ false → is_rescind_due (f (get_or es i d).1) ≡ false → first_due (changed_in es i f) ≡ first_due es
same_first [] i f d b a = refl
same_first (e ∷ es) zero f d b a = ap (λ c. cond c 0 (suc (first_due es))) (a ∙ sym b)
same_first (e ∷ es) (suc i) f d b a = ap (λ n. cond (is_rescind_due e.1) 0 (suc n)) (same_first es i f d b a)

first_of : (a b : Bool) → a && b ≡ true → a ≡ true
first_of true b h = refl
first_of false b h = absurd (cc)

second_of : (a b : Bool) → a && b ≡ true → b ≡ true
second_of true b h = h
second_of false b h = absurd (cc)

-- by its key

pub record IsQuietly (es fs : Keyed Entry) (due first : ℕ) : Type 0 where
  pub kept : IsKept fs due first
  pub len : length fs ≡ length es

quiet_at : (es : Keyed Entry) (due first : ℕ) (k : List ℕ) (f : Entry → Entry) (e : Entry) → IsKept es due first → at es k ≡ Some e → is_rescind_due e ≡ false → is_rescind_due (f e) ≡ false → IsQuietly es (changed_at es k f) due first
quiet_at es due first k f e kept h b a =
    let place = place_there es k e (to_T _ kept.in_order) h in
    let i = place.0 in
    let d : List ℕ × Entry = (k, e) in
    let some : Some (get_or es i d).1 ≡ Some e = sym (at-place es k i d place.1) ∙ h in
    let one : (get_or es i d).1 ≡ e = cc in
    let before : is_rescind_due (get_or es i d).1 ≡ false = ap is_rescind_due one ∙ b in
    let after : is_rescind_due (f (get_or es i d).1) ≡ false = ap (λ (x : Entry). is_rescind_due (f x)) one ∙ a in
    subst (λ (fs : Keyed Entry). IsQuietly es fs due first) (changed_in-place es k i f place.1) (record {
      kept = record {
        in_order = in_order-changed_in es i f ∙ kept.in_order;
        counted = kept.counted ∙ sym (same_count es i f d before after);
        found = kept.found ∙ sym (same_first es i f d before after);
      };
      len = length-changed es i f;
    })

after_write : (p : Phase) → is_open p ≡ true → (is_rescind_due_phase p ≡ false) × (is_rescind_due_phase (phase_after_write p) ≡ false)
after_write phase.Held o = (refl, refl)
after_write (phase.Writing true) o = absurd (cc)
after_write (phase.Writing false) o = (refl, refl)
after_write (phase.Leaving sent) o = absurd (cc)

quiet_after : (t : Turn) (e : Entry) → is_open e.phase ≡ true → is_write t ≡ true → is_rescind_due (turned t e) ≡ false
quiet_after (turn.To (phase.Writing revoked)) e o w = refl
quiet_after (turn.To phase.Held) e o w = refl
quiet_after (turn.To (phase.Leaving sent)) e o w = absurd (cc)
quiet_after (turn.Wrote kv) e o w = (after_write e.phase o).1
quiet_after turn.Unwritten e o w = (after_write e.phase o).1
quiet_after turn.Left e o w = absurd (cc)
quiet_after turn.GivenUp e o w = absurd (cc)
quiet_after turn.RescindSent e o w = absurd (cc)
quiet_after (turn.RescindLost create) e o w = absurd (cc)

pub quiet_turn : (es : Keyed Entry) (due first : ℕ) (k : List ℕ) (t : Turn) → IsKept es due first → is_quiet_at t (at es k) ≡ true → IsQuietly es (changed_at es k (turned t)) due first
quiet_turn es due first k t kept q = by_entry (at es k) refl q
  where
    by_entry : (o : Option Entry) → at es k ≡ o → is_quiet_at t o ≡ true → IsQuietly es (changed_at es k (turned t)) due first
    by_entry None h w = absurd (cc)
    by_entry (Some e) h w =
        let here = first_of (is_open e.phase) (is_write t) w in
        quiet_at es due first k (turned t) e kept h (after_write e.phase here).0 (quiet_after t e here (second_of (is_open e.phase) (is_write t) w))
