-- Rescinds and acquires that are sent.
use Rattle.std.proofs.Common.{◌≡◌, ℕ, ◌+◌, Bool, true, false, cond, List, Option, None, Some, is_some, refl, sym, ◌∙◌, ap, subst}
use Rattle.std.specs.Option.{option_map}
use Rattle.etcd_types.specs.Keys.{same}
use Rattle.etcd_types.proofs.KeyOrder.{same-equal}
use Rattle.proxy_model.specs.declared.lease.Entry.{Entry}
use Rattle.proxy_model.specs.declared.lease.Phase.{Phase}
use Rattle.proxy_model.specs.declared.lease.Phase.TheVariants.{Held, Writing, Leaving}
use Rattle.proxy_model.specs.Keyed.{at, changed_at}
use Rattle.proxy_model.proofs.KeyedLaws.{at-with_at}
use Rattle.wait_model.specs.declared.sending.Sending.{Sending}
use Rattle.wait_model.specs.declared.sending.Sending.TheVariants as sending
use Rattle.wait_model.specs.declared.write.WriteStage.{WriteStage}
use Rattle.wait_model.specs.Fits.{Fits, stage_over}
use Rattle.wait_model.specs.Phases.{is_rescind_due_phase, rescind_sent}
use Rattle.wait_model.specs.Sent.{create_or_zero}
use Rattle.core_laws.proofs.Writes.Phases.{not_some}
use Rattle.read_model.specs.declared.acquire.Acquire.{Acquire}
use Rattle.read_model.specs.Acquires.{sent_out}
use Rattle.read_model.specs.State.{Ground}
use Rattle.cache_laws.specs.Moves.View as view
use Rattle.cache_laws.specs.Moves.View.{Slot, Call, View}
use Rattle.cache_laws.specs.Moves.Sends.{Becomes, stays, acquires}
use Rattle.cache_laws.specs.Moves.Answers.{Reaches}
use Rattle.row_laws.specs.Rows.{phase_in, phase_of, number_of, slot_of, row_of}
use Rattle.row_laws.specs.Laws.{AreMarked, with_own, SendsAt}
use Rattle.row_laws.specs.Sendings.{IsRescindCall, RescindSends, IsAcquireCall, unspoiled, sent_ground, AcquireSends, SpoiledTurns}
use Rattle.row_laws.proofs.Reaching.{same_slot, at_one}
use Rattle.row_laws.proofs.Notices.{spoiled_reach}
use Rattle.row_laws.proofs.SendRows.{uncompared}
use Rattle.row_laws.proofs.Ended.{resent}

-- A rescind.

rescind_row : (own : ℕ → ℕ) (k : List ℕ) (g : Ground) (j : List ℕ) → row_of own (with_own g (record g.own { entries = changed_at g.own.entries k (rescind_sent true) })) j ≡ row_of own g j
rescind_row own k g j =
    at_one (λ i e. slot_of own e (at g.acquires i) (at g.own.waits.spoiled i) (stage_over i g.own.waits.writes) ≡ row_of own g i) g.own.entries k (option_map (rescind_sent true) (at g.own.entries k)) (again (at g.own.entries k)) (λ i. refl) j
  where
    again : (e : Option Entry) → slot_of own (option_map (rescind_sent true) e) (at g.acquires k) (at g.own.waits.spoiled k) (stage_over k g.own.waits.writes) ≡ slot_of own e (at g.acquires k) (at g.own.waits.spoiled k) (stage_over k g.own.waits.writes)
    again None = refl
    again (Some e) = resent own true e (at g.acquires k) (at g.own.waits.spoiled k) (stage_over k g.own.waits.writes)

leaves : (phase : Phase) → is_rescind_due_phase phase ≡ true → phase_in phase ≡ view.Leaving
leaves Held d = absurd (cc)
leaves (Writing revoked) d = absurd (cc)
leaves (Leaving sent) d = refl

pub rescind_sends : RescindSends
rescind_sends v own c k e g stands due is j = subst (λ (y : Slot). SendsAt v c j (row_of own g j) y) (sym (rescind_row own k g j)) (by (same k j) refl)
  where
    gives_up : (row_of own g k).phase ≡ view.Leaving
    gives_up = ap phase_of stands ∙ leaves e.phase due

    here : SendsAt v c k (row_of own g k) (row_of own g k)
    here =
        record {
          compares = λ o n. is.guards k ∙ ap create_or_zero (sym stands);
          entry = λ o n f. let x = sym gives_up ∙ f in absurd (cc);
          becomes = stays refl (λ o n. gives_up);
        }

    by : (b : Bool) → same k j ≡ b → SendsAt v c j (row_of own g j) (row_of own g j)
    by true t = subst (λ (i : List ℕ). SendsAt v c i (row_of own g i) (row_of own g i)) (same-equal k j t) here
    by false t = uncompared v c j (row_of own g j) (row_of own g j) refl (λ o. let x = sym t ∙ sym (is.covers j) ∙ o in absurd (cc))

-- An acquire.

-- of a key with an acquire that is due
due_slot : (own : ℕ → ℕ) (e : Option Entry) (o : Option Acquire) (s : Option Bool) (stage : WriteStage) (a : Acquire) (since : ℕ) → e ≡ None → o ≡ Some a → a.sending ≡ sending.Due since → slot_of own e o s stage ≡ view.no_slot
due_slot own e o s stage a since none some due =
    (λ i. slot_of own (none i) (some i) s stage) ∙ (λ i. slot_at (due i))
  where
    slot_at : Sending → Slot
    slot_at x = slot_of own None (Some (record a { sending = x })) s stage

-- the same key, where that is out
abbrev out_slot : ℕ → Slot
out_slot number = record { phase = view.Absent; create = 0; kv = None; acquire = number; spoiled = false; write = 0 }

sent_slot : (own : ℕ → ℕ) (e : Option Entry) (o : Option Acquire) (s : Option Bool) (stage : WriteStage) (a : Acquire) (call number : ℕ) → e ≡ None → o ≡ Some a → own call ≡ number
    → slot_of own e (option_map (sent_out call) o) (option_map (λ (b : Bool). false) s) stage ≡ out_slot number
sent_slot own e o s stage a call number none some is =
    (λ i. slot_of own (none i) (option_map (sent_out call) (some i)) (option_map (λ (b : Bool). false) s) stage) ∙ unmarked s ∙ (λ i. out_slot (is i))
  where
    unmarked : (s : Option Bool) → slot_of own None (Some (sent_out call a)) (option_map (λ (b : Bool). false) s) stage ≡ out_slot (own call)
    unmarked None = refl
    unmarked (Some b) = refl

pub acquire_sends : AcquireSends
acquire_sends v own c k call since a g marked fits stands due is number j =
    subst (λ (y : Slot). SendsAt v c j (row_of own g j) y)
    (λ i. slot_of own (at g.own.entries j) (sym (at-with_at g.acquires k j (option_map (sent_out call) (at g.acquires k))) i) (sym (at-with_at g.own.waits.spoiled k j (option_map (λ (b : Bool). false) (at g.own.waits.spoiled k))) i) (stage_over j g.own.waits.writes))
    (by (same k j) refl)
  where
    after : List ℕ → Bool → Slot
    after i b = slot_of own (at g.own.entries i) (cond b (option_map (sent_out call) (at g.acquires k)) (at g.acquires i)) (cond b (option_map (λ (b : Bool). false) (at g.own.waits.spoiled k)) (at g.own.waits.spoiled i)) (stage_over i g.own.waits.writes)

    sends_at : (i : List ℕ) (x y : Slot) → Becomes v c i x y → SendsAt v c i x y
    sends_at i x y b =
        record {
          compares = λ o n. absurd (uncovered i o);
          entry = λ o n f. uncovered i o;
          becomes = b;
        }
      where
        uncovered : (i : List ℕ) → c.covers i ≡ true → ⊥
        uncovered i o = let x = sym (is.covers i) ∙ o in absurd (cc)

    here : SendsAt v c k (row_of own g k) (after k true)
    here =
        let none = not_some (at g.own.entries k) ((fits k).ok.apart (marked k ∙ ap is_some stands)) in
        let before : row_of own g k ≡ view.no_slot = due_slot own (at g.own.entries k) (at g.acquires k) (at g.own.waits.spoiled k) (stage_over k g.own.waits.writes) a since none stands due in
        let out : after k true ≡ out_slot (v.sent + 1) = sent_slot own (at g.own.entries k) (at g.acquires k) (at g.own.waits.spoiled k) (stage_over k g.own.waits.writes) a call (v.sent + 1) none stands number in
        subst (λ (x : Slot). SendsAt v c k x (after k true)) (sym before)
        (subst (λ (y : Slot). SendsAt v c k view.no_slot y) (sym out) (sends_at k view.no_slot (out_slot (v.sent + 1)) (acquires refl is.kind is.key refl)))

    by : (b : Bool) → same k j ≡ b → SendsAt v c j (row_of own g j) (after j b)
    by true t = subst (λ (i : List ℕ). SendsAt v c i (row_of own g i) (after i true)) (same-equal k j t) here
    by false t = sends_at j (row_of own g j) (row_of own g j) (stays refl (λ o n. absurd (let x = sym (is.covers j) ∙ o in cc)))

-- it was spoiled before
unspoiled_reach : (v : View) (p : ℕ) (k : List ℕ) (own : ℕ → ℕ) (e : Option Entry) (a : Option Acquire) (s : Option Bool) (stage : WriteStage) → Reaches v p k (slot_of own e a (option_map (λ (b : Bool). false) s) stage) (slot_of own e a s stage)
unspoiled_reach v p k own e a None stage = same_slot refl
unspoiled_reach v p k own e a (Some false) stage = same_slot refl
unspoiled_reach v p k own e a (Some true) stage = spoiled_reach v p k own e a (Some false) stage

pub spoiled_turns : SpoiledTurns
spoiled_turns v p own k g j =
    at_one (λ i s. Reaches v p i (slot_of own (at g.own.entries i) (at g.acquires i) s (stage_over i g.own.waits.writes)) (row_of own g i)) g.own.waits.spoiled k (option_map (λ (b : Bool). false) (at g.own.waits.spoiled k))
    (unspoiled_reach v p k own (at g.own.entries k) (at g.acquires k) (at g.own.waits.spoiled k) (stage_over k g.own.waits.writes)) (λ i. same_slot refl) j
