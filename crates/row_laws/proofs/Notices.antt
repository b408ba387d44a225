-- A notice that asks for a key.
use Rattle.std.proofs.Common.{◌≡◌, ℕ, ◌==◌, Bool, true, false, cond, List, Option, None, Some, is_some, refl, sym, ◌∙◌}
use Rattle.std.specs.Option.{option_map}
use Rattle.proxy_model.specs.declared.lease.Entry.{Entry}
use Rattle.proxy_model.specs.declared.lease.Phase.{Phase}
use Rattle.proxy_model.specs.declared.lease.Phase.TheVariants.{Held, Writing, Leaving}
use Rattle.proxy_model.specs.Keyed.{at, with_at}
use Rattle.proxy_model.specs.LeaseTable.{given_up, phase_given_up}
use Rattle.wait_model.specs.declared.sending.Sending.{Sending}
use Rattle.wait_model.specs.declared.sending.Sending.TheVariants as sending
use Rattle.wait_model.specs.declared.write.WriteStage.{WriteStage}
use Rattle.wait_model.specs.Asked.{acquire_spoiled}
use Rattle.wait_model.specs.Fits.{stage_over}
use Rattle.wait_model.specs.Notices.{revoked_turn}
use Rattle.wait_model.specs.Phases.{is_session, own_entry}
use Rattle.wait_model.specs.Sent.{create_or_zero}
use Rattle.read_model.specs.declared.acquire.Acquire.{Acquire}
use Rattle.cache_laws.specs.Moves.View.{Slot, View, live}
use Rattle.cache_laws.specs.Moves.Answers.{IsShown, spoils, gives_up, finds, Reaches}
use Rattle.cache_laws.proofs.Moves.Numbers.{same_number}
use Rattle.row_laws.specs.Rows.{number_of, phase_in, phase_of, record_of, written_in, written_by, acquired_by, spoiled_in, spoiled_by, slot_of, row_of}
use Rattle.row_laws.specs.Laws.{IsLive, with_own, NoticesTurn}
use Rattle.row_laws.proofs.Reaching.{same_slot, one_turn, at_one}

-- an acquire at the key is spoiled
pub spoiled_reach : (v : View) (p : ℕ) (k : List ℕ) (own : ℕ → ℕ) (e : Option Entry) (a : Option Acquire) (s : Option Bool) (stage : WriteStage) → Reaches v p k (slot_of own e a s stage) (slot_of own e a (option_map (λ b. true) s) stage)
spoiled_reach v p k own e None s stage = same_slot refl
spoiled_reach v p k own e (Some a) None stage = same_slot refl
spoiled_reach v p k own e (Some a) (Some b) stage = by a.sending
  where
    slot : Sending → Bool → Slot
    slot x m = record { phase = phase_of e; create = create_or_zero e; kv = record_of e; acquire = number_of own x; spoiled = spoiled_in (Some m) x; write = written_by own stage e }

    by : (x : Sending) → Reaches v p k (slot x b) (slot x true)
    by (sending.Due since) = same_slot refl
    by (sending.Out call) = one_turn (spoils refl)

-- an entry is given up
pub given_up_reach : (v : View) (p : ℕ) (k : List ℕ) (own : ℕ → ℕ) (e : Entry) (a : Option Acquire) (s : Option Bool) (stage : WriteStage) → Reaches v p k (slot_of own (Some e) a s stage) (slot_of own (Some (given_up e)) a s stage)
given_up_reach v p k own e a s stage = by e.phase
  where
    slot : Phase → Slot
    slot x = record { phase = phase_in x; create = e.create; kv = e.kv; acquire = acquired_by own a; spoiled = spoiled_by s a; write = written_in own stage x }

    by : (x : Phase) → Reaches v p k (slot x) (slot (phase_given_up x))
    by Held = one_turn (gives_up (λ f. cc) refl)
    by (Writing revoked) = same_slot refl
    by (Leaving sent) = same_slot refl

pub session_is : (session : Option ℕ) (lease : ℕ) → is_session session lease ≡ true → session ≡ Some lease
session_is None lease t = absurd (cc)
session_is (Some n) lease t = λ i. Some (same_number n lease t i)

-- an ownership of its own, of a key without entry and acquire
pub found_reach : (v : View) (p : ℕ) (k : List ℕ) (own : ℕ → ℕ) (session : Option ℕ) (create lease : ℕ) (s : Option Bool) (stage : WriteStage) → IsLive v p session → IsShown v k (record { create = create; session = lease }) → is_session session lease ≡ true
    → Reaches v p k (slot_of own None None s stage) (slot_of own (Some (own_entry create)) None s stage)
found_reach v p k own session create lease s stage live shown t =
    let n = session_is session lease t in
    one_turn (finds (record { create = create; session = lease }) shown (λ z. live.not_none lease n (sym (live.number lease n) ∙ z)) (sym (live.number lease n)) refl)

revoked_reach : (v : View) (p : ℕ) (k : List ℕ) (own : ℕ → ℕ) (session : Option ℕ) (create lease : ℕ) (e : Option Entry) (a : Option Acquire) (s : Option Bool) (stage : WriteStage) → IsLive v p session → IsShown v k (record { create = create; session = lease }) → is_some a ≡ false
    → Reaches v p k (slot_of own e a s stage) (slot_of own (revoked_turn session create lease e) a s stage)
revoked_reach v p k own session create lease e (Some a) s stage live shown n = absurd (cc)
revoked_reach v p k own session create lease None None s stage live shown n =
    elim (is_session session lease) as (λ b. is_session session lease ≡ b → Reaches v p k (slot_of own None None s stage) (slot_of own (cond b (Some (own_entry create)) None) None s stage)) [
      | true ↦ λ t. found_reach v p k own session create lease s stage live shown t
      | false ↦ λ t. same_slot refl
    ] refl
revoked_reach v p k own session create lease (Some e) None s stage live shown n = by (e.create == create)
  where
    by : (b : Bool) → Reaches v p k (slot_of own (Some e) None s stage) (slot_of own (cond b (Some (given_up e)) (Some e)) None s stage)
    by true = given_up_reach v p k own e None s stage
    by false = same_slot refl

pub notices_turn : NoticesTurn
notices_turn v p own session k create lease g live shown marked =
    elim (is_some (at g.own.waits.spoiled k)) as (λ b. is_some (at g.own.waits.spoiled k) ≡ b → (j : List ℕ) → Reaches v p j (row_of own g j) (row_of own (with_own g (cond b (acquire_spoiled k g.own) (record g.own { entries = with_at g.own.entries k (revoked_turn session create lease (at g.own.entries k)) }))) j)) [
      | true ↦ λ t.
          at_one (λ j s. Reaches v p j (row_of own g j) (slot_of own (at g.own.entries j) (at g.acquires j) s (stage_over j g.own.waits.writes))) g.own.waits.spoiled k (option_map (λ b. true) (at g.own.waits.spoiled k))
          (spoiled_reach v p k own (at g.own.entries k) (at g.acquires k) (at g.own.waits.spoiled k) (stage_over k g.own.waits.writes)) (λ j. same_slot refl)
      | false ↦ λ t.
          at_one (λ j e. Reaches v p j (row_of own g j) (slot_of own e (at g.acquires j) (at g.own.waits.spoiled j) (stage_over j g.own.waits.writes))) g.own.entries k (revoked_turn session create lease (at g.own.entries k))
          (revoked_reach v p k own session create lease (at g.own.entries k) (at g.acquires k) (at g.own.waits.spoiled k) (stage_over k g.own.waits.writes) live shown (sym (marked k) ∙ t)) (λ j. same_slot refl)
    ] refl
