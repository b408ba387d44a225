-- Writes that are refused or lost, revoke calls, and rescinds.
use Rattle.std.proofs.Common.{◌≡◌, ℕ, ◌+◌, ◌==◌, Bool, true, false, cond, ◌&&◌, List, Option, None, Some, refl, sym, ◌∙◌, ap, subst}
use Rattle.std.specs.Option.{option_map}
use Rattle.etcd_types.proofs.Bools.{and_second}
use Rattle.proxy_model.specs.declared.lease.Entry.{Entry}
use Rattle.proxy_model.specs.declared.lease.Phase.{Phase}
use Rattle.proxy_model.specs.declared.lease.Phase.TheVariants.{Held, Writing, Leaving}
use Rattle.proxy_model.specs.Keyed.{at, with_at}
use Rattle.proxy_model.specs.Limits.{capped}
use Rattle.proxy_model.specs.LeaseTable.{is_writing, unwritten, leaving}
use Rattle.wait_model.specs.declared.write.Write.{Write}
use Rattle.wait_model.specs.declared.write.WriteStage.{WriteStage}
use Rattle.wait_model.specs.Covers.{covers}
use Rattle.wait_model.specs.Fits.{Fits, stage_over}
use Rattle.wait_model.specs.GuardedAnswers.{owns, ended_by, staged_by, unwrote_entries, write_lost}
use Rattle.wait_model.specs.Leaving.{rest, rescinded}
use Rattle.wait_model.specs.Phases.{if_written, is_of, rescind_sent}
use Rattle.wait_model.specs.Stages.{is_waiting, is_owner}
use Rattle.wait_model.specs.Writes.{first_by, without_first, with_first, sends}
use Rattle.wait_model.proofs.Tables.{at-each}
use Rattle.core_laws.proofs.Writes.Kept.{first_passes}
use Rattle.read_model.specs.declared.acquire.Acquire.{Acquire}
use Rattle.read_model.specs.State.{Ground}
use Rattle.cache_laws.specs.Moves.View.{View}
use Rattle.cache_laws.specs.Moves.Answers.{Reaches}
use Rattle.row_laws.specs.Rows.{write_number, slot_of, row_of}
use Rattle.row_laws.specs.Laws.{Rows, with_own}
use Rattle.row_laws.specs.Endings.{RefusedTurns, LostTurns, AskingEndsTurns, AskingTurns, RescindedTurns, RescindLostTurns}
use Rattle.row_laws.proofs.Reaching.{same_slot, at_one}
use Rattle.row_laws.proofs.Stages.{found_stage, away_stage}
use Rattle.row_laws.proofs.Wrote.{sent_active, sent_number}
use Rattle.row_laws.proofs.EndRows.{forgets_reach, back_reach, others_end}
use Rattle.row_laws.proofs.FoundRows.{kept_reach, gone_reach}

-- A write.

pub refused_turns : RefusedTurns
refused_turns v p own call w g fits found o k =
    let ws = g.own.waits.writes in
    let next = stage_over k (without_first (sends call) ws) in
    subst (λ (x : Option Entry). Reaches v p k (row_of own g k) (slot_of own x (at g.acquires k) (at g.own.waits.spoiled k) next)) (sym (at-each (λ j e. if_written (owns w j) unwritten e) g.own.entries k))
    (kept_reach v p k own call (at g.own.entries k) (at g.acquires k) (at g.own.waits.spoiled k) (stage_over k ws) next (owns w k) false numbered (others_end (sends call) w g fits found k) o.some o.done o.failed)
  where
    numbered : owns w k ≡ true → write_number own (stage_over k g.own.waits.writes) ≡ own call
    numbered t =
        let sent = first_passes (sends call) g.own.waits.writes w found in
        ap (write_number own) (found_stage (sends call) w g.own.waits.writes k found (and_second (is_owner w.stage) (covers w k) t) (sent_active call w.stage sent) (fits k).only) ∙ sent_number own call w.stage sent

pub lost_turns : LostTurns
lost_turns v p own find None g fits found k = same_slot refl
lost_turns v p own find (Some w) g fits found k =
    let ws = g.own.waits.writes in
    let next = stage_over k (without_first find ws) in
    subst (λ (x : Option Entry). Reaches v p k (row_of own g k) (slot_of own x (at g.acquires k) (at g.own.waits.spoiled k) next)) (sym (at-each (λ j e. if_written (owns w j) leaving e) g.own.entries k))
    (back_reach v p k own (at g.own.entries k) (at g.acquires k) (at g.own.waits.spoiled k) (stage_over k ws) next (owns w k) false (λ t d. absurd (cc)) (others_end find w g fits found k))

-- A write that asks owners owns nothing.

not_owning : (w : Write) (k : List ℕ) → is_owner w.stage ≡ false → owns w k ≡ false
not_owning w k n = ap (λ b. b && covers w k) n

pub asking_ends_turns : AskingEndsTurns
asking_ends_turns v p own find w g fits found active none k =
    gone_reach v p k own (at g.own.entries k) (at g.acquires k) (at g.own.waits.spoiled k) (stage_over k g.own.waits.writes) (stage_over k (without_first find g.own.waits.writes)) false
    (λ f t. others_end find w g fits found k (not_owning w k none) t)

pub asking_turns : AskingTurns
asking_turns v p own find w next g fits found active none k =
    gone_reach v p k own (at g.own.entries k) (at g.acquires k) (at g.own.waits.spoiled k) (stage_over k ws) (stage_over k (with_first find next ws)) false (λ f t. stays t)
  where
    ws : List Write
    ws = g.own.waits.writes

    stays : is_writing (at g.own.entries k) ≡ true → stage_over k (with_first find next ws) ≡ stage_over k ws
    stays t =
        elim (covers w k) as (λ b. covers w k ≡ b → stage_over k (with_first find next ws) ≡ stage_over k ws) [
          | true ↦ λ c. let o = ap is_owner (sym (found_stage find w ws k found c active (fits k).only)) ∙ (fits k).ok.writer t in absurd (cc)
          | false ↦ λ c. (away_stage find w ws next k found c).1
        ] refl

-- A rescind.

pub rescinded_turns : RescindedTurns
rescinded_turns v p own k create now g j = by (is_of create (at g.own.entries k))
  where
    by : (b : Bool) → Reaches v p j (row_of own g j) (row_of own (with_own g (cond b (record { entries = with_at g.own.entries k None; waits = record g.own.waits { quiet = with_at g.own.waits.quiet k (Some (capped (now + rest))) } }) g.own)) j)
    by true =
        at_one (λ i e. Reaches v p i (row_of own g i) (slot_of own e (at g.acquires i) (at g.own.waits.spoiled i) (stage_over i g.own.waits.writes))) g.own.entries k None
        (forgets_reach v p k own (at g.own.entries k) (at g.acquires k) (at g.own.waits.spoiled k) (stage_over k g.own.waits.writes) (stage_over k g.own.waits.writes)) (λ i. same_slot refl) j
    by false = same_slot refl

-- whether its rescind is out isn't seen of an entry
pub resent : (own : ℕ → ℕ) (b : Bool) (e : Entry) (a : Option Acquire) (s : Option Bool) (stage : WriteStage) → slot_of own (Some (rescind_sent b e)) a s stage ≡ slot_of own (Some e) a s stage
resent own b e a s stage = by e.phase
  where
    by : (phase : Phase) → slot_of own (Some (rescind_sent b (record e { phase = phase }))) a s stage ≡ slot_of own (Some (record e { phase = phase })) a s stage
    by Held = refl
    by (Writing revoked) = refl
    by (Leaving sent) = refl

pub rescind_lost_turns : RescindLostTurns
rescind_lost_turns v p own k create g j =
    at_one (λ i e. Reaches v p i (row_of own g i) (slot_of own e (at g.acquires i) (at g.own.waits.spoiled i) (stage_over i g.own.waits.writes))) g.own.entries k (option_map due_again (at g.own.entries k))
    (same_slot (again (at g.own.entries k))) (λ i. same_slot refl) j
  where
    due_again : Entry → Entry
    due_again e = cond (e.create == create) (rescind_sent false e) e

    again : (e : Option Entry) → slot_of own (option_map due_again e) (at g.acquires k) (at g.own.waits.spoiled k) (stage_over k g.own.waits.writes) ≡ slot_of own e (at g.acquires k) (at g.own.waits.spoiled k) (stage_over k g.own.waits.writes)
    again None = refl
    again (Some e) = by (e.create == create)
      where
        by : (b : Bool) → slot_of own (Some (cond b (rescind_sent false e) e)) (at g.acquires k) (at g.own.waits.spoiled k) (stage_over k g.own.waits.writes) ≡ slot_of own (Some e) (at g.acquires k) (at g.own.waits.spoiled k) (stage_over k g.own.waits.writes)
        by true = resent own false e (at g.acquires k) (at g.own.waits.spoiled k) (stage_over k g.own.waits.writes)
        by false = refl
