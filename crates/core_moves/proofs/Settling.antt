-- A write's call, a revoke call or a rescind is answered.
use Rattle.std.proofs.Common.{◌≡◌, ◌≢◌, ℕ, Bool, true, false, cond, not, ◌&&◌, ◌||◌, List, [], ◌∷◌, Option, None, Some, refl, sym, ◌∙◌, ap, subst}
use Rattle.std.specs.List.{list_all, list_any}
use Rattle.etcd_types.specs.declared.answer.Answer.{Answer}
use Rattle.etcd_types.specs.declared.answer.Answer.TheVariants as answer
use Rattle.etcd_types.specs.declared.answer.Reply.{Reply}
use Rattle.etcd_types.specs.declared.record.Kv.{Kv}
use Rattle.etcd_types.specs.Ranges.{is_one}
use Rattle.etcd_types.proofs.Bools.{and_first, and_second, or_false}
use Rattle.proxy_model.specs.declared.ownership.Owner.{Owner}
use Rattle.proxy_model.specs.declared.ownership.Written.{Written}
use Rattle.proxy_model.specs.declared.ownership.Written.TheVariants.{Wrote, Blocked}
use Rattle.proxy_model.specs.Guarded.{written}
use Rattle.proxy_model.specs.Leaving.{guard_held}
use Rattle.proxy_model.specs.SeveralKeys.{written_ranges}
use Rattle.store_model.specs.LeftRecords.{left_by}
use Rattle.wait_model.specs.declared.wait.WaitJob.{WaitJob}
use Rattle.wait_model.specs.declared.wait.WaitJob.TheVariants as wait
use Rattle.wait_model.specs.declared.write.Write.{Write}
use Rattle.wait_model.specs.declared.write.WriteStage.{WriteStage}
use Rattle.wait_model.specs.declared.write.WriteStage.TheVariants.{Waiting, Sends, Finds}
use Rattle.wait_model.specs.Covers.{covers, is_by_keys}
use Rattle.wait_model.specs.Endings.{answered, answered_job, without_out, revoke_answered, revoke_back}
use Rattle.wait_model.specs.Fits.{Fits, is_write, is_proper, are_proper}
use Rattle.wait_model.specs.GuardedAnswers.{Ending, write_answered, done_if}
use Rattle.wait_model.specs.Leaving.{rescinded, rescind_answered, if_read}
use Rattle.wait_model.specs.Operations.{operations}
use Rattle.wait_model.specs.ForeignOwnership.{stage_asked}
use Rattle.wait_model.specs.Stages.{is_waiting, is_owner}
use Rattle.wait_model.specs.State.{Ownership}
use Rattle.wait_model.specs.Writes.{first_by, sends, asks, stage_asks, job_of}
use Rattle.core_laws.specs.Writes.Laws.{AreWritten, OwnersCovered}
use Rattle.core_laws.proofs.Writes.FoundWrite.{head_found, rest_found}
use Rattle.core_laws.proofs.Writes.Kept.{first_passes}
use Rattle.read_model.specs.Fits.{GroundOk}
use Rattle.read_model.specs.State.{Ground, Moment, ground_of}
use Rattle.read_model.specs.WriteAnswers.{answered_by, wait_answered, ending}
use Rattle.core_model.specs.Ends.{reads_if}
use Rattle.core_model.specs.Lookups.{moment, reads_of, with_reads}
use Rattle.core_model.specs.State.{Core}
use Rattle.cache_laws.specs.Store.ToldAnswers.{TellsOwners, TellsWritten}
use Rattle.cache_laws.specs.Moves.View.{View}
use Rattle.cache_laws.specs.Moves.Invariant.{Inv}
use Rattle.cache_laws.specs.Moves.Answers.{in_answer}
use Rattle.row_laws.specs.Laws as laws
use Rattle.row_laws.specs.Laws.{Rows, IsLive, AreMarked, with_own, AreFound}
use Rattle.row_laws.proofs.Reaching.{same_slot, reaches_on}
use Rattle.row_laws.proofs.EndRows.{releases_turn}
use Rattle.row_laws.proofs.Wrote.{wrote_turns}
use Rattle.row_laws.proofs.FoundRows.{blocked_turns}
use Rattle.row_laws.proofs.Ended.{refused_turns, asking_ends_turns, asking_turns, rescinded_turns}
use Rattle.call_laws.specs.Forms.{Form, Writes, Tells}
use Rattle.call_laws.proofs.Serving.{told_ops_are_the_writes}
use Rattle.core_model.specs.declared.out_call.OutJob.TheVariants as job
use Rattle.core_moves.specs.Answers.{form_of_job, MovesIf}
use Rattle.core_moves.specs.Sees.{ground_in, Sees, Moves}
use Rattle.core_moves.proofs.Clocks.{rows_move}

-- One of a list's writes.

proper_found : (q : Write → Bool) (w : Write) (ws : List Write) → first_by q ws ≡ Some w → are_proper ws ≡ true → is_proper w ≡ true
proper_found q w [] f h = absurd (cc)
proper_found q w (x ∷ ws) f h =
    elim (q x) as (λ b. q x ≡ b → is_proper w ≡ true) [
      | true ↦ λ t. subst (λ (y : Write). is_proper y ≡ true) (head_found q x w ws t f) (and_first (is_proper x) (are_proper ws) h)
      | false ↦ λ t. proper_found q w ws (rest_found q x w ws t f) (and_second (is_proper x) (are_proper ws) h)
    ] refl

ranges_found : (q : Write → Bool) (w : Write) (ws : List Write) → first_by q ws ≡ Some w → AreWritten ws → w.ranges ≡ written_ranges w.request
ranges_found q w [] f h = absurd (cc)
ranges_found q w (x ∷ ws) f h =
    elim (q x) as (λ b. q x ≡ b → w.ranges ≡ written_ranges w.request) [
      | true ↦ λ t. subst (λ (y : Write). y.ranges ≡ written_ranges y.request) (head_found q x w ws t f) h.0
      | false ↦ λ t. ranges_found q w ws (rest_found q x w ws t f) h.1
    ] refl

-- an owner's write is of single keys
owner_by_keys : (w : Write) → is_proper w ≡ true → is_owner w.stage ≡ true → is_by_keys w ≡ true
owner_by_keys w h e = sym (or_false (is_by_keys w)) ∙ sym (ap (λ (b : Bool). is_by_keys w || not b) e) ∙ and_second (is_write w.request) (is_by_keys w || not (is_owner w.stage)) h

-- a write that asks owners is active, and owns nothing
asking_active : (call : ℕ) (stage : WriteStage) → stage_asks call stage ≡ true → (is_waiting stage ≡ false) × (is_owner stage ≡ false)
asking_active call Waiting h = absurd (cc)
asking_active call (Sends owner s) h = absurd (cc)
asking_active call (Finds found) h = (refl, refl)

abbrev pub RowsIf : View → ℕ → (ℕ → ℕ) → Ground → Option Ending → Type 0
RowsIf v p own g None = Unit {0}
RowsIf v p own g (Some x) = Rows v p own g (with_own g x.own)

-- the owners that were found, as the view has them
are_found : (v : View) (i : ℕ) (w : Write) (os : List Owner) → TellsOwners (v.outcomes i) os → list_all (λ o. covers w o.key) os ≡ true → AreFound v w os
are_found v i w [] t c = tt
are_found v i w (x ∷ xs) t c = ((in_answer i (sym t.1), and_first (covers w x.key) (list_all (λ o. covers w o.key) xs) c), are_found v i w xs t.2 (and_second (covers w x.key) (list_all (λ o. covers w o.key) xs) c))

module _ (v : View) (p : ℕ) (own : ℕ → ℕ) (session : Option ℕ) (now call : ℕ) (g : Ground) (live : IsLive v p session) (marked : AreMarked g) (fits : Fits g.own) where
  -- A write's own call.

  module _ (w : Write) (found : first_by (sends call) g.own.waits.writes ≡ Some w) (single : is_owner w.stage ≡ true → list_all is_one (written_ranges w.request) ≡ true) (some : own call ≢ 0) (done : (v.outcomes (own call)).done ≡ true) where
    wrote : (reply : Reply) → TellsWritten g.own.waits.prefix w.request (v.outcomes (own call)) (Some (Wrote reply)) → laws.Wrote v (own call) w reply
    wrote reply t =
        record {
          some = some;
          done = done;
          ok = t.0;
          leaves = λ o k old. t.1 k old ∙ ap (λ ops. left_by reply.header.revision k ops old) (told_ops_are_the_writes g.own.waits.prefix w.request reply.body (single o));
        }

    write_rows : (a : Answer) → OwnersCovered (sends call) a g.own → Tells g.own.waits.prefix (Writes w.request (λ k. 0)) (v.outcomes (own call)) a → RowsIf v p own g (write_answered session (sends call) (Some w) a g.own)
    write_rows (answer.Refused r) c t = refused_turns v p own call w g fits found (record { some = some; done = done; failed = t })
    write_rows (answer.Done reply) c t = by (written g.own.waits.prefix w.request reply) refl t
      where
        by : (x : Option Written) → written g.own.waits.prefix w.request reply ≡ x → TellsWritten g.own.waits.prefix w.request (v.outcomes (own call)) x → RowsIf v p own g (done_if session (sends call) w x g.own)
        by None e t = absurd t
        by (Some (Wrote r)) e t = wrote_turns v p own call w r g fits found (wrote r t)
        by (Some (Blocked os)) e t = blocked_turns v p own session call w os g live marked fits found (record { some = some; done = done; failed = t.0; found = are_found v (own call) w os t.1 (c w os found e) })

  -- A rescind, a revoke call.

  rescind_rows : (k : List ℕ) (create : ℕ) (a : Answer) → RowsIf v p own g (rescind_answered a (rescinded k create now g.own))
  rescind_rows k create (answer.Refused r) = rescinded_turns v p own k create now g
  rescind_rows k create (answer.Done reply) = by (guard_held reply.body)
    where
      by : (o : Option Bool) → RowsIf v p own g (if_read o (rescinded k create now g.own))
      by None = tt
      by (Some held) = rescinded_turns v p own k create now g

  revoke_rows : (o : Option Write) → first_by (asks call) g.own.waits.writes ≡ o → (a : Answer) → RowsIf v p own g (revoke_answered (asks call) call o a g.own)
  revoke_rows None found a = λ k. same_slot refl
  revoke_rows (Some w) found a =
      let x = asking_active call w.stage (first_passes (asks call) g.own.waits.writes w found) in
      by x.0 x.1 a
    where
      by : is_waiting w.stage ≡ false → is_owner w.stage ≡ false → (a : Answer) → RowsIf v p own g (revoke_answered (asks call) call (Some w) a g.own)
      by active none (answer.Refused r) = asking_ends_turns v p own (asks call) w g fits found active none
      by active none (answer.Done reply) = by_held (guard_held reply.body)
        where
          by_held : (o : Option Bool) → RowsIf v p own g (revoke_back (asks call) call w o g.own)
          by_held None = tt
          by_held (Some held) = asking_turns v p own (asks call) w (stage_asked call held w.stage) g fits found active none

-- All of them.

covered_out : (call : ℕ) (a : Answer) (own : Ownership) → OwnersCovered (sends call) a own → OwnersCovered (sends call) a (without_out call own)
covered_out call (answer.Done reply) own c = c
covered_out call (answer.Refused r) own c = c

pub settled_rows : (v : View) (p : ℕ) (own : ℕ → ℕ) (session : Option ℕ) (now call : ℕ) (a : Answer) (form : Form) (c : Core) → IsLive v p session → AreMarked (ground_in c) → Fits c.own → are_proper c.own.waits.writes ≡ true → AreWritten c.own.waits.writes → OwnersCovered (sends call) a c.own
    → form_of_job c call form job.Wait → own call ≢ 0 → (v.outcomes (own call)).done ≡ true → Tells c.own.waits.prefix form (v.outcomes (own call)) a → RowsIf v p own (ground_in c) (answered call a session now c.own)
unfolding answered
settled_rows v p own session now call a form c live marked fits proper ranges covered formed some done tells = by (job_of call c.own.waits.out)
  where
    g : Ground
    g = with_own (ground_in c) (without_out call c.own)

    by : (j : Option WaitJob) → RowsIf v p own (ground_in c) (answered_job call a session now j (without_out call c.own))
    by None = λ k. same_slot refl
    by (Some (wait.Rescind k create)) = rescind_rows v p own session now call g live marked fits k create a
    by (Some (wait.Revoke k)) = revoke_rows v p own session now call g live marked fits (first_by (asks call) c.own.waits.writes) refl a
    by (Some wait.Write) = by_write (first_by (sends call) c.own.waits.writes) refl
      where
        by_write : (o : Option Write) → first_by (sends call) c.own.waits.writes ≡ o → RowsIf v p own (ground_in c) (write_answered session (sends call) o a (without_out call c.own))
        by_write None f = λ k. same_slot refl
        by_write (Some w) f =
            let x = formed w f in
            let t : Tells c.own.waits.prefix (Writes w.request x.0) (v.outcomes (own call)) a = subst (λ (y : Form). Tells c.own.waits.prefix y (v.outcomes (own call)) a) x.1 tells in
            write_rows v p own session now call g live marked fits w f
            (λ o. ap (list_all is_one) (sym (ranges_found (sends call) w c.own.waits.writes f ranges)) ∙ owner_by_keys w (proper_found (sends call) w c.own.waits.writes f proper) o) some done a (covered_out call a c.own covered) (any_compares a t)
          where
            any_compares : (a : Answer) → Tells c.own.waits.prefix (Writes w.request (formed w f).0) (v.outcomes (own call)) a → Tells c.own.waits.prefix (Writes w.request (λ k. 0)) (v.outcomes (own call)) a
            any_compares (answer.Done reply) t = t
            any_compares (answer.Refused r) t = t

pub wait_moves : (holder : ℕ → ℕ) (v : View) (p now : ℕ) (own : ℕ → ℕ) (call : ℕ) (a : Answer) (form : Form) (standing : Bool) (c : Core) → GroundOk standing (ground_in c) → IsLive v p (moment c now).session → are_proper c.own.waits.writes ≡ true → AreWritten c.own.waits.writes
    → OwnersCovered (sends call) a c.own → form_of_job c call form job.Wait → own call ≢ 0 → (v.outcomes (own call)).done ≡ true → Tells c.own.waits.prefix form (v.outcomes (own call)) a → Sees v p now own c → Inv holder v
    → MovesIf holder v p now own (reads_if c (wait_answered (moment c now) call a (reads_of c)))
wait_moves holder v p now own call a form standing c ground live proper ranges covered formed some done tells s h =
    by (answered call a (moment c now).session now c.own) (settled_rows v p own (moment c now).session now call a form c live ground.marks ground.keys proper ranges covered formed some done tells)
  where
    m : Moment
    m = moment c now

    by : (x : Option Ending) → RowsIf v p own (ground_in c) x → MovesIf holder v p now own (reads_if c (answered_by m x (reads_of c)))
    by None rows = tt
    by (Some x) rows = rows_move holder v p now own c _ s h refl (λ k. reaches_on (rows k) (releases_turn v p own true m (ground_of (ending x (reads_of c))) (ending x (reads_of c)).asks k))
