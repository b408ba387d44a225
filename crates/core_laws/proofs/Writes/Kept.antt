-- Every answer, loss and end of a session keeps what holds of each key.
use Rattle.std.proofs.Common.{◌≡◌, ℕ, Bool, true, false, cond, ◌==◌, List, [], ◌∷◌, map, Option, None, Some, refl, sym, ◌∙◌, ap, subst}
use Rattle.std.specs.List.{list_all}
use Rattle.etcd_types.specs.declared.answer.Answer.{Answer}
use Rattle.etcd_types.specs.declared.answer.Answer.TheVariants as answer
use Rattle.etcd_types.specs.declared.answer.Reply.{Reply}
use Rattle.etcd_types.specs.Keys.{same}
use Rattle.etcd_types.proofs.KeyOrder.{same-equal}
use Rattle.proxy_model.specs.declared.lease.Entry.{Entry}
use Rattle.proxy_model.specs.declared.lease.Phase.{Phase}
use Rattle.proxy_model.specs.declared.lease.Phase.TheVariants.{Held, Writing, Leaving}
use Rattle.proxy_model.specs.declared.ownership.Owner.{Owner}
use Rattle.proxy_model.specs.declared.ownership.Written.{Written}
use Rattle.proxy_model.specs.declared.ownership.Written.TheVariants.{Wrote, Blocked}
use Rattle.proxy_model.specs.Guarded.{written}
use Rattle.proxy_model.specs.Keyed.{Keyed, at, changed_at}
use Rattle.std.specs.Option.{option_map}
use Rattle.proxy_model.specs.LeaseTable.{is_writing, is_writing_phase, unwritten, leaving}
use Rattle.proxy_model.specs.LeaseTable as table
use Rattle.proxy_model.specs.Leaving.{guard_held}
use Rattle.proxy_model.proofs.KeyedLaws.{at-with_at}
use Rattle.wait_model.specs.declared.write.Write.{Write}
use Rattle.wait_model.specs.declared.write.WriteStage.{WriteStage}
use Rattle.wait_model.specs.declared.write.WriteStage.TheVariants.{Waiting, Sends, Finds}
use Rattle.wait_model.specs.declared.wait.WaitJob.{WaitJob}
use Rattle.wait_model.specs.declared.wait.WaitJob.TheVariants as job
use Rattle.wait_model.specs.Covers.{covers, is_single}
use Rattle.wait_model.specs.Endings.{revoke_back, revoke_answered, answered_job, without_out, answered, lost_job, lost}
use Rattle.wait_model.specs.Fits.{is_quiet, StageOk, KeyOk, Fits}
use Rattle.wait_model.specs.ForeignOwnership.{stage_asked}
use Rattle.wait_model.specs.GuardedAnswers.{done_if, write_answered, write_lost}
use Rattle.wait_model.specs.Leaving.{rescinded, if_read, rescind_answered}
use Rattle.store_model.specs.LeftRecords.{left_by}
use Rattle.wait_model.specs.Operations.{operations}
use Rattle.wait_model.specs.Phases.{is_of, phase_sent, rescind_sent}
use Rattle.wait_model.specs.SessionEnd.{stage_ended}
use Rattle.wait_model.specs.Stages.{is_waiting, is_owner, staged}
use Rattle.wait_model.specs.State.{Ownership}
use Rattle.wait_model.specs.Writes.{first_by, sends, asks, stage_sends, stage_asks, job_of}
use Rattle.core_laws.specs.Writes.Laws.{OwnersCovered, KeptIf, AnswersKeep, LossesKeep, SessionEndKeeps}
use Rattle.core_laws.proofs.Writes.Passes.{key_first, key_later, first_key, later_key, quiet_first, quiet_later, first_quiet, later_quiet}
use Rattle.core_laws.proofs.Writes.Endings.{EndAt, ends_keep, stages_keep, change_keeps, ends_at, failed_keeps, written_calms, unwritten_calms, leaving_calms}

-- The first that passes, passes.
pub first_passes : (p : Write → Bool) (ws : List Write) (w : Write) → first_by p ws ≡ Some w → p w ≡ true
first_passes p [] w f = absurd (cc)
first_passes p (v ∷ vs) w f =
    elim (p v) as (λ b. p v ≡ b → cond b (Some v) (first_by p vs) ≡ Some w → p w ≡ true) [
      | true ↦ λ t g. subst (λ (x : Write). p x ≡ true) (ap (or_head v) g) t
      | false ↦ λ t g. first_passes p vs w g
    ] refl f
  where
    or_head : Write → Option Write → Write
    or_head d None = d
    or_head d (Some x) = x

sends_active : (call : ℕ) (stage : WriteStage) → stage_sends call stage ≡ true → is_waiting stage ≡ false
sends_active call Waiting h = absurd (cc)
sends_active call (Sends owner s) h = refl
sends_active call (Finds found) h = refl

asks_active : (call : ℕ) (stage : WriteStage) → stage_asks call stage ≡ true → (is_waiting stage ≡ false) × (is_owner stage ≡ false)
asks_active call Waiting h = absurd (cc)
asks_active call (Sends owner s) h = absurd (cc)
asks_active call (Finds found) h = (refl, refl)

-- A write's own call.

done_keeps : (session : Option ℕ) (p : Write → Bool) (w : Write) (reply : Reply) (own : Ownership) → first_by p own.waits.writes ≡ Some w → is_waiting w.stage ≡ false → Fits own → (r : Option Written) → ((os : List Owner) → r ≡ Some (Blocked os) → list_all (λ o. covers w o.key) os ≡ true) → KeptIf (done_if session p w r own)
done_keeps session p w reply own f a h None v = tt
done_keeps session p w reply own f a h (Some (Wrote x)) v =
    change_keeps own p w (λ k e. table.written (left_by x.header.revision k (operations w.request x.body) e.kv) e) (λ k. written_calms (λ e. left_by x.header.revision k (operations w.request x.body) e.kv)) f a h
done_keeps session p w reply own f a h (Some (Blocked os)) v = failed_keeps session p w os own f a (v os refl) h

write_answered_keeps : (session : Option ℕ) (p : Write → Bool) (a : Answer) (own : Ownership) → ((w : Write) → p w ≡ true → is_waiting w.stage ≡ false) → OwnersCovered p a own → Fits own → (o : Option Write) → first_by p own.waits.writes ≡ o → KeptIf (write_answered session p o a own)
write_answered_keeps session p a own q v h None f = h
write_answered_keeps session p (answer.Done reply) own q v h (Some w) f =
    done_keeps session p w reply own f (q w (first_passes p own.waits.writes w f)) h (written own.waits.prefix w.request reply) (λ os e. v w os f e)
write_answered_keeps session p (answer.Refused r) own q v h (Some w) f =
    change_keeps own p w (λ k e. unwritten e) (λ k. unwritten_calms) f (q w (first_passes p own.waits.writes w f)) h

-- A revoke call.

asked_at : (c : Bool) (e : Option Entry) (s : Option Bool) (call : ℕ) (held : Bool) (stage : WriteStage) → is_owner stage ≡ false → EndAt c e s stage e (stage_asked call held stage)
asked_at c e s call held stage n = record {
  away = λ _. refl;
  ok = λ _ a o. record {
    apart = o.apart;
    free = λ t. o.free a;
    writer = λ t. let x = o.writer t in absurd (cc);
  };
}

revoke_back_keeps : (p : Write → Bool) (call : ℕ) (w : Write) (own : Ownership) → first_by p own.waits.writes ≡ Some w → is_waiting w.stage ≡ false → is_owner w.stage ≡ false → Fits own → (held : Option Bool) → KeptIf (revoke_back p call w held own)
revoke_back_keeps p call w own f a n h None = tt
revoke_back_keeps p call w own f a n h (Some held) =
    stages_keep own own.entries p w (stage_asked call held w.stage) f a (λ k. asked_at (covers w k) (at own.entries k) (at own.waits.spoiled k) call held w.stage n) h

revoke_answered_keeps : (call : ℕ) (a : Answer) (own : Ownership) → Fits own → (o : Option Write) → first_by (asks call) own.waits.writes ≡ o → KeptIf (revoke_answered (asks call) call o a own)
revoke_answered_keeps call a own h None f = h
revoke_answered_keeps call (answer.Done reply) own h (Some w) f =
    let x = asks_active call w.stage (first_passes (asks call) own.waits.writes w f) in
    revoke_back_keeps (asks call) call w own f x.0 x.1 h (guard_held reply.body)
revoke_answered_keeps call (answer.Refused r) own h (Some w) f =
    let x = asks_active call w.stage (first_passes (asks call) own.waits.writes w f) in
    ends_keep own own.entries (asks call) w f x.0 (λ k. ends_at (covers w k) (at own.entries k) (at own.waits.spoiled k) w.stage x.1) h

-- A rescind.

dropped : (e : Option Entry) (s : Option Bool) (ws : List Write) (k : List ℕ) → KeyOk e s ws k → KeyOk None s ws k
dropped e s ws k h = record { only = h.only; ok = record { apart = λ _. refl; free = h.ok.free; writer = λ t. absurd (cc) } }

dropped_if : (b : Bool) (e : Option Entry) (s : Option Bool) (ws : List Write) (k : List ℕ) → KeyOk e s ws k → KeyOk (cond b None e) s ws k
dropped_if true e s ws k h = dropped e s ws k h
dropped_if false e s ws k h = h

rescinded_keeps : (k : List ℕ) (create now : ℕ) (own : Ownership) → Fits own → Fits (rescinded k create now own)
rescinded_keeps k create now own h =
    by_test (is_of create (at own.entries k)) _ (λ j. rw (at-with_at own.entries k j None) (dropped_if (same k j) (at own.entries j) (at own.waits.spoiled j) own.waits.writes j (h j)))
  where
    by_test : (b : Bool) (x : Ownership) → Fits x → Fits (cond b x own)
    by_test true x i = i
    by_test false x i = h

if_read_keeps : (o : Option Bool) (own : Ownership) → Fits own → KeptIf (if_read o own)
if_read_keeps None own h = tt
if_read_keeps (Some held) own h = h

rescind_back_keeps : (a : Answer) (own : Ownership) → Fits own → KeptIf (rescind_answered a own)
rescind_back_keeps (answer.Done reply) own h = if_read_keeps (guard_held reply.body) own h
rescind_back_keeps (answer.Refused r) own h = h

-- Any call.

answered_job_keeps : (call : ℕ) (a : Answer) (session : Option ℕ) (now : ℕ) (own : Ownership) → OwnersCovered (sends call) a own → Fits own → (o : Option WaitJob) → KeptIf (answered_job call a session now o own)
answered_job_keeps call a session now own v h None = h
answered_job_keeps call a session now own v h (Some (job.Rescind k create)) = rescind_back_keeps a (rescinded k create now own) (rescinded_keeps k create now own h)
answered_job_keeps call a session now own v h (Some (job.Revoke k)) = revoke_answered_keeps call a own h (first_by (asks call) own.waits.writes) refl
answered_job_keeps call a session now own v h (Some job.Write) =
    write_answered_keeps session (sends call) a own (λ w t. sends_active call w.stage t) v h (first_by (sends call) own.waits.writes) refl

covered_out : (call : ℕ) (a : Answer) (own : Ownership) → OwnersCovered (sends call) a own → OwnersCovered (sends call) a (without_out call own)
covered_out call (answer.Done reply) own v = v
covered_out call (answer.Refused r) own v = v

pub answers_keep : AnswersKeep
unfolding answered
answers_keep own call a session now v h =
    answered_job_keeps call a session now (without_out call own) (covered_out call a own v) h (job_of call own.waits.out)

-- Losses.

failed_by_keeps : (p : Write → Bool) (own : Ownership) → ((w : Write) → p w ≡ true → is_waiting w.stage ≡ false) → Fits own → (o : Option Write) → first_by p own.waits.writes ≡ o → Fits (write_lost p o own).own
failed_by_keeps p own q h None f = h
failed_by_keeps p own q h (Some w) f = change_keeps own p w (λ k e. leaving e) (λ k. leaving_calms) f (q w (first_passes p own.waits.writes w f)) h

pub sent_phase : (b : Bool) (p : Phase) → is_writing_phase (phase_sent b p) ≡ is_writing_phase p
sent_phase b Held = refl
sent_phase b (Writing revoked) = refl
sent_phase b (Leaving sent) = refl

-- an entry changed to one that is being written no more than it was
pub changed_key : (f : Entry → Entry) → ((e : Entry) → is_writing_phase (f e).phase ≡ is_writing_phase e.phase) → (b : Bool) (e : Option Entry) (s : Option Bool) (ws : List Write) (k : List ℕ) → KeyOk e s ws k → KeyOk (cond b (option_map f e) e) s ws k
changed_key f q false e s ws k h = h
changed_key f q true None s ws k h = h
changed_key f q true (Some x) s ws k h = record { only = h.only; ok = record { apart = h.ok.apart; free = h.ok.free; writer = λ t. h.ok.writer (sym (q x) ∙ t) } }

pub at-changed_at : (es : Keyed Entry) (k j : List ℕ) (f : Entry → Entry) → at (changed_at es k f) j ≡ cond (same k j) (option_map f (at es j)) (at es j)
at-changed_at es k j f =
    at-with_at es k j (option_map f (at es k)) ∙ elim (same k j) as (λ b. same k j ≡ b → cond b (option_map f (at es k)) (at es j) ≡ cond b (option_map f (at es j)) (at es j)) [
      | true ↦ λ t. ap (λ (x : List ℕ). option_map f (at es x)) (same-equal k j t)
      | false ↦ λ t. refl
    ] refl

lost_job_keeps : (call : ℕ) (own : Ownership) → Fits own → (o : Option WaitJob) → Fits (lost_job call o own).own
lost_job_keeps call own h None = h
lost_job_keeps call own h (Some (job.Rescind k create)) =
    λ j. rw (at-changed_at own.entries k j (λ e. cond (e.create == create) (rescind_sent false e) e)) (changed_key (λ e. cond (e.create == create) (rescind_sent false e) e) same_writing (same k j) (at own.entries j) (at own.waits.spoiled j) own.waits.writes j (h j))
  where
    same_writing : (e : Entry) → is_writing_phase (cond (e.create == create) (rescind_sent false e) e).phase ≡ is_writing_phase e.phase
    same_writing e = by_test (e.create == create)
      where
        by_test : (b : Bool) → is_writing_phase (cond b (rescind_sent false e) e).phase ≡ is_writing_phase e.phase
        by_test true = sent_phase false e.phase
        by_test false = refl
lost_job_keeps call own h (Some (job.Revoke k)) = failed_by_keeps (asks call) own (λ w t. (asks_active call w.stage t).0) h (first_by (asks call) own.waits.writes) refl
lost_job_keeps call own h (Some job.Write) = failed_by_keeps (sends call) own (λ w t. sends_active call w.stage t) h (first_by (sends call) own.waits.writes) refl

pub losses_keep : LossesKeep
unfolding lost
losses_keep own call h = lost_job_keeps call (without_out call own) h (job_of call own.waits.out)

-- Each write in another stage, no more active than before.

pub record Stages (g : Write → WriteStage) (e : Option Entry) (s : Option Bool) (f : Option Entry) : Type 0 where
  pub waiting : (w : Write) → is_waiting w.stage ≡ true → is_waiting (g w) ≡ true
  pub ok : (w : Write) → StageOk e s w.stage → StageOk f s (g w)
  pub none : StageOk e s Waiting → StageOk f s Waiting

abbrev pub restaged : (Write → WriteStage) → List Write → List Write
restaged g ws = map (λ w. staged w (g w)) ws

quiet_restaged : (g : Write → WriteStage) → ((w : Write) → is_waiting w.stage ≡ true → is_waiting (g w) ≡ true) → (ws : List Write) (k : List ℕ) → is_quiet k ws ≡ true → is_quiet k (restaged g ws) ≡ true
quiet_restaged g x [] k q = q
quiet_restaged g x (w ∷ ws) k q =
    elim (covers w k) as (λ b. covers w k ≡ b → is_quiet k (restaged g (w ∷ ws)) ≡ true) [
      | true ↦ λ c. let f = quiet_first w ws k c q in first_quiet (staged w (g w)) (restaged g ws) k c (x w f.0) (quiet_restaged g x ws k f.1)
      | false ↦ λ c. later_quiet (staged w (g w)) (restaged g ws) k c (quiet_restaged g x ws k (quiet_later w ws k c q))
    ] refl

pub restaged_key : (g : Write → WriteStage) (e : Option Entry) (s : Option Bool) (f : Option Entry) → Stages g e s f → (ws : List Write) (k : List ℕ) → KeyOk e s ws k → KeyOk f s (restaged g ws) k
restaged_key g e s f x [] k h = record { only = refl; ok = x.none h.ok }
restaged_key g e s f x (w ∷ ws) k h =
    elim (covers w k) as (λ b. covers w k ≡ b → KeyOk f s (restaged g (w ∷ ws)) k) [
      | true ↦ λ c. let r = key_first e s w ws k c h in first_key f s (staged w (g w)) (restaged g ws) k c (quiet_restaged g x.waiting ws k r.0) (x.ok w r.1)
      | false ↦ λ c. later_key f s (staged w (g w)) (restaged g ws) k c (restaged_key g e s f x ws k (key_later e s w ws k c h))
    ] refl

-- The end of a session.

ended_waiting : (single : Bool) (stage : WriteStage) → is_waiting stage ≡ true → is_waiting (stage_ended single stage) ≡ true
ended_waiting single Waiting h = refl
ended_waiting single (Sends owner s) h = absurd (cc)
ended_waiting single (Finds found) h = absurd (cc)

ended_active : (single : Bool) (stage : WriteStage) → is_waiting (stage_ended single stage) ≡ false → is_waiting stage ≡ false
ended_active single Waiting h = h
ended_active single (Sends owner s) h = refl
ended_active single (Finds found) h = refl

ended_stages : (e : Option Entry) (s : Option Bool) → Stages (λ w. stage_ended (is_single w.request) w.stage) e s None
ended_stages e s = record {
  waiting = λ w h. ended_waiting (is_single w.request) w.stage h;
  ok = λ w o. record { apart = λ _. refl; free = λ t. o.free (ended_active (is_single w.request) w.stage t); writer = λ t. absurd (cc) };
  none = λ o. record { apart = λ _. refl; free = o.free; writer = λ t. absurd (cc) };
}

pub session_end_keeps : SessionEndKeeps
session_end_keeps own h k =
    restaged_key (λ w. stage_ended (is_single w.request) w.stage) (at own.entries k) (at own.waits.spoiled k) None (ended_stages (at own.entries k) (at own.waits.spoiled k)) own.waits.writes k (h k)
