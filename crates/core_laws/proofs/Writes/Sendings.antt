-- The sending of a due job keeps what holds of each key.
use Rattle.std.proofs.Common.{◌≡◌, ℕ, Bool, true, false, cond, List, [], ◌∷◌, Option, None, Some, refl, sym, ap, subst}
use Rattle.etcd_types.specs.Keys.{same}
use Rattle.proxy_model.specs.declared.lease.Entry.{Entry}
use Rattle.proxy_model.specs.Keyed.{at}
use Rattle.wait_model.specs.declared.due.DueCall.{DueCall}
use Rattle.wait_model.specs.declared.write.Write.{Write}
use Rattle.wait_model.specs.declared.write.WriteStage.{WriteStage}
use Rattle.wait_model.specs.declared.write.WriteStage.TheVariants.{Waiting, Sends, Finds}
use Rattle.wait_model.specs.Covers.{covers}
use Rattle.wait_model.specs.DueOrder.{first_call, first_rescind}
use Rattle.wait_model.specs.Fits.{Fits}
use Rattle.wait_model.specs.Phases.{rescind_sent}
use Rattle.wait_model.specs.Sent.{restaged, stage_revoking, stage_sent, revoke_job, write_job, rescind_job, is_revoke, call_of, call_sent, job_sent_after, job_sent}
use Rattle.wait_model.specs.Stages.{is_waiting, is_owner, staged}
use Rattle.wait_model.specs.State.{Ownership}
use Rattle.wait_model.specs.Writes.{first_by, with_first, has_ticket}
use Rattle.core_laws.specs.Writes.Laws.{SentKeepsIf, SendingKeeps}
use Rattle.core_laws.proofs.Writes.Endings.{EndAt, stages_keep}
use Rattle.core_laws.proofs.Writes.FoundWrite.{head_found, rest_found}
use Rattle.core_laws.proofs.Writes.Kept.{sent_phase, changed_key, at-changed_at}

-- the first that passes in its own stage: nothing is changed
same_first : (p : Write → Bool) (w : Write) (ws : List Write) → first_by p ws ≡ Some w → with_first p w.stage ws ≡ ws
same_first p w [] f = absurd (cc)
same_first p w (v ∷ vs) f =
    elim (p v) as (λ b. p v ≡ b → cond b (staged v w.stage ∷ vs) (v ∷ with_first p w.stage vs) ≡ v ∷ vs) [
      | true ↦ λ t. ap (λ (x : Write). staged v x.stage ∷ vs) (sym (head_found p v w vs t f))
      | false ↦ λ t. ap (λ (xs : List Write). v ∷ xs) (same_first p w vs (rest_found p v w vs t f))
    ] refl

-- A change of stage that leaves a waiting write waiting, and an owner one.
record Steady (g : WriteStage → WriteStage) : Type 0 where
  waits : (stage : WriteStage) → is_waiting stage ≡ true → g stage ≡ stage
  owner : (stage : WriteStage) → is_owner stage ≡ true → is_owner (g stage) ≡ true

steady_at : (g : WriteStage → WriteStage) → Steady g → (c : Bool) (e : Option Entry) (s : Option Bool) (stage : WriteStage) → EndAt c e s stage e (g stage)
steady_at g x c e s stage =
    record { away = λ _. refl; ok = λ _ a o. record { apart = o.apart; free = λ _. o.free a; writer = λ t. x.owner stage (o.writer t) } }

restaged_keeps : (g : WriteStage → WriteStage) → Steady g → (p : Write → Bool) (w : Write) (own : Ownership) → first_by p own.waits.writes ≡ Some w → Fits own → Fits (restaged p (g w.stage) own)
restaged_keeps g x p w own f h =
    elim (is_waiting w.stage) as (λ b. is_waiting w.stage ≡ b → Fits (restaged p (g w.stage) own)) [
      | true ↦ λ a. subst (λ (stage : WriteStage). Fits (restaged p stage own)) (sym (x.waits w.stage a)) (subst (λ (ws : List Write). Fits (record own { waits = record own.waits { writes = ws } })) (sym (same_first p w own.waits.writes f)) h)
      | false ↦ λ a. stages_keep own own.entries p w (g w.stage) f a (λ k. steady_at g x (covers w k) (at own.entries k) (at own.waits.spoiled k) w.stage) h
    ] refl

revoking : (call : ℕ) (k : List ℕ) → Steady (stage_revoking call k)
revoking call k = record { waits = waits; owner = owner }
  where
    waits : (stage : WriteStage) → is_waiting stage ≡ true → stage_revoking call k stage ≡ stage
    waits Waiting a = refl
    waits (Sends o s) a = refl
    waits (Finds found) a = absurd (cc)

    owner : (stage : WriteStage) → is_owner stage ≡ true → is_owner (stage_revoking call k stage) ≡ true
    owner Waiting t = t
    owner (Sends o s) t = t
    owner (Finds found) t = t

sending : (call : ℕ) → Steady (stage_sent call)
sending call = record { waits = waits; owner = owner }
  where
    waits : (stage : WriteStage) → is_waiting stage ≡ true → stage_sent call stage ≡ stage
    waits Waiting a = refl
    waits (Sends o s) a = absurd (cc)
    waits (Finds found) a = refl

    owner : (stage : WriteStage) → is_owner stage ≡ true → is_owner (stage_sent call stage) ≡ true
    owner Waiting t = t
    owner (Sends o s) t = t
    owner (Finds found) t = t

rescind_keeps : (call : ℕ) (e : List ℕ × Entry) (own : Ownership) → Fits own → Fits (rescind_job call e own).own
rescind_keeps call e own h j =
    rw (at-changed_at own.entries e.0 j (rescind_sent true)) (changed_key (rescind_sent true) (λ x. sent_phase true x.phase) (same e.0 j) (at own.entries j) (at own.waits.spoiled j) own.waits.writes j (h j))

call_keeps : (call : ℕ) (d : DueCall) (own : Ownership) → Fits own → (o : Option Write) → first_by (has_ticket d.place.number) own.waits.writes ≡ o → SentKeepsIf (call_of call d o own)
call_keeps call d own h None f = tt
call_keeps call d own h (Some w) f =
    by_test (is_revoke d.place.kind) (restaged_keeps (stage_revoking call d.key) (revoking call d.key) (has_ticket d.place.number) w own f h) (restaged_keeps (stage_sent call) (sending call) (has_ticket d.place.number) w own f h)
  where
    by_test : (b : Bool) → Fits (revoke_job call d w own).own → Fits (write_job call d w own).own → Fits (cond b (revoke_job call d w own) (write_job call d w own)).own
    by_test true x y = x
    by_test false x y = y

call_sent_keeps : (call : ℕ) (own : Ownership) → Fits own → (d : Option DueCall) → SentKeepsIf (call_sent call d own)
call_sent_keeps call own h None = tt
call_sent_keeps call own h (Some d) = call_keeps call d own h (first_by (has_ticket d.place.number) own.waits.writes) refl

job_keeps : (call : ℕ) (own : Ownership) → Fits own → (e : Option (List ℕ × Entry)) → SentKeepsIf (job_sent_after call e own)
job_keeps call own h None = call_sent_keeps call own h (first_call own.waits.writes)
job_keeps call own h (Some e) = rescind_keeps call e own h

pub sending_keeps : SendingKeeps
unfolding job_sent
sending_keeps own call h = job_keeps call own h (first_rescind own.entries)
