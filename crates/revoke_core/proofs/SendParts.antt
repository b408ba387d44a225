-- The sending of the first due job, part by part.
use Rattle.std.proofs.Common.{◌≡◌, ℕ, Bool, true, false, cond, List, [], ◌∷◌, ◌++◌, Option, None, Some, refl, ◌∙◌, ap}
use Rattle.std.specs.Option.{option_map}
use Rattle.proxy_model.specs.declared.lease.Entry.{Entry}
use Rattle.wait_model.specs.declared.due.DueCall.{DueCall}
use Rattle.wait_model.specs.declared.wait.WaitJob.TheVariants as job
use Rattle.wait_model.specs.declared.write.Write.{Write}
use Rattle.wait_model.specs.declared.write.WriteStage.{WriteStage}
use Rattle.wait_model.specs.declared.write.WriteStage.TheVariants.{Waiting, Sends, Finds}
use Rattle.wait_model.specs.DueOrder.{first_call, first_rescind}
use Rattle.wait_model.specs.Sent.{JobSent, is_revoke, stage_revoking, stage_sent, revoke_job, write_job, call_of, call_sent, job_sent_after, job_sent}
use Rattle.wait_model.specs.Stages.{is_owner}
use Rattle.wait_model.specs.State.{Ownership}
use Rattle.wait_model.specs.Writes.{first_by, with_first, has_ticket}
use Rattle.revoke_calls.specs.Jobs.{revoke_due, write_due}
use Rattle.revoke_core.specs.Sends.{out_call, after_sending, rescind_of, with_write, due_in, first_due, stage_of_call, sent_due, sent_writes, sent_out, sent_of, rescind_sent_of}

-- A rescind.

abbrev pair_or : {A : Type 0} → A → Option A → A
pair_or d None = d
pair_or d (Some x) = x

rescind_parts : (call : ℕ) (own : Ownership) (o : Option (List ℕ × Entry)) (q : List ℕ × ℕ) → option_map rescind_of o ≡ Some q → job_sent_after call o own ≡ Some (rescind_sent_of call q own)
rescind_parts call own None q e = absurd (cc)
rescind_parts call own (Some x) q e = ap (λ (r : List ℕ × ℕ). Some (rescind_sent_of call r own)) (ap (pair_or q) e)

pub first_rescinded : (call : ℕ) (own : Ownership) (q : List ℕ × ℕ) → option_map rescind_of (first_rescind own.entries) ≡ Some q → job_sent call own ≡ Some (rescind_sent_of call q own)
unfolding job_sent
first_rescinded call own q e = rescind_parts call own (first_rescind own.entries) q e

-- A due call of a write.

call_parts : (call : ℕ) (own : Ownership) (o : Option DueCall) → call_sent call o own ≡ sent_of call (due_in own.waits.writes o) own
call_parts call own None = refl
call_parts call own (Some d) = of (first_by (has_ticket d.place.number) own.waits.writes)
  where
    by_kind : (w : Write) (b : Bool) → ◌≡◌ {A = JobSent} (cond b (revoke_job call d w own) (write_job call d w own)) (record {
      own = record { entries = own.entries; waits = record own.waits { writes = with_first (has_ticket d.place.number) (cond b (stage_revoking call d.key w.stage) (stage_sent call w.stage)) own.waits.writes; out = own.waits.out ++ out_call call (cond b (job.Revoke d.key) job.Write) ∷ [] } };
      due = cond b (revoke_due own.waits.prefix w.ticket d) (write_due own.waits.prefix own.entries w);
    })
    by_kind w true = refl
    by_kind w false = refl

    of : (o : Option Write) → call_of call d o own ≡ sent_of call (with_write d o) own
    of None = refl
    of (Some w) = ap Some (by_kind w (is_revoke d.place.kind))

-- the first due call, and the write whose it is
pub first_due-is : (ws : List Write) (d : DueCall) (w : Write) → first_call ws ≡ Some d → first_by (has_ticket d.place.number) ws ≡ Some w → first_due ws ≡ Some (d, w)
first_due-is ws d w e f = ap (due_in ws) e ∙ ap (with_write d) f

no_rescind : (call : ℕ) (own : Ownership) (o : Option (List ℕ × Entry)) → option_map rescind_of o ≡ None → job_sent_after call o own ≡ call_sent call (first_call own.waits.writes) own
no_rescind call own None e = refl
no_rescind call own (Some x) e = absurd (cc)

pub first_called : (call : ℕ) (own : Ownership) → option_map rescind_of (first_rescind own.entries) ≡ None → job_sent call own ≡ sent_of call (first_due own.waits.writes) own
unfolding job_sent
first_called call own e = no_rescind call own (first_rescind own.entries) e ∙ call_parts call own (first_call own.waits.writes)

pub due_sent : (call : ℕ) (own : Ownership) (fd : Option (DueCall × Write)) → option_map (λ (s : JobSent). s.due) (sent_of call fd own) ≡ sent_due own.waits.prefix own.entries fd
due_sent call own None = refl
due_sent call own (Some x) = refl

pub own_sent : (call : ℕ) (own : Ownership) (fd : Option (DueCall × Write)) → after_sending own (sent_of call fd own) ≡ record { entries = own.entries; waits = record own.waits { writes = sent_writes call fd own.waits.writes; out = sent_out call fd own.waits.out } }
own_sent call own None = refl
own_sent call own (Some x) = refl

-- a write that is sent is no more an owner than before
pub sent_owner : (call : ℕ) (d : DueCall) (stage : WriteStage) → is_owner (stage_of_call call d stage) ≡ true → is_owner stage ≡ true
sent_owner call d stage t = of (is_revoke d.place.kind) stage t
  where
    of : (b : Bool) (s : WriteStage) → is_owner (cond b (stage_revoking call d.key s) (stage_sent call s)) ≡ true → is_owner s ≡ true
    of true Waiting t = t
    of true (Sends o s) t = t
    of true (Finds found) t = t
    of false Waiting t = t
    of false (Sends o s) t = t
    of false (Finds found) t = t
