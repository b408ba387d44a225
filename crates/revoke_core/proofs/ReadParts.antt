-- What an answer does is what is done by that which was read of it.
use Rattle.std.proofs.Common.{◌≡◌, ℕ, Bool, true, false, cond, IsTrue, List, [], ◌∷◌, Option, None, Some, Result, Ok, Err, refl, sym, ◌∙◌, ap, subst}
use Rattle.std.specs.Option.{option_map}
use Rattle.etcd_types.proofs.Bools.{and_first, and_second, and_both}
use Rattle.etcd_types.specs.declared.answer.Answer.{Answer}
use Rattle.etcd_types.specs.declared.answer.Answer.TheVariants as answer
use Rattle.etcd_types.specs.declared.answer.Reply.{Reply}
use Rattle.lease_txn.specs.declared.not_shape.NotShape.{NotShape}
use Rattle.lease_txn.specs.declared.not_shape.NotShape.TheVariants.{Shape, NoMemory}
use Rattle.lease_txn.specs.Results.{Reads}
use Rattle.proxy_model.specs.declared.lease.Entry.{Entry}
use Rattle.proxy_model.specs.declared.ownership.Owner.{Owner}
use Rattle.proxy_model.specs.declared.ownership.Written.{Written}
use Rattle.proxy_model.specs.declared.ownership.Written.TheVariants.{Wrote, Blocked}
use Rattle.proxy_model.specs.Guarded.{written}
use Rattle.proxy_model.specs.Keyed.{Keyed, is_in_order}
use Rattle.proxy_model.specs.Leaving.{guard_held}
use Rattle.wait_model.specs.declared.wait.Settled.TheVariants as settled
use Rattle.wait_model.specs.declared.wait.WaitJob.{WaitJob}
use Rattle.wait_model.specs.declared.wait.WaitJob.TheVariants as job
use Rattle.wait_model.specs.declared.write.Write.{Write}
use Rattle.wait_model.specs.declared.write.WriteStage.{WriteStage}
use Rattle.wait_model.specs.Stages.{staged, is_owner}
use Rattle.wait_model.specs.Endings.{answered, answered_job, revoke_back, revoke_answered, without_out}
use Rattle.wait_model.specs.Fits.{is_proper, are_proper}
use Rattle.wait_model.specs.ForeignOwnership.{stage_asked}
use Rattle.wait_model.specs.GuardedAnswers.{Ending, ended_by, failed, done_if, write_answered}
use Rattle.wait_model.specs.Leaving.{rescinded, rescind_answered}
use Rattle.wait_model.specs.State.{Ownership}
use Rattle.wait_model.specs.Writes.{first_by, with_first, sends, asks, job_of}
use Rattle.revoke_calls.specs.declared.entries.Fate.TheVariants.{Back}
use Rattle.revoke_calls.specs.Ends.{lefts_of, all_wrote}
use Rattle.revoke_calls.specs.Failed.{failed_stage}
use Rattle.revoke_calls.proofs.ProperWrite.{proper-restaged}
use Rattle.revoke_calls.proofs.TurnedKeys.{wrote_is}
use Rattle.revoke_core.specs.declared.answers.ReadAnswer.{ReadAnswer}
use Rattle.revoke_core.specs.declared.answers.ReadAnswer.TheVariants as read
use Rattle.revoke_core.specs.Answers.{guard_told}
use Rattle.revoke_core.specs.Readings.{revoke_read, write_read, job_read, done_read, replied, asked_writes, failed_writes, failed_if, read_writes, taken, IsRead}
use Rattle.revoke_core.specs.Steps.{settled_if}
use Rattle.revoke_core.proofs.AnswerParts.{rescind_parts, after_rescind, failed_parts, asked_owner, failed_owner}
use Rattle.revoke_core.proofs.LossParts.{first_proper, proper-without}
use Rattle.revoke_core.proofs.Searches.{cond_true, cond_false}

-- A rescind.

rescind_does : (call : ℕ) (a : Answer) (session : Option ℕ) (now : ℕ) (k : List ℕ) (create : ℕ) (own : Ownership) → rescind_answered a (rescinded k create now (without_out call own)) ≡ option_map (λ r. taken call r session now own) (option_map (λ held. read.Rescinded k create) (guard_told a))
rescind_does call a session now k create own = rescind_parts a k create now (without_out call own) ∙ of (guard_told a)
  where
    of : (o : Option Bool) → option_map (λ held. record { own = after_rescind k create now (without_out call own); settled = settled.Nothing }) o ≡ option_map (λ r. taken call r session now own) (option_map (λ held. read.Rescinded k create) o)
    of None = refl
    of (Some held) = refl

-- A revoke call.

revoke_does : (call : ℕ) (a : Answer) (session : Option ℕ) (now : ℕ) (own : Ownership) (o : Option Write) → first_by (asks call) own.waits.writes ≡ o → revoke_answered (asks call) call o a (without_out call own) ≡ option_map (λ r. taken call r session now own) (revoke_read a o)
revoke_does call a session now own None e = refl
revoke_does call (answer.Done reply) session now own (Some w) e = of (guard_held reply.body)
  where
    of : (o : Option Bool) → revoke_back (asks call) call w o (without_out call own) ≡ option_map (λ r. taken call r session now own) (option_map (λ held. read.Asked held) o)
    of None = refl
    of (Some held) = λ i. Some (record { own = record (without_out call own) { waits = record (without_out call own).waits { writes = asked_writes call held (sym e i) own.waits.writes } }; settled = settled.Nothing })
revoke_does call (answer.Refused r) session now own (Some w) e =
    λ i. Some (record { own = ended_by (without_out call own) own.entries (asks call); settled = replied (answer.Refused r) (sym e i) })

-- A write's own call.

blocked_does : (call : ℕ) (session : Option ℕ) (now : ℕ) (own : Ownership) (w : Write) (os : List Owner) → first_by (sends call) own.waits.writes ≡ Some w → ◌≡◌ {A = Ending} (record { own = failed session (sends call) w os (without_out call own); settled = settled.Nothing }) (taken call (read.Blocked os) session now own)
blocked_does call session now own w os e =
    ap (λ (x : Ownership). record { own = x; settled = settled.Nothing }) (failed_parts session (sends call) w os (without_out call own))
    ∙ (λ i. record { own = record { entries = failed_if session os (sym e i) own.entries; waits = record (without_out call own).waits { writes = failed_writes session own.waits.step call os own.entries (sym e i) own.waits.writes } }; settled = settled.Nothing })

wrote_does : (call : ℕ) (session : Option ℕ) (now : ℕ) (own : Ownership) (w : Write) (reply : Reply) (es : Keyed Entry) → first_by (sends call) own.waits.writes ≡ Some w → es ≡ all_wrote (lefts_of w reply own.entries) own.entries → ◌≡◌ {A = Ending} (record { own = ended_by (without_out call own) es (sends call); settled = settled.Reply w.ticket (answer.Done reply) }) (taken call (read.Wrote reply (lefts_of w reply own.entries)) session now own)
wrote_does call session now own w reply es e f =
    λ i. record { own = ended_by (without_out call own) (f i) (sends call); settled = replied (answer.Done reply) (sym e i) }

write_does : (call : ℕ) (a : Answer) (session : Option ℕ) (now : ℕ) (own : Ownership) (o : Option Write) → are_proper own.waits.writes ≡ true → IsTrue (is_in_order own.entries) → first_by (sends call) own.waits.writes ≡ o → write_answered session (sends call) o a (without_out call own) ≡ option_map (λ r. taken call r session now own) (write_read own.waits.prefix a own.entries o)
write_does call a session now own None h s e = refl
write_does call (answer.Refused r) session now own (Some w) h s e =
    λ i. Some (record { own = ended_by (without_out call own) (settled_if Back (sym e i) own.entries) (sends call); settled = replied (answer.Refused r) (sym e i) })
write_does call (answer.Done reply) session now own (Some w) h s e = of (written own.waits.prefix w.request reply)
  where
    of : (o : Option Written) → done_if session (sends call) w o (without_out call own) ≡ option_map (λ r. taken call r session now own) (option_map (done_read w own.entries) o)
    of None = refl
    of (Some (Wrote said)) = ap (λ (x : Ending). Some x) (wrote_does call session now own w said _ e (sym (wrote_is w said own.entries (first_proper (sends call) own.waits.writes w h e) s)))
    of (Some (Blocked os)) = ap (λ (x : Ending). Some x) (blocked_does call session now own w os e)

pub answered_is_read : (call : ℕ) (a : Answer) (session : Option ℕ) (now : ℕ) (own : Ownership) → are_proper own.waits.writes ≡ true → IsTrue (is_in_order own.entries) → answered call a session now own ≡ option_map (λ r. taken call r session now own) (job_read own.waits.prefix call a (job_of call own.waits.out) own.waits.writes own.entries)
unfolding answered
answered_is_read call a session now own h s = of (job_of call own.waits.out)
  where
    of : (j : Option WaitJob) → answered_job call a session now j (without_out call own) ≡ option_map (λ r. taken call r session now own) (job_read own.waits.prefix call a j own.waits.writes own.entries)
    of None = refl
    of (Some (job.Rescind k create)) = rescind_does call a session now k create own
    of (Some (job.Revoke k)) = revoke_does call a session now own (first_by (asks call) own.waits.writes) refl
    of (Some job.Write) = write_does call a session now own (first_by (sends call) own.waits.writes) h s refl

-- What was read.

pub is_read : (result : Result ReadAnswer NotShape) (o : Option ReadAnswer) (does : ReadAnswer → Ending) (e : Option Ending) → Reads result o → e ≡ option_map does o → IsRead result does e
is_read (Ok r) o does e h f = f ∙ ap (λ (x : Option ReadAnswer). option_map does x) h
is_read (Err Shape) o does e h f = f ∙ ap (λ (x : Option ReadAnswer). option_map does x) h
is_read (Err NoMemory) o does e h f = tt

pub mapped_err : {A B : Type 0} (fault : NotShape) (f : A → B) (o : Option A) → Reads {A = A} (Err fault) o → Reads {A = B} (Err fault) (option_map f o)
mapped_err Shape f o h = ap (λ x. option_map f x) h
mapped_err NoMemory f o h = tt

-- The writes stay proper.

abbrev is_owner_of : Option Write → Bool
is_owner_of None = false
is_owner_of (Some w) = is_owner w.stage

proper-with : (p : Write → Bool) (s : WriteStage) (ws : List Write) → are_proper ws ≡ true → ((w : Write) → first_by p ws ≡ Some w → is_owner s ≡ true → is_owner w.stage ≡ true) → are_proper (with_first p s ws) ≡ true
proper-with p s [] h f = h
proper-with p s (v ∷ vs) h f =
    elim (p v) as (λ b. p v ≡ b → are_proper (cond b (staged v s ∷ vs) (v ∷ with_first p s vs)) ≡ true) [
      | true ↦ λ t. and_both (is_proper (staged v s)) (are_proper vs) (proper-restaged v s (and_first (is_proper v) (are_proper vs) h) (f v (cond_true (p v) (Some v) (first_by p vs) t))) (and_second (is_proper v) (are_proper vs) h)
      | false ↦ λ t. and_both (is_proper v) (are_proper (with_first p s vs)) (and_first (is_proper v) (are_proper vs) h) (proper-with p s vs (and_second (is_proper v) (are_proper vs) h) (λ w e. f w (cond_false (p v) (Some v) (first_by p vs) t ∙ e)))
    ] refl

proper-asked : (call : ℕ) (held : Bool) (o : Option Write) (ws : List Write) → first_by (asks call) ws ≡ o → are_proper ws ≡ true → are_proper (asked_writes call held o ws) ≡ true
proper-asked call held None ws e h = h
proper-asked call held (Some w) ws e h =
    proper-with (asks call) (stage_asked call held w.stage) ws h (λ v f t. subst (λ (x : Option Write). is_owner_of x ≡ true) (sym e ∙ f) (asked_owner call held w.stage t))

proper-failed : (session : Option ℕ) (step call : ℕ) (os : List Owner) (es : Keyed Entry) (o : Option Write) (ws : List Write) → first_by (sends call) ws ≡ o → are_proper ws ≡ true → are_proper (failed_writes session step call os es o ws) ≡ true
proper-failed session step call os es None ws e h = h
proper-failed session step call os es (Some w) ws e h =
    proper-with (sends call) (failed_stage session step w os es) ws h (λ v f t. subst (λ (x : Option Write). is_owner_of x ≡ true) (sym e ∙ f) (failed_owner session step w os es t))

pub proper-read : (session : Option ℕ) (step call : ℕ) (r : ReadAnswer) (es : Keyed Entry) (ws : List Write) → are_proper ws ≡ true → are_proper (read_writes session step call r es ws) ≡ true
proper-read session step call read.Nothing es ws h = h
proper-read session step call (read.Rescinded k create) es ws h = h
proper-read session step call (read.Asked held) es ws h = proper-asked call held (first_by (asks call) ws) ws refl h
proper-read session step call (read.AskRefused r) es ws h = proper-without (asks call) ws h
proper-read session step call (read.Refused r) es ws h = proper-without (sends call) ws h
proper-read session step call (read.Wrote reply lefts) es ws h = proper-without (sends call) ws h
proper-read session step call (read.Blocked os) es ws h = proper-failed session step call os es (first_by (sends call) ws) ws refl h
