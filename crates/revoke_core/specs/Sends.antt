-- The sending of the first due job, part by part.
use Rattle.std.specs.Prelude.{ℕ, true, if◌then◌else◌, List, [], ◌∷◌, ◌++◌, Option, None, Some}
use Rattle.proxy_model.specs.declared.lease.Entry.{Entry}
use Rattle.proxy_model.specs.Keyed.{Keyed, changed_at}
use Rattle.wait_model.specs.declared.due.Due.{Due}
use Rattle.wait_model.specs.declared.due.DueCall.{DueCall}
use Rattle.wait_model.specs.declared.wait.WaitCall.{WaitCall}
use Rattle.wait_model.specs.declared.wait.WaitJob.{WaitJob}
use Rattle.wait_model.specs.declared.wait.WaitJob.TheVariants as job
use Rattle.wait_model.specs.declared.write.Write.{Write}
use Rattle.wait_model.specs.declared.write.WriteStage.{WriteStage}
use Rattle.wait_model.specs.DueOrder.{first_call}
use Rattle.wait_model.specs.Phases.{rescind_sent}
use Rattle.wait_model.specs.Sent.{JobSent, is_revoke, stage_revoking, stage_sent}
use Rattle.wait_model.specs.State.{Ownership}
use Rattle.wait_model.specs.Writes.{first_by, with_first, has_ticket}
use Rattle.revoke_calls.specs.Jobs.{rescind_due, revoke_due, write_due}

-- what stands once the first due job is sent, or where none is due
abbrev pub after_sending : Ownership → Option JobSent → Ownership
after_sending own None = own
after_sending own (Some sent) = sent.own

abbrev pub out_call : ℕ → WaitJob → WaitCall
out_call call j = record { call = call; job = j }

-- a rescind says of an entry its key and the create revision of the ownership key
abbrev pub rescind_of : List ℕ × Entry → List ℕ × ℕ
rescind_of e = (e.0, e.1.create)

-- A due call of a write.

abbrev pub due_of_call : List ℕ → Keyed Entry → DueCall → Write → Due
due_of_call prefix es d w = if is_revoke d.place.kind then revoke_due prefix w.ticket d else write_due prefix es w

abbrev pub job_of_call : DueCall → WaitJob
job_of_call d = if is_revoke d.place.kind then job.Revoke d.key else job.Write

abbrev pub stage_of_call : ℕ → DueCall → WriteStage → WriteStage
stage_of_call call d stage = if is_revoke d.place.kind then stage_revoking call d.key stage else stage_sent call stage

-- The first due call with its write, and what its sending leaves.

abbrev pub with_write : DueCall → Option Write → Option (DueCall × Write)
with_write d None = None
with_write d (Some w) = Some (d, w)

abbrev pub due_in : List Write → Option DueCall → Option (DueCall × Write)
due_in ws None = None
due_in ws (Some d) = with_write d (first_by (has_ticket d.place.number) ws)

abbrev pub first_due : List Write → Option (DueCall × Write)
first_due ws = due_in ws (first_call ws)

abbrev pub sent_due : List ℕ → Keyed Entry → Option (DueCall × Write) → Option Due
sent_due prefix es None = None
sent_due prefix es (Some (d, w)) = Some (due_of_call prefix es d w)

abbrev pub sent_writes : ℕ → Option (DueCall × Write) → List Write → List Write
sent_writes call None ws = ws
sent_writes call (Some (d, w)) ws = with_first (has_ticket d.place.number) (stage_of_call call d w.stage) ws

abbrev pub sent_out : ℕ → Option (DueCall × Write) → List WaitCall → List WaitCall
sent_out call None os = os
sent_out call (Some (d, w)) os = os ++ out_call call (job_of_call d) ∷ []

abbrev pub sent_of : ℕ → Option (DueCall × Write) → Ownership → Option JobSent
sent_of call None own = None
sent_of call (Some (d, w)) own =
    Some (record {
      own = record { entries = own.entries; waits = record own.waits { writes = sent_writes call (Some (d, w)) own.waits.writes; out = sent_out call (Some (d, w)) own.waits.out } };
      due = due_of_call own.waits.prefix own.entries d w;
    })

-- A rescind of this key and create revision.
abbrev pub rescind_sent_of : ℕ → List ℕ × ℕ → Ownership → JobSent
rescind_sent_of call q own =
    record {
      own = record { entries = changed_at own.entries q.0 (rescind_sent true); waits = record own.waits { out = own.waits.out ++ out_call call (job.Rescind q.0 q.1) ∷ [] } };
      due = rescind_due own.waits.prefix q.0 q.1;
    }
