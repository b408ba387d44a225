-- The sending of the first due job: it is out under its number, and its transaction is read off what stands.
use Rattle.std.specs.Prelude.{ℕ, Bool, true, false, ◌&&◌, if◌then◌else◌, List, [], ◌∷◌, ◌++◌, map, Option, None, Some}
use Rattle.etcd_types.specs.declared.operation.TxnAsk.{TxnAsk}
use Rattle.etcd_types.specs.declared.request.Request.TheVariants as request
use Rattle.etcd_types.specs.Keys.{same}
use Rattle.proxy_model.specs.declared.lease.Entry.{Entry}
use Rattle.proxy_model.specs.Foreign.{ask_revoke}
use Rattle.proxy_model.specs.Guarded.{guarded}
use Rattle.proxy_model.specs.Keyed.{Keyed, at, changed_at}
use Rattle.proxy_model.specs.Leaving.{rescind}
use Rattle.wait_model.specs.declared.due.Due.{Due}
use Rattle.wait_model.specs.declared.due.DueCall.{DueCall}
use Rattle.wait_model.specs.declared.due.DueKind.{DueKind}
use Rattle.wait_model.specs.declared.due.DueKind.TheVariants as kind
use Rattle.wait_model.specs.declared.due.JobKind.{JobKind}
use Rattle.wait_model.specs.declared.due.JobKind.TheVariants as by
use Rattle.wait_model.specs.declared.sending.Sending.TheVariants as sending
use Rattle.wait_model.specs.declared.wait.WaitJob.{WaitJob}
use Rattle.wait_model.specs.declared.wait.WaitJob.TheVariants as job
use Rattle.wait_model.specs.declared.write.Write.{Write}
use Rattle.wait_model.specs.declared.found.Found.{Found}
use Rattle.wait_model.specs.declared.found.Asking.{Asking}
use Rattle.wait_model.specs.declared.found.Asking.TheVariants as asking
use Rattle.wait_model.specs.declared.write.WriteStage.{WriteStage}
use Rattle.wait_model.specs.declared.write.WriteStage.TheVariants.{Waiting, Sends, Finds}
use Rattle.wait_model.specs.State.{Waits, Ownership}
use Rattle.wait_model.specs.Covers.{is_single}
use Rattle.wait_model.specs.DueOrder.{first_call, first_rescind}
use Rattle.wait_model.specs.GuardedAnswers.{owns_at}
use Rattle.wait_model.specs.Phases.{rescind_sent}
use Rattle.wait_model.specs.Stages.{is_owner}
use Rattle.wait_model.specs.Writes.{first_by, with_first, has_ticket}

-- A job that is sent, and what stands then.
pub record JobSent : Type 0 where
  pub own : Ownership
  pub due : Due

abbrev pub with_out : ℕ → WaitJob → Waits → Waits
with_out call j waits = record waits { out = waits.out ++ (record { call = call; job = j }) ∷ [] }

-- A rescind.

abbrev pub rescind_job : ℕ → List ℕ × Entry → Ownership → JobSent
rescind_job call e own =
    record {
      own = record { entries = changed_at own.entries e.0 (rescind_sent true); waits = with_out call (job.Rescind e.0 e.1.create) own.waits };
      due = record { kind = kind.Rescind; ticket = 0; request = request.Txn (rescind own.waits.prefix e.0 e.1.create) };
    }

-- A revoke call.

abbrev pub is_asking_due : Asking → Bool
is_asking_due (asking.Due since) = true
is_asking_due (asking.Out call) = false
is_asking_due asking.Done = false

abbrev pub found_sent : ℕ → List ℕ → Found → Found
found_sent call k f = if same k f.key && is_asking_due f.revoke then record f { revoke = asking.Out call } else f

abbrev pub stage_revoking : ℕ → List ℕ → WriteStage → WriteStage
stage_revoking call k Waiting = Waiting
stage_revoking call k (Sends owner s) = Sends owner s
stage_revoking call k (Finds found) = Finds (map (found_sent call k) found)

abbrev pub restaged : (Write → Bool) → WriteStage → Ownership → Ownership
restaged p stage own = record own { waits = record own.waits { writes = with_first p stage own.waits.writes } }

abbrev pub revoke_job : ℕ → DueCall → Write → Ownership → JobSent
revoke_job call d w own =
    record {
      own = record own { waits = with_out call (job.Revoke d.key) (restaged (has_ticket d.place.number) (stage_revoking call d.key w.stage) own).waits };
      due = record { kind = kind.AskRevoke; ticket = w.ticket; request = request.Txn (ask_revoke own.waits.prefix d.key d.create) };
    }

-- A write's own call.

-- the create revision that a write compares at a key: that of an entry which it writes, and else 0 for there being none
abbrev pub create_or_zero : Option Entry → ℕ
create_or_zero None = 0
create_or_zero (Some e) = e.create

abbrev pub compared : Write → Keyed Entry → List ℕ → ℕ
compared w es k = if owns_at w es k then create_or_zero (at es k) else 0

abbrev pub write_txn : List ℕ → Keyed Entry → Write → TxnAsk
write_txn prefix es w = guarded prefix w.request (compared w es)

abbrev pub stage_sent : ℕ → WriteStage → WriteStage
stage_sent call Waiting = Waiting
stage_sent call (Sends owner s) = Sends owner (sending.Out call)
stage_sent call (Finds found) = Finds found

abbrev pub kind_of : Write → DueKind
kind_of w = if is_owner w.stage then kind.Owner else if is_single w.request then kind.Guest else kind.Several

abbrev pub write_job : ℕ → DueCall → Write → Ownership → JobSent
write_job call d w own =
    record {
      own = record own { waits = with_out call job.Write (restaged (has_ticket d.place.number) (stage_sent call w.stage) own).waits };
      due = record { kind = kind_of w; ticket = w.ticket; request = request.Txn (write_txn own.waits.prefix own.entries w) };
    }

-- The first due job, or nothing where none is due.

abbrev pub is_revoke : JobKind → Bool
is_revoke by.Revoke = true
is_revoke by.Call = false
is_revoke by.Close = false
is_revoke by.Open = false

abbrev pub call_job : ℕ → DueCall → Write → Ownership → JobSent
call_job call d w own = if is_revoke d.place.kind then revoke_job call d w own else write_job call d w own

abbrev pub call_of : ℕ → DueCall → Option Write → Ownership → Option JobSent
call_of call d None own = None
call_of call d (Some w) own = Some (call_job call d w own)

abbrev pub call_sent : ℕ → Option DueCall → Ownership → Option JobSent
call_sent call None own = None
call_sent call (Some d) own = call_of call d (first_by (has_ticket d.place.number) own.waits.writes) own

abbrev pub job_sent_after : ℕ → Option (List ℕ × Entry) → Ownership → Option JobSent
job_sent_after call None own = call_sent call (first_call own.waits.writes) own
job_sent_after call (Some e) own = Some (rescind_job call e own)

unfoldable pub job_sent : ℕ → Ownership → Option JobSent
job_sent call own = job_sent_after call (first_rescind own.entries) own
