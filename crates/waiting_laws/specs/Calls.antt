-- Calls that are due or out, in the state's own words. One that is due stands among the due jobs, or among the writes' due calls, of
-- which the due jobs have the first; one that is out stands in the list of those, under its number.
use Rattle.std.specs.Prelude.{◌≡◌, ◌⊎◌, ℕ, Bool, true, false, ◌&&◌, ◌==◌, List}
use Rattle.std.specs.List.{list_any}
use Rattle.etcd_types.specs.Keys.{same}
use Rattle.proxy_model.specs.declared.lease.Entry.{Entry}
use Rattle.wait_model.specs.declared.due.DueCall.{DueCall}
use Rattle.wait_model.specs.declared.due.JobKind.{JobKind}
use Rattle.wait_model.specs.declared.due.JobKind.TheVariants as kind
use Rattle.wait_model.specs.declared.found.Asking.{Asking}
use Rattle.wait_model.specs.declared.found.Asking.TheVariants as asking
use Rattle.wait_model.specs.declared.sending.Sending.{Sending}
use Rattle.wait_model.specs.declared.sending.Sending.TheVariants as sending
use Rattle.wait_model.specs.declared.wait.WaitJob.{WaitJob}
use Rattle.wait_model.specs.declared.wait.WaitJob.TheVariants as wait
use Rattle.wait_model.specs.DueOrder.{due_calls}
use Rattle.wait_model.specs.Phases.{is_rescind_due}
use Rattle.wait_model.specs.Writes.{job_of}
use Rattle.core_model.specs.declared.out_call.OutJob.{OutJob}
use Rattle.core_model.specs.DueJobs.{DueJob, ForWrites, ForAcquire, ForAsk, ForGroup, ForStream, due_jobs}
use Rattle.core_model.specs.Fits.{job_at, passes, is_ask_job, is_acquire_of, is_wait, is_write_job, is_revoke_of}
use Rattle.core_model.specs.Groups.{is_group_of}
use Rattle.core_model.specs.State.{Core}

-- ---- due

abbrev pub has_due : (DueJob → Bool) → Core → Bool
has_due p c = list_any (λ x. p x.job) (due_jobs c)

abbrev pub is_for_writes : DueJob → Bool
is_for_writes ForWrites = true
is_for_writes _ = false

-- the call of the request of this ticket
abbrev pub asks_for : ℕ → DueJob → Bool
asks_for ticket (ForAsk a) = a.ticket == ticket
asks_for ticket _ = false

-- an acquire of this key, for the read of this ticket
abbrev pub acquires_for : List ℕ → ℕ → DueJob → Bool
acquires_for k ticket (ForAcquire j a) = same j k && (a.ticket == ticket)
acquires_for k ticket _ = false

-- a keepalive of this lease, in which this ticket's shares
abbrev pub keeps_for : ℕ → ℕ → DueJob → Bool
keeps_for lease ticket (ForGroup n t) = (n == lease) && (t == ticket)
keeps_for lease ticket _ = false

-- the opening or the closing of this stream
abbrev pub is_of_stream : ℕ → DueJob → Bool
is_of_stream number (ForStream s) = s.number == number
is_of_stream number _ = false

abbrev pub is_own_kind : JobKind → Bool
is_own_kind kind.Call = true
is_own_kind _ = false

abbrev pub is_revoke_kind : JobKind → Bool
is_revoke_kind kind.Revoke = true
is_revoke_kind _ = false

-- the own call of the write of this ticket
abbrev pub is_own_call : ℕ → DueCall → Bool
is_own_call ticket d = is_own_kind d.place.kind && (d.place.number == ticket)

-- a call of the write of this ticket that asks the owner of this key
abbrev pub is_revoke_call : ℕ → List ℕ → DueCall → Bool
is_revoke_call ticket k d = is_revoke_kind d.place.kind && ((d.place.number == ticket) && same d.key k)

-- a call of a write: one of the writes' due calls, which are a due job
pub record IsWriteDue (p : DueCall → Bool) (c : Core) : Type 0 where
  pub call : list_any p (due_calls c.own.waits.writes) ≡ true
  pub job : has_due is_for_writes c ≡ true

-- ---- out

abbrev pub IsOut : (OutJob → Bool) → Core → ℕ → Type 0
IsOut p c call = passes p (job_at call c.out) ≡ true

-- a call of a write stands in both lists
pub record IsWriteOut (p : WaitJob → Bool) (c : Core) (call : ℕ) : Type 0 where
  pub out : IsOut is_wait c call
  pub job : passes p (job_of call c.own.waits.out) ≡ true

-- ---- a rescind: the entry that is given up shows that it is due, and one that was sent stands among the calls that are out

-- of this key, for an ownership key of this create revision
abbrev pub is_rescind_of : List ℕ → ℕ → WaitJob → Bool
is_rescind_of k create (wait.Rescind j n) = same j k && (n == create)
is_rescind_of k create _ = false

abbrev pub is_rescind_out : List ℕ → ℕ → Core → Bool
is_rescind_out k create c = list_any (λ o. is_rescind_of k create o.job) c.own.waits.out

abbrev pub RescindRuns : Core → List ℕ → Entry → Type 0
RescindRuns c k e = (is_rescind_due e ≡ true) ⊎ (is_rescind_out k e.create c ≡ true)

-- ---- due or out

-- the call of the request of this ticket
abbrev pub AskRuns : Core → ℕ → Sending → Type 0
AskRuns c ticket (sending.Due since) = has_due (asks_for ticket) c ≡ true
AskRuns c ticket (sending.Out call) = IsOut is_ask_job c call

-- an acquire of this key, for the read of this ticket
abbrev pub AcquireRuns : Core → List ℕ → ℕ → Sending → Type 0
AcquireRuns c k ticket (sending.Due since) = has_due (acquires_for k ticket) c ≡ true
AcquireRuns c k ticket (sending.Out call) = IsOut (is_acquire_of k) c call

-- a keepalive of this lease, in which this ticket's shares
abbrev pub KeepaliveRuns : Core → ℕ → ℕ → Sending → Type 0
KeepaliveRuns c lease ticket (sending.Due since) = has_due (keeps_for lease ticket) c ≡ true
KeepaliveRuns c lease ticket (sending.Out call) = IsOut (is_group_of lease) c call

-- the own call of the write of this ticket
abbrev pub WriteRuns : Core → ℕ → Sending → Type 0
WriteRuns c ticket (sending.Due since) = IsWriteDue (is_own_call ticket) c
WriteRuns c ticket (sending.Out call) = IsWriteOut is_write_job c call

-- a call of the write of this ticket that asks the owner of this key
abbrev pub RevokeRuns : Core → ℕ → List ℕ → Asking → Type 0
RevokeRuns c ticket k (asking.Due since) = IsWriteDue (is_revoke_call ticket k) c
RevokeRuns c ticket k (asking.Out call) = IsWriteOut (is_revoke_of k) c call
RevokeRuns c ticket k asking.Done = ⊥
