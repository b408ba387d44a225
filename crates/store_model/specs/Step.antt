-- What a member of the store answers to a request, and what the store then is.
use Rattle.std.specs.Prelude.{ℕ, nat_lt, nat_le, if◌then◌else◌, [], map, Option, None, Some, Result, Ok, Err}
use Rattle.etcd_types.specs.declared.operation.RangeAsk.{RangeAsk}
use Rattle.etcd_types.specs.declared.operation.Op.{Op}
use Rattle.etcd_types.specs.declared.operation.Op.TheVariants.{Range, Put, Delete, Txn}
use Rattle.etcd_types.specs.declared.request.Request.{Request}
use Rattle.etcd_types.specs.declared.request.Request.TheVariants as request
use Rattle.etcd_types.specs.declared.answer.Answer.{Answer}
use Rattle.etcd_types.specs.declared.answer.Answer.TheVariants as answer
use Rattle.etcd_types.specs.declared.answer.Body.{Body}
use Rattle.etcd_types.specs.declared.answer.Body.TheVariants as body
use Rattle.etcd_types.specs.declared.answer.Refusal.{Refusal}
use Rattle.store_model.specs.History.{newest, up_to_revision, with_revision}
use Rattle.store_model.specs.Refusals.{compacted_revision, future_revision, lease_not_found, lease_exists, unsupported}
use Rattle.store_model.specs.State.{State, applied_by, header}
use Rattle.store_model.specs.Reads.{read}
use Rattle.store_model.specs.Transactions.{Ran, run, has_lease}
use Rattle.store_model.specs.FirstRefusals.{first_refusal}
use Rattle.store_model.specs.Leases.{asked_number, granted_lease, granted_ttl, granted, with_lease, ended, lease_number, time_to_live}

-- what the store then is, and the answer
abbrev pub Step : Type 0
Step = State × Answer

-- an answer's header has the newest revision after the request
abbrev pub done : State → ℕ → Body → Step
done s member body = (s, answer.Done (record { header = header member (newest s.history); body = body }))

-- a refused request changes nothing
abbrev pub refused : State → Refusal → Step
refused s refusal = (s, answer.Refused refusal)

abbrev pub unless : State → Option Refusal → Step → Step
unless s None step = step
unless s (Some refusal) step = refused s refusal

-- all changes of a request make one revision
abbrev pub settled : State → ℕ → Ran → Step
settled s member (Ok ran) = done (record s { history = with_revision s.history ran.0 }) member ran.1
settled s member (Err refusal) = refused s refusal

abbrev pub exec_op : State → ℕ → Op → Step
exec_op s member op = unless s (first_refusal op) (settled s member (run s op []))

abbrev pub told_at : State → ℕ → ℕ → Result Body Refusal → Step
told_at s member revision (Ok body) = (s, answer.Done (record { header = header member revision; body = body }))
told_at s member revision (Err refusal) = refused s refusal

-- a serializable range is read as the member has it
abbrev pub read_applied : State → ℕ → ℕ → RangeAsk → Step
read_applied s member applied ask =
    if nat_lt applied s.compacted then refused s compacted_revision
    else told_at s member applied (read (up_to_revision s.history applied) applied s.compacted ask)

abbrev pub exec_range : State → ℕ → RangeAsk → Step
exec_range s member ask =
    if ask.serializable then unless s (first_refusal (Range ask)) (read_applied s member (applied_by s member) ask)
    else exec_op s member (Range ask)

abbrev pub exec_compact : State → ℕ → ℕ → Step
exec_compact s member revision =
    if nat_le revision s.compacted then refused s compacted_revision
    else if nat_lt (newest s.history) revision then refused s future_revision
    else done (record s { compacted = revision }) member body.Compact

-- number 0 asks for the least positive number that is not in use
abbrev pub exec_grant : State → ℕ → ℕ → ℕ → Step
exec_grant s member ttl number =
    if has_lease s.leases number then refused s lease_exists
    else let free = asked_number s.leases number in
    done (record s { leases = with_lease (granted_lease free ttl) s.leases }) member (body.Grant free (granted_ttl ttl))

abbrev pub exec_revoke : State → ℕ → ℕ → Step
exec_revoke s member number =
    if has_lease s.leases number then done (ended s number) member body.Revoke else refused s lease_not_found

-- `Watch` is no request to execute: a watch is opened
unfoldable pub exec : State → ℕ → Request → Step
exec s member (request.Range ask) = exec_range s member ask
exec s member (request.Put ask) = exec_op s member (Put ask)
exec s member (request.Delete ask) = exec_op s member (Delete ask)
exec s member (request.Txn txn) = exec_op s member (Txn txn)
exec s member (request.Compact revision physical) = exec_compact s member revision
exec s member (request.Grant ttl lease) = exec_grant s member ttl lease
exec s member (request.Revoke lease) = exec_revoke s member lease
exec s member (request.KeepAlive lease) = done s member (body.KeepAlive lease (granted s.leases lease))
exec s member (request.TimeToLive lease keys) = done s member (time_to_live s lease (has_lease s.leases lease) keys)
exec s member request.Leases = done s member (body.Leases (map lease_number s.leases))
exec s member (request.Watch ask) = refused s unsupported

abbrev pub IsExecuted : Request → Type 0
IsExecuted (request.Range ask) = Unit {0}
IsExecuted (request.Put ask) = Unit {0}
IsExecuted (request.Delete ask) = Unit {0}
IsExecuted (request.Txn txn) = Unit {0}
IsExecuted (request.Compact revision physical) = Unit {0}
IsExecuted (request.Grant ttl lease) = Unit {0}
IsExecuted (request.Revoke lease) = Unit {0}
IsExecuted (request.KeepAlive lease) = Unit {0}
IsExecuted (request.TimeToLive lease keys) = Unit {0}
IsExecuted request.Leases = Unit {0}
IsExecuted (request.Watch ask) = ⊥
