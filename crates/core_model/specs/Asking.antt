-- A request is asked: it is refused; a plain read goes by its key, a write waits for its turn, a transaction that only reads is
-- answered from held records where all of its keys are held, a keepalive joins the others of its lease, and all else is passed on.
use Rattle.std.specs.Prelude.{ℕ, Bool, false, not, ◌&&◌, if◌then◌else◌, List, [], ◌∷◌, ◌++◌, Option, None, Some}
use Rattle.etcd_types.specs.declared.answer.Answer.TheVariants.{Done, Refused}
use Rattle.etcd_types.specs.declared.answer.Body.{Body}
use Rattle.etcd_types.specs.declared.answer.Refusal.{Refusal}
use Rattle.etcd_types.specs.declared.record.Kv.{Kv}
use Rattle.etcd_types.specs.declared.request.Request.{Request}
use Rattle.etcd_types.specs.declared.request.Request.TheVariants as request
use Rattle.etcd_types.specs.Ranges.{contains}
use Rattle.proxy_model.specs.declared.lease.Entry.{Entry}
use Rattle.proxy_model.specs.Keyed.{Keyed, at}
use Rattle.proxy_model.specs.LeaseTable.{is_held}
use Rattle.proxy_model.specs.Prefixes.{leasing_range}
use Rattle.proxy_model.specs.Snapshot.{is_plain, snapshot}
use Rattle.wait_model.specs.Asked.{submitted}
use Rattle.read_model.specs.declared.asked.Asked.{Asked}
use Rattle.read_model.specs.declared.asked.Stage.{Stage}
use Rattle.read_model.specs.declared.asked.Stage.TheVariants as stage
use Rattle.read_model.specs.Acquires.{read_asked}
use Rattle.read_model.specs.PlainRead.{key_of, called, decided_ask, in_stage}
use Rattle.read_model.specs.State.{Moment, ground_of}
use Rattle.core_model.specs.declared.event.Outcome.TheVariants as outcome
use Rattle.core_model.specs.declared.event.StepFault.TheVariants as fault
use Rattle.core_model.specs.ClockWork.{writes_go_on}
use Rattle.core_model.specs.Groups.{group_stage}
use Rattle.core_model.specs.Kinds.{writes_keys}
use Rattle.core_model.specs.Lookups.{leases, moment, reads_of, with_reads, is_known}
use Rattle.core_model.specs.Refusals.{refusal_of}
use Rattle.core_model.specs.State.{Core}
use Rattle.core_model.specs.Stepped.{Stepped, gives, faults, replies}
use Rattle.core_model.specs.Verdicts.{reply_of}
use Rattle.core_model.specs.Watching.{watch_is_asked}

abbrev pub asked_at : ℕ → ℕ → Request → ℕ → Asked
asked_at now ticket q word =
    record { ticket = ticket; request = q; word = word; asked = now; losses = 0; stales = 0; stage = stage.Writes }

-- Plain reads.

abbrev pub is_plain_request : Request → Bool
is_plain_request (request.Range ask) = is_plain ask
is_plain_request _ = false

-- one of the leasing range is passed on
abbrev pub is_leased_read : List ℕ → Request → Bool
is_leased_read prefix q = is_plain_request q && not (contains (leasing_range prefix) (key_of q))

-- a held key is answered at once
abbrev pub read_by : Stage → Core → Core → Stepped
read_by (stage.Replied v) before after = replies before (reply_of v)
read_by _ before after = gives (writes_go_on after) outcome.Waiting

abbrev pub read_is_asked : Moment → Asked → Core → Stepped
read_is_asked m a c =
    read_by (decided_ask m (ground_of (reads_of c)) a).stage c (with_reads c (read_asked m a (reads_of c)))

-- Writes.

abbrev pub with_ask : Stage → Asked → Core → Core
with_ask s a c = record c { asks = c.asks ++ in_stage s a ∷ [] }

abbrev pub write_is_asked : Asked → Core → Stepped
write_is_asked a c =
    gives (writes_go_on (with_ask stage.Writes a (record c { own = submitted a.ticket a.request c.own }))) outcome.Waiting

-- Transactions that only read.

abbrev pub held_record : Option Entry → Option (Option Kv)
held_record None = None
held_record (Some e) = if is_held (Some e) then Some e.kv else None

abbrev pub held_body : Keyed Entry → Request → Option Body
held_body es (request.Txn t) = snapshot (λ k. held_record (at es k)) t
held_body es _ = None

abbrev pub if_live : Option ℕ → Option Body → Option Body
if_live None b = None
if_live (Some number) b = b

-- All other requests wait for a call.

abbrev pub call_stage : Request → Core → Stage
call_stage (request.KeepAlive lease) c = group_stage c.own.waits.step lease c.out c.asks
call_stage _ c = called c.own.waits.step

abbrev pub call_is_asked : Asked → Core → Stepped
call_is_asked a c = gives (writes_go_on (with_ask (call_stage a.request c) a c)) outcome.Waiting

abbrev pub answered_or_called : Option Body → Asked → Core → Stepped
answered_or_called None a c = call_is_asked a c
answered_or_called (Some b) a c = replies c (Done (record { header = c.header; body = b }))

-- with leasing on
abbrev pub leased_ask : Moment → Asked → Core → Stepped
leased_ask m a c =
    if is_leased_read c.own.waits.prefix a.request then read_is_asked m a c
    else if writes_keys a.request then write_is_asked a c
    else answered_or_called (if_live m.session (held_body c.own.entries a.request)) a c

abbrev pub taken_in : Moment → Asked → Core → Stepped
taken_in m a c = if leases c then leased_ask m a c else call_is_asked a c

-- a watch is no request in the sense of these
abbrev pub request_asked : Request → Moment → Asked → Core → Stepped
request_asked (request.Watch ask) m a c = watch_is_asked a.ticket ask c
request_asked _ m a c = taken_in m a c

abbrev pub refused_or_taken : Option Refusal → Moment → Asked → Core → Stepped
refused_or_taken None m a c = request_asked a.request m a c
refused_or_taken (Some r) m a c = replies c (Refused r)

abbrev pub if_unknown : Bool → ℕ → Core → Stepped → Stepped
if_unknown known ticket c s = if known then faults c (fault.TicketUsed ticket) else s

unfoldable pub on_ask : ℕ → ℕ → Request → ℕ → Core → Stepped
on_ask now ticket q word c =
    if_unknown (is_known ticket c) ticket c (refused_or_taken (refusal_of c.own.waits.prefix q) (moment c now) (asked_at now ticket q word) c)
