-- The first due job is sent: a call is out under the next number, to the current member; an opening has the stream's own number.
-- Each request goes out under the namespace.
use Rattle.std.specs.Prelude.{ℕ, ◌+◌, if◌then◌else◌, List, [], ◌∷◌, ◌++◌, map, Option, None, Some}
use Rattle.etcd_types.specs.declared.request.Request.{Request}
use Rattle.etcd_types.specs.declared.request.Request.TheVariants as request
use Rattle.proxy_model.specs.declared.session.Standing.{Standing}
use Rattle.proxy_model.specs.Acquire.{acquire}
use Rattle.proxy_model.specs.PassingOn.{numbered}
use Rattle.proxy_model.specs.Session.{Session}
use Rattle.proxy_model.specs.Wrapped.{request_under}
use Rattle.wait_model.specs.declared.sending.Sending.TheVariants as sending
use Rattle.wait_model.specs.Sent.{JobSent, job_sent}
use Rattle.read_model.specs.declared.acquire.Acquire.{Acquire}
use Rattle.read_model.specs.declared.asked.Asked.{Asked}
use Rattle.read_model.specs.declared.asked.Stage.TheVariants as stage
use Rattle.read_model.specs.Acquires.{acquire_sent}
use Rattle.read_model.specs.PlainRead.{in_stage}
use Rattle.core_model.specs.declared.event.Job.TheVariants as sent
use Rattle.core_model.specs.declared.event.Outcome.TheVariants as outcome
use Rattle.core_model.specs.declared.out_call.OutCall.{OutCall}
use Rattle.core_model.specs.declared.out_call.OutJob.{OutJob}
use Rattle.core_model.specs.declared.out_call.OutJob.TheVariants as job
use Rattle.core_model.specs.DueJobs.{DueJob, ForSession, ForWrites, ForAcquire, ForAsk, ForGroup, ToOpen, ForStream, first_job}
use Rattle.core_model.specs.Groups.{group_sent}
use Rattle.core_model.specs.Kinds.{kind_of}
use Rattle.core_model.specs.LeasingStream.{watch_of, opening_sent}
use Rattle.core_model.specs.Lookups.{reads_of, with_reads, has_ticket}
use Rattle.core_model.specs.Sessions.{session_request}
use Rattle.core_model.specs.State.{Seat, Opening, Core}
use Rattle.core_model.specs.Stepped.{Stepped, gives}
use Rattle.core_model.specs.Watching.{stream_sent}

abbrev pub next_call : Core → ℕ
next_call c = c.calls + 1

abbrev pub out_call : ℕ → OutJob → Core → OutCall
out_call now j c =
    record { call = next_call c; job = j; member = c.members.current; seen = c.members.seen; sent_at = now }

-- `d` is what becomes of the core beside
abbrev pub goes_out : ℕ → OutJob → ℕ → Request → Core → Core → Stepped
goes_out now j ticket q c d =
    gives
    (record d { calls = next_call c; out = c.out ++ out_call now j c ∷ [] })
    (outcome.Job (Some (sent.Call (next_call c) c.members.current ticket (request_under c.settings.namespace q))))

-- The session's call.

abbrev pub session_out : ℕ → Option Standing → OutJob
session_out number None = job.Grant number
session_out number (Some x) = job.Keep number

abbrev pub seat_sent : ℕ → Session → Seat
seat_sent call s = record { session = s; call = Some (sending.Out call) }

abbrev pub session_sent : ℕ → Session → Core → Stepped
session_sent now s c =
    goes_out now (session_out s.number s.standing) 0 (session_request c.settings.ttl s s.standing) c (record c { seat = Some (seat_sent (next_call c) s) })

-- A write's, an entry's, an acquire's.

abbrev pub writes_sent : ℕ → Option JobSent → Core → Stepped
writes_sent now None c = gives c (outcome.Job None)
writes_sent now (Some x) c = goes_out now job.Wait x.due.ticket x.due.request c (record c { own = x.own })

abbrev pub acquires_sent : ℕ → List ℕ → Acquire → Core → Stepped
acquires_sent now k x c =
    goes_out now (job.Acquire k) x.ticket (request.Txn (acquire c.own.waits.prefix k x.session)) c (with_reads c (acquire_sent (next_call c) k (reads_of c)))

-- A client's.

abbrev pub called_as : ℕ → ℕ → Asked → Asked
called_as call ticket a = if has_ticket ticket a then in_stage (stage.Calling (sending.Out call)) a else a

abbrev pub ask_sent : ℕ → Asked → Core → Stepped
ask_sent now a c =
    goes_out now (job.Ask (kind_of a.request)) a.ticket (numbered a.word a.request) c (record c { asks = map (called_as (next_call c) a.ticket) c.asks })

abbrev pub keeps_sent : ℕ → ℕ → ℕ → Core → Stepped
keeps_sent now lease ticket c =
    goes_out now (job.Group lease) ticket (request.KeepAlive lease) c (record c { asks = map (group_sent (next_call c) lease) c.asks })

-- An opening.

abbrev pub stream_opened : Opening → Core → Stepped
stream_opened o c =
    gives
    (record c { leasing = Some (opening_sent o) })
    (outcome.Job (Some (sent.Begin o.number c.members.current (request_under c.settings.namespace (watch_of o.stream)))))

abbrev pub sent_by : ℕ → Option DueJob → Core → Stepped
sent_by now None c = gives c (outcome.Job None)
sent_by now (Some (ForSession s)) c = session_sent now s c
sent_by now (Some ForWrites) c = writes_sent now (job_sent (next_call c) c.own) c
sent_by now (Some (ForAcquire k x)) c = acquires_sent now k x c
sent_by now (Some (ForAsk a)) c = ask_sent now a c
sent_by now (Some (ForGroup lease ticket)) c = keeps_sent now lease ticket c
sent_by now (Some (ToOpen o)) c = stream_opened o c
sent_by now (Some (ForStream s)) c = stream_sent s c

unfoldable pub on_work : ℕ → Core → Stepped
on_work now c = sent_by now (first_job c) c
