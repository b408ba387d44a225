-- No request that a proxy knows as one is a watch, and no call that it sends is: watches have streams.
use Rattle.std.proofs.Common.{◌≡◌, ℕ, Bool, true, false, cond, List, [], ◌∷◌, ◌++◌, Option, None, Some, is_some, Result, Ok, Err, refl, sym, ◌∙◌, subst}
use Rattle.std.specs.Prelude.{flat_map}
use Rattle.etcd_types.specs.declared.request.Request.{Request}
use Rattle.etcd_types.specs.declared.request.Request.TheVariants as request
use Rattle.etcd_types.specs.declared.request.WatchAsk.{WatchAsk}
use Rattle.etcd_types.specs.declared.answer.Refusal.{Refusal}
use Rattle.proxy_model.specs.declared.session.Standing.{Standing}
use Rattle.proxy_model.specs.Keyed.{Keyed}
use Rattle.proxy_model.specs.PassingOn.{numbered}
use Rattle.proxy_model.specs.Session.{Session}
use Rattle.proxy_model.specs.declared.lease.Entry.{Entry}
use Rattle.proxy_model.specs.Wrapped.{request_under}
use Rattle.core_laws.proofs.Steps.Comes.{by_test}
use Rattle.core_model.specs.declared.event.CoreEvent.{CoreEvent}
use Rattle.core_model.specs.declared.event.CoreEvent.TheVariants as event
use Rattle.core_model.specs.declared.event.Job.TheVariants as sent
use Rattle.core_model.specs.declared.event.Outcome.{Outcome}
use Rattle.core_model.specs.declared.event.Outcome.TheVariants as outcome
use Rattle.core_model.specs.declared.event.StepFault.{StepFault}
use Rattle.core_model.specs.declared.event.StepFault.TheVariants as fault
use Rattle.core_model.specs.Asking.{asked_at, refused_or_taken, on_ask}
use Rattle.core_model.specs.ClockWork.{clock_work}
use Rattle.core_model.specs.DueJobs.{DueJob, ForSession, ForWrites, ForAcquire, ForAsk, ForGroup, ToOpen, ForStream, Placed, due_writes, if_due, due_acquire, due_ask, due_stage, due_at, due_opening, due_phase, due_stream, due_jobs, earlier, earliest, job_of, session_job_of, session_job, rescind_or, or_else, first_job}
use Rattle.core_model.specs.Fits.{CoreOk}
use Rattle.core_model.specs.Lookups.{moment, is_known}
use Rattle.core_model.specs.Refusals.{refusal_of}
use Rattle.core_model.specs.Sending.{next_call, writes_sent, sent_by, on_work}
use Rattle.core_model.specs.Sessions.{session_request}
use Rattle.core_model.specs.State.{Seat, Opening, Core}
use Rattle.core_model.specs.Step.{happened, is_worn, stepped}
use Rattle.core_model.specs.Stepped.{Stepped, faults, counted, counted_by}
use Rattle.core_model.specs.Watching.{stream_job, with_watches}
use Rattle.keep_laws.proofs.Rows.{All, stays, hushes, Lasts}
use Rattle.keep_laws.proofs.Steps.{Turns, clock_all, stepped_all}
use Rattle.read_model.specs.declared.acquire.Acquire.{Acquire}
use Rattle.read_model.specs.declared.asked.Asked.{Asked}
use Rattle.read_model.specs.declared.asked.Stage.{Stage}
use Rattle.read_model.specs.declared.asked.Stage.TheVariants as stage
use Rattle.wait_model.specs.declared.due.Place.{Place}
use Rattle.wait_model.specs.declared.sending.Sending.{Sending}
use Rattle.wait_model.specs.declared.sending.Sending.TheVariants as sending
use Rattle.wait_model.specs.DueOrder.{first_call, first_place, first_rescind, is_earlier}
use Rattle.wait_model.specs.declared.due.DueCall.{DueCall}
use Rattle.wait_model.specs.Sent.{JobSent, is_revoke, revoke_job, write_job, call_of, call_sent, job_sent_after, job_sent}
use Rattle.wait_model.specs.State.{Ownership}
use Rattle.wait_model.specs.declared.write.Write.{Write}
use Rattle.wait_model.specs.Writes.{first_by, has_ticket}
use Rattle.watch_model.specs.declared.stream.StreamJob.{StreamJob}
use Rattle.watch_model.specs.declared.stream.StreamJob.TheVariants as stream
use Rattle.watch_model.specs.declared.stream.StreamPhase.{StreamPhase}
use Rattle.watch_model.specs.declared.stream.StreamPhase.TheVariants as phase
use Rattle.watch_model.specs.Due.{next_job}
use Rattle.watch_model.specs.State.{Stream}
use Rattle.audit_model.specs.Order.{is_watch}

abbrev pub NotWatch : Request → Type 0
NotWatch q = is_watch q ≡ false

-- of each request that is known
abbrev pub NoneWatches : Core → Type 0
NoneWatches c = All (λ a. NotWatch a.request) c.asks

lasts : Lasts (λ a. NotWatch a.request)
lasts x _ (stays e) h = subst (λ (a : Asked). NotWatch a.request) (sym e) h
lasts x y (hushes t q g) h = subst NotWatch (sym q) h

turns : Turns (λ a. NotWatch a.request) (λ a. NotWatch a.request)
turns = record { turns = λ x h. h; lasts = lasts }

-- a watch that is asked becomes no request
watch_asked : (now ticket : ℕ) (ask : WatchAsk) (word : ℕ) (c : Core) → (on_ask now ticket (request.Watch ask) word c).core.asks ≡ c.asks
unfolding on_ask
watch_asked now ticket ask word c =
    by_test (λ (s : Stepped). s.core.asks ≡ c.asks) (is_known ticket c) (faults c (fault.TicketUsed ticket)) (refused_or_taken (refusal_of c.own.waits.prefix (request.Watch ask)) (moment c now) (asked_at now ticket (request.Watch ask) word) c)
    (λ e. refl) (λ e. by (refusal_of c.own.waits.prefix (request.Watch ask)))
  where
    by : (o : Option Refusal) → (refused_or_taken o (moment c now) (asked_at now ticket (request.Watch ask) word) c).core.asks ≡ c.asks
    by None = refl
    by (Some r) = refl

counted_asks : (s : Stepped) → (counted s).core.asks ≡ s.core.asks
counted_asks s = by s.outcome
  where
    by : (o : Result Outcome StepFault) → (counted_by s.core o).core.asks ≡ s.core.asks
    by (Ok o) = refl
    by (Err f) = refl

watch_step : (c : Core) (now ticket : ℕ) (ask : WatchAsk) (word : ℕ) → NoneWatches c → NoneWatches (stepped c (event.Ask ticket (request.Watch ask) word) now).core
unfolding stepped
watch_step c now ticket ask word h =
    let d = clock_work now c in
    let s = on_ask now ticket (request.Watch ask) word d in
    by_test (λ (s : Stepped). NoneWatches s.core) (is_worn c) (faults c fault.Worn) (counted s) (λ w. h)
    (λ w. subst (All (λ a. NotWatch a.request)) (sym (counted_asks s ∙ watch_asked now ticket ask word d)) (clock_all (λ a. NotWatch a.request) lasts now c h))

-- every other one isn't
other_step : (c : Core) (now ticket : ℕ) (q : Request) (word : ℕ) → CoreOk c → NotWatch q → NoneWatches c → NoneWatches (stepped c (event.Ask ticket q word) now).core
other_step c now ticket q word ok n h = stepped_all (λ a. NotWatch a.request) (λ a. NotWatch a.request) lasts turns (event.Ask ticket q word) now c ok (λ w y t r s. subst NotWatch (sym r) n) h

ask_step : (c : Core) (now ticket : ℕ) (q : Request) (word : ℕ) → CoreOk c → NoneWatches c → NoneWatches (stepped c (event.Ask ticket q word) now).core
ask_step c now ticket (request.Watch ask) word ok h = watch_step c now ticket ask word h
ask_step c now ticket (request.Range ask) word ok h = other_step c now ticket (request.Range ask) word ok refl h
ask_step c now ticket (request.Put ask) word ok h = other_step c now ticket (request.Put ask) word ok refl h
ask_step c now ticket (request.Delete ask) word ok h = other_step c now ticket (request.Delete ask) word ok refl h
ask_step c now ticket (request.Txn t) word ok h = other_step c now ticket (request.Txn t) word ok refl h
ask_step c now ticket (request.Compact revision physical) word ok h = other_step c now ticket (request.Compact revision physical) word ok refl h
ask_step c now ticket (request.Grant ttl lease) word ok h = other_step c now ticket (request.Grant ttl lease) word ok refl h
ask_step c now ticket (request.Revoke lease) word ok h = other_step c now ticket (request.Revoke lease) word ok refl h
ask_step c now ticket (request.KeepAlive lease) word ok h = other_step c now ticket (request.KeepAlive lease) word ok refl h
ask_step c now ticket (request.TimeToLive lease keys) word ok h = other_step c now ticket (request.TimeToLive lease keys) word ok refl h
ask_step c now ticket request.Leases word ok h = other_step c now ticket request.Leases word ok refl h

pub none_watches : (c : Core) (e : CoreEvent) (now : ℕ) → CoreOk c → NoneWatches c → NoneWatches (stepped c e now).core
none_watches c (event.Ask ticket q word) now ok h = ask_step c now ticket q word ok h
none_watches c (event.Answer call a) now ok h = stepped_all (λ a. NotWatch a.request) (λ a. NotWatch a.request) lasts turns (event.Answer call a) now c ok (λ w x reply e b s p. p) h
none_watches c (event.Lost call) now ok h = stepped_all (λ a. NotWatch a.request) (λ a. NotWatch a.request) lasts turns (event.Lost call) now c ok (λ w. tt) h
none_watches c (event.Tick word) now ok h = stepped_all (λ a. NotWatch a.request) (λ a. NotWatch a.request) lasts turns (event.Tick word) now c ok (λ w. tt) h
none_watches c (event.Item number x) now ok h = stepped_all (λ a. NotWatch a.request) (λ a. NotWatch a.request) lasts turns (event.Item number x) now c ok (λ w. tt) h
none_watches c (event.Cut number) now ok h = stepped_all (λ a. NotWatch a.request) (λ a. NotWatch a.request) lasts turns (event.Cut number) now c ok (λ w. tt) h
none_watches c (event.Take ticket) now ok h = stepped_all (λ a. NotWatch a.request) (λ a. NotWatch a.request) lasts turns (event.Take ticket) now c ok (λ w. tt) h
none_watches c (event.Leave ticket) now ok h = stepped_all (λ a. NotWatch a.request) (λ a. NotWatch a.request) lasts turns (event.Leave ticket) now c ok (λ w. tt) h
none_watches c event.Work now ok h = stepped_all (λ a. NotWatch a.request) (λ a. NotWatch a.request) lasts turns event.Work now c ok (λ w x own member ticket lease e k p. p) h

-- ---- what is sent

-- the request of a job that is due
abbrev JobSo : DueJob → Type 0
JobSo (ForAsk a) = NotWatch a.request
JobSo _ = Unit {0}

abbrev JobIf : Option DueJob → Type 0
JobIf None = Unit {0}
JobIf (Some j) = JobSo j

abbrev AllSo : List Placed → Type 0
AllSo [] = Unit {0}
AllSo (p ∷ ps) = JobSo p.job × AllSo ps

appended : (ps qs : List Placed) → AllSo ps → AllSo qs → AllSo (ps ++ qs)
appended [] qs h i = i
appended (p ∷ ps) qs h i = (h.0, appended ps qs h.1 i)

if_due_so : (s : Sending) (f : ℕ → Placed) → ((since : ℕ) → JobSo (f since).job) → AllSo (if_due s f)
if_due_so (sending.Due since) f h = (h since, tt)
if_due_so (sending.Out call) f h = tt

writes_so : (o : Option Place) → AllSo (due_writes o)
writes_so None = tt
writes_so (Some p) = (tt, tt)

acquires_so : (xs : Keyed Acquire) → AllSo (flat_map due_acquire xs)
acquires_so [] = tt
acquires_so (x ∷ xs) = appended (due_acquire x) (flat_map due_acquire xs) (if_due_so x.1.sending _ (λ since. tt)) (acquires_so xs)

stage_so : (a : Asked) (s : Stage) → NotWatch a.request → AllSo (due_stage a s)
stage_so a (stage.Calling s) n = if_due_so s _ (λ since. n)
stage_so a (stage.Grouped (Some s)) n = if_due_so s _ (λ since. tt)
stage_so a (stage.Grouped None) n = tt
stage_so a stage.Acquiring n = tt
stage_so a stage.Joined n = tt
stage_so a stage.Behind n = tt
stage_so a stage.Writes n = tt
stage_so a (stage.Replied v) n = tt

asks_so : (xs : List Asked) → All (λ a. NotWatch a.request) xs → AllSo (flat_map due_ask xs)
asks_so [] h = tt
asks_so (a ∷ xs) h = appended (due_ask a) (flat_map due_ask xs) (stage_so a a.stage h.0) (asks_so xs h.1)

opening_so : (o : Option Opening) → AllSo (due_opening o)
opening_so None = tt
opening_so (Some o) = by o.due
  where
    by : (s : Option ℕ) → AllSo (due_at o s)
    by None = tt
    by (Some since) = (tt, tt)

streams_so : (ss : List Stream) → AllSo (flat_map due_stream ss)
streams_so [] = tt
streams_so (s ∷ ss) = appended (due_stream s) (flat_map due_stream ss) (by s.phase) (streams_so ss)
  where
    by : (p : StreamPhase) → AllSo (due_phase s p)
    by (phase.Due since) = (tt, tt)
    by (phase.Closing since) = (tt, tt)
    by phase.Begun = tt

all_so : (c : Core) → NoneWatches c → AllSo (due_jobs c)
all_so c h =
    let writes = due_writes (first_place c.own.waits.writes) in
    let acquires = flat_map due_acquire c.acquires in
    let asks = flat_map due_ask c.asks in
    appended (writes ++ acquires ++ asks ++ due_opening c.leasing) (flat_map due_stream c.watches.streams)
    (appended (writes ++ acquires ++ asks) (due_opening c.leasing)
    (appended (writes ++ acquires) asks
    (appended writes acquires (writes_so (first_place c.own.waits.writes)) (acquires_so c.acquires))
    (asks_so c.asks h))
    (opening_so c.leasing))
    (streams_so c.watches.streams)

abbrev PlacedSo : Option Placed → Type 0
PlacedSo None = Unit {0}
PlacedSo (Some p) = JobSo p.job

earliest_so : (o : Option Placed) (ps : List Placed) → PlacedSo o → AllSo ps → PlacedSo (earliest o ps)
earliest_so o [] h i = h
earliest_so o (p ∷ ps) h i = earliest_so (Some (earlier o p)) ps (chosen o h) i.1
  where
    either : (b : Bool) (q : Placed) → JobSo q.job → JobSo (cond b p q).job
    either true q t = i.0
    either false q t = t

    chosen : (o : Option Placed) → PlacedSo o → JobSo (earlier o p).job
    chosen None h = i.0
    chosen (Some q) h = either (is_earlier p.place q.place) q h

first_so : (c : Core) → NoneWatches c → JobIf (first_job c)
first_so c h = by_session c.seat
  where
    by_place : (o : Option Placed) → PlacedSo o → JobIf (job_of o)
    by_place None k = tt
    by_place (Some p) k = k

    by_rescind : (b : Bool) → JobIf (rescind_or b (job_of (earliest None (due_jobs c))))
    by_rescind true = tt
    by_rescind false = by_place (earliest None (due_jobs c)) (earliest_so None (due_jobs c) tt (all_so c h))

    rest : JobIf (rescind_or (is_some (first_rescind c.own.entries)) (job_of (earliest None (due_jobs c))))
    rest = by_rescind (is_some (first_rescind c.own.entries))

    by_call : (s : Seat) (o : Option Sending) → JobIf (or_else (session_job_of s.session o) (rescind_or (is_some (first_rescind c.own.entries)) (job_of (earliest None (due_jobs c)))))
    by_call s None = rest
    by_call s (Some (sending.Due since)) = tt
    by_call s (Some (sending.Out call)) = rest

    by_session : (o : Option Seat) → JobIf (or_else (session_job o) (rescind_or (is_some (first_rescind c.own.entries)) (job_of (earliest None (due_jobs c)))))
    by_session None = rest
    by_session (Some s) = by_call s s.call

-- a call
abbrev pub CallSo : Result Outcome StepFault → Type 0
CallSo (Ok (outcome.Job (Some (sent.Call own member ticket q)))) = NotWatch q
CallSo _ = Unit {0}

under_so : (namespace : List ℕ) (q : Request) → NotWatch q → NotWatch (request_under namespace q)
under_so namespace (request.Watch ask) n = n
under_so namespace (request.Range ask) n = refl
under_so namespace (request.Put ask) n = refl
under_so namespace (request.Delete ask) n = refl
under_so namespace (request.Txn t) n = refl
under_so namespace (request.Compact revision physical) n = refl
under_so namespace (request.Grant ttl lease) n = refl
under_so namespace (request.Revoke lease) n = refl
under_so namespace (request.KeepAlive lease) n = refl
under_so namespace (request.TimeToLive lease keys) n = refl
under_so namespace request.Leases n = refl

numbered_so : (word : ℕ) (q : Request) → NotWatch q → NotWatch (numbered word q)
numbered_so word (request.Grant ttl lease) n = refl
numbered_so word (request.Watch ask) n = n
numbered_so word (request.Range ask) n = refl
numbered_so word (request.Put ask) n = refl
numbered_so word (request.Delete ask) n = refl
numbered_so word (request.Txn t) n = refl
numbered_so word (request.Compact revision physical) n = refl
numbered_so word (request.Revoke lease) n = refl
numbered_so word (request.KeepAlive lease) n = refl
numbered_so word (request.TimeToLive lease keys) n = refl
numbered_so word request.Leases n = refl

session_so : (ttl : ℕ) (s : Session) (o : Option Standing) → NotWatch (session_request ttl s o)
session_so ttl s None = refl
session_so ttl s (Some x) = refl

-- a write's call is a transaction
abbrev SentIf : Option JobSent → Type 0
SentIf None = Unit {0}
SentIf (Some x) = NotWatch x.due.request

write_so : (call : ℕ) (own : Ownership) → SentIf (job_sent call own)
unfolding job_sent
write_so call own = by (first_rescind own.entries)
  where
    by_revoke : (b : Bool) (d : DueCall) (w : Write) → NotWatch (cond b (revoke_job call d w own) (write_job call d w own)).due.request
    by_revoke true d w = refl
    by_revoke false d w = refl

    by_write : (d : DueCall) (o : Option Write) → SentIf (call_of call d o own)
    by_write d None = tt
    by_write d (Some w) = by_revoke (is_revoke d.place.kind) d w

    by_call : (o : Option DueCall) → SentIf (call_sent call o own)
    by_call None = tt
    by_call (Some d) = by_write d (first_by (has_ticket d.place.number) own.waits.writes)

    by : (o : Option (List ℕ × Entry)) → SentIf (job_sent_after call o own)
    by None = by_call (first_call own.waits.writes)
    by (Some e) = refl

sent_so : (now : ℕ) (j : Option DueJob) (c : Core) → JobIf j → CallSo (sent_by now j c).outcome
sent_so now None c h = tt
sent_so now (Some (ForSession s)) c h = under_so c.settings.namespace (session_request c.settings.ttl s s.standing) (session_so c.settings.ttl s s.standing)
sent_so now (Some ForWrites) c h = by_job (job_sent (next_call c) c.own) (write_so (next_call c) c.own)
  where
    by_job : (x : Option JobSent) → SentIf x → CallSo (writes_sent now x c).outcome
    by_job None k = tt
    by_job (Some x) k = under_so c.settings.namespace x.due.request k
sent_so now (Some (ForAcquire k x)) c h = refl
sent_so now (Some (ForAsk a)) c h = under_so c.settings.namespace (numbered a.word a.request) (numbered_so a.word a.request h)
sent_so now (Some (ForGroup lease ticket)) c h = refl
sent_so now (Some (ToOpen o)) c h = tt
sent_so now (Some (ForStream s)) c h = by_job (next_job c.watches (Some s)).1
  where
    by_job : (o : Option StreamJob) → CallSo (stream_job o (with_watches c (next_job c.watches (Some s)).0)).outcome
    by_job None = tt
    by_job (Some (stream.Close number)) = tt
    by_job (Some (stream.Open number range start)) = tt

counted_so : (s : Stepped) → CallSo s.outcome → CallSo (counted s).outcome
counted_so s h = by s.outcome h
  where
    by : (o : Result Outcome StepFault) → CallSo o → CallSo (counted_by s.core o).outcome
    by (Ok o) h = h
    by (Err f) h = tt

pub work_sends : (c : Core) (now : ℕ) → NoneWatches c → CallSo (stepped c event.Work now).outcome
unfolding stepped on_work
work_sends c now h =
    let d = clock_work now c in
    by_test (λ (s : Stepped). CallSo s.outcome) (is_worn c) (faults c fault.Worn) (counted (happened now event.Work d)) (λ w. tt)
    (λ w. counted_so (happened now event.Work d) (sent_so now (first_job d) d (first_so d (clock_all (λ a. NotWatch a.request) lasts now c h))))
