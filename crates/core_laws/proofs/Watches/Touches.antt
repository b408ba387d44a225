-- What a step of a proxy does to its client streams and watches: behind its clock work, at most one of their own steps.
use Rattle.std.proofs.Common.{◌≡◌, ◌⊎◌, inl, inr, ℕ, ◌+◌, ◌==◌, Bool, true, false, cond, ◌||◌, List, [], ◌∷◌, ◌++◌, flat_map, map, nat_le, Option, None, Some, is_some, Result, Ok, Err, refl, sym, ap, subst, ◌∙◌, arith}
use Rattle.std.proofs.lemmas.Bool.Decides.{nat_tests}
use Rattle.etcd_types.specs.declared.answer.Answer.{Answer}
use Rattle.etcd_types.specs.declared.answer.Answer.TheVariants as answer
use Rattle.etcd_types.specs.declared.answer.Body.{Body}
use Rattle.etcd_types.specs.declared.answer.Body.TheVariants as body
use Rattle.etcd_types.specs.declared.answer.Refusal.{Refusal}
use Rattle.etcd_types.specs.declared.answer.Reply.{Reply}
use Rattle.etcd_types.specs.declared.record.Header.{Header}
use Rattle.etcd_types.specs.declared.request.Request.{Request}
use Rattle.etcd_types.specs.declared.request.Request.TheVariants as request
use Rattle.etcd_types.specs.declared.request.WatchAsk.{WatchAsk}
use Rattle.etcd_types.specs.declared.watch.WatchItem.{WatchItem}
use Rattle.etcd_types.specs.declared.watch.WatchItem.TheVariants as item
use Rattle.proxy_model.specs.Unwrapped.{Unwrapped, item_without}
use Rattle.wait_model.specs.Sent.{JobSent, job_sent}
use Rattle.watch_model.specs.declared.stream.StreamJob.{StreamJob}
use Rattle.watch_model.specs.declared.stream.StreamJob.TheVariants as stream
use Rattle.watch_model.specs.Cuts.{cut_stream, cancelled_stream}
use Rattle.watch_model.specs.Delivery.{delivered_stream, stands_created}
use Rattle.watch_model.specs.Due.{next_job}
use Rattle.watch_model.specs.Joining.{joined}
use Rattle.watch_model.specs.Leaving.{removed}
use Rattle.watch_model.specs.Lookups.{stream_at, watch_at, is_begun}
use Rattle.watch_model.specs.State.{Stream, Watch, Broadcasts}
use Rattle.watch_model.specs.Takes as watches
use Rattle.read_model.specs.declared.asked.Asked.{Asked}
use Rattle.read_model.specs.declared.asked.Stage.{Stage}
use Rattle.read_model.specs.declared.asked.Stage.TheVariants as stage
use Rattle.read_model.specs.Acquires.{AfterAcquire, acquire_answered, read_asked}
use Rattle.read_model.specs.PlainRead.{in_stage, decided_ask}
use Rattle.read_model.specs.State.{Reads, Ground, Moment, ground_of}
use Rattle.read_model.specs.WriteAnswers.{wait_answered}
use Rattle.core_model.specs.declared.event.CoreEvent.{CoreEvent}
use Rattle.core_model.specs.declared.event.CoreEvent.TheVariants as event
use Rattle.core_model.specs.declared.event.Job.TheVariants as sent
use Rattle.core_model.specs.declared.event.Outcome.{Outcome}
use Rattle.core_model.specs.declared.event.Outcome.TheVariants as outcome
use Rattle.core_model.specs.declared.event.StepFault.{StepFault}
use Rattle.core_model.specs.declared.event.StepFault.TheVariants as fault
use Rattle.core_model.specs.declared.out_call.CallKind.{CallKind}
use Rattle.core_model.specs.declared.out_call.OutCall.{OutCall}
use Rattle.core_model.specs.declared.out_call.OutJob.{OutJob}
use Rattle.core_model.specs.declared.out_call.OutJob.TheVariants as job
use Rattle.core_model.specs.Asking.{asked_at, is_leased_read, read_by, read_is_asked, write_is_asked, held_body, if_live, call_is_asked, answered_or_called, leased_ask, taken_in, request_asked, refused_or_taken, on_ask}
use Rattle.core_model.specs.ClockWork.{begun, is_replied, times_out, timed_out_ask, clock_work}
use Rattle.read_model.specs.Release.{ask_stands, released_ground, released_ask, released_from}
use Rattle.read_model.specs.declared.asked.Verdict.TheVariants as verdict
use Rattle.core_model.specs.DueJobs.{DueJob, ForSession, ForWrites, ForAcquire, ForAsk, ForGroup, ToOpen, ForStream, Placed, if_due, due_writes, due_acquire, due_ask, due_stage, due_at, due_opening, due_phase, due_stream, due_jobs, earlier, earliest, job_of, session_job_of, session_job, rescind_or, or_else, first_job}
use Rattle.wait_model.specs.DueOrder.{is_earlier, first_place, first_rescind}
use Rattle.wait_model.specs.declared.due.Place.{Place}
use Rattle.core_model.specs.declared.settings.Settings.{Settings}
use Rattle.wait_model.specs.declared.sending.Sending.{Sending}
use Rattle.wait_model.specs.declared.sending.Sending.TheVariants as sending
use Rattle.watch_model.specs.declared.stream.StreamPhase.{StreamPhase}
use Rattle.watch_model.specs.declared.stream.StreamPhase.TheVariants as phase
use Rattle.core_model.specs.Ends.{call_gone, is_stale_reply, ask_done, ask_answered, member_failed, acquire_if, reads_if, is_keepalive, group_answered, answered_job, lost_job, lost_call, or_lost, heard_call, answered_call, answer_of, on_answer, loss_of, on_lost, with_caller, stale_once, said}
use Rattle.core_model.specs.Heard.{heard, header_taken, later_header}
use Rattle.core_model.specs.Kinds.{writes_keys, is_body_of}
use Rattle.core_model.specs.LeasingStream.{leasing_ticked, leasing_cut, leasing_created, leasing_cancelled, is_readable, leasing_told, leasing_message, message_if_sent, leasing_item, item_header}
use Rattle.core_model.specs.LeasingStream as leasing
use Rattle.core_model.specs.Lookups.{leases, moment, reads_of, with_reads, ask_at, is_known, out_at}
use Rattle.core_model.specs.Refusals.{refusal_of}
use Rattle.core_model.specs.Sending.{next_call, writes_sent, sent_by, on_work}
use Rattle.core_model.specs.Sessions.{without_session, seat_ticked, seat_is_over, deadline_passed, seat_calls, granted_by, grant_failed, grant_answered, keep_failed, kept, kept_by, keep_answered}
use Rattle.core_model.specs.State.{Opening, Seat, Core}
use Rattle.core_model.specs.Step.{ticked, on_tick, opening_at, client_item, item_of, on_item, client_cut, cut_of, on_cut, happened, is_worn, stepped}
use Rattle.core_model.specs.Stepped.{Stepped, faults, counted, counted_by}
use Rattle.core_model.specs.Takes.{item_taken, taken, on_take, watcher_left, left, on_leave, lesser, least_ready, ready}
use Rattle.core_model.specs.Takes as takes
use Rattle.core_model.specs.Watching.{stream_message, stream_item, taken_item, stream_job, with_watches, watch_from, stream_sent}
use Rattle.core_model.specs.Watching as watching

-- The part of a proxy's state that is about streams and watches, and what these look at.
pub record Side : Type 0 where
  pub broadcasts : Broadcasts
  pub header : Header
  -- the number that the leasing stream has
  pub leasing : Option ℕ

abbrev pub number_of : Option Opening → Option ℕ
number_of None = None
number_of (Some o) = Some o.number

abbrev pub side : Core → Side
side c = record { broadcasts = c.watches; header = c.header; leasing = number_of c.leasing }

abbrev pub with_step : Broadcasts → ℕ → Broadcasts
with_step b n = record b { step = n }

-- a client stream's message, where `last` is the cached header once it was heard
abbrev pub told_message : Broadcasts → Stream → Header → WatchItem → Broadcasts
told_message b s last (item.Created h) = stands_created b s h last
told_message b s last (item.Events h events) = delivered_stream b s h events
told_message b s last (item.Canceled h compaction) = cancelled_stream b s h compaction last

abbrev pub told_unwrapped : Broadcasts → Stream → Header → Unwrapped WatchItem → Broadcasts
told_unwrapped b s last (Ok x) = told_message b s last x
told_unwrapped b s last (Err foreign) = cut_stream b s

abbrev pub told_stream : Broadcasts → Stream → Header → List ℕ → WatchItem → Broadcasts
told_stream b s last namespace x = cond (is_begun s.phase) (told_unwrapped b s last (item_without namespace x)) b

-- one more number is given, to the leasing stream
abbrev pub numbered_anew : Side → Header → Side
numbered_anew a h = record { broadcasts = record a.broadcasts { given = a.broadcasts.given + 1 }; header = h; leasing = Some (a.broadcasts.given + 1) }

-- neither a message or a cut of a stream
abbrev pub is_other : CoreEvent → Bool
is_other (event.Item number x) = false
is_other (event.Cut number) = false
is_other _ = true

-- neither a message of a watch, nor the opening or the closing of a stream, nor that a message or a cut of a stream was noted
abbrev pub is_plain : CoreEvent → Result Outcome StepFault → Bool
is_plain e (Err f) = true
is_plain e (Ok (outcome.Item i)) = false
is_plain e (Ok (outcome.Job (Some (sent.Begin number member q)))) = false
is_plain e (Ok (outcome.Job (Some (sent.Close number)))) = false
is_plain e (Ok o) = is_other e

-- one of the streams
abbrev pub IsAmong : Stream → List Stream → Type 0
IsAmong s [] = ⊥
IsAmong s (t ∷ ss) = (s ≡ t) ⊎ IsAmong s ss

-- what an event that was given an outcome does to it, behind the clock work
pub data Touch (namespace : List ℕ) (a : Side) : CoreEvent → Side → Result Outcome StepFault → Type 0 where
  leaves : (e : CoreEvent) (o : Result Outcome StepFault) → is_plain e o ≡ true → Touch namespace a e a o
  hears : (call : ℕ) (reply : Reply) (o : Result Outcome StepFault) → is_plain (event.Answer call (answer.Done reply)) o ≡ true
      → Touch namespace a (event.Answer call (answer.Done reply)) (record a { header = later_header a.header reply.header }) o
  ticks : (word : ℕ) → Touch namespace a (event.Tick word) (numbered_anew a a.header) (Ok outcome.Noted)
  joins : (ticket : ℕ) (ask : WatchAsk) (word : ℕ) → watch_at ticket a.broadcasts.watches ≡ None
      → Touch namespace a (event.Ask ticket (request.Watch ask) word) (record a { broadcasts = joined a.broadcasts ticket ask a.header }) (Ok outcome.Waiting)
  -- a message of the leasing stream
  heard_leasing : (number : ℕ) (x : WatchItem) → a.leasing ≡ Some number → Touch namespace a (event.Item number x) (record a { header = later_header a.header (item_header x) }) (Ok outcome.Noted)
  broke_leasing : (number : ℕ) (x : WatchItem) → a.leasing ≡ Some number → Touch namespace a (event.Item number x) (numbered_anew a (later_header a.header (item_header x))) (Ok outcome.Noted)
  cut_leasing : (number : ℕ) → a.leasing ≡ Some number → Touch namespace a (event.Cut number) (numbered_anew a a.header) (Ok outcome.Noted)
  told : (number : ℕ) (x : WatchItem) (s : Stream) → stream_at number a.broadcasts.streams ≡ Some s
      → Touch namespace a (event.Item number x) (record a { broadcasts = told_stream a.broadcasts s (later_header a.header (item_header x)) namespace x; header = later_header a.header (item_header x) }) (Ok outcome.Noted)
  cut : (number : ℕ) (s : Stream) → stream_at number a.broadcasts.streams ≡ Some s → Touch namespace a (event.Cut number) (record a { broadcasts = cut_stream a.broadcasts s }) (Ok outcome.Noted)
  took : (ticket : ℕ) (w : Watch) (i : WatchItem) (is : List WatchItem) → watch_at ticket a.broadcasts.watches ≡ Some w → w.queue ≡ i ∷ is
      → Touch namespace a (event.Take ticket) (record a { broadcasts = (watches.taken_from a.broadcasts a.header w w.queue).0 }) (Ok (outcome.Item i))
  left_it : (ticket : ℕ) → Touch namespace a (event.Leave ticket) (record a { broadcasts = removed a.broadcasts ticket (watch_at ticket a.broadcasts.watches) }) (Ok outcome.Noted)
  opens_leasing : (number member : ℕ) (q : Request) → a.leasing ≡ Some number → Touch namespace a event.Work a (Ok (outcome.Job (Some (sent.Begin number member q))))
  sends : (c : Core) (s : Stream) → c.settings.namespace ≡ namespace → side c ≡ a → IsAmong s a.broadcasts.streams
      → Touch namespace a event.Work (record a { broadcasts = (next_job a.broadcasts (Some s)).0 }) (stream_sent s c).outcome

-- ---- what leaves it

abbrev pub Same : Core → Core → Type 0
Same c d = side d ≡ side c

either : {A : Type 0} (P : A → Type 0) (b : Bool) (x y : A) → P x → P y → P (cond b x y)
either P true x y f g = f
either P false x y f g = g

either_so : {A : Type 0} (P : A → Type 0) (b : Bool) (x y : A) → (b ≡ true → P x) → (b ≡ false → P y) → P (cond b x y)
either_so P true x y f g = f refl
either_so P false x y f g = g refl

pub clock_same : (now : ℕ) (c : Core) → side (clock_work now c) ≡ record (side c) { broadcasts = with_step c.watches c.steps }
unfolding clock_work
clock_same now c = either (λ d. side d ≡ side (begun c)) (seat_is_over c.seat now) (without_session now (begun c)) (begun c) refl refl

pub clock_watches : (now : ℕ) (c : Core) → (clock_work now c).watches ≡ with_step c.watches c.steps
clock_watches now c = ap (λ (a : Side). a.broadcasts) (clock_same now c)

grant_fails : (o : OutCall) (c : Core) → Same c (grant_failed o c)
grant_fails o c = either (Same c) (seat_calls o.call c.seat) _ c refl refl

keep_fails : (o : OutCall) (c : Core) → Same c (keep_failed o c)
keep_fails o c = either (Same c) (seat_calls o.call c.seat) _ c refl refl

lost_job_same : (now : ℕ) (o : OutCall) (j : OutJob) (c : Core) → Same c (lost_job now o j c)
lost_job_same now o (job.Grant lease) c = grant_fails o c
lost_job_same now o (job.Keep lease) c = keep_fails o c
lost_job_same now o (job.Acquire k) c = refl
lost_job_same now o job.Wait c = refl
lost_job_same now o (job.Ask kind) c = refl
lost_job_same now o (job.Group lease) c = refl

lost_same : (now : ℕ) (o : OutCall) (c : Core) → Same c (lost_call now o c)
lost_same now o c = lost_job_same now o o.job (member_failed o c)

abbrev SameIf : Core → Option Core → Type 0
SameIf c None = Unit {0}
SameIf c (Some d) = Same c d

granted_same : (o : OutCall) (b : Body) (c : Core) → SameIf c (granted_by o b c)
granted_same o (body.Grant lease ttl) c = either (Same c) (seat_calls o.call c.seat) _ c refl refl
granted_same o (body.Range count more kvs) c = tt
granted_same o (body.Put prev) c = tt
granted_same o (body.Delete deleted prevs) c = tt
granted_same o (body.Txn' succeeded m bodies) c = tt
granted_same o body.Compact c = tt
granted_same o body.Revoke c = tt
granted_same o (body.KeepAlive lease ttl) c = tt
granted_same o (body.TimeToLive lease ttl granted keys) c = tt
granted_same o (body.Leases leases) c = tt

grant_same : (o : OutCall) (a : Answer) (c : Core) → SameIf c (grant_answered o a c)
grant_same o (answer.Done reply) c = granted_same o reply.body c
grant_same o (answer.Refused r) c = grant_fails o c

kept_same : (now : ℕ) (o : OutCall) (b : Body) (c : Core) → SameIf c (kept_by now o b c)
kept_same now o (body.KeepAlive lease ttl) c =
    either (Same c) (seat_calls o.call c.seat) (kept now o ttl c) c (either (Same c) (ttl == 0) (without_session now c) _ refl refl) refl
kept_same now o (body.Range count more kvs) c = tt
kept_same now o (body.Put prev) c = tt
kept_same now o (body.Delete deleted prevs) c = tt
kept_same now o (body.Txn' succeeded m bodies) c = tt
kept_same now o body.Compact c = tt
kept_same now o (body.Grant lease ttl) c = tt
kept_same now o body.Revoke c = tt
kept_same now o (body.TimeToLive lease ttl granted keys) c = tt
kept_same now o (body.Leases leases) c = tt

keep_same : (now : ℕ) (o : OutCall) (a : Answer) (c : Core) → SameIf c (keep_answered now o a c)
keep_same now o (answer.Done reply) c = kept_same now o reply.body c
keep_same now o (answer.Refused r) c = keep_fails o c

acquire_same : (c : Core) (o : Option AfterAcquire) → SameIf c (acquire_if c o)
acquire_same c None = tt
acquire_same c (Some x) = by_end x.ends
  where
    by_end : (b : Bool) → Same c (with_reads (cond b (record c { seat = None }) c) x.reads)
    by_end true = refl
    by_end false = refl

wait_same : (c : Core) (o : Option Reads) → SameIf c (reads_if c o)
wait_same c None = tt
wait_same c (Some r) = refl

ask_ends : (k : CallKind) (o : OutCall) (a : Answer) (c : Core) → SameIf c (ask_answered k o a c)
ask_ends k o (answer.Done reply) c =
    either (SameIf c) (is_body_of k reply.body) (Some (ask_done k o reply c)) None
    (either (Same c) (is_stale_reply k o reply) (with_caller o.call (stale_once c.members.count c.own.waits.step) (member_failed o c)) (with_caller o.call (said (answer.Done reply)) c) refl refl) tt
ask_ends k o (answer.Refused r) c = refl

group_ends : (o : OutCall) (lease : ℕ) (a : Answer) (c : Core) → SameIf c (group_answered o lease a c)
group_ends o lease a c = either (SameIf c) (is_keepalive a) _ None refl tt

job_same : (now : ℕ) (o : OutCall) (j : OutJob) (a : Answer) (c : Core) → SameIf c (answered_job now o j a c)
job_same now o (job.Grant lease) a c = grant_same o a c
job_same now o (job.Keep lease) a c = keep_same now o a c
job_same now o (job.Acquire k) a c = acquire_same c (acquire_answered (moment c now) k a (reads_of c))
job_same now o job.Wait a c = wait_same c (wait_answered (moment c now) o.call a (reads_of c))
job_same now o (job.Ask k) a c = ask_ends k o a c
job_same now o (job.Group lease) a c = group_ends o lease a c

or_lost_same : (now : ℕ) (o : OutCall) (c : Core) (x : Option Core) → SameIf c x → Same c (or_lost now o c x)
or_lost_same now o c None h = lost_same now o c
or_lost_same now o c (Some d) h = h

heard_same : (now : ℕ) (o : OutCall) (x : Option Answer) (c : Core) → Same c (heard_call now o x c)
heard_same now o None c = lost_same now o c
heard_same now o (Some a) c = or_lost_same now o c (answered_job now o o.job a c) (job_same now o o.job a c)

-- ---- event by event

-- by what the side comes to
at_side : (n : List ℕ) (a : Side) (e : CoreEvent) (x y : Side) (o : Result Outcome StepFault) → y ≡ x → Touch n a e x o → Touch n a e y o
at_side n a e x y o same t = subst (λ (z : Side). Touch n a e z o) (sym same) t

abbrev Touches : Core → CoreEvent → Stepped → Type 0
Touches c e s = Touch c.settings.namespace (side c) e (side s.core) s.outcome

read_touches : (ticket : ℕ) (q : Request) (word : ℕ) (m : Moment) (a : Asked) (c : Core) → Touches c (event.Ask ticket q word) (read_is_asked m a c)
read_touches ticket q word m a c = by_stage (decided_ask m (ground_of (reads_of c)) a).stage
  where
    by_stage : (s : Stage) → Touches c (event.Ask ticket q word) (read_by s c (with_reads c (read_asked m a (reads_of c))))
    by_stage (stage.Calling s) = leaves (event.Ask ticket q word) _ refl
    by_stage stage.Acquiring = leaves (event.Ask ticket q word) _ refl
    by_stage stage.Joined = leaves (event.Ask ticket q word) _ refl
    by_stage stage.Behind = leaves (event.Ask ticket q word) _ refl
    by_stage stage.Writes = leaves (event.Ask ticket q word) _ refl
    by_stage (stage.Grouped s) = leaves (event.Ask ticket q word) _ refl
    by_stage (stage.Replied v) = leaves (event.Ask ticket q word) _ refl

answered_touches : (ticket : ℕ) (q : Request) (word : ℕ) (o : Option Body) (a : Asked) (c : Core) → Touches c (event.Ask ticket q word) (answered_or_called o a c)
answered_touches ticket q word None a c = leaves (event.Ask ticket q word) _ refl
answered_touches ticket q word (Some b) a c = leaves (event.Ask ticket q word) _ refl

taken_touches : (ticket : ℕ) (q : Request) (word : ℕ) (m : Moment) (a : Asked) (c : Core) → Touches c (event.Ask ticket q word) (taken_in m a c)
taken_touches ticket q word m a c =
    let other = answered_or_called (if_live m.session (held_body c.own.entries a.request)) a c in
    either (Touches c (event.Ask ticket q word)) (leases c) (leased_ask m a c) (call_is_asked a c)
    (either (Touches c (event.Ask ticket q word)) (is_leased_read c.own.waits.prefix a.request) (read_is_asked m a c) (cond (writes_keys a.request) (write_is_asked a c) other)
    (read_touches ticket q word m a c)
    (either (Touches c (event.Ask ticket q word)) (writes_keys a.request) (write_is_asked a c) other (leaves (event.Ask ticket q word) _ refl) (answered_touches ticket q word (if_live m.session (held_body c.own.entries a.request)) a c)))
    (leaves (event.Ask ticket q word) _ refl)

request_touches : (q : Request) (now ticket word : ℕ) (c : Core) → watch_at ticket c.watches.watches ≡ None → Touches c (event.Ask ticket q word) (request_asked q (moment c now) (asked_at now ticket q word) c)
request_touches (request.Watch ask) now ticket word c n = joins ticket ask word n
request_touches (request.Range ask) now ticket word c n = taken_touches ticket (request.Range ask) word (moment c now) (asked_at now ticket (request.Range ask) word) c
request_touches (request.Put ask) now ticket word c n = taken_touches ticket (request.Put ask) word (moment c now) (asked_at now ticket (request.Put ask) word) c
request_touches (request.Delete ask) now ticket word c n = taken_touches ticket (request.Delete ask) word (moment c now) (asked_at now ticket (request.Delete ask) word) c
request_touches (request.Txn t) now ticket word c n = taken_touches ticket (request.Txn t) word (moment c now) (asked_at now ticket (request.Txn t) word) c
request_touches (request.Compact revision physical) now ticket word c n = taken_touches ticket (request.Compact revision physical) word (moment c now) (asked_at now ticket (request.Compact revision physical) word) c
request_touches (request.Grant ttl lease) now ticket word c n = taken_touches ticket (request.Grant ttl lease) word (moment c now) (asked_at now ticket (request.Grant ttl lease) word) c
request_touches (request.Revoke lease) now ticket word c n = taken_touches ticket (request.Revoke lease) word (moment c now) (asked_at now ticket (request.Revoke lease) word) c
request_touches (request.KeepAlive lease) now ticket word c n = taken_touches ticket (request.KeepAlive lease) word (moment c now) (asked_at now ticket (request.KeepAlive lease) word) c
request_touches (request.TimeToLive lease keys) now ticket word c n = taken_touches ticket (request.TimeToLive lease keys) word (moment c now) (asked_at now ticket (request.TimeToLive lease keys) word) c
request_touches request.Leases now ticket word c n = taken_touches ticket request.Leases word (moment c now) (asked_at now ticket request.Leases word) c

unknown : (ticket : ℕ) (c : Core) → is_known ticket c ≡ false → watch_at ticket c.watches.watches ≡ None
unknown ticket c e = none (is_some (ask_at ticket c.asks)) (watch_at ticket c.watches.watches) e
  where
    none : (b : Bool) (o : Option Watch) → (b || is_some o) ≡ false → o ≡ None
    none b None e = refl
    none true (Some w) e = absurd (cc)
    none false (Some w) e = absurd (cc)

ask_touches : (now ticket : ℕ) (q : Request) (word : ℕ) (c : Core) → Touches c (event.Ask ticket q word) (on_ask now ticket q word c)
unfolding on_ask
ask_touches now ticket q word c =
    either_so (Touches c (event.Ask ticket q word)) (is_known ticket c) (faults c (fault.TicketUsed ticket)) (refused_or_taken (refusal_of c.own.waits.prefix q) (moment c now) (asked_at now ticket q word) c)
    (λ k. leaves _ _ refl) (λ k. by_refusal k (refusal_of c.own.waits.prefix q))
  where
    by_refusal : is_known ticket c ≡ false → (r : Option Refusal) → Touches c (event.Ask ticket q word) (refused_or_taken r (moment c now) (asked_at now ticket q word) c)
    by_refusal k None = request_touches q now ticket word c (unknown ticket c k)
    by_refusal k (Some r) = leaves _ _ refl

answered_touches_as : (now call : ℕ) (o : OutCall) (a : Answer) (c : Core) → Touch c.settings.namespace (side c) (event.Answer call a) (side (answered_call now o a c)) (Ok outcome.Noted)
answered_touches_as now call o (answer.Done reply) c =
    at_side c.settings.namespace (side c) _ _ _ _ (heard_same now o (heard c.settings.namespace (answer.Done reply)) (header_taken reply.header c)) (hears call reply (Ok outcome.Noted) refl)
answered_touches_as now call o (answer.Refused r) c =
    at_side c.settings.namespace (side c) _ _ _ _ (heard_same now o (heard c.settings.namespace (answer.Refused r)) c) (leaves _ (Ok outcome.Noted) refl)

answer_touches : (now call : ℕ) (a : Answer) (x : Option OutCall) (c : Core) → Touches c (event.Answer call a) (answer_of now call a x c)
answer_touches now call a None c = leaves _ _ refl
answer_touches now call a (Some o) c = answered_touches_as now call o a (call_gone call c)

loss_touches : (now call : ℕ) (x : Option OutCall) (c : Core) → Touches c (event.Lost call) (loss_of now call x c)
loss_touches now call None c = leaves _ _ refl
loss_touches now call (Some o) c = at_side c.settings.namespace (side c) _ (side c) (side (lost_call now o (call_gone call c))) (Ok outcome.Noted) (lost_same now o (call_gone call c)) (leaves _ (Ok outcome.Noted) refl)

tick_touches : (now word : ℕ) (c : Core) → Touches c (event.Tick word) (on_tick now word c)
unfolding on_tick
tick_touches now word c =
    by_leasing (leases c)
  where
    by_opening : (o : Option Opening) → c.leasing ≡ o → Touch c.settings.namespace (side c) (event.Tick word) (side (leasing_ticked o (record c { seat = Some (seat_ticked word c.settings.ttl c.own.waits.step now c.seat) }))) (Ok outcome.Noted)
    by_opening None e = ticks word
    by_opening (Some o) e = leaves _ (Ok outcome.Noted) refl

    by_leasing : (b : Bool) → Touch c.settings.namespace (side c) (event.Tick word) (side (cond b (ticked now word c) c)) (Ok outcome.Noted)
    by_leasing true = by_opening c.leasing refl
    by_leasing false = leaves _ (Ok outcome.Noted) refl

-- a message of the leasing stream, where `a` is the side before it and `c` has heard its header
abbrev Leased : List ℕ → Side → ℕ → WatchItem → Side → Side → Type 0
Leased n a number x c d = (c ≡ record a { header = later_header a.header (item_header x) }) → a.leasing ≡ Some number → Touch n a (event.Item number x) d (Ok outcome.Noted)

kept_leasing : (n : List ℕ) (a : Side) (number : ℕ) (x : WatchItem) (c d : Side) → d ≡ c → Leased n a number x c d
kept_leasing n a number x c d same e l = at_side n a _ _ d _ (same ∙ e) (heard_leasing number x l)

anew_leasing : (n : List ℕ) (a : Side) (number : ℕ) (x : WatchItem) (c d : Side) → d ≡ numbered_anew c c.header → Leased n a number x c d
anew_leasing n a number x c d same e l = at_side n a _ _ d _ (same ∙ ap (λ (b : Side). numbered_anew b b.header) e) (broke_leasing number x l)

same_number_as : (c : Core) (o : Opening) (l : Option ℕ) → c.leasing ≡ Some o → l ≡ Some o.number → record { broadcasts = c.watches; header = c.header; leasing = l } ≡ side c
same_number_as c o l e f = ap (λ (m : Option ℕ). record { broadcasts = c.watches; header = c.header; leasing = m }) (f ∙ sym (ap number_of e))

leasing_message_touches : (n : List ℕ) (a : Side) (now number : ℕ) (whole x : WatchItem) (o : Opening) (c : Core) → c.leasing ≡ Some o → Leased n a number whole (side c) (side (leasing_message now o x c))
leasing_message_touches n a now number whole (item.Created h) o c e =
    either (λ (d : Core). Leased n a number whole (side c) (side d)) o.stream.created c _ (kept_leasing n a number whole (side c) (side c) refl) (kept_leasing n a number whole (side c) _ (same_number_as c o _ e refl))
leasing_message_touches n a now number whole (item.Events h es) o c e =
    either (λ (d : Core). Leased n a number whole (side c) (side d)) (is_readable o.stream es) _ (leasing_cut o c) (kept_leasing n a number whole (side c) _ (same_number_as c o _ e refl)) (anew_leasing n a number whole (side c) _ refl)
leasing_message_touches n a now number whole (item.Canceled h compaction) o c e =
    either (λ (d : Core). Leased n a number whole (side c) (side d)) (compaction == 0) (leasing_cut o c) _ (anew_leasing n a number whole (side c) _ refl) (anew_leasing n a number whole (side c) _ refl)

leasing_unwrapped : (n : List ℕ) (a : Side) (now number : ℕ) (whole : WatchItem) (u : Unwrapped WatchItem) (o : Opening) (c : Core) → c.leasing ≡ Some o → Leased n a number whole (side c) (side (leasing.unwrapped_message now o u c))
leasing_unwrapped n a now number whole (Ok x) o c e = leasing_message_touches n a now number whole x o c e
leasing_unwrapped n a now number whole (Err foreign) o c e = anew_leasing n a number whole (side c) _ refl

leasing_sent : (n : List ℕ) (a : Side) (now number : ℕ) (x : WatchItem) (s : Option ℕ) (o : Opening) (c : Core) → c.leasing ≡ Some o → Leased n a number x (side c) (side (message_if_sent now o s x c))
leasing_sent n a now number x None o c e = leasing_unwrapped n a now number x (item_without c.settings.namespace x) o c e
leasing_sent n a now number x (Some since) o c e = kept_leasing n a number x (side c) (side c) refl

-- the leasing stream of this number
opening_is : (number : ℕ) (l : Option Opening) (o : Opening) → opening_at number l ≡ Some o → (l ≡ Some o) × (o.number ≡ number)
opening_is number None o e = absurd (cc)
opening_is number (Some p) o e = by (p.number == number) refl e
  where
    equal : (x y : ℕ) → (x == y) ≡ true → x ≡ y
    equal x y q = grind (arith, nat_tests)

    by : (b : Bool) → (p.number == number) ≡ b → cond b (Some p) None ≡ Some o → (Some p ≡ Some o) × (o.number ≡ number)
    by true q f = let one : p ≡ o = cc in (f, ap (λ (z : Opening). z.number) (sym one) ∙ equal p.number number q)
    by false q f = absurd (cc)

text_touches : (s : Stream) (x : WatchItem) (c : Core) → side (stream_message s x c) ≡ record (side c) { broadcasts = told_message c.watches s c.header x }
text_touches s (item.Created h) c = refl
text_touches s (item.Events h es) c = refl
text_touches s (item.Canceled h compaction) c = refl

unwrapped_touches : (s : Stream) (u : Unwrapped WatchItem) (c : Core) → side (watching.unwrapped_message s u c) ≡ record (side c) { broadcasts = told_unwrapped c.watches s c.header u }
unwrapped_touches s (Ok x) c = text_touches s x c
unwrapped_touches s (Err foreign) c = refl

begun_touches : (b : Bool) (s : Stream) (u : Unwrapped WatchItem) (c : Core) → side (cond b (watching.unwrapped_message s u c) c) ≡ record (side c) { broadcasts = cond b (told_unwrapped c.watches s c.header u) c.watches }
begun_touches true s u c = unwrapped_touches s u c
begun_touches false s u c = refl

client_item_touches : (number : ℕ) (x : WatchItem) (s : Option Stream) (c : Core) → stream_at number c.watches.streams ≡ s → Touches c (event.Item number x) (client_item number x s c)
client_item_touches number x None c e = leaves _ _ refl
client_item_touches number x (Some s) c e =
    let d = header_taken (item_header x) c in
    at_side c.settings.namespace (side c) _ _ _ _ (begun_touches (is_begun s.phase) s (item_without c.settings.namespace x) d) (told number x s e)

item_touches : (now number : ℕ) (x : WatchItem) (o : Option Opening) (c : Core) → opening_at number c.leasing ≡ o → Touches c (event.Item number x) (item_of now number x o c)
item_touches now number x None c e = client_item_touches number x (stream_at number c.watches.streams) c refl
item_touches now number x (Some o) c e =
    let p = opening_is number c.leasing o e in
    let d = header_taken (item_header x) c in
    leasing_sent c.settings.namespace (side c) now number x o.due o d p.0 refl (ap number_of p.0 ∙ ap (λ (k : ℕ). Some k) p.1)

client_cut_touches : (number : ℕ) (s : Option Stream) (c : Core) → stream_at number c.watches.streams ≡ s → Touches c (event.Cut number) (client_cut number s c)
client_cut_touches number None c e = leaves _ _ refl
client_cut_touches number (Some s) c e = cut number s e

cut_touches : (number : ℕ) (o : Option Opening) (c : Core) → opening_at number c.leasing ≡ o → Touches c (event.Cut number) (cut_of number o c)
cut_touches number None c e = client_cut_touches number (stream_at number c.watches.streams) c refl
cut_touches number (Some o) c e =
    let p = opening_is number c.leasing o e in
    cut_leasing number (ap number_of p.0 ∙ ap (λ (k : ℕ). Some k) p.1)

item_taken_touches : (ticket : ℕ) (w : Option Watch) (c : Core) → watch_at ticket c.watches.watches ≡ w → Touches c (event.Take ticket) (item_taken ticket w c)
item_taken_touches ticket None c e = leaves _ _ refl
item_taken_touches ticket (Some w) c e = by_queue w.queue refl
  where
    by_queue : (q : List WatchItem) → w.queue ≡ q → Touches c (event.Take ticket) (taken_item c (watches.taken_from c.watches c.header w q))
    by_queue [] f = leaves _ _ refl
    by_queue (i ∷ is) f =
        at_side c.settings.namespace (side c) _ _ _ _ (ap (λ (q : List WatchItem). record (side c) { broadcasts = (watches.taken_from c.watches c.header w q).0 }) (sym f)) (took ticket w i is e f)

take_by_stage : (ticket : ℕ) (s : Stage) (c : Core) → Touches c (event.Take ticket) (takes.taken_from ticket s c)
take_by_stage ticket (stage.Calling s) c = leaves _ _ refl
take_by_stage ticket stage.Acquiring c = leaves _ _ refl
take_by_stage ticket stage.Joined c = leaves _ _ refl
take_by_stage ticket stage.Behind c = leaves _ _ refl
take_by_stage ticket stage.Writes c = leaves _ _ refl
take_by_stage ticket (stage.Grouped s) c = leaves _ _ refl
take_by_stage ticket (stage.Replied v) c = leaves _ _ refl

take_touches : (ticket : ℕ) (o : Option Asked) (c : Core) → Touches c (event.Take ticket) (taken ticket o c)
take_touches ticket None c = item_taken_touches ticket (watch_at ticket c.watches.watches) c refl
take_touches ticket (Some a) c = take_by_stage ticket a.stage c

leave_touches : (now ticket : ℕ) (o : Option Asked) (c : Core) → Touches c (event.Leave ticket) (left now ticket o c)
leave_touches now ticket None c = by_watch (watch_at ticket c.watches.watches)
  where
    by_watch : (w : Option Watch) → Touches c (event.Leave ticket) (watcher_left ticket w c)
    by_watch None = leaves _ _ refl
    by_watch (Some w) = left_it ticket
leave_touches now ticket (Some a) c = leaves _ _ refl

-- ---- the first job

-- where a due job of the leasing stream comes from
abbrev IsOpening : Core → DueJob → Type 0
IsOpening c (ToOpen o) = c.leasing ≡ Some o
IsOpening c (ForStream s) = IsAmong s c.watches.streams
IsOpening c _ = Unit {0}

abbrev Openings : Core → List Placed → Type 0
Openings c [] = Unit {0}
Openings c (p ∷ ps) = IsOpening c p.job × Openings c ps

openings-append : (c : Core) (xs ys : List Placed) → Openings c xs → Openings c ys → Openings c (xs ++ ys)
openings-append c [] ys h k = k
openings-append c (x ∷ xs) ys h k = (h.0, openings-append c xs ys h.1 k)

openings-flat : {A : Type 0} (c : Core) (f : A → List Placed) → ((x : A) → Openings c (f x)) → (xs : List A) → Openings c (flat_map f xs)
openings-flat c f h [] = tt
openings-flat c f h (x ∷ xs) = openings-append c (f x) (flat_map f xs) (h x) (openings-flat c f h xs)

writes_openings : (c : Core) (o : Option Place) → Openings c (due_writes o)
writes_openings c None = tt
writes_openings c (Some p) = (tt, tt)

if_due_openings : (c : Core) (s : Sending) (f : ℕ → Placed) → ((n : ℕ) → IsOpening c (f n).job) → Openings c (if_due s f)
if_due_openings c (sending.Due since) f h = (h since, tt)
if_due_openings c (sending.Out call) f h = tt

stage_openings : (c : Core) (a : Asked) (s : Stage) → Openings c (due_stage a s)
stage_openings c a (stage.Calling s) = if_due_openings c s _ (λ n. tt)
stage_openings c a stage.Acquiring = tt
stage_openings c a stage.Joined = tt
stage_openings c a stage.Behind = tt
stage_openings c a stage.Writes = tt
stage_openings c a (stage.Grouped None) = tt
stage_openings c a (stage.Grouped (Some s)) = if_due_openings c s _ (λ n. tt)
stage_openings c a (stage.Replied v) = tt

opening_openings : (c : Core) (o : Option Opening) → c.leasing ≡ o → Openings c (due_opening o)
opening_openings c None e = tt
opening_openings c (Some o) e = by_due o.due
  where
    by_due : (d : Option ℕ) → Openings c (due_at o d)
    by_due None = tt
    by_due (Some since) = (e, tt)

stream_openings : (c : Core) (s : Stream) (p : StreamPhase) → IsAmong s c.watches.streams → Openings c (due_phase s p)
stream_openings c s (phase.Due since) i = (i, tt)
stream_openings c s (phase.Closing since) i = (i, tt)
stream_openings c s phase.Begun i = tt

streams_openings : (c : Core) (ss : List Stream) → ((s : Stream) → IsAmong s ss → IsAmong s c.watches.streams) → Openings c (flat_map due_stream ss)
streams_openings c [] h = tt
streams_openings c (s ∷ ss) h =
    openings-append c (due_stream s) (flat_map due_stream ss) (stream_openings c s s.phase (h s (inl refl))) (streams_openings c ss (λ t i. h t (inr i)))

jobs_openings : (c : Core) → Openings c (due_jobs c)
jobs_openings c =
    let writes = due_writes (first_place c.own.waits.writes) in
    let acquires = flat_map due_acquire c.acquires in
    let asks = flat_map due_ask c.asks in
    openings-append c (writes ++ acquires ++ asks ++ due_opening c.leasing) (flat_map due_stream c.watches.streams)
    (openings-append c (writes ++ acquires ++ asks) (due_opening c.leasing)
    (openings-append c (writes ++ acquires) asks
    (openings-append c writes acquires (writes_openings c (first_place c.own.waits.writes)) (openings-flat c due_acquire (λ x. if_due_openings c x.1.sending _ (λ n. tt)) c.acquires))
    (openings-flat c due_ask (λ a. stage_openings c a a.stage) c.asks))
    (opening_openings c c.leasing refl))
    (streams_openings c c.watches.streams (λ s i. i))

abbrev PlacedFrom : Core → Option Placed → Type 0
PlacedFrom c None = Unit {0}
PlacedFrom c (Some p) = IsOpening c p.job

earliest_from : (c : Core) (o : Option Placed) (ps : List Placed) → PlacedFrom c o → Openings c ps → PlacedFrom c (earliest o ps)
earliest_from c o [] h i = h
earliest_from c o (p ∷ ps) h i = earliest_from c (Some (earlier o p)) ps (chosen o h) i.1
  where
    chosen : (x : Option Placed) → PlacedFrom c x → IsOpening c (earlier x p).job
    chosen None t = i.0
    chosen (Some q) t = either (λ z. IsOpening c z.job) (is_earlier p.place q.place) p q i.0 t

abbrev JobFrom : Core → Option DueJob → Type 0
JobFrom c None = Unit {0}
JobFrom c (Some j) = IsOpening c j

job_from : (c : Core) (o : Option Placed) → PlacedFrom c o → JobFrom c (job_of o)
job_from c None h = tt
job_from c (Some p) h = h

rescind_from : (c : Core) (b : Bool) (o : Option DueJob) → JobFrom c o → JobFrom c (rescind_or b o)
rescind_from c true o h = tt
rescind_from c false o h = h

session_from : (c : Core) (s : Option Seat) → JobFrom c (session_job s)
session_from c None = tt
session_from c (Some s) = by_call s.call
  where
    by_call : (o : Option Sending) → JobFrom c (session_job_of s.session o)
    by_call None = tt
    by_call (Some (sending.Due since)) = tt
    by_call (Some (sending.Out call)) = tt

first_from : (c : Core) → JobFrom c (first_job c)
first_from c = by_session (session_job c.seat) (session_from c c.seat)
  where
    others : JobFrom c (rescind_or (is_some (first_rescind c.own.entries)) (job_of (earliest None (due_jobs c))))
    others = rescind_from c (is_some (first_rescind c.own.entries)) _ (job_from c (earliest None (due_jobs c)) (earliest_from c None (due_jobs c) tt (jobs_openings c)))

    by_session : (o : Option DueJob) → JobFrom c o → JobFrom c (or_else o (rescind_or (is_some (first_rescind c.own.entries)) (job_of (earliest None (due_jobs c)))))
    by_session None t = others
    by_session (Some j) t = t

-- ---- what is sent

writes_sent_touches : (now : ℕ) (x : Option JobSent) (c : Core) → Touches c event.Work (writes_sent now x c)
writes_sent_touches now None c = leaves _ _ refl
writes_sent_touches now (Some x) c = leaves _ _ refl

stream_job_side : (o : Option StreamJob) (c : Core) → Same c (stream_job o c).core
stream_job_side None c = refl
stream_job_side (Some (stream.Close number)) c = refl
stream_job_side (Some (stream.Open number range start)) c = refl

work_touches : (now : ℕ) (j : Option DueJob) (c : Core) → JobFrom c j → Touches c event.Work (sent_by now j c)
work_touches now None c l = leaves _ _ refl
work_touches now (Some (ForSession s)) c l = leaves _ _ refl
work_touches now (Some ForWrites) c l = writes_sent_touches now (job_sent (next_call c) c.own) c
work_touches now (Some (ForAcquire k x)) c l = leaves _ _ refl
work_touches now (Some (ForAsk a)) c l = leaves _ _ refl
work_touches now (Some (ForGroup lease ticket)) c l = leaves _ _ refl
work_touches now (Some (ToOpen o)) c l =
    let is = l in
    at_side c.settings.namespace (side c) _ (side c) _ _ (same_number_as c o _ is refl) (opens_leasing o.number c.members.current _ (ap number_of is))
work_touches now (Some (ForStream s)) c l =
    at_side c.settings.namespace (side c) _ _ _ _ (stream_job_side (next_job c.watches (Some s)).1 (with_watches c (next_job c.watches (Some s)).0)) (sends c s refl refl l)

-- ---- the whole step

happened_touches : (now : ℕ) (e : CoreEvent) (c : Core) → Touches c e (happened now e c)
unfolding on_answer on_lost on_item on_cut on_take on_leave on_work
happened_touches now (event.Ask ticket q word) c = ask_touches now ticket q word c
happened_touches now (event.Answer call a) c = answer_touches now call a (out_at call c.out) c
happened_touches now (event.Lost call) c = loss_touches now call (out_at call c.out) c
happened_touches now (event.Tick word) c = tick_touches now word c
happened_touches now (event.Item number x) c = item_touches now number x (opening_at number c.leasing) c refl
happened_touches now (event.Cut number) c = cut_touches number (opening_at number c.leasing) c refl
happened_touches now (event.Take ticket) c = take_touches ticket (ask_at ticket c.asks) c
happened_touches now (event.Leave ticket) c = leave_touches now ticket (ask_at ticket c.asks) c
happened_touches now event.Work c = work_touches now (first_job c) c (first_from c)

counted_touches : (c : Core) (e : CoreEvent) (s : Stepped) → Touches c e s → Touches c e (counted s)
counted_touches c e s t = by_outcome s.outcome t
  where
    by_outcome : (o : Result Outcome StepFault) → Touch c.settings.namespace (side c) e (side s.core) o → Touches c e (counted_by s.core o)
    by_outcome (Ok o) h = h
    by_outcome (Err f) h = h

clock_settings : (now : ℕ) (c : Core) → (clock_work now c).settings ≡ c.settings
unfolding clock_work
clock_settings now c = either (λ (d : Core). d.settings ≡ c.settings) (seat_is_over c.seat now) (without_session now (begun c)) (begun c) refl refl

-- a proxy that is worn is left as it was
pub step_touches : (c : Core) (e : CoreEvent) (now : ℕ)
    → (stepped c e now ≡ faults c fault.Worn)
    ⊎ Touch c.settings.namespace (record (side c) { broadcasts = with_step c.watches c.steps }) e (side (stepped c e now).core) (stepped c e now).outcome
unfolding stepped
step_touches c e now =
    let d = clock_work now c in
    let t : Touches d e (counted (happened now e d)) = counted_touches d e (happened now e d) (happened_touches now e d) in
    let s : Stepped = counted (happened now e d) in
    either (λ (s : Stepped). (s ≡ faults c fault.Worn) ⊎ Touch c.settings.namespace (record (side c) { broadcasts = with_step c.watches c.steps }) e (side s.core) s.outcome) (is_worn c) (faults c fault.Worn) s
    (inl refl)
    (inr (subst (λ (a : Side). Touch c.settings.namespace a e (side s.core) s.outcome) (clock_same now c)
    (subst (λ (g : Settings). Touch g.namespace (side d) e (side s.core) s.outcome) (clock_settings now c) t)))

-- ---- a reply that is fetched

tickets : List Asked → List ℕ
tickets [] = []
tickets (a ∷ rest) = a.ticket ∷ tickets rest

has_one : ℕ → List ℕ → Bool
has_one ticket [] = false
has_one ticket (n ∷ ns) = cond (n == ticket) true (has_one ticket ns)

found_by : (ticket : ℕ) (xs : List Asked) → is_some (ask_at ticket xs) ≡ has_one ticket (tickets xs)
unfolding tickets has_one
found_by ticket [] = refl
found_by ticket (a ∷ rest) = elim (a.ticket == ticket) as (λ b. is_some (cond b (Some a) (ask_at ticket rest)) ≡ cond b true (has_one ticket (tickets rest))) [ true ↦ refl | false ↦ found_by ticket rest ]

released_ticket : (again : Bool) (m : Moment) (g : Ground) (a : Asked) → (released_ask again m g a).ticket ≡ a.ticket
released_ticket again m g a =
    either (λ (x : Asked). x.ticket ≡ a.ticket) (ask_stands g a) a _ refl (either (λ (x : Asked). x.ticket ≡ a.ticket) again (decided_ask m g a) _ refl refl)

released_tickets : (again : Bool) (m : Moment) (g : Ground) (xs : List Asked) → tickets (released_from again m g xs).asks ≡ tickets xs
unfolding released_from tickets
released_tickets again m g [] = refl
released_tickets again m g (a ∷ rest) = λ i. released_ticket again m g a i ∷ released_tickets again m (released_ground again m g a) rest i

timed_tickets : (now : ℕ) (xs : List Asked) → tickets (map (timed_out_ask now) xs) ≡ tickets xs
unfolding tickets
timed_tickets now [] = refl
timed_tickets now (a ∷ rest) = λ i. either (λ (x : Asked). x.ticket ≡ a.ticket) (times_out now a) (in_stage (stage.Replied verdict.TimedOut) a) a refl refl i ∷ timed_tickets now rest i

clock_tickets : (now : ℕ) (c : Core) → tickets (clock_work now c).asks ≡ tickets c.asks
unfolding clock_work
clock_tickets now c =
    let d = deadline_passed now (begun c) in
    released_tickets false (moment d now) _ (map (timed_out_ask now) d.asks) ∙ timed_tickets now d.asks
    ∙ either (λ (e : Core). tickets e.asks ≡ tickets c.asks) (seat_is_over c.seat now) (without_session now (begun c)) (begun c) (released_tickets false (moment (record (begun c) { seat = None }) now) _ c.asks) refl

ready_has : (least : Option ℕ) (xs : List Asked) (ticket : ℕ) → least_ready least xs ≡ Some ticket → (least ≡ Some ticket) ⊎ (has_one ticket (tickets xs) ≡ true)
unfolding tickets has_one
ready_has least [] ticket e = inl e
ready_has least (a ∷ rest) ticket e = by (is_replied a.stage) (ready_has (cond (is_replied a.stage) (Some (lesser least a.ticket)) least) rest ticket e)
  where
    same : (n : ℕ) → (n == n) ≡ true
    same n = grind (arith, nat_tests)

    later : has_one ticket (tickets rest) ≡ true → cond (a.ticket == ticket) true (has_one ticket (tickets rest)) ≡ true
    later h = elim (a.ticket == ticket) as (λ b. cond b true (has_one ticket (tickets rest)) ≡ true) [ true ↦ refl | false ↦ h ]

    here : a.ticket ≡ ticket → cond (a.ticket == ticket) true (has_one ticket (tickets rest)) ≡ true
    here h = ap (λ b. cond b true (has_one ticket (tickets rest))) (ap (λ (n : ℕ). a.ticket == n) (sym h) ∙ same a.ticket)

    some_number : (x y : ℕ) → Some x ≡ Some y → x ≡ y
    some_number x y e = cc

    least_of : (o : Option ℕ) → Some (lesser o a.ticket) ≡ Some ticket → (o ≡ Some ticket) ⊎ (a.ticket ≡ ticket)
    least_of None h = inr (some_number a.ticket ticket h)
    least_of (Some m) h = elim (nat_le m a.ticket) as (λ b. Some (cond b m a.ticket) ≡ Some ticket → (Some m ≡ Some ticket) ⊎ (a.ticket ≡ ticket)) [
      | true ↦ λ h. inl h
      | false ↦ λ h. inr (some_number a.ticket ticket h)
    ] h

    by : (b : Bool) → (cond b (Some (lesser least a.ticket)) least ≡ Some ticket) ⊎ (has_one ticket (tickets rest) ≡ true) → (least ≡ Some ticket) ⊎ (cond (a.ticket == ticket) true (has_one ticket (tickets rest)) ≡ true)
    by b (inr h) = inr (later h)
    by false (inl h) = inl h
    by true (inl h) = elim (least_of least h) [ inl x ↦ inl x | inr y ↦ inr (here y) ]

none_yet : {A : Type 0} (ticket : ℕ) → ◌≡◌ {A = Option ℕ} None (Some ticket) → A
none_yet ticket e = absurd (cc)

ready_asked : (c : Core) (ticket : ℕ) → ready c ≡ Some ticket → has_one ticket (tickets c.asks) ≡ true
ready_asked c ticket e = elim (ready_has None c.asks ticket e) [ inl h ↦ none_yet ticket h | inr h ↦ h ]

-- the same but for the step that it counts
abbrev pub Aged : Side → Side → Type 0
Aged a b = (n : ℕ) × (b ≡ record a { broadcasts = with_step a.broadcasts n })

pub aged_itself : (a : Side) → Aged a a
aged_itself a = (a.broadcasts.step, refl)

pub aged_on : (a b c : Side) → Aged a b → Aged b c → Aged a c
aged_on a b c h k = (k.0, k.1 ∙ ap (λ (z : Side). record z { broadcasts = with_step z.broadcasts k.0 }) h.1)

asked_taken : (c : Core) (ticket : ℕ) → is_some (ask_at ticket c.asks) ≡ true → Same c (counted (on_take ticket c)).core
unfolding on_take
asked_taken c ticket h = by (ask_at ticket c.asks) h
  where
    by_stage : (s : Stage) → Same c (counted (takes.taken_from ticket s c)).core
    by_stage (stage.Calling s) = refl
    by_stage stage.Acquiring = refl
    by_stage stage.Joined = refl
    by_stage stage.Behind = refl
    by_stage stage.Writes = refl
    by_stage (stage.Grouped s) = refl
    by_stage (stage.Replied v) = refl

    by : (o : Option Asked) → is_some o ≡ true → Same c (counted (taken ticket o c)).core
    by None h = absurd (cc)
    by (Some a) h = by_stage a.stage

-- a reply that stands ready is fetched with no look at the watches
pub fetch_ages : (c : Core) (ticket now : ℕ) → ready c ≡ Some ticket → Aged (side c) (side (stepped c (event.Take ticket) now).core)
unfolding stepped
fetch_ages c ticket now e =
    let d = clock_work now c in
    let there : is_some (ask_at ticket d.asks) ≡ true = found_by ticket d.asks ∙ ap (has_one ticket) (clock_tickets now c) ∙ ready_asked c ticket e in
    either (λ (s : Stepped). Aged (side c) (side s.core)) (is_worn c) (faults c fault.Worn) (counted (on_take ticket d))
    (aged_itself (side c))
    (c.steps, asked_taken d ticket there ∙ clock_same now c)
