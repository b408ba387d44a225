-- What each event gives, by its cases.
use Rattle.std.proofs.Common.{◌≡◌, ℕ, Bool, true, false, cond, Option, None, Some, refl, ap}
use Rattle.etcd_types.specs.declared.answer.Answer.{Answer}
use Rattle.etcd_types.specs.declared.answer.Body.{Body}
use Rattle.etcd_types.specs.declared.answer.Refusal.{Refusal}
use Rattle.etcd_types.specs.declared.request.Request.{Request}
use Rattle.etcd_types.specs.declared.request.Request.TheVariants as request
use Rattle.etcd_types.specs.declared.watch.WatchItem.{WatchItem}
use Rattle.watch_model.specs.declared.stream.StreamJob.{StreamJob}
use Rattle.watch_model.specs.declared.stream.StreamJob.TheVariants as stream
use Rattle.watch_model.specs.Due.{next_job}
use Rattle.watch_model.specs.Lookups.{stream_at, watch_at}
use Rattle.watch_model.specs.State.{Stream, Watch, Broadcasts}
use Rattle.watch_model.specs.Takes.{taken_from}
use Rattle.wait_model.specs.Sent.{JobSent, job_sent}
use Rattle.read_model.specs.declared.asked.Asked.{Asked}
use Rattle.read_model.specs.declared.asked.Stage.{Stage}
use Rattle.read_model.specs.declared.asked.Stage.TheVariants as stage
use Rattle.read_model.specs.Acquires.{read_asked}
use Rattle.read_model.specs.PlainRead.{decided_ask}
use Rattle.read_model.specs.State.{Moment, ground_of}
use Rattle.core_model.specs.declared.event.CoreEvent.{CoreEvent}
use Rattle.core_model.specs.declared.event.CoreEvent.TheVariants as event
use Rattle.core_model.specs.declared.event.Outcome.{Outcome}
use Rattle.core_model.specs.declared.event.Outcome.TheVariants as outcome
use Rattle.core_model.specs.declared.event.StepFault.TheVariants as fault
use Rattle.core_model.specs.declared.out_call.OutCall.{OutCall}
use Rattle.core_model.specs.Asking.{asked_at, is_leased_read, read_by, read_is_asked, write_is_asked, held_body, if_live, call_is_asked, answered_or_called, leased_ask, taken_in, request_asked, refused_or_taken, on_ask}
use Rattle.core_model.specs.ClockWork.{clock_work}
use Rattle.core_model.specs.DueJobs.{DueJob, ForSession, ForWrites, ForAcquire, ForAsk, ForGroup, ToOpen, ForStream, first_job}
use Rattle.core_model.specs.Ends.{answer_of, on_answer, loss_of, on_lost}
use Rattle.core_model.specs.Kinds.{writes_keys}
use Rattle.core_model.specs.Lookups.{leases, moment, reads_of, with_reads, ask_at, is_known, out_at}
use Rattle.core_model.specs.Refusals.{refusal_of}
use Rattle.core_model.specs.Sending.{next_call, writes_sent, sent_by, on_work}
use Rattle.core_model.specs.State.{Opening, Core}
use Rattle.core_model.specs.Step.{on_tick, opening_at, client_item, item_of, on_item, client_cut, cut_of, on_cut, happened, is_worn, stepped}
use Rattle.core_model.specs.Stepped.{Stepped, faults, counted}
use Rattle.core_model.specs.Takes.{item_taken, taken, on_take, watcher_left, left, on_leave}
use Rattle.core_model.specs.Takes as takes
use Rattle.core_model.specs.Watching.{taken_item, stream_job, with_watches}
use Rattle.core_laws.specs.Steps.Outcomes.{is_reply_or_wait, is_taken, is_job, is_noted, may_have, Gives, gave, faulted, WornDoesNothing, StepsGive}

by_test : {A : Type 0} (P : A → Type 0) (b : Bool) (x y : A) → P x → P y → P (cond b x y)
by_test P true x y f g = f
by_test P false x y f g = g

-- Ask.

read_gives : (c before after : Core) (s : Stage) → Gives is_reply_or_wait c (read_by s before after)
read_gives c before after (stage.Calling s) = gave outcome.Waiting refl refl
read_gives c before after stage.Acquiring = gave outcome.Waiting refl refl
read_gives c before after stage.Joined = gave outcome.Waiting refl refl
read_gives c before after stage.Behind = gave outcome.Waiting refl refl
read_gives c before after stage.Writes = gave outcome.Waiting refl refl
read_gives c before after (stage.Grouped s) = gave outcome.Waiting refl refl
read_gives c before after (stage.Replied v) = gave _ refl refl

called_gives : (c : Core) (o : Option Body) (a : Asked) → Gives is_reply_or_wait c (answered_or_called o a c)
called_gives c None a = gave outcome.Waiting refl refl
called_gives c (Some b) a = gave _ refl refl

leased_gives : (m : Moment) (a : Asked) (c : Core) → Gives is_reply_or_wait c (leased_ask m a c)
leased_gives m a c =
    by_test (Gives is_reply_or_wait c) (is_leased_read c.own.waits.prefix a.request) (read_is_asked m a c) (cond (writes_keys a.request) (write_is_asked a c) (answered_or_called (if_live m.session (held_body c.own.entries a.request)) a c))
    (read_gives c c (with_reads c (read_asked m a (reads_of c))) (decided_ask m (ground_of (reads_of c)) a).stage)
    (by_test (Gives is_reply_or_wait c) (writes_keys a.request) (write_is_asked a c) (answered_or_called (if_live m.session (held_body c.own.entries a.request)) a c)
    (gave outcome.Waiting refl refl)
    (called_gives c (if_live m.session (held_body c.own.entries a.request)) a))

taken_gives : (m : Moment) (a : Asked) (c : Core) → Gives is_reply_or_wait c (taken_in m a c)
taken_gives m a c = by_test (Gives is_reply_or_wait c) (leases c) (leased_ask m a c) (call_is_asked a c) (leased_gives m a c) (gave outcome.Waiting refl refl)

request_gives : (q : Request) (m : Moment) (a : Asked) (c : Core) → Gives is_reply_or_wait c (request_asked q m a c)
request_gives (request.Range ask) m a c = taken_gives m a c
request_gives (request.Put ask) m a c = taken_gives m a c
request_gives (request.Delete ask) m a c = taken_gives m a c
request_gives (request.Txn t) m a c = taken_gives m a c
request_gives (request.Compact revision physical) m a c = taken_gives m a c
request_gives (request.Grant ttl lease) m a c = taken_gives m a c
request_gives (request.Revoke lease) m a c = taken_gives m a c
request_gives (request.KeepAlive lease) m a c = taken_gives m a c
request_gives (request.TimeToLive lease keys) m a c = taken_gives m a c
request_gives request.Leases m a c = taken_gives m a c
request_gives (request.Watch ask) m a c = gave outcome.Waiting refl refl

refused_gives : (r : Option Refusal) (m : Moment) (a : Asked) (c : Core) → Gives is_reply_or_wait c (refused_or_taken r m a c)
refused_gives None m a c = request_gives a.request m a c
refused_gives (Some r) m a c = gave _ refl refl

ask_gives : (now ticket : ℕ) (q : Request) (word : ℕ) (c : Core) → Gives is_reply_or_wait c (on_ask now ticket q word c)
unfolding on_ask
ask_gives now ticket q word c =
    by_test (Gives is_reply_or_wait c) (is_known ticket c) (faults c (fault.TicketUsed ticket)) _ (faulted (fault.TicketUsed ticket) refl refl) (refused_gives (refusal_of c.own.waits.prefix q) (moment c now) (asked_at now ticket q word) c)

-- Answer, Lost, Tick, Item, Cut.

answer_gives : (now call : ℕ) (a : Answer) (o : Option OutCall) (c : Core) → Gives is_noted c (answer_of now call a o c)
answer_gives now call a None c = faulted (fault.NoSuchCall call) refl refl
answer_gives now call a (Some o) c = gave outcome.Noted refl refl

loss_gives : (now call : ℕ) (o : Option OutCall) (c : Core) → Gives is_noted c (loss_of now call o c)
loss_gives now call None c = faulted (fault.NoSuchCall call) refl refl
loss_gives now call (Some o) c = gave outcome.Noted refl refl

client_item_gives : (number : ℕ) (x : WatchItem) (o : Option Stream) (c : Core) → Gives is_noted c (client_item number x o c)
client_item_gives number x None c = faulted (fault.NoSuchStream number) refl refl
client_item_gives number x (Some s) c = gave outcome.Noted refl refl

item_gives : (now number : ℕ) (x : WatchItem) (o : Option Opening) (c : Core) → Gives is_noted c (item_of now number x o c)
item_gives now number x None c = client_item_gives number x (stream_at number c.watches.streams) c
item_gives now number x (Some o) c = gave outcome.Noted refl refl

client_cut_gives : (number : ℕ) (o : Option Stream) (c : Core) → Gives is_noted c (client_cut number o c)
client_cut_gives number None c = faulted (fault.NoSuchStream number) refl refl
client_cut_gives number (Some s) c = gave outcome.Noted refl refl

cut_gives : (number : ℕ) (o : Option Opening) (c : Core) → Gives is_noted c (cut_of number o c)
cut_gives number None c = client_cut_gives number (stream_at number c.watches.streams) c
cut_gives number (Some o) c = gave outcome.Noted refl refl

-- Take, Leave.

stage_gives : (ticket : ℕ) (s : Stage) (c : Core) → Gives is_taken c (takes.taken_from ticket s c)
stage_gives ticket (stage.Calling s) c = gave outcome.Pending refl refl
stage_gives ticket stage.Acquiring c = gave outcome.Pending refl refl
stage_gives ticket stage.Joined c = gave outcome.Pending refl refl
stage_gives ticket stage.Behind c = gave outcome.Pending refl refl
stage_gives ticket stage.Writes c = gave outcome.Pending refl refl
stage_gives ticket (stage.Grouped s) c = gave outcome.Pending refl refl
stage_gives ticket (stage.Replied v) c = gave _ refl refl

queue_gives : (c : Core) (b : Broadcasts) (o : Option WatchItem) → Gives is_taken c (taken_item c (b, o))
queue_gives c b None = gave outcome.Pending refl refl
queue_gives c b (Some x) = gave (outcome.Item x) refl refl

pair_gives : (c : Core) (x : Broadcasts × Option WatchItem) → Gives is_taken c (taken_item c x)
pair_gives c (b, o) = queue_gives c b o

watch_gives : (ticket : ℕ) (o : Option Watch) (c : Core) → Gives is_taken c (item_taken ticket o c)
watch_gives ticket None c = faulted (fault.NoSuchTicket ticket) refl refl
watch_gives ticket (Some w) c = pair_gives c (taken_from c.watches c.header w w.queue)

take_gives : (ticket : ℕ) (o : Option Asked) (c : Core) → Gives is_taken c (taken ticket o c)
take_gives ticket None c = watch_gives ticket (watch_at ticket c.watches.watches) c
take_gives ticket (Some a) c = stage_gives ticket a.stage c

watcher_gives : (ticket : ℕ) (o : Option Watch) (c : Core) → Gives is_noted c (watcher_left ticket o c)
watcher_gives ticket None c = faulted (fault.NoSuchTicket ticket) refl refl
watcher_gives ticket (Some w) c = gave outcome.Noted refl refl

leave_gives : (now ticket : ℕ) (o : Option Asked) (c : Core) → Gives is_noted c (left now ticket o c)
leave_gives now ticket None c = watcher_gives ticket (watch_at ticket c.watches.watches) c
leave_gives now ticket (Some a) c = gave outcome.Noted refl refl

-- Work.

writes_give : (now : ℕ) (o : Option JobSent) (c : Core) → Gives is_job c (writes_sent now o c)
writes_give now None c = gave (outcome.Job None) refl refl
writes_give now (Some x) c = gave _ refl refl

stream_gives : (o : Option StreamJob) (c d : Core) → Gives is_job c (stream_job o d)
stream_gives None c d = gave (outcome.Job None) refl refl
stream_gives (Some (stream.Close number)) c d = gave _ refl refl
stream_gives (Some (stream.Open number range start)) c d = gave _ refl refl

job_gives : (now : ℕ) (o : Option DueJob) (c : Core) → Gives is_job c (sent_by now o c)
job_gives now None c = gave (outcome.Job None) refl refl
job_gives now (Some (ForSession s)) c = gave _ refl refl
job_gives now (Some ForWrites) c = writes_give now (job_sent (next_call c) c.own) c
job_gives now (Some (ForAcquire k x)) c = gave _ refl refl
job_gives now (Some (ForAsk a)) c = gave _ refl refl
job_gives now (Some (ForGroup lease ticket)) c = gave _ refl refl
job_gives now (Some (ToOpen o)) c = gave _ refl refl
job_gives now (Some (ForStream s)) c = stream_gives (next_job c.watches (Some s)).1 c (with_watches c (next_job c.watches (Some s)).0)

-- The step.

event_gives : (now : ℕ) (e : CoreEvent) (c : Core) → Gives (may_have e) c (happened now e c)
unfolding on_answer on_lost on_tick on_item on_cut on_take on_leave on_work
event_gives now (event.Ask ticket q word) c = ask_gives now ticket q word c
event_gives now (event.Answer call a) c = answer_gives now call a (out_at call c.out) c
event_gives now (event.Lost call) c = loss_gives now call (out_at call c.out) c
event_gives now (event.Tick word) c = gave outcome.Noted refl refl
event_gives now (event.Item number x) c = item_gives now number x (opening_at number c.leasing) c
event_gives now (event.Cut number) c = cut_gives number (opening_at number c.leasing) c
event_gives now (event.Take ticket) c = take_gives ticket (ask_at ticket c.asks) c
event_gives now (event.Leave ticket) c = leave_gives now ticket (ask_at ticket c.asks) c
event_gives now event.Work c = job_gives now (first_job c) c

counted_gives : (fits : Outcome → Bool) (c : Core) (s : Stepped) → Gives fits c s → Gives fits c (counted s)
counted_gives fits c s (gave o e f) = gave o (ap (λ r. (counted (record { core = s.core; outcome = r })).outcome) e) f
counted_gives fits c s (faulted f e w) = faulted f (ap counted e) w

pub worn_does_nothing : WornDoesNothing
unfolding stepped
worn_does_nothing c e now w = ap (λ b. cond b (faults c fault.Worn) (counted (happened now e (clock_work now c)))) w

pub steps_give : StepsGive
unfolding stepped
steps_give c e now w = by_worn (is_worn c) w
  where
    by_worn : (b : Bool) → b ≡ false → Gives (may_have e) (clock_work now c) (cond b (faults c fault.Worn) (counted (happened now e (clock_work now c))))
    by_worn true t = absurd (cc)
    by_worn false t = counted_gives (may_have e) (clock_work now c) (happened now e (clock_work now c)) (event_gives now e (clock_work now c))
