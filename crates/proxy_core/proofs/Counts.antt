-- No event changes how many steps were counted: a step is counted behind what its event does.
use Rattle.std.proofs.Common.{◌≡◌, ℕ, ◌==◌, Bool, true, false, cond, Option, None, Some, Ok, Err, refl}
use Rattle.etcd_types.specs.declared.answer.Answer.{Answer}
use Rattle.etcd_types.specs.declared.answer.Answer.TheVariants as answer
use Rattle.etcd_types.specs.declared.answer.Body.{Body}
use Rattle.etcd_types.specs.declared.answer.Body.TheVariants as body
use Rattle.etcd_types.specs.declared.answer.Refusal.{Refusal}
use Rattle.etcd_types.specs.declared.request.Request.{Request}
use Rattle.etcd_types.specs.declared.request.Request.TheVariants as request
use Rattle.etcd_types.specs.declared.watch.WatchItem.{WatchItem}
use Rattle.etcd_types.specs.declared.watch.WatchItem.TheVariants as item
use Rattle.proxy_model.specs.Unwrapped.{Unwrapped, item_without}
use Rattle.wait_model.specs.Sent.{JobSent, job_sent}
use Rattle.watch_model.specs.declared.stream.StreamJob.{StreamJob}
use Rattle.watch_model.specs.declared.stream.StreamJob.TheVariants as stream
use Rattle.watch_model.specs.Due.{next_job}
use Rattle.watch_model.specs.Lookups.{stream_at, watch_at, is_begun}
use Rattle.watch_model.specs.State.{Stream, Watch, Broadcasts}
use Rattle.watch_model.specs.Takes as watches
use Rattle.read_model.specs.declared.asked.Asked.{Asked}
use Rattle.read_model.specs.declared.asked.Stage.{Stage}
use Rattle.read_model.specs.declared.asked.Stage.TheVariants as stage
use Rattle.read_model.specs.Acquires.{AfterAcquire, acquire_answered, read_asked}
use Rattle.read_model.specs.PlainRead.{decided_ask}
use Rattle.read_model.specs.State.{Reads, Moment, ground_of}
use Rattle.read_model.specs.WriteAnswers.{wait_answered}
use Rattle.core_model.specs.declared.event.CoreEvent.{CoreEvent}
use Rattle.core_model.specs.declared.event.CoreEvent.TheVariants as event
use Rattle.core_model.specs.declared.event.StepFault.TheVariants as fault
use Rattle.core_model.specs.declared.out_call.CallKind.{CallKind}
use Rattle.core_model.specs.declared.out_call.OutCall.{OutCall}
use Rattle.core_model.specs.declared.out_call.OutJob.{OutJob}
use Rattle.core_model.specs.declared.out_call.OutJob.TheVariants as job
use Rattle.core_model.specs.Asking.{asked_at, is_leased_read, read_by, read_is_asked, write_is_asked, held_body, if_live, call_is_asked, answered_or_called, leased_ask, taken_in, request_asked, refused_or_taken, on_ask}
use Rattle.core_model.specs.DueJobs.{DueJob, ForSession, ForWrites, ForAcquire, ForAsk, ForGroup, ToOpen, ForStream, first_job}
use Rattle.core_model.specs.Ends.{call_gone, is_stale_reply, ask_done, ask_answered, member_failed, acquire_if, reads_if, is_keepalive, answered_job, lost_job, lost_call, or_lost, heard_call, answered_call, answer_of, on_answer, loss_of, on_lost, with_caller, stale_once, said}
use Rattle.core_model.specs.Heard.{heard, header_taken}
use Rattle.core_model.specs.Kinds.{writes_keys, is_body_of}
use Rattle.core_model.specs.LeasingStream.{leasing_ticked, leasing_cut, leasing_created, leasing_cancelled, is_readable, leasing_told, leasing_message, message_if_sent, leasing_item}
use Rattle.core_model.specs.LeasingStream as leasing
use Rattle.core_model.specs.Lookups.{leases, moment, reads_of, with_reads, ask_at, is_known, out_at}
use Rattle.core_model.specs.Refusals.{refusal_of}
use Rattle.core_model.specs.Sending.{next_call, writes_sent, sent_by, on_work}
use Rattle.core_model.specs.Sessions.{without_session, seat_ticked, seat_calls, granted_by, grant_answered, kept, kept_by, keep_answered}
use Rattle.core_model.specs.State.{Opening, Core}
use Rattle.core_model.specs.Step.{ticked, on_tick, opening_at, client_item, item_of, on_item, client_cut, cut_of, on_cut, happened}
use Rattle.core_model.specs.Stepped.{Stepped, faults}
use Rattle.core_model.specs.Takes.{item_taken, taken, on_take, watcher_left, left, on_leave}
use Rattle.core_model.specs.Takes as takes
use Rattle.core_model.specs.Watching.{stream_message, stream_item, taken_item, stream_job, with_watches}
use Rattle.core_model.specs.Watching as watching

either : {A : Type 0} (P : A → Type 0) (b : Bool) (x y : A) → P x → P y → P (cond b x y)
either P true x y f g = f
either P false x y f g = g

-- as many steps were counted

abbrev Has : ℕ → Core → Type 0
Has n c = c.steps ≡ n

abbrev HasIf : ℕ → Option Core → Type 0
HasIf n None = Unit {0}
HasIf n (Some c) = c.steps ≡ n

abbrev Leaves : ℕ → Stepped → Type 0
Leaves n s = s.core.steps ≡ n

-- Ask.

read_leaves : (s : Stage) (c d : Core) → d.steps ≡ c.steps → Leaves c.steps (read_by s c d)
read_leaves (stage.Calling s) c d e = e
read_leaves stage.Acquiring c d e = e
read_leaves stage.Joined c d e = e
read_leaves stage.Behind c d e = e
read_leaves stage.Writes c d e = e
read_leaves (stage.Grouped s) c d e = e
read_leaves (stage.Replied v) c d e = refl

called_leaves : (o : Option Body) (a : Asked) (c : Core) → Leaves c.steps (answered_or_called o a c)
called_leaves None a c = refl
called_leaves (Some b) a c = refl

taken_leaves : (m : Moment) (a : Asked) (c : Core) → Leaves c.steps (taken_in m a c)
taken_leaves m a c =
    let other = answered_or_called (if_live m.session (held_body c.own.entries a.request)) a c in
    either (Leaves c.steps) (leases c) (leased_ask m a c) (call_is_asked a c)
    (either (Leaves c.steps) (is_leased_read c.own.waits.prefix a.request) (read_is_asked m a c) (cond (writes_keys a.request) (write_is_asked a c) other)
    (read_leaves (decided_ask m (ground_of (reads_of c)) a).stage c (with_reads c (read_asked m a (reads_of c))) refl)
    (either (Leaves c.steps) (writes_keys a.request) (write_is_asked a c) other refl (called_leaves (if_live m.session (held_body c.own.entries a.request)) a c)))
    refl

request_leaves : (q : Request) (m : Moment) (a : Asked) (c : Core) → Leaves c.steps (request_asked q m a c)
request_leaves (request.Watch ask) m a c = refl
request_leaves (request.Range ask) m a c = taken_leaves m a c
request_leaves (request.Put ask) m a c = taken_leaves m a c
request_leaves (request.Delete ask) m a c = taken_leaves m a c
request_leaves (request.Txn t) m a c = taken_leaves m a c
request_leaves (request.Compact revision physical) m a c = taken_leaves m a c
request_leaves (request.Grant ttl lease) m a c = taken_leaves m a c
request_leaves (request.Revoke lease) m a c = taken_leaves m a c
request_leaves (request.KeepAlive lease) m a c = taken_leaves m a c
request_leaves (request.TimeToLive lease keys) m a c = taken_leaves m a c
request_leaves request.Leases m a c = taken_leaves m a c

ask_leaves : (now ticket : ℕ) (q : Request) (word : ℕ) (c : Core) → Leaves c.steps (on_ask now ticket q word c)
unfolding on_ask
ask_leaves now ticket q word c =
    either (Leaves c.steps) (is_known ticket c) (faults c (fault.TicketUsed ticket)) (refused_or_taken (refusal_of c.own.waits.prefix q) (moment c now) (asked_at now ticket q word) c)
    refl (by_refusal (refusal_of c.own.waits.prefix q))
  where
    by_refusal : (r : Option Refusal) → Leaves c.steps (refused_or_taken r (moment c now) (asked_at now ticket q word) c)
    by_refusal None = request_leaves q (moment c now) (asked_at now ticket q word) c
    by_refusal (Some r) = refl

-- Answer, Lost.

lost_job_has : (now : ℕ) (o : OutCall) (j : OutJob) (c : Core) → Has c.steps (lost_job now o j c)
lost_job_has now o (job.Grant lease) c = either (Has c.steps) (seat_calls o.call c.seat) _ c refl refl
lost_job_has now o (job.Keep lease) c = either (Has c.steps) (seat_calls o.call c.seat) _ c refl refl
lost_job_has now o (job.Acquire k) c = refl
lost_job_has now o job.Wait c = refl
lost_job_has now o (job.Ask kind) c = refl
lost_job_has now o (job.Group lease) c = refl

lost_has : (now : ℕ) (o : OutCall) (c : Core) → Has c.steps (lost_call now o c)
lost_has now o c = lost_job_has now o o.job (member_failed o c)

granted_has : (o : OutCall) (b : Body) (c : Core) → HasIf c.steps (granted_by o b c)
granted_has o (body.Grant lease ttl) c = either (Has c.steps) (seat_calls o.call c.seat) _ c refl refl
granted_has o (body.Range count more kvs) c = tt
granted_has o (body.Put prev) c = tt
granted_has o (body.Delete deleted prevs) c = tt
granted_has o (body.Txn' succeeded m bodies) c = tt
granted_has o body.Compact c = tt
granted_has o body.Revoke c = tt
granted_has o (body.KeepAlive lease ttl) c = tt
granted_has o (body.TimeToLive lease ttl granted keys) c = tt
granted_has o (body.Leases leases) c = tt

grant_has : (o : OutCall) (a : Answer) (c : Core) → HasIf c.steps (grant_answered o a c)
grant_has o (answer.Done reply) c = granted_has o reply.body c
grant_has o (answer.Refused r) c = either (Has c.steps) (seat_calls o.call c.seat) _ c refl refl

kept_has : (now : ℕ) (o : OutCall) (b : Body) (c : Core) → HasIf c.steps (kept_by now o b c)
kept_has now o (body.KeepAlive lease ttl) c =
    either (Has c.steps) (seat_calls o.call c.seat) (kept now o ttl c) c (either (Has c.steps) (ttl == 0) (without_session now c) _ refl refl) refl
kept_has now o (body.Range count more kvs) c = tt
kept_has now o (body.Put prev) c = tt
kept_has now o (body.Delete deleted prevs) c = tt
kept_has now o (body.Txn' succeeded m bodies) c = tt
kept_has now o body.Compact c = tt
kept_has now o (body.Grant lease ttl) c = tt
kept_has now o body.Revoke c = tt
kept_has now o (body.TimeToLive lease ttl granted keys) c = tt
kept_has now o (body.Leases leases) c = tt

keep_has : (now : ℕ) (o : OutCall) (a : Answer) (c : Core) → HasIf c.steps (keep_answered now o a c)
keep_has now o (answer.Done reply) c = kept_has now o reply.body c
keep_has now o (answer.Refused r) c = either (Has c.steps) (seat_calls o.call c.seat) _ c refl refl

acquire_has : (c : Core) (o : Option AfterAcquire) → HasIf c.steps (acquire_if c o)
acquire_has c None = tt
acquire_has c (Some x) = by_end x.ends
  where
    by_end : (b : Bool) → Has c.steps (with_reads (cond b (record c { seat = None }) c) x.reads)
    by_end true = refl
    by_end false = refl

wait_has : (c : Core) (o : Option Reads) → HasIf c.steps (reads_if c o)
wait_has c None = tt
wait_has c (Some r) = refl

own_has : (k : CallKind) (o : OutCall) (a : Answer) (c : Core) → HasIf c.steps (ask_answered k o a c)
own_has k o (answer.Done reply) c =
    either (HasIf c.steps) (is_body_of k reply.body) (Some (ask_done k o reply c)) None
    (either (Has c.steps) (is_stale_reply k o reply) (with_caller o.call (stale_once c.members.count c.own.waits.step) (member_failed o c)) (with_caller o.call (said (answer.Done reply)) c) refl refl) tt
own_has k o (answer.Refused r) c = refl

job_has : (now : ℕ) (o : OutCall) (j : OutJob) (a : Answer) (c : Core) → HasIf c.steps (answered_job now o j a c)
job_has now o (job.Grant lease) a c = grant_has o a c
job_has now o (job.Keep lease) a c = keep_has now o a c
job_has now o (job.Acquire k) a c = acquire_has c (acquire_answered (moment c now) k a (reads_of c))
job_has now o job.Wait a c = wait_has c (wait_answered (moment c now) o.call a (reads_of c))
job_has now o (job.Ask k) a c = own_has k o a c
job_has now o (job.Group lease) a c = either (HasIf c.steps) (is_keepalive a) _ None refl tt

or_lost_has : (now : ℕ) (o : OutCall) (c : Core) (x : Option Core) → HasIf c.steps x → Has c.steps (or_lost now o c x)
or_lost_has now o c None h = lost_has now o c
or_lost_has now o c (Some d) h = h

heard_has : (now : ℕ) (o : OutCall) (x : Option Answer) (c : Core) → Has c.steps (heard_call now o x c)
heard_has now o None c = lost_has now o c
heard_has now o (Some a) c = or_lost_has now o c (answered_job now o o.job a c) (job_has now o o.job a c)

answered_has : (now : ℕ) (o : OutCall) (a : Answer) (c : Core) → Has c.steps (answered_call now o a c)
answered_has now o (answer.Done reply) c = heard_has now o (heard c.settings.namespace (answer.Done reply)) (header_taken reply.header c)
answered_has now o (answer.Refused r) c = heard_has now o (heard c.settings.namespace (answer.Refused r)) c

answer_leaves : (now call : ℕ) (a : Answer) (x : Option OutCall) (c : Core) → Leaves c.steps (answer_of now call a x c)
answer_leaves now call a None c = refl
answer_leaves now call a (Some o) c = answered_has now o a (call_gone call c)

loss_leaves : (now call : ℕ) (x : Option OutCall) (c : Core) → Leaves c.steps (loss_of now call x c)
loss_leaves now call None c = refl
loss_leaves now call (Some o) c = lost_has now o (call_gone call c)

-- Tick, Item, Cut.

tick_leaves : (now word : ℕ) (c : Core) → Leaves c.steps (on_tick now word c)
unfolding on_tick
tick_leaves now word c = either (Has c.steps) (leases c) (ticked now word c) c (by_opening c.leasing) refl
  where
    by_opening : (o : Option Opening) → Has c.steps (leasing_ticked o (record c { seat = Some (seat_ticked word c.settings.ttl c.own.waits.step now c.seat) }))
    by_opening None = refl
    by_opening (Some o) = refl

message_has : (now : ℕ) (o : Opening) (x : WatchItem) (c : Core) → Has c.steps (leasing_message now o x c)
message_has now o (item.Created h) c = either (Has c.steps) o.stream.created c _ refl refl
message_has now o (item.Events h es) c = either (Has c.steps) (is_readable o.stream es) _ (leasing_cut o c) refl refl
message_has now o (item.Canceled h compaction) c = either (Has c.steps) (compaction == 0) (leasing_cut o c) _ refl refl

unwrapped_has : (now : ℕ) (o : Opening) (u : Unwrapped WatchItem) (c : Core) → Has c.steps (leasing.unwrapped_message now o u c)
unwrapped_has now o (Ok x) c = message_has now o x c
unwrapped_has now o (Err foreign) c = refl

sent_has : (now : ℕ) (o : Opening) (s : Option ℕ) (x : WatchItem) (c : Core) → Has c.steps (message_if_sent now o s x c)
sent_has now o None x c = unwrapped_has now o (item_without c.settings.namespace x) c
sent_has now o (Some since) x c = refl

stream_has : (s : Stream) (x : WatchItem) (c : Core) → Has c.steps (stream_item s x c)
stream_has s x c =
    let d = header_taken (leasing.item_header x) c in
    either (Has c.steps) (is_begun s.phase) (watching.unwrapped_message s (item_without d.settings.namespace x) d) d (by_text (item_without d.settings.namespace x)) refl
  where
    told : (y : WatchItem) → Has c.steps (stream_message s y (header_taken (leasing.item_header x) c))
    told (item.Created h) = refl
    told (item.Events h es) = refl
    told (item.Canceled h compaction) = refl

    by_text : (u : Unwrapped WatchItem) → Has c.steps (watching.unwrapped_message s u (header_taken (leasing.item_header x) c))
    by_text (Ok y) = told y
    by_text (Err foreign) = refl

client_item_leaves : (number : ℕ) (x : WatchItem) (s : Option Stream) (c : Core) → Leaves c.steps (client_item number x s c)
client_item_leaves number x None c = refl
client_item_leaves number x (Some s) c = stream_has s x c

item_leaves : (now number : ℕ) (x : WatchItem) (o : Option Opening) (c : Core) → Leaves c.steps (item_of now number x o c)
item_leaves now number x None c = client_item_leaves number x (stream_at number c.watches.streams) c
item_leaves now number x (Some o) c = sent_has now o o.due x (header_taken (leasing.item_header x) c)

client_cut_leaves : (number : ℕ) (s : Option Stream) (c : Core) → Leaves c.steps (client_cut number s c)
client_cut_leaves number None c = refl
client_cut_leaves number (Some s) c = refl

cut_leaves : (number : ℕ) (o : Option Opening) (c : Core) → Leaves c.steps (cut_of number o c)
cut_leaves number None c = client_cut_leaves number (stream_at number c.watches.streams) c
cut_leaves number (Some o) c = refl

-- Take, Leave.

item_taken_leaves : (ticket : ℕ) (w : Option Watch) (c : Core) → Leaves c.steps (item_taken ticket w c)
item_taken_leaves ticket None c = refl
item_taken_leaves ticket (Some w) c = by_pair (watches.taken_from c.watches c.header w w.queue)
  where
    by_pair : (x : Broadcasts × Option WatchItem) → Leaves c.steps (taken_item c x)
    by_pair (b, None) = refl
    by_pair (b, Some x) = refl

stage_leaves : (ticket : ℕ) (s : Stage) (c : Core) → Leaves c.steps (takes.taken_from ticket s c)
stage_leaves ticket (stage.Calling s) c = refl
stage_leaves ticket stage.Acquiring c = refl
stage_leaves ticket stage.Joined c = refl
stage_leaves ticket stage.Behind c = refl
stage_leaves ticket stage.Writes c = refl
stage_leaves ticket (stage.Grouped s) c = refl
stage_leaves ticket (stage.Replied v) c = refl

take_leaves : (ticket : ℕ) (o : Option Asked) (c : Core) → Leaves c.steps (taken ticket o c)
take_leaves ticket None c = item_taken_leaves ticket (watch_at ticket c.watches.watches) c
take_leaves ticket (Some a) c = stage_leaves ticket a.stage c

watcher_leaves : (ticket : ℕ) (w : Option Watch) (c : Core) → Leaves c.steps (watcher_left ticket w c)
watcher_leaves ticket None c = refl
watcher_leaves ticket (Some w) c = refl

leave_leaves : (now ticket : ℕ) (o : Option Asked) (c : Core) → Leaves c.steps (left now ticket o c)
leave_leaves now ticket None c = watcher_leaves ticket (watch_at ticket c.watches.watches) c
leave_leaves now ticket (Some a) c = refl

-- Work.

writes_leave : (now : ℕ) (x : Option JobSent) (c : Core) → Leaves c.steps (writes_sent now x c)
writes_leave now None c = refl
writes_leave now (Some x) c = refl

stream_leaves : (o : Option StreamJob) (c : Core) → Leaves c.steps (stream_job o c)
stream_leaves None c = refl
stream_leaves (Some (stream.Close number)) c = refl
stream_leaves (Some (stream.Open number range start)) c = refl

work_leaves : (now : ℕ) (j : Option DueJob) (c : Core) → Leaves c.steps (sent_by now j c)
work_leaves now None c = refl
work_leaves now (Some (ForSession s)) c = refl
work_leaves now (Some ForWrites) c = writes_leave now (job_sent (next_call c) c.own) c
work_leaves now (Some (ForAcquire k x)) c = refl
work_leaves now (Some (ForAsk a)) c = refl
work_leaves now (Some (ForGroup lease ticket)) c = refl
work_leaves now (Some (ToOpen o)) c = refl
work_leaves now (Some (ForStream s)) c = let x = next_job c.watches (Some s) in stream_leaves x.1 (with_watches c x.0)

-- Each event.

pub steps_are_left : (now : ℕ) (e : CoreEvent) (c : Core) → (happened now e c).core.steps ≡ c.steps
unfolding on_answer on_lost on_item on_cut on_take on_leave on_work
steps_are_left now (event.Ask ticket q word) c = ask_leaves now ticket q word c
steps_are_left now (event.Answer call a) c = answer_leaves now call a (out_at call c.out) c
steps_are_left now (event.Lost call) c = loss_leaves now call (out_at call c.out) c
steps_are_left now (event.Tick word) c = tick_leaves now word c
steps_are_left now (event.Item number x) c = item_leaves now number x (opening_at number c.leasing) c
steps_are_left now (event.Cut number) c = cut_leaves number (opening_at number c.leasing) c
steps_are_left now (event.Take ticket) c = take_leaves ticket (ask_at ticket c.asks) c
steps_are_left now (event.Leave ticket) c = leave_leaves now ticket (ask_at ticket c.asks) c
steps_are_left now event.Work c = work_leaves now (first_job c) c
