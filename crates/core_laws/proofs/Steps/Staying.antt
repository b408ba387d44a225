-- Every step leaves the settings, the leasing prefix, and the leasing stream once there is one.
use Rattle.std.proofs.Common.{◌≡◌, ℕ, ◌==◌, Bool, true, false, cond, Option, None, Some, is_some, List, Result, Ok, Err, refl, ap, ◌∙◌}
use Rattle.etcd_types.specs.declared.answer.Answer.{Answer}
use Rattle.etcd_types.specs.declared.answer.Answer.TheVariants as answer
use Rattle.etcd_types.specs.declared.answer.Body.{Body}
use Rattle.etcd_types.specs.declared.answer.Body.TheVariants as body
use Rattle.etcd_types.specs.declared.answer.Refusal.{Refusal}
use Rattle.etcd_types.specs.declared.record.Header.{Header}
use Rattle.etcd_types.specs.declared.request.Request.{Request}
use Rattle.etcd_types.specs.declared.request.Request.TheVariants as request
use Rattle.etcd_types.specs.declared.watch.Event.{Event}
use Rattle.etcd_types.specs.declared.watch.WatchItem.{WatchItem}
use Rattle.etcd_types.specs.declared.watch.WatchItem.TheVariants as item
use Rattle.proxy_model.specs.Unwrapped.{Unwrapped, item_without}
use Rattle.wait_model.specs.LeasingStream.{resynced}
use Rattle.wait_model.specs.Sent.{JobSent, job_sent}
use Rattle.wait_model.specs.State.{Ownership}
use Rattle.watch_model.specs.declared.stream.StreamJob.{StreamJob}
use Rattle.watch_model.specs.declared.stream.StreamJob.TheVariants as stream
use Rattle.watch_model.specs.Due.{next_job}
use Rattle.watch_model.specs.Lookups.{stream_at, watch_at, is_begun}
use Rattle.watch_model.specs.State.{Stream, Watch, Broadcasts}
use Rattle.watch_model.specs.Takes as watches
use Rattle.read_model.specs.declared.asked.Asked.{Asked}
use Rattle.read_model.specs.declared.asked.Stage.{Stage}
use Rattle.read_model.specs.declared.asked.Stage.TheVariants as stage
use Rattle.read_model.specs.Acquires.{AfterAcquire, acquire_answered, read_asked}
use Rattle.read_model.specs.PlainRead.{decided_ask}
use Rattle.read_model.specs.State.{Reads, Moment, ground_of}
use Rattle.read_model.specs.WriteAnswers.{wait_answered}
use Rattle.core_model.specs.declared.event.CoreEvent.{CoreEvent}
use Rattle.core_model.specs.declared.event.CoreEvent.TheVariants as event
use Rattle.core_model.specs.declared.event.Outcome.{Outcome}
use Rattle.core_model.specs.declared.event.StepFault.{StepFault}
use Rattle.core_model.specs.declared.event.StepFault.TheVariants as fault
use Rattle.core_model.specs.declared.out_call.CallKind.{CallKind}
use Rattle.core_model.specs.declared.out_call.OutCall.{OutCall}
use Rattle.core_model.specs.declared.out_call.OutJob.{OutJob}
use Rattle.core_model.specs.declared.out_call.OutJob.TheVariants as job
use Rattle.core_model.specs.Asking.{asked_at, is_leased_read, read_by, read_is_asked, write_is_asked, held_body, if_live, call_is_asked, answered_or_called, leased_ask, taken_in, request_asked, refused_or_taken, on_ask}
use Rattle.core_model.specs.ClockWork.{begun, clock_work, times_out}
use Rattle.core_model.specs.DueJobs.{DueJob, ForSession, ForWrites, ForAcquire, ForAsk, ForGroup, ToOpen, ForStream, first_job}
use Rattle.core_model.specs.Ends.{call_gone, is_stale_reply, ask_done, ask_answered, member_failed, acquire_if, reads_if, is_keepalive, group_answered, answered_job, lost_job, lost_call, or_lost, heard_call, answered_call, answer_of, on_answer, loss_of, on_lost, with_caller, stale_once, said}
use Rattle.core_model.specs.Heard.{heard, header_taken}
use Rattle.core_model.specs.Kinds.{writes_keys, is_body_of}
use Rattle.core_model.specs.LeasingStream.{own_created, leasing_ticked, leasing_cut, leasing_created, leasing_cancelled, is_readable, leasing_told, leasing_message, message_if_sent, leasing_item}
use Rattle.core_model.specs.LeasingStream as leasing
use Rattle.core_model.specs.Lookups.{leases, live_number, moment, reads_of, with_reads, ask_at, is_known, out_at, has_ticket}
use Rattle.core_model.specs.Refusals.{refusal_of}
use Rattle.core_model.specs.Sending.{next_call, writes_sent, sent_by, on_work}
use Rattle.core_model.specs.Sessions.{without_session, seat_ticked, seat_is_over, deadline_passed, seat_calls, granted_by, grant_failed, grant_answered, keep_failed, kept, kept_by, keep_answered}
use Rattle.core_model.specs.State.{Opening, Core}
use Rattle.core_model.specs.Step.{ticked, on_tick, opening_at, client_item, item_of, on_item, client_cut, cut_of, on_cut, happened, is_worn, stepped}
use Rattle.core_model.specs.Stepped.{Stepped, faults, counted, counted_by}
use Rattle.core_model.specs.Takes.{item_taken, taken, on_take, has_left, watcher_left, left, on_leave}
use Rattle.core_model.specs.Takes as takes
use Rattle.core_model.specs.Watching.{stream_message, stream_item, taken_item, stream_job, with_watches}
use Rattle.core_model.specs.Watching as watching
use Rattle.core_laws.specs.Steps.Staying.{Stays, StepsStay}
use Rattle.core_laws.proofs.Steps.Prefixes.{Same, all_noticed_same, SentSame, sent_same, read_asked_same, session_over_same, taken_off_same, AfterSame, acquire_answered_same, acquire_lost_same, ReadsSame, wait_answered_same, wait_lost_same}

-- a step that only changes other parts
still : (c d : Core) → d.settings ≡ c.settings → d.own.waits.prefix ≡ c.own.waits.prefix → d.leasing ≡ c.leasing → Stays c d
still c d s p l = record { settings = s; prefix = p; leasing = λ t. ap is_some l ∙ t }

on : (c d e : Core) → Stays c d → Stays d e → Stays c e
on c d e x y = record { settings = y.settings ∙ x.settings; prefix = y.prefix ∙ x.prefix; leasing = λ h. y.leasing (x.leasing h) }

either : {A : Type 0} (P : A → Type 0) (b : Bool) (x y : A) → P x → P y → P (cond b x y)
either P true x y f g = f
either P false x y f g = g

reads_stay : (c : Core) (r : Reads) → Same c.own r.own → Stays c (with_reads c r)
reads_stay c r h = record { settings = refl; prefix = h; leasing = λ t. t }

-- Clock work.

over_stays : (now : ℕ) (c : Core) → Stays c (without_session now c)
over_stays now c =
    let d = record c { seat = None } in
    record { settings = refl; prefix = session_over_same (moment d now) (reads_of d); leasing = λ t. t }

clock_stays : (now : ℕ) (c : Core) → Stays c (clock_work now c)
unfolding clock_work
clock_stays now c =
    let d = deadline_passed now (begun c) in
    let deadline : Stays c d = either (Stays c) (seat_is_over c.seat now) (without_session now (begun c)) (begun c) (on c (begun c) (without_session now (begun c)) (still _ _ refl refl refl) (over_stays now (begun c))) (still _ _ refl refl refl) in
    on c d (clock_work now c) deadline (record { settings = refl; prefix = taken_off_same (moment d now) (times_out now) _ (reads_of d); leasing = λ t. t })

-- Ask.

abbrev Leaves : Core → Stepped → Type 0
Leaves c s = Stays c s.core

read_stays : (m : Moment) (a : Asked) (c : Core) → Leaves c (read_is_asked m a c)
read_stays m a c = by_stage (decided_ask m (ground_of (reads_of c)) a).stage
  where
    waits : Stays c (with_reads c (read_asked m a (reads_of c)))
    waits = reads_stay c (read_asked m a (reads_of c)) (read_asked_same m a (reads_of c))

    by_stage : (s : Stage) → Leaves c (read_by s c (with_reads c (read_asked m a (reads_of c))))
    by_stage (stage.Calling s) = record { settings = refl; prefix = waits.prefix; leasing = λ t. t }
    by_stage stage.Acquiring = record { settings = refl; prefix = waits.prefix; leasing = λ t. t }
    by_stage stage.Joined = record { settings = refl; prefix = waits.prefix; leasing = λ t. t }
    by_stage stage.Behind = record { settings = refl; prefix = waits.prefix; leasing = λ t. t }
    by_stage stage.Writes = record { settings = refl; prefix = waits.prefix; leasing = λ t. t }
    by_stage (stage.Grouped s) = record { settings = refl; prefix = waits.prefix; leasing = λ t. t }
    by_stage (stage.Replied v) = still _ _ refl refl refl

answered_stays : (o : Option Body) (a : Asked) (c : Core) → Leaves c (answered_or_called o a c)
answered_stays None a c = still _ _ refl refl refl
answered_stays (Some b) a c = still _ _ refl refl refl

taken_stays : (m : Moment) (a : Asked) (c : Core) → Leaves c (taken_in m a c)
taken_stays m a c =
    let other = answered_or_called (if_live m.session (held_body c.own.entries a.request)) a c in
    either (Leaves c) (leases c) (leased_ask m a c) (call_is_asked a c)
    (either (Leaves c) (is_leased_read c.own.waits.prefix a.request) (read_is_asked m a c) (cond (writes_keys a.request) (write_is_asked a c) other)
    (read_stays m a c)
    (either (Leaves c) (writes_keys a.request) (write_is_asked a c) other (still _ _ refl refl refl) (answered_stays (if_live m.session (held_body c.own.entries a.request)) a c)))
    (still _ _ refl refl refl)

request_stays : (q : Request) (m : Moment) (a : Asked) (c : Core) → Leaves c (request_asked q m a c)
request_stays (request.Watch ask) m a c = still _ _ refl refl refl
request_stays (request.Range ask) m a c = taken_stays m a c
request_stays (request.Put ask) m a c = taken_stays m a c
request_stays (request.Delete ask) m a c = taken_stays m a c
request_stays (request.Txn t) m a c = taken_stays m a c
request_stays (request.Compact revision physical) m a c = taken_stays m a c
request_stays (request.Grant ttl lease) m a c = taken_stays m a c
request_stays (request.Revoke lease) m a c = taken_stays m a c
request_stays (request.KeepAlive lease) m a c = taken_stays m a c
request_stays (request.TimeToLive lease keys) m a c = taken_stays m a c
request_stays request.Leases m a c = taken_stays m a c

ask_stays : (now ticket : ℕ) (q : Request) (word : ℕ) (c : Core) → Leaves c (on_ask now ticket q word c)
unfolding on_ask
ask_stays now ticket q word c =
    either (Leaves c) (is_known ticket c) (faults c (fault.TicketUsed ticket)) (refused_or_taken (refusal_of c.own.waits.prefix q) (moment c now) (asked_at now ticket q word) c)
    (still _ _ refl refl refl) (by_refusal (refusal_of c.own.waits.prefix q))
  where
    by_refusal : (r : Option Refusal) → Leaves c (refused_or_taken r (moment c now) (asked_at now ticket q word) c)
    by_refusal None = request_stays q (moment c now) (asked_at now ticket q word) c
    by_refusal (Some r) = still _ _ refl refl refl

-- Answer, Lost.

grant_fails : (o : OutCall) (c : Core) → Stays c (grant_failed o c)
grant_fails o c = either (Stays c) (seat_calls o.call c.seat) _ c (still _ _ refl refl refl) (still _ _ refl refl refl)

keep_fails : (o : OutCall) (c : Core) → Stays c (keep_failed o c)
keep_fails o c = either (Stays c) (seat_calls o.call c.seat) _ c (still _ _ refl refl refl) (still _ _ refl refl refl)

lost_job_stays : (now : ℕ) (o : OutCall) (j : OutJob) (c : Core) → Stays c (lost_job now o j c)
lost_job_stays now o (job.Grant lease) c = grant_fails o c
lost_job_stays now o (job.Keep lease) c = keep_fails o c
lost_job_stays now o (job.Acquire k) c = reads_stay c _ (acquire_lost_same c.members.count (moment c now) k (reads_of c))
lost_job_stays now o job.Wait c = reads_stay c _ (wait_lost_same (moment c now) o.call (reads_of c))
lost_job_stays now o (job.Ask kind) c = still _ _ refl refl refl
lost_job_stays now o (job.Group lease) c = still _ _ refl refl refl

lost_stays : (now : ℕ) (o : OutCall) (c : Core) → Stays c (lost_call now o c)
lost_stays now o c = on c (member_failed o c) (lost_call now o c) (still _ _ refl refl refl) (lost_job_stays now o o.job (member_failed o c))

abbrev StaysIf : Core → Option Core → Type 0
StaysIf c None = Unit {0}
StaysIf c (Some d) = Stays c d

granted_stays : (o : OutCall) (b : Body) (c : Core) → StaysIf c (granted_by o b c)
granted_stays o (body.Grant lease ttl) c = either (Stays c) (seat_calls o.call c.seat) _ c (still _ _ refl refl refl) (still _ _ refl refl refl)
granted_stays o (body.Range count more kvs) c = tt
granted_stays o (body.Put prev) c = tt
granted_stays o (body.Delete deleted prevs) c = tt
granted_stays o (body.Txn' succeeded m bodies) c = tt
granted_stays o body.Compact c = tt
granted_stays o body.Revoke c = tt
granted_stays o (body.KeepAlive lease ttl) c = tt
granted_stays o (body.TimeToLive lease ttl granted keys) c = tt
granted_stays o (body.Leases leases) c = tt

grant_stays : (o : OutCall) (a : Answer) (c : Core) → StaysIf c (grant_answered o a c)
grant_stays o (answer.Done reply) c = granted_stays o reply.body c
grant_stays o (answer.Refused r) c = grant_fails o c

kept_stays : (now : ℕ) (o : OutCall) (b : Body) (c : Core) → StaysIf c (kept_by now o b c)
kept_stays now o (body.KeepAlive lease ttl) c =
    either (Stays c) (seat_calls o.call c.seat) (kept now o ttl c) c
    (either (Stays c) (ttl == 0) (without_session now c) _ (over_stays now c) (still _ _ refl refl refl)) (still _ _ refl refl refl)
kept_stays now o (body.Range count more kvs) c = tt
kept_stays now o (body.Put prev) c = tt
kept_stays now o (body.Delete deleted prevs) c = tt
kept_stays now o (body.Txn' succeeded m bodies) c = tt
kept_stays now o body.Compact c = tt
kept_stays now o (body.Grant lease ttl) c = tt
kept_stays now o body.Revoke c = tt
kept_stays now o (body.TimeToLive lease ttl granted keys) c = tt
kept_stays now o (body.Leases leases) c = tt

keep_stays : (now : ℕ) (o : OutCall) (a : Answer) (c : Core) → StaysIf c (keep_answered now o a c)
keep_stays now o (answer.Done reply) c = kept_stays now o reply.body c
keep_stays now o (answer.Refused r) c = keep_fails o c

acquire_stays : (c : Core) (o : Option AfterAcquire) → AfterSame c.own o → StaysIf c (acquire_if c o)
acquire_stays c None h = tt
acquire_stays c (Some x) h = by_end x.ends
  where
    by_end : (b : Bool) → Stays c (with_reads (cond b (record c { seat = None }) c) x.reads)
    by_end true = record { settings = refl; prefix = h; leasing = λ t. t }
    by_end false = record { settings = refl; prefix = h; leasing = λ t. t }

wait_stays : (c : Core) (o : Option Reads) → ReadsSame c.own o → StaysIf c (reads_if c o)
wait_stays c None h = tt
wait_stays c (Some r) h = reads_stay c r h

ask_ends : (k : CallKind) (o : OutCall) (a : Answer) (c : Core) → StaysIf c (ask_answered k o a c)
ask_ends k o (answer.Done reply) c =
    either (StaysIf c) (is_body_of k reply.body) (Some (ask_done k o reply c)) None
    (either (Stays c) (is_stale_reply k o reply) (with_caller o.call (stale_once c.members.count c.own.waits.step) (member_failed o c)) (with_caller o.call (said (answer.Done reply)) c) (still _ _ refl refl refl) (still _ _ refl refl refl)) tt
ask_ends k o (answer.Refused r) c = still _ _ refl refl refl

group_ends : (o : OutCall) (lease : ℕ) (a : Answer) (c : Core) → StaysIf c (group_answered o lease a c)
group_ends o lease a c = either (StaysIf c) (is_keepalive a) _ None (still _ _ refl refl refl) tt

job_stays : (now : ℕ) (o : OutCall) (j : OutJob) (a : Answer) (c : Core) → StaysIf c (answered_job now o j a c)
job_stays now o (job.Grant lease) a c = grant_stays o a c
job_stays now o (job.Keep lease) a c = keep_stays now o a c
job_stays now o (job.Acquire k) a c = acquire_stays c (acquire_answered (moment c now) k a (reads_of c)) (acquire_answered_same (moment c now) k a (reads_of c))
job_stays now o job.Wait a c = wait_stays c (wait_answered (moment c now) o.call a (reads_of c)) (wait_answered_same (moment c now) o.call a (reads_of c))
job_stays now o (job.Ask k) a c = ask_ends k o a c
job_stays now o (job.Group lease) a c = group_ends o lease a c

or_lost_stays : (now : ℕ) (o : OutCall) (c : Core) (x : Option Core) → StaysIf c x → Stays c (or_lost now o c x)
or_lost_stays now o c None h = lost_stays now o c
or_lost_stays now o c (Some d) h = h

heard_stays : (now : ℕ) (o : OutCall) (x : Option Answer) (c : Core) → Stays c (heard_call now o x c)
heard_stays now o None c = lost_stays now o c
heard_stays now o (Some a) c = or_lost_stays now o c (answered_job now o o.job a c) (job_stays now o o.job a c)

answered_stays_as : (now : ℕ) (o : OutCall) (a : Answer) (c : Core) → Stays c (answered_call now o a c)
answered_stays_as now o (answer.Done reply) c =
    let d = header_taken reply.header c in
    on c d (answered_call now o (answer.Done reply) c) (still _ _ refl refl refl) (heard_stays now o (heard c.settings.namespace (answer.Done reply)) d)
answered_stays_as now o (answer.Refused r) c = heard_stays now o (heard c.settings.namespace (answer.Refused r)) c

answer_stays : (now call : ℕ) (a : Answer) (x : Option OutCall) (c : Core) → Leaves c (answer_of now call a x c)
answer_stays now call a None c = still _ _ refl refl refl
answer_stays now call a (Some o) c =
    let d = call_gone call c in
    let e = answered_call now o a d in
    let h : Stays d e = answered_stays_as now o a d in
    record { settings = h.settings; prefix = h.prefix; leasing = h.leasing }

loss_stays : (now call : ℕ) (x : Option OutCall) (c : Core) → Leaves c (loss_of now call x c)
loss_stays now call None c = still _ _ refl refl refl
loss_stays now call (Some o) c =
    let d = call_gone call c in
    let h : Stays d (lost_call now o d) = lost_stays now o d in
    record { settings = h.settings; prefix = h.prefix; leasing = h.leasing }

-- Tick, Item, Cut.

-- a leasing stream stands, before and after
anew : (c d : Core) → d.settings ≡ c.settings → d.own.waits.prefix ≡ c.own.waits.prefix → is_some d.leasing ≡ true → Stays c d
anew c d s p t = record { settings = s; prefix = p; leasing = λ h. t }

tick_stays : (now word : ℕ) (c : Core) → Leaves c (on_tick now word c)
unfolding on_tick
tick_stays now word c = either (Stays c) (leases c) (ticked now word c) c (by_opening c.leasing) (still _ _ refl refl refl)
  where
    by_opening : (o : Option Opening) → Stays c (leasing_ticked o (record c { seat = Some (seat_ticked word c.settings.ttl c.own.waits.step now c.seat) }))
    by_opening None = anew c _ refl refl refl
    by_opening (Some o) = still _ _ refl refl refl

created_stays : (o : Opening) (h : Header) (c : Core) → Stays c (leasing_created o h c)
created_stays o h c =
    either (Stays c) o.stream.created c _ (still _ _ refl refl refl)
    (record { settings = refl; prefix = either (λ (own : Ownership). own.waits.prefix ≡ c.own.waits.prefix) (o.stream.next == 0) (resynced c.own) c.own refl refl; leasing = λ t. refl })

cancelled_stays : (o : Opening) (compaction : ℕ) (c : Core) → Stays c (leasing_cancelled o compaction c)
cancelled_stays o compaction c = either (Stays c) (compaction == 0) (leasing_cut o c) _ (anew c _ refl refl refl) (anew c _ refl refl refl)

told_stays : (now : ℕ) (o : Opening) (h : Header) (es : List Event) (c : Core) → Stays c (leasing_told now o h es c)
told_stays now o h es c =
    either (Stays c) (is_readable o.stream es) _ (leasing_cut o c)
    (anew c _ refl (all_noticed_same (live_number c.seat now) es c.own) refl) (anew c _ refl refl refl)

message_stays : (now : ℕ) (o : Opening) (x : WatchItem) (c : Core) → Stays c (leasing_message now o x c)
message_stays now o (item.Created h) c = created_stays o h c
message_stays now o (item.Events h es) c = told_stays now o h es c
message_stays now o (item.Canceled h compaction) c = cancelled_stays o compaction c

unwrapped_stays : (now : ℕ) (o : Opening) (u : Unwrapped WatchItem) (c : Core) → Stays c (leasing.unwrapped_message now o u c)
unwrapped_stays now o (Ok x) c = message_stays now o x c
unwrapped_stays now o (Err foreign) c = anew c _ refl refl refl

sent_stays : (now : ℕ) (o : Opening) (s : Option ℕ) (x : WatchItem) (c : Core) → Stays c (message_if_sent now o s x c)
sent_stays now o None x c = unwrapped_stays now o (item_without c.settings.namespace x) c
sent_stays now o (Some since) x c = still _ _ refl refl refl

leasing_stays : (now : ℕ) (o : Opening) (x : WatchItem) (c : Core) → Stays c (leasing_item now o x c)
leasing_stays now o x c =
    let d = header_taken (leasing.item_header x) c in
    on c d (leasing_item now o x c) (still _ _ refl refl refl) (sent_stays now o o.due x d)

stream_message_stays : (s : Stream) (x : WatchItem) (c : Core) → Stays c (stream_message s x c)
stream_message_stays s (item.Created h) c = still _ _ refl refl refl
stream_message_stays s (item.Events h es) c = still _ _ refl refl refl
stream_message_stays s (item.Canceled h compaction) c = still _ _ refl refl refl

stream_stays : (s : Stream) (x : WatchItem) (c : Core) → Stays c (stream_item s x c)
stream_stays s x c =
    let d = header_taken (leasing.item_header x) c in
    on c d (stream_item s x c) (still _ _ refl refl refl) (either (Stays d) (is_begun s.phase) (watching.unwrapped_message s (item_without d.settings.namespace x) d) d (by_text (item_without d.settings.namespace x)) (still _ _ refl refl refl))
  where
    by_text : (u : Unwrapped WatchItem) → Stays (header_taken (leasing.item_header x) c) (watching.unwrapped_message s u (header_taken (leasing.item_header x) c))
    by_text (Ok y) = stream_message_stays s y (header_taken (leasing.item_header x) c)
    by_text (Err foreign) = still _ _ refl refl refl

client_item_stays : (number : ℕ) (x : WatchItem) (s : Option Stream) (c : Core) → Leaves c (client_item number x s c)
client_item_stays number x None c = still _ _ refl refl refl
client_item_stays number x (Some s) c = let h : Stays c (stream_item s x c) = stream_stays s x c in record { settings = h.settings; prefix = h.prefix; leasing = h.leasing }

item_stays : (now number : ℕ) (x : WatchItem) (o : Option Opening) (c : Core) → Leaves c (item_of now number x o c)
item_stays now number x None c = client_item_stays number x (stream_at number c.watches.streams) c
item_stays now number x (Some o) c = let h : Stays c (leasing_item now o x c) = leasing_stays now o x c in record { settings = h.settings; prefix = h.prefix; leasing = h.leasing }

client_cut_stays : (number : ℕ) (s : Option Stream) (c : Core) → Leaves c (client_cut number s c)
client_cut_stays number None c = still _ _ refl refl refl
client_cut_stays number (Some s) c = still _ _ refl refl refl

cut_stays : (number : ℕ) (o : Option Opening) (c : Core) → Leaves c (cut_of number o c)
cut_stays number None c = client_cut_stays number (stream_at number c.watches.streams) c
cut_stays number (Some o) c = anew c _ refl refl refl

-- Take, Leave.

item_taken_stays : (ticket : ℕ) (w : Option Watch) (c : Core) → Leaves c (item_taken ticket w c)
item_taken_stays ticket None c = still _ _ refl refl refl
item_taken_stays ticket (Some w) c = by_pair (watches.taken_from c.watches c.header w w.queue)
  where
    by_pair : (x : Broadcasts × Option WatchItem) → Leaves c (taken_item c x)
    by_pair (b, None) = still _ _ refl refl refl
    by_pair (b, Some x) = still _ _ refl refl refl

take_by_stage : (ticket : ℕ) (s : Stage) (c : Core) → Leaves c (takes.taken_from ticket s c)
take_by_stage ticket (stage.Calling s) c = still _ _ refl refl refl
take_by_stage ticket stage.Acquiring c = still _ _ refl refl refl
take_by_stage ticket stage.Joined c = still _ _ refl refl refl
take_by_stage ticket stage.Behind c = still _ _ refl refl refl
take_by_stage ticket stage.Writes c = still _ _ refl refl refl
take_by_stage ticket (stage.Grouped s) c = still _ _ refl refl refl
take_by_stage ticket (stage.Replied v) c = still _ _ refl refl refl

take_stays : (ticket : ℕ) (o : Option Asked) (c : Core) → Leaves c (taken ticket o c)
take_stays ticket None c = item_taken_stays ticket (watch_at ticket c.watches.watches) c
take_stays ticket (Some a) c = take_by_stage ticket a.stage c

leave_stays : (now ticket : ℕ) (o : Option Asked) (c : Core) → Leaves c (left now ticket o c)
leave_stays now ticket None c = by_watch (watch_at ticket c.watches.watches)
  where
    by_watch : (w : Option Watch) → Leaves c (watcher_left ticket w c)
    by_watch None = still _ _ refl refl refl
    by_watch (Some w) = still _ _ refl refl refl
leave_stays now ticket (Some a) c = record { settings = refl; prefix = taken_off_same (moment c now) (has_ticket ticket) _ (reads_of c); leasing = λ t. t }

-- Work.

writes_sent_stays : (now : ℕ) (x : Option JobSent) (c : Core) → SentSame c.own x → Leaves c (writes_sent now x c)
writes_sent_stays now None c h = still _ _ refl refl refl
writes_sent_stays now (Some x) c h = record { settings = refl; prefix = h; leasing = λ t. t }

stream_job_stays : (o : Option StreamJob) (c : Core) → Leaves c (stream_job o c)
stream_job_stays None c = still _ _ refl refl refl
stream_job_stays (Some (stream.Close number)) c = still _ _ refl refl refl
stream_job_stays (Some (stream.Open number range start)) c = still _ _ refl refl refl

work_stays : (now : ℕ) (j : Option DueJob) (c : Core) → Leaves c (sent_by now j c)
work_stays now None c = still _ _ refl refl refl
work_stays now (Some (ForSession s)) c = still _ _ refl refl refl
work_stays now (Some ForWrites) c = writes_sent_stays now (job_sent (next_call c) c.own) c (sent_same (next_call c) c.own)
work_stays now (Some (ForAcquire k x)) c = still _ _ refl refl refl
work_stays now (Some (ForAsk a)) c = still _ _ refl refl refl
work_stays now (Some (ForGroup lease ticket)) c = still _ _ refl refl refl
work_stays now (Some (ToOpen o)) c = anew c _ refl refl refl
work_stays now (Some (ForStream s)) c =
    let x = next_job c.watches (Some s) in
    let h : Leaves (with_watches c x.0) (stream_job x.1 (with_watches c x.0)) = stream_job_stays x.1 (with_watches c x.0) in
    record { settings = h.settings; prefix = h.prefix; leasing = h.leasing }

-- The whole step.

happened_stays : (now : ℕ) (e : CoreEvent) (c : Core) → Leaves c (happened now e c)
unfolding on_answer on_lost on_item on_cut on_take on_leave on_work
happened_stays now (event.Ask ticket q word) c = ask_stays now ticket q word c
happened_stays now (event.Answer call a) c = answer_stays now call a (out_at call c.out) c
happened_stays now (event.Lost call) c = loss_stays now call (out_at call c.out) c
happened_stays now (event.Tick word) c = tick_stays now word c
happened_stays now (event.Item number x) c = item_stays now number x (opening_at number c.leasing) c
happened_stays now (event.Cut number) c = cut_stays number (opening_at number c.leasing) c
happened_stays now (event.Take ticket) c = take_stays ticket (ask_at ticket c.asks) c
happened_stays now (event.Leave ticket) c = leave_stays now ticket (ask_at ticket c.asks) c
happened_stays now event.Work c = work_stays now (first_job c) c

counted_stays : (c : Core) (s : Stepped) → Leaves c s → Leaves c (counted s)
counted_stays c s h = by_outcome s.outcome
  where
    by_outcome : (o : Result Outcome StepFault) → Leaves c (counted_by s.core o)
    by_outcome (Ok o) = record { settings = h.settings; prefix = h.prefix; leasing = h.leasing }
    by_outcome (Err f) = h

pub steps_stay : StepsStay
unfolding stepped
steps_stay c e now =
    either (Leaves c) (is_worn c) (faults c fault.Worn) (counted (happened now e (clock_work now c))) (still _ _ refl refl refl)
    (on c (clock_work now c) (counted (happened now e (clock_work now c))).core (clock_stays now c) (counted_stays (clock_work now c) (happened now e (clock_work now c)) (happened_stays now e (clock_work now c))))
