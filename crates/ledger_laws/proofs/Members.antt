-- The current member of a proxy is one of those that its settings have: it is handed on cyclically, and nothing else changes it.
use Rattle.std.proofs.Common.{◌≡◌, ℕ, ◌+◌, ◌==◌, nat_le, Bool, true, false, cond, Option, None, Some, Result, Ok, Err, refl, arith}
use Rattle.std.proofs.lemmas.Bool.Decides.{nat_tests}
use Rattle.etcd_types.specs.declared.answer.Answer.{Answer}
use Rattle.etcd_types.specs.declared.answer.Answer.TheVariants as answer
use Rattle.etcd_types.specs.declared.answer.Body.{Body}
use Rattle.etcd_types.specs.declared.answer.Body.TheVariants as body
use Rattle.etcd_types.specs.declared.answer.Refusal.{Refusal}
use Rattle.etcd_types.specs.declared.record.Header.{Header}
use Rattle.etcd_types.specs.declared.request.Request.{Request}
use Rattle.etcd_types.specs.declared.request.Request.TheVariants as request
use Rattle.etcd_types.specs.declared.watch.WatchItem.{WatchItem}
use Rattle.etcd_types.specs.declared.watch.WatchItem.TheVariants as item
use Rattle.proxy_model.specs.Members.{Members, next_member, failed}
use Rattle.proxy_model.specs.Unwrapped.{Unwrapped, item_without}
use Rattle.wait_model.specs.Sent.{JobSent, job_sent}
use Rattle.watch_model.specs.declared.stream.StreamJob.{StreamJob}
use Rattle.watch_model.specs.declared.stream.StreamJob.TheVariants as stream
use Rattle.watch_model.specs.Due.{next_job}
use Rattle.watch_model.specs.Lookups.{stream_at, watch_at, is_begun}
use Rattle.watch_model.specs.State.{Stream, Watch, Broadcasts}
use Rattle.watch_model.specs.Takes as watches
use Rattle.read_model.specs.declared.asked.Asked.{Asked}
use Rattle.read_model.specs.declared.asked.Stage.{Stage}
use Rattle.read_model.specs.declared.asked.Stage.TheVariants as stage
use Rattle.read_model.specs.Acquires.{AfterAcquire, acquire_answered, read_asked}
use Rattle.read_model.specs.PlainRead.{decided_ask}
use Rattle.read_model.specs.State.{Reads, Moment, ground_of}
use Rattle.read_model.specs.WriteAnswers.{wait_answered}
use Rattle.core_model.specs.declared.event.CoreEvent.{CoreEvent}
use Rattle.core_model.specs.declared.event.CoreEvent.TheVariants as event
use Rattle.core_model.specs.declared.event.Job.TheVariants as sent
use Rattle.core_model.specs.declared.event.Outcome.{Outcome}
use Rattle.core_model.specs.declared.event.Outcome.TheVariants as outcome
use Rattle.core_model.specs.declared.event.StepFault.{StepFault}
use Rattle.core_model.specs.declared.event.StepFault.TheVariants as fault
use Rattle.core_model.specs.declared.out_call.CallKind.{CallKind}
use Rattle.core_model.specs.declared.out_call.OutCall.{OutCall}
use Rattle.core_model.specs.declared.out_call.OutJob.{OutJob}
use Rattle.core_model.specs.declared.out_call.OutJob.TheVariants as job
use Rattle.core_model.specs.Asking.{asked_at, is_leased_read, read_by, read_is_asked, write_is_asked, held_body, if_live, call_is_asked, answered_or_called, leased_ask, taken_in, request_asked, refused_or_taken, on_ask}
use Rattle.core_model.specs.ClockWork.{begun, clock_work}
use Rattle.core_model.specs.DueJobs.{DueJob, ForSession, ForWrites, ForAcquire, ForAsk, ForGroup, ToOpen, ForStream, first_job}
use Rattle.core_model.specs.Ends.{call_gone, is_stale_reply, ask_done, ask_answered, member_failed, acquire_if, reads_if, is_keepalive, answered_job, lost_job, lost_call, or_lost, heard_call, answered_call, answer_of, on_answer, loss_of, on_lost, with_caller, stale_once, said}
use Rattle.core_model.specs.Heard.{heard, header_taken}
use Rattle.core_model.specs.Kinds.{writes_keys, is_body_of}
use Rattle.core_model.specs.LeasingStream.{leasing_ticked, leasing_cut, is_readable, leasing_message, message_if_sent, leasing_item}
use Rattle.core_model.specs.LeasingStream as leasing
use Rattle.core_model.specs.Lookups.{leases, moment, reads_of, with_reads, ask_at, is_known, out_at}
use Rattle.core_model.specs.Refusals.{refusal_of}
use Rattle.core_model.specs.Sending.{next_call, writes_sent, sent_by, on_work}
use Rattle.core_model.specs.Sessions.{without_session, seat_ticked, seat_is_over, seat_calls, granted_by, grant_failed, keep_failed, kept, kept_by}
use Rattle.core_model.specs.State.{Opening, Core}
use Rattle.core_model.specs.Step.{ticked, on_tick, opening_at, client_item, item_of, on_item, client_cut, cut_of, on_cut, happened, is_worn, stepped}
use Rattle.core_model.specs.Stepped.{Stepped, faults, counted, counted_by}
use Rattle.core_model.specs.Takes.{item_taken, taken, on_take, watcher_left, left, on_leave}
use Rattle.core_model.specs.Takes as takes
use Rattle.core_model.specs.Watching.{stream_message, stream_item, taken_item, stream_job, with_watches}
use Rattle.core_model.specs.Watching as watching

-- of a cluster of so many members
pub record MembersOk (n : ℕ) (m : Members) : Type 0 where
  pub count : m.count ≡ n
  pub low : nat_le 1 m.current ≡ true
  pub high : nat_le m.current n ≡ true

-- where there are members, their current one stays one of them
abbrev Same : Core → Core → Type 0
Same c d = (n : ℕ) → nat_le 1 n ≡ true → MembersOk n c.members → MembersOk n d.members

-- a member that failed hands on to the next
failed_ok : (m : Members) (member n : ℕ) → nat_le 1 n ≡ true → MembersOk n m → MembersOk n (failed m member)
failed_ok m member n l h = by (member == m.current)
  where
    one : (k : ℕ) → nat_le 1 (k + 1) ≡ true
    one k = grind (arith, nat_tests)

    up : (a b c : ℕ) → (a == b) ≡ false → b ≡ c → nat_le a c ≡ true → nat_le (a + 1) c ≡ true
    up a b c e f g = grind (arith, nat_tests)

    by_last : (b : Bool) → (m.current == m.count) ≡ b → MembersOk n (record m { current = cond b 1 (m.current + 1) })
    by_last true e = record { count = h.count; low = refl; high = l }
    by_last false e = record { count = h.count; low = one m.current; high = up m.current m.count n e h.count h.high }

    by : (b : Bool) → MembersOk n (cond b (record m { current = next_member m.count m.current }) m)
    by true = by_last (m.current == m.count) refl
    by false = h

member_failed_same : (o : OutCall) (c : Core) → Same c (member_failed o c)
member_failed_same o c n l h = failed_ok c.members o.member n l h

header_same : (g : Header) (c : Core) → Same c (header_taken g c)
header_same g c n l h = record { count = h.count; low = h.low; high = h.high }

on : (c d e : Core) → Same c d → Same d e → Same c e
on c d e f g n l h = g n l (f n l h)

either : {A : Type 0} (P : A → Type 0) (b : Bool) (x y : A) → P x → P y → P (cond b x y)
either P true x y f g = f
either P false x y f g = g

-- Clock work.

clock_same : (now : ℕ) (c : Core) → Same c (clock_work now c)
unfolding clock_work
clock_same now c = either (Same c) (seat_is_over c.seat now) (without_session now (begun c)) (begun c) (λ n l h. h) (λ n l h. h)

abbrev Leaves : Core → Stepped → Type 0
Leaves c s = Same c s.core

-- Ask.

read_same : (m : Moment) (a : Asked) (c : Core) → Leaves c (read_is_asked m a c)
read_same m a c = by_stage (decided_ask m (ground_of (reads_of c)) a).stage
  where
    by_stage : (s : Stage) → Leaves c (read_by s c (with_reads c (read_asked m a (reads_of c))))
    by_stage (stage.Replied v) = (λ n l h. h)
    by_stage (stage.Calling s) = (λ n l h. h)
    by_stage stage.Acquiring = (λ n l h. h)
    by_stage stage.Joined = (λ n l h. h)
    by_stage stage.Behind = (λ n l h. h)
    by_stage stage.Writes = (λ n l h. h)
    by_stage (stage.Grouped s) = (λ n l h. h)

answered_same : (o : Option Body) (a : Asked) (c : Core) → Leaves c (answered_or_called o a c)
answered_same None a c = (λ n l h. h)
answered_same (Some b) a c = (λ n l h. h)

taken_same : (m : Moment) (a : Asked) (c : Core) → Leaves c (taken_in m a c)
taken_same m a c =
    let other = answered_or_called (if_live m.session (held_body c.own.entries a.request)) a c in
    either (Leaves c) (leases c) (leased_ask m a c) (call_is_asked a c)
    (either (Leaves c) (is_leased_read c.own.waits.prefix a.request) (read_is_asked m a c) (cond (writes_keys a.request) (write_is_asked a c) other)
    (read_same m a c)
    (either (Leaves c) (writes_keys a.request) (write_is_asked a c) other (λ n l h. h) (answered_same (if_live m.session (held_body c.own.entries a.request)) a c)))
    (λ n l h. h)

request_same : (q : Request) (m : Moment) (a : Asked) (c : Core) → Leaves c (request_asked q m a c)
request_same (request.Watch ask) m a c = (λ n l h. h)
request_same (request.Range ask) m a c = taken_same m a c
request_same (request.Put ask) m a c = taken_same m a c
request_same (request.Delete ask) m a c = taken_same m a c
request_same (request.Txn t) m a c = taken_same m a c
request_same (request.Compact revision physical) m a c = taken_same m a c
request_same (request.Grant ttl lease) m a c = taken_same m a c
request_same (request.Revoke lease) m a c = taken_same m a c
request_same (request.KeepAlive lease) m a c = taken_same m a c
request_same (request.TimeToLive lease keys) m a c = taken_same m a c
request_same request.Leases m a c = taken_same m a c

ask_same : (now ticket : ℕ) (q : Request) (word : ℕ) (c : Core) → Leaves c (on_ask now ticket q word c)
unfolding on_ask
ask_same now ticket q word c =
    either (Leaves c) (is_known ticket c) (faults c (fault.TicketUsed ticket)) (refused_or_taken (refusal_of c.own.waits.prefix q) (moment c now) (asked_at now ticket q word) c)
    (λ n l h. h) (by_refusal (refusal_of c.own.waits.prefix q))
  where
    by_refusal : (r : Option Refusal) → Leaves c (refused_or_taken r (moment c now) (asked_at now ticket q word) c)
    by_refusal None = request_same q (moment c now) (asked_at now ticket q word) c
    by_refusal (Some r) = (λ n l h. h)

-- Answer, Lost.

grant_fails : (o : OutCall) (c : Core) → Same c (grant_failed o c)
grant_fails o c = either (Same c) (seat_calls o.call c.seat) _ c (λ n l h. h) (λ n l h. h)

keep_fails : (o : OutCall) (c : Core) → Same c (keep_failed o c)
keep_fails o c = either (Same c) (seat_calls o.call c.seat) _ c (λ n l h. h) (λ n l h. h)

lost_job_same : (now : ℕ) (o : OutCall) (j : OutJob) (c : Core) → Same c (lost_job now o j c)
lost_job_same now o (job.Grant lease) c = grant_fails o c
lost_job_same now o (job.Keep lease) c = keep_fails o c
lost_job_same now o (job.Acquire k) c = (λ n l h. h)
lost_job_same now o job.Wait c = (λ n l h. h)
lost_job_same now o (job.Ask kind) c = (λ n l h. h)
lost_job_same now o (job.Group lease) c = (λ n l h. h)

lost_same : (now : ℕ) (o : OutCall) (c : Core) → Same c (lost_call now o c)
lost_same now o c = on c (member_failed o c) (lost_call now o c) (member_failed_same o c) (lost_job_same now o o.job (member_failed o c))

abbrev SameIf : Core → Option Core → Type 0
SameIf c None = Unit {0}
SameIf c (Some d) = Same c d

granted_same : (o : OutCall) (b : Body) (c : Core) → SameIf c (granted_by o b c)
granted_same o (body.Grant lease ttl) c = either (Same c) (seat_calls o.call c.seat) _ c (λ n l h. h) (λ n l h. h)
granted_same o (body.Range count more kvs) c = tt
granted_same o (body.Put prev) c = tt
granted_same o (body.Delete deleted prevs) c = tt
granted_same o (body.Txn' succeeded m bodies) c = tt
granted_same o body.Compact c = tt
granted_same o body.Revoke c = tt
granted_same o (body.KeepAlive lease ttl) c = tt
granted_same o (body.TimeToLive lease ttl granted keys) c = tt
granted_same o (body.Leases leases) c = tt

kept_same : (now : ℕ) (o : OutCall) (b : Body) (c : Core) → SameIf c (kept_by now o b c)
kept_same now o (body.KeepAlive lease ttl) c =
    either (Same c) (seat_calls o.call c.seat) (kept now o ttl c) c (either (Same c) (ttl == 0) (without_session now c) _ (λ n l h. h) (λ n l h. h)) (λ n l h. h)
kept_same now o (body.Range count more kvs) c = tt
kept_same now o (body.Put prev) c = tt
kept_same now o (body.Delete deleted prevs) c = tt
kept_same now o (body.Txn' succeeded m bodies) c = tt
kept_same now o body.Compact c = tt
kept_same now o (body.Grant lease ttl) c = tt
kept_same now o body.Revoke c = tt
kept_same now o (body.TimeToLive lease ttl granted keys) c = tt
kept_same now o (body.Leases leases) c = tt

acquire_same : (c : Core) (o : Option AfterAcquire) → SameIf c (acquire_if c o)
acquire_same c None = tt
acquire_same c (Some x) = by_end x.ends
  where
    by_end : (b : Bool) → Same c (with_reads (cond b (record c { seat = None }) c) x.reads)
    by_end true = (λ n l h. h)
    by_end false = (λ n l h. h)

wait_same : (c : Core) (o : Option Reads) → SameIf c (reads_if c o)
wait_same c None = tt
wait_same c (Some r) = (λ n l h. h)

ask_ends : (k : CallKind) (o : OutCall) (a : Answer) (c : Core) → SameIf c (ask_answered k o a c)
ask_ends k o (answer.Done reply) c =
    either (SameIf c) (is_body_of k reply.body) (Some (ask_done k o reply c)) None
    (either (Same c) (is_stale_reply k o reply) (with_caller o.call (stale_once c.members.count c.own.waits.step) (member_failed o c)) (with_caller o.call (said (answer.Done reply)) c) (member_failed_same o c) (λ n l h. h)) tt
ask_ends k o (answer.Refused r) c = (λ n l h. h)

job_same : (now : ℕ) (o : OutCall) (j : OutJob) (a : Answer) (c : Core) → SameIf c (answered_job now o j a c)
job_same now o (job.Grant lease) (answer.Done reply) c = granted_same o reply.body c
job_same now o (job.Grant lease) (answer.Refused r) c = grant_fails o c
job_same now o (job.Keep lease) (answer.Done reply) c = kept_same now o reply.body c
job_same now o (job.Keep lease) (answer.Refused r) c = keep_fails o c
job_same now o (job.Acquire k) a c = acquire_same c (acquire_answered (moment c now) k a (reads_of c))
job_same now o job.Wait a c = wait_same c (wait_answered (moment c now) o.call a (reads_of c))
job_same now o (job.Ask k) a c = ask_ends k o a c
job_same now o (job.Group lease) a c = either (SameIf c) (is_keepalive a) _ None (λ n l h. h) tt

or_lost_same : (now : ℕ) (o : OutCall) (c : Core) (x : Option Core) → SameIf c x → Same c (or_lost now o c x)
or_lost_same now o c None h = lost_same now o c
or_lost_same now o c (Some d) h = h

heard_same : (now : ℕ) (o : OutCall) (x : Option Answer) (c : Core) → Same c (heard_call now o x c)
heard_same now o None c = lost_same now o c
heard_same now o (Some a) c = or_lost_same now o c (answered_job now o o.job a c) (job_same now o o.job a c)

answered_call_same : (now : ℕ) (o : OutCall) (a : Answer) (c : Core) → Same c (answered_call now o a c)
answered_call_same now o (answer.Done reply) c =
    let d = header_taken reply.header c in
    on c d (heard_call now o (heard c.settings.namespace (answer.Done reply)) d) (header_same reply.header c) (heard_same now o (heard c.settings.namespace (answer.Done reply)) d)
answered_call_same now o (answer.Refused r) c = heard_same now o (heard c.settings.namespace (answer.Refused r)) c

answer_same : (now call : ℕ) (a : Answer) (x : Option OutCall) (c : Core) → Leaves c (answer_of now call a x c)
answer_same now call a None c = (λ n l h. h)
answer_same now call a (Some o) c = answered_call_same now o a (call_gone call c)

loss_same : (now call : ℕ) (x : Option OutCall) (c : Core) → Leaves c (loss_of now call x c)
loss_same now call None c = (λ n l h. h)
loss_same now call (Some o) c = lost_same now o (call_gone call c)

-- Tick, Item, Cut.

tick_same : (now word : ℕ) (c : Core) → Leaves c (on_tick now word c)
unfolding on_tick
tick_same now word c = either (Same c) (leases c) (ticked now word c) c (by_opening c.leasing) (λ n l h. h)
  where
    by_opening : (o : Option Opening) → Same c (leasing_ticked o (record c { seat = Some (seat_ticked word c.settings.ttl c.own.waits.step now c.seat) }))
    by_opening None = (λ n l h. h)
    by_opening (Some o) = (λ n l h. h)

message_same : (now : ℕ) (o : Opening) (x : WatchItem) (c : Core) → Same c (leasing_message now o x c)
message_same now o (item.Created h) c = either (Same c) o.stream.created c _ (λ n l h. h) (λ n l h. h)
message_same now o (item.Events h es) c = either (Same c) (is_readable o.stream es) _ (leasing_cut o c) (λ n l h. h) (λ n l h. h)
message_same now o (item.Canceled h compaction) c = either (Same c) (compaction == 0) (leasing_cut o c) _ (λ n l h. h) (λ n l h. h)

unwrapped_same : (now : ℕ) (o : Opening) (u : Unwrapped WatchItem) (c : Core) → Same c (leasing.unwrapped_message now o u c)
unwrapped_same now o (Ok x) c = message_same now o x c
unwrapped_same now o (Err foreign) c = (λ n l h. h)

sent_same : (now : ℕ) (o : Opening) (s : Option ℕ) (x : WatchItem) (c : Core) → Same c (message_if_sent now o s x c)
sent_same now o None x c = unwrapped_same now o (item_without c.settings.namespace x) c
sent_same now o (Some since) x c = (λ n l h. h)

leasing_same : (now : ℕ) (o : Opening) (x : WatchItem) (c : Core) → Same c (leasing_item now o x c)
leasing_same now o x c =
    let d = header_taken (leasing.item_header x) c in
    on c d (message_if_sent now o o.due x d) (header_same (leasing.item_header x) c) (sent_same now o o.due x d)

stream_message_same : (s : Stream) (x : WatchItem) (c : Core) → Same c (stream_message s x c)
stream_message_same s (item.Created h) c = (λ n l h. h)
stream_message_same s (item.Events h es) c = (λ n l h. h)
stream_message_same s (item.Canceled h compaction) c = (λ n l h. h)

stream_same : (s : Stream) (x : WatchItem) (c : Core) → Same c (stream_item s x c)
stream_same s x c =
    let d = header_taken (leasing.item_header x) c in
    either (Same c) (is_begun s.phase) (watching.unwrapped_message s (item_without d.settings.namespace x) d) d (by_text (item_without d.settings.namespace x)) (header_same (leasing.item_header x) c)
  where
    by_text : (u : Unwrapped WatchItem) → Same c (watching.unwrapped_message s u (header_taken (leasing.item_header x) c))
    by_text (Ok y) = on c (header_taken (leasing.item_header x) c) (stream_message s y (header_taken (leasing.item_header x) c)) (header_same (leasing.item_header x) c) (stream_message_same s y (header_taken (leasing.item_header x) c))
    by_text (Err foreign) = header_same (leasing.item_header x) c

client_item_same : (number : ℕ) (x : WatchItem) (s : Option Stream) (c : Core) → Leaves c (client_item number x s c)
client_item_same number x None c = (λ n l h. h)
client_item_same number x (Some s) c = stream_same s x c

item_same : (now number : ℕ) (x : WatchItem) (o : Option Opening) (c : Core) → Leaves c (item_of now number x o c)
item_same now number x None c = client_item_same number x (stream_at number c.watches.streams) c
item_same now number x (Some o) c = leasing_same now o x c

client_cut_same : (number : ℕ) (s : Option Stream) (c : Core) → Leaves c (client_cut number s c)
client_cut_same number None c = (λ n l h. h)
client_cut_same number (Some s) c = (λ n l h. h)

cut_same : (number : ℕ) (o : Option Opening) (c : Core) → Leaves c (cut_of number o c)
cut_same number None c = client_cut_same number (stream_at number c.watches.streams) c
cut_same number (Some o) c = (λ n l h. h)

-- Take, Leave.

item_taken_same : (ticket : ℕ) (w : Option Watch) (c : Core) → Leaves c (item_taken ticket w c)
item_taken_same ticket None c = (λ n l h. h)
item_taken_same ticket (Some w) c = by_pair (watches.taken_from c.watches c.header w w.queue)
  where
    by_pair : (x : Broadcasts × Option WatchItem) → Leaves c (taken_item c x)
    by_pair (b, None) = (λ n l h. h)
    by_pair (b, Some x) = (λ n l h. h)

take_by_stage : (ticket : ℕ) (s : Stage) (c : Core) → Leaves c (takes.taken_from ticket s c)
take_by_stage ticket (stage.Replied v) c = (λ n l h. h)
take_by_stage ticket (stage.Calling s) c = (λ n l h. h)
take_by_stage ticket stage.Acquiring c = (λ n l h. h)
take_by_stage ticket stage.Joined c = (λ n l h. h)
take_by_stage ticket stage.Behind c = (λ n l h. h)
take_by_stage ticket stage.Writes c = (λ n l h. h)
take_by_stage ticket (stage.Grouped s) c = (λ n l h. h)

take_same : (ticket : ℕ) (o : Option Asked) (c : Core) → Leaves c (taken ticket o c)
take_same ticket None c = item_taken_same ticket (watch_at ticket c.watches.watches) c
take_same ticket (Some a) c = take_by_stage ticket a.stage c

leave_same : (now ticket : ℕ) (o : Option Asked) (c : Core) → Leaves c (left now ticket o c)
leave_same now ticket None c = by_watch (watch_at ticket c.watches.watches)
  where
    by_watch : (w : Option Watch) → Leaves c (watcher_left ticket w c)
    by_watch None = (λ n l h. h)
    by_watch (Some w) = (λ n l h. h)
leave_same now ticket (Some a) c = (λ n l h. h)

-- Work.

work_same : (now : ℕ) (j : Option DueJob) (c : Core) → Leaves c (sent_by now j c)
work_same now None c = (λ n l h. h)
work_same now (Some (ForSession s)) c = (λ n l h. h)
work_same now (Some ForWrites) c = by_job (job_sent (next_call c) c.own)
  where
    by_job : (x : Option JobSent) → Leaves c (writes_sent now x c)
    by_job None = (λ n l h. h)
    by_job (Some x) = (λ n l h. h)
work_same now (Some (ForAcquire k x)) c = (λ n l h. h)
work_same now (Some (ForAsk a)) c = (λ n l h. h)
work_same now (Some (ForGroup lease ticket)) c = (λ n l h. h)
work_same now (Some (ToOpen o)) c = (λ n l h. h)
work_same now (Some (ForStream s)) c = by_job (next_job c.watches (Some s)).1
  where
    by_job : (o : Option StreamJob) → Leaves c (stream_job o (with_watches c (next_job c.watches (Some s)).0))
    by_job None = (λ n l h. h)
    by_job (Some (stream.Close number)) = (λ n l h. h)
    by_job (Some (stream.Open number range start)) = (λ n l h. h)

happened_same : (now : ℕ) (e : CoreEvent) (c : Core) → Leaves c (happened now e c)
unfolding on_answer on_lost on_item on_cut on_take on_leave on_work
happened_same now (event.Ask ticket q word) c = ask_same now ticket q word c
happened_same now (event.Answer call a) c = answer_same now call a (out_at call c.out) c
happened_same now (event.Lost call) c = loss_same now call (out_at call c.out) c
happened_same now (event.Tick word) c = tick_same now word c
happened_same now (event.Item number x) c = item_same now number x (opening_at number c.leasing) c
happened_same now (event.Cut number) c = cut_same number (opening_at number c.leasing) c
happened_same now (event.Take ticket) c = take_same ticket (ask_at ticket c.asks) c
happened_same now (event.Leave ticket) c = leave_same now ticket (ask_at ticket c.asks) c
happened_same now event.Work c = work_same now (first_job c) c

counted_same : (c : Core) (s : Stepped) → Leaves c s → Leaves c (counted s)
counted_same c s h = by_outcome s.outcome
  where
    by_outcome : (o : Result Outcome StepFault) → Leaves c (counted_by s.core o)
    by_outcome (Ok o) = h
    by_outcome (Err f) = h

pub members_stay : (c : Core) (e : CoreEvent) (now n : ℕ) → nat_le 1 n ≡ true → MembersOk n c.members → MembersOk n (stepped c e now).core.members
unfolding stepped
members_stay c e now =
    let d = clock_work now c in
    either (Leaves c) (is_worn c) (faults c fault.Worn) (counted (happened now e d)) (λ n l h. h)
    (on c d (counted (happened now e d)).core (clock_same now c) (counted_same d (happened now e d) (happened_same now e d)))

-- the members that a job is given out to
clock_members : (c : Core) (now n : ℕ) → nat_le 1 n ≡ true → MembersOk n c.members → MembersOk n (clock_work now c).members
clock_members c now n l h = clock_same now c n l h

-- a call or an opening goes to the current one
abbrev pub GoesTo : ℕ → Result Outcome StepFault → Type 0
GoesTo n (Ok (outcome.Job (Some (sent.Call own member ticket q)))) = (nat_le 1 member ≡ true) × (nat_le member n ≡ true)
GoesTo n (Ok (outcome.Job (Some (sent.Begin own member q)))) = (nat_le 1 member ≡ true) × (nat_le member n ≡ true)
GoesTo n _ = Unit {0}

sent_goes : (n now : ℕ) (j : Option DueJob) (c : Core) → MembersOk n c.members → GoesTo n (sent_by now j c).outcome
sent_goes n now None c h = tt
sent_goes n now (Some (ForSession s)) c h = (h.low, h.high)
sent_goes n now (Some ForWrites) c h = by_job (job_sent (next_call c) c.own)
  where
    by_job : (x : Option JobSent) → GoesTo n (writes_sent now x c).outcome
    by_job None = tt
    by_job (Some x) = (h.low, h.high)
sent_goes n now (Some (ForAcquire k x)) c h = (h.low, h.high)
sent_goes n now (Some (ForAsk a)) c h = (h.low, h.high)
sent_goes n now (Some (ForGroup lease ticket)) c h = (h.low, h.high)
sent_goes n now (Some (ToOpen o)) c h = (h.low, h.high)
sent_goes n now (Some (ForStream s)) c h = by_job (next_job c.watches (Some s)).1
  where
    by_job : (o : Option StreamJob) → GoesTo n (stream_job o (with_watches c (next_job c.watches (Some s)).0)).outcome
    by_job None = tt
    by_job (Some (stream.Close number)) = tt
    by_job (Some (stream.Open number range start)) = (h.low, h.high)

counted_goes : (n : ℕ) (s : Stepped) → GoesTo n s.outcome → GoesTo n (counted s).outcome
counted_goes n s h = by_outcome s.outcome h
  where
    by_outcome : (o : Result Outcome StepFault) → GoesTo n o → GoesTo n (counted_by s.core o).outcome
    by_outcome (Ok o) h = h
    by_outcome (Err f) h = tt

pub work_goes : (c : Core) (now n : ℕ) → nat_le 1 n ≡ true → MembersOk n c.members → GoesTo n (stepped c event.Work now).outcome
unfolding stepped on_work
work_goes c now n l h =
    let d = clock_work now c in
    either (λ (s : Stepped). GoesTo n s.outcome) (is_worn c) (faults c fault.Worn) (counted (happened now event.Work d)) tt (counted_goes n (happened now event.Work d) (sent_goes n now (first_job d) d (clock_members c now n l h)))
