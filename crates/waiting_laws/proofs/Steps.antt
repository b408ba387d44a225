-- Every step keeps that each rescind that was sent is out.
use Rattle.std.proofs.Common.{◌≡◌, ℕ, ◌==◌, true, false, cond, List, Option, None, Some, Result, Ok, Err, refl, sym, ◌∙◌, ap}
use Rattle.etcd_types.specs.declared.answer.Answer.{Answer}
use Rattle.etcd_types.specs.declared.answer.Body.{Body}
use Rattle.etcd_types.specs.declared.answer.Refusal.{Refusal}
use Rattle.etcd_types.specs.declared.record.Header.{Header}
use Rattle.etcd_types.specs.declared.request.Request.{Request}
use Rattle.etcd_types.specs.declared.request.Request.TheVariants as request
use Rattle.etcd_types.specs.declared.watch.Event.{Event}
use Rattle.etcd_types.specs.declared.watch.WatchItem.{WatchItem}
use Rattle.etcd_types.specs.declared.watch.WatchItem.TheVariants as item
use Rattle.proxy_model.specs.declared.lease.Entry.{Entry}
use Rattle.proxy_model.specs.declared.lease.Phase.{Phase}
use Rattle.proxy_model.specs.declared.lease.Phase.TheVariants.{Held, Writing, Leaving}
use Rattle.proxy_model.specs.Keyed.{at, is_in_order}
use Rattle.proxy_model.specs.Unwrapped.{Unwrapped, item_without}
use Rattle.proxy_model.specs.Upstream.{created, advance, opened}
use Rattle.wait_model.specs.Asked.{submitted}
use Rattle.wait_model.specs.LeasingStream.{resynced, all_given_up}
use Rattle.wait_model.specs.Notices.{all_noticed}
use Rattle.wait_model.specs.Sent.{JobSent, job_sent}
use Rattle.watch_model.specs.declared.stream.StreamJob.{StreamJob}
use Rattle.watch_model.specs.declared.stream.StreamJob.TheVariants as stream
use Rattle.watch_model.specs.Due.{next_job}
use Rattle.watch_model.specs.Lookups.{stream_at, watch_at, is_begun}
use Rattle.watch_model.specs.State.{Stream, Watch, Broadcasts}
use Rattle.watch_model.specs.Takes as watches
use Rattle.read_model.specs.declared.asked.Asked.{Asked}
use Rattle.read_model.specs.declared.asked.Stage.{Stage}
use Rattle.read_model.specs.declared.asked.Stage.TheVariants as stage
use Rattle.read_model.specs.Acquires.{read_asked}
use Rattle.read_model.specs.PlainRead.{decided_ask}
use Rattle.read_model.specs.State.{ground_of}
use Rattle.core_model.specs.declared.event.CoreEvent.{CoreEvent}
use Rattle.core_model.specs.declared.event.CoreEvent.TheVariants as event
use Rattle.core_model.specs.declared.event.Outcome.{Outcome}
use Rattle.core_model.specs.declared.event.StepFault.{StepFault}
use Rattle.core_model.specs.declared.event.StepFault.TheVariants as fault
use Rattle.core_model.specs.declared.out_call.OutCall.{OutCall}
use Rattle.core_model.specs.Asking.{asked_at, is_leased_read, read_by, read_is_asked, with_ask, write_is_asked, held_body, if_live, call_stage, call_is_asked, answered_or_called, leased_ask, taken_in, request_asked, refused_or_taken, on_ask}
use Rattle.core_model.specs.ClockWork.{writes_go_on, clock_work}
use Rattle.core_model.specs.DueJobs.{DueJob, ForSession, ForWrites, ForAcquire, ForAsk, ForGroup, ToOpen, ForStream, first_job}
use Rattle.core_model.specs.Ends.{call_gone, answered_call, lost_call, answer_of, on_answer, loss_of, on_lost}
use Rattle.core_model.specs.Heard.{header_taken}
use Rattle.core_model.specs.Kinds.{writes_keys}
use Rattle.core_model.specs.LeasingStream.{leasing_ticked, leasing_cut, due_anew, stream_is, own_created, leasing_created, leasing_cancelled, told_revision, is_readable, leasing_told, leasing_message, message_if_sent, item_header, leasing_item}
use Rattle.core_model.specs.LeasingStream as leasing
use Rattle.core_model.specs.Lookups.{leases, reads_of, with_reads, has_ticket, without_ask, ask_at, is_known, out_at, live_number, moment}
use Rattle.core_model.specs.Refusals.{refusal_of}
use Rattle.core_model.specs.Sending.{next_call, writes_sent, sent_by, on_work}
use Rattle.core_model.specs.Sessions.{seat_ticked}
use Rattle.core_model.specs.State.{Opening, Core}
use Rattle.core_model.specs.Step.{ticked, on_tick, opening_at, client_item, item_of, on_item, client_cut, cut_of, on_cut, happened, is_worn, stepped}
use Rattle.core_model.specs.Stepped.{Stepped, faults, counted, counted_by}
use Rattle.core_model.specs.Takes.{item_taken, taken, on_take, has_left, watcher_left, left, on_leave}
use Rattle.core_model.specs.Takes as takes
use Rattle.core_model.specs.Watching.{stream_message, stream_item, taken_item, stream_job, with_watches}
use Rattle.core_model.specs.Watching as watching
use Rattle.core_laws.proofs.Steps.Comes.{by_test}
use Rattle.waiting_laws.specs.Laws.{RescindsAreOut}
use Rattle.waiting_laws.proofs.Entries.{phase_fits, is_among, entry_fits, none_out}
use Rattle.waiting_laws.proofs.Owned.{OwnOut, proceeded_out, message_out, given_up_out, SentOut, job_sent_out}
use Rattle.waiting_laws.proofs.Ends.{decided_out, off_out, CoreOut, clock_out, lost_call_out, answered_call_out}

abbrev After : Stepped → Type 0
After s = CoreOut s.core

went_on : (c : Core) → CoreOut c → CoreOut (writes_go_on c)
went_on c h = proceeded_out c.own h

-- ---- Ask

read_after : (now : ℕ) (a : Asked) (c : Core) → CoreOut c → After (read_is_asked (moment c now) a c)
read_after now a c h = by_stage (decided_ask (moment c now) (ground_of (reads_of c)) a).stage
  where
    waits : CoreOut (writes_go_on (with_reads c (read_asked (moment c now) a (reads_of c))))
    waits = went_on (with_reads c (read_asked (moment c now) a (reads_of c))) (decided_out (moment c now) (ground_of (reads_of c)) a h)

    by_stage : (s : Stage) → After (read_by s c (with_reads c (read_asked (moment c now) a (reads_of c))))
    by_stage (stage.Calling s) = waits
    by_stage stage.Acquiring = waits
    by_stage stage.Joined = waits
    by_stage stage.Behind = waits
    by_stage stage.Writes = waits
    by_stage (stage.Grouped s) = waits
    by_stage (stage.Replied v) = h

call_after : (a : Asked) (c : Core) → CoreOut c → After (call_is_asked a c)
call_after a c h = went_on (with_ask (call_stage a.request c) a c) h

write_after : (a : Asked) (c : Core) → CoreOut c → After (write_is_asked a c)
write_after a c h = went_on (with_ask stage.Writes a (record c { own = submitted a.ticket a.request c.own })) h

answered_after : (o : Option Body) (a : Asked) (c : Core) → CoreOut c → After (answered_or_called o a c)
answered_after None a c h = call_after a c h
answered_after (Some b) a c h = h

taken_after : (now : ℕ) (a : Asked) (c : Core) → CoreOut c → After (taken_in (moment c now) a c)
taken_after now a c h =
    let m = moment c now in
    let other = answered_or_called (if_live m.session (held_body c.own.entries a.request)) a c in
    by_test After (leases c) (leased_ask m a c) (call_is_asked a c)
    (λ t. by_test After (is_leased_read c.own.waits.prefix a.request) (read_is_asked m a c) (cond (writes_keys a.request) (write_is_asked a c) other)
    (λ u. read_after now a c h)
    (λ u. by_test After (writes_keys a.request) (write_is_asked a c) other (λ v. write_after a c h) (λ v. answered_after (if_live m.session (held_body c.own.entries a.request)) a c h)))
    (λ t. call_after a c h)

request_after : (q : Request) (now : ℕ) (a : Asked) (c : Core) → CoreOut c → After (request_asked q (moment c now) a c)
request_after (request.Watch ask) now a c h = h
request_after (request.Range ask) now a c h = taken_after now a c h
request_after (request.Put ask) now a c h = taken_after now a c h
request_after (request.Delete ask) now a c h = taken_after now a c h
request_after (request.Txn t) now a c h = taken_after now a c h
request_after (request.Compact revision physical) now a c h = taken_after now a c h
request_after (request.Grant ttl lease) now a c h = taken_after now a c h
request_after (request.Revoke lease) now a c h = taken_after now a c h
request_after (request.KeepAlive lease) now a c h = taken_after now a c h
request_after (request.TimeToLive lease keys) now a c h = taken_after now a c h
request_after request.Leases now a c h = taken_after now a c h

ask_after : (now ticket : ℕ) (q : Request) (word : ℕ) (c : Core) → CoreOut c → After (on_ask now ticket q word c)
unfolding on_ask
ask_after now ticket q word c h =
    by_test After (is_known ticket c) (faults c (fault.TicketUsed ticket)) (refused_or_taken (refusal_of c.own.waits.prefix q) (moment c now) (asked_at now ticket q word) c) (λ t. h) (λ t. by (refusal_of c.own.waits.prefix q))
  where
    by : (r : Option Refusal) → After (refused_or_taken r (moment c now) (asked_at now ticket q word) c)
    by None = request_after q now (asked_at now ticket q word) c h
    by (Some r) = h

-- ---- Answer, Lost

answer_after : (now call : ℕ) (a : Answer) (c : Core) → CoreOut c → (x : Option OutCall) → After (answer_of now call a x c)
answer_after now call a c h None = h
answer_after now call a c h (Some o) = went_on (answered_call now o a (call_gone call c)) (answered_call_out now o a (call_gone call c) h)

loss_after : (now call : ℕ) (c : Core) → CoreOut c → (x : Option OutCall) → After (loss_of now call x c)
loss_after now call c h None = h
loss_after now call c h (Some o) = went_on (lost_call now o (call_gone call c)) (lost_call_out now o (call_gone call c) h)

-- ---- Tick

tick_after : (now word : ℕ) (c : Core) → CoreOut c → After (on_tick now word c)
unfolding on_tick
tick_after now word c h = by_test CoreOut (leases c) (ticked now word c) c (λ t. by c.leasing) (λ t. h)
  where
    by : (o : Option Opening) → CoreOut (leasing_ticked o (record c { seat = Some (seat_ticked word c.settings.ttl c.own.waits.step now c.seat) }))
    by None = h
    by (Some o) = h

-- ---- Item, Cut

created_out : (o : Opening) (d : Header) (c : Core) → CoreOut c → CoreOut (leasing_created o d c)
created_out o d c h =
    by_test CoreOut o.stream.created c (record (stream_is o (created o.stream d.revision) c) { own = own_created o.stream.next c.own }) (λ t. h)
    (λ t. by_test OwnOut (o.stream.next == 0) (resynced c.own) c.own (λ u. h) (λ u. h))

told_out : (now : ℕ) (o : Opening) (d : Header) (es : List Event) (c : Core) → CoreOut c → CoreOut (leasing_told now o d es c)
told_out now o d es c h =
    let s = stream_is o (advance o.stream (told_revision d es)) c in
    let session = live_number c.seat now in
    by_test CoreOut (is_readable o.stream es) (record s { own = all_noticed session es c.own }) (leasing_cut o c) (λ t. message_out session es c.own h) (λ t. h)

cancelled_out : (o : Opening) (compaction : ℕ) (c : Core) → CoreOut c → CoreOut (leasing_cancelled o compaction c)
cancelled_out o compaction c h =
    by_test CoreOut (compaction == 0) (leasing_cut o c) (due_anew (opened o.stream.range 0) (record c { own = all_given_up c.own })) (λ t. h) (λ t. given_up_out c.own h)

leasing_out : (now : ℕ) (o : Opening) (x : WatchItem) (c : Core) → CoreOut c → CoreOut (leasing_item now o x c)
leasing_out now o x c h = by_due o.due
  where
    d : Core
    d = header_taken (item_header x) c

    by_message : (y : WatchItem) → CoreOut (leasing_message now o y (header_taken (item_header x) c))
    by_message (item.Created header) = created_out o header d h
    by_message (item.Events header es) = told_out now o header es d h
    by_message (item.Canceled header compaction) = cancelled_out o compaction d h

    by_text : (u : Unwrapped WatchItem) → CoreOut (leasing.unwrapped_message now o u (header_taken (item_header x) c))
    by_text (Ok y) = by_message y
    by_text (Err foreign) = h

    by_due : (s : Option ℕ) → CoreOut (message_if_sent now o s x (header_taken (item_header x) c))
    by_due None = by_text (item_without c.settings.namespace x)
    by_due (Some since) = h

stream_out : (s : Stream) (x : WatchItem) (c : Core) → CoreOut c → CoreOut (stream_item s x c)
stream_out s x c h =
    by_test CoreOut (is_begun s.phase) (watching.unwrapped_message s (item_without c.settings.namespace x) (header_taken (item_header x) c)) (header_taken (item_header x) c)
    (λ t. by_text (item_without c.settings.namespace x)) (λ t. h)
  where
    by_message : (y : WatchItem) → CoreOut (stream_message s y (header_taken (item_header x) c))
    by_message (item.Created d) = h
    by_message (item.Events d es) = h
    by_message (item.Canceled d compaction) = h

    by_text : (u : Unwrapped WatchItem) → CoreOut (watching.unwrapped_message s u (header_taken (item_header x) c))
    by_text (Ok y) = by_message y
    by_text (Err foreign) = h

item_after : (now number : ℕ) (x : WatchItem) (c : Core) → CoreOut c → (o : Option Opening) → After (item_of now number x o c)
item_after now number x c h None = by (stream_at number c.watches.streams)
  where
    by : (s : Option Stream) → After (client_item number x s c)
    by None = h
    by (Some s) = went_on (stream_item s x c) (stream_out s x c h)
item_after now number x c h (Some o) = went_on (leasing_item now o x c) (leasing_out now o x c h)

cut_after : (number : ℕ) (c : Core) → CoreOut c → (o : Option Opening) → After (cut_of number o c)
cut_after number c h None = by (stream_at number c.watches.streams)
  where
    by : (s : Option Stream) → After (client_cut number s c)
    by None = h
    by (Some s) = h
cut_after number c h (Some o) = h

-- ---- Take, Leave

take_after : (ticket : ℕ) (c : Core) → CoreOut c → (o : Option Asked) → After (taken ticket o c)
take_after ticket c h None = by_watch (watch_at ticket c.watches.watches)
  where
    by_pair : (x : Broadcasts × Option WatchItem) → After (taken_item c x)
    by_pair (b, None) = h
    by_pair (b, Some x) = h

    by_watch : (w : Option Watch) → After (item_taken ticket w c)
    by_watch None = h
    by_watch (Some w) = by_pair (watches.taken_from c.watches c.header w w.queue)
take_after ticket c h (Some a) = by a.stage
  where
    by : (s : Stage) → After (takes.taken_from ticket s c)
    by (stage.Calling s) = h
    by stage.Acquiring = h
    by stage.Joined = h
    by stage.Behind = h
    by stage.Writes = h
    by (stage.Grouped s) = h
    by (stage.Replied v) = h

leave_after : (now ticket : ℕ) (c : Core) → CoreOut c → (o : Option Asked) → After (left now ticket o c)
leave_after now ticket c h None = by (watch_at ticket c.watches.watches)
  where
    by : (x : Option Watch) → After (watcher_left ticket x c)
    by None = h
    by (Some x) = h
leave_after now ticket c h (Some a) = went_on (has_left now ticket c) (off_out (moment c now) (has_ticket ticket) (without_ask ticket c.asks) (reads_of c) h)

-- ---- Work

writes_after : (now : ℕ) (c : Core) → CoreOut c → (x : Option JobSent) → SentOut x → After (writes_sent now x c)
writes_after now c h None g = h
writes_after now c h (Some x) g = g

stream_after : (o : Option StreamJob) (c : Core) → CoreOut c → After (stream_job o c)
stream_after None c h = h
stream_after (Some (stream.Close number)) c h = h
stream_after (Some (stream.Open number range from)) c h = h

work_after : (now : ℕ) (c : Core) → CoreOut c → (j : Option DueJob) → After (sent_by now j c)
work_after now c h None = h
work_after now c h (Some (ForSession x)) = h
work_after now c h (Some ForWrites) = writes_after now c h (job_sent (next_call c) c.own) (job_sent_out (next_call c) c.own h)
work_after now c h (Some (ForAcquire k x)) = h
work_after now c h (Some (ForAsk a)) = h
work_after now c h (Some (ForGroup lease ticket)) = h
work_after now c h (Some (ToOpen o)) = h
work_after now c h (Some (ForStream x)) = stream_after (next_job c.watches (Some x)).1 (with_watches c (next_job c.watches (Some x)).0) h

-- ---- the whole step

happened_after : (now : ℕ) (e : CoreEvent) (c : Core) → CoreOut c → After (happened now e c)
unfolding on_answer on_lost on_item on_cut on_take on_leave on_work
happened_after now (event.Ask ticket q word) c h = ask_after now ticket q word c h
happened_after now (event.Answer call a) c h = answer_after now call a c h (out_at call c.out)
happened_after now (event.Lost call) c h = loss_after now call c h (out_at call c.out)
happened_after now (event.Tick word) c h = tick_after now word c h
happened_after now (event.Item number x) c h = item_after now number x c h (opening_at number c.leasing)
happened_after now (event.Cut number) c h = cut_after number c h (opening_at number c.leasing)
happened_after now (event.Take ticket) c h = take_after ticket c h (ask_at ticket c.asks)
happened_after now (event.Leave ticket) c h = leave_after now ticket c h (ask_at ticket c.asks)
happened_after now event.Work c h = work_after now c h (first_job c)

counted_after : (s : Stepped) → After s → After (counted s)
counted_after s h = by s.outcome
  where
    by : (o : Result Outcome StepFault) → After (counted_by s.core o)
    by (Ok o) = h
    by (Err f) = h

pub step_out : (c : Core) (e : CoreEvent) (now : ℕ) → CoreOut c → CoreOut (stepped c e now).core
unfolding stepped
step_out c e now h =
    by_test After (is_worn c) (faults c fault.Worn) (counted (happened now e (clock_work now c))) (λ t. h)
    (λ t. counted_after (happened now e (clock_work now c)) (happened_after now e (clock_work now c) (clock_out now c h)))

pub they_are_out : (c : Core) → CoreOut c → RescindsAreOut c
they_are_out c h k e at_key p =
    sym (ap (phase_fits (is_among c.own.waits.out k e.create)) p) ∙ sym (ap (entry_fits c.own.waits.out k) at_key) ∙ h.sent k

-- and where they are, so are their entries
pub rescinds_out : (c : Core) → is_in_order c.own.entries ≡ true → RescindsAreOut c → CoreOut c
rescinds_out c order h = record { order = order; sent = λ k. by k (at c.own.entries k) refl }
  where
    by_phase : (k : List ℕ) (e : Entry) (p : Phase) → e.phase ≡ p → at c.own.entries k ≡ Some e → phase_fits (is_among c.own.waits.out k e.create) p ≡ true
    by_phase k e Held q f = refl
    by_phase k e (Writing revoked) q f = refl
    by_phase k e (Leaving false) q f = refl
    by_phase k e (Leaving true) q f = h k e f q

    by : (k : List ℕ) (o : Option Entry) → at c.own.entries k ≡ o → entry_fits c.own.waits.out k o ≡ true
    by k None f = refl
    by k (Some e) f = by_phase k e e.phase refl f
