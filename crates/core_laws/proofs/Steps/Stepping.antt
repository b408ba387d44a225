-- Each kind of event keeps what is to hold of a proxy, and so does a whole step.
use Rattle.std.proofs.Common.{◌≡◌, ℕ, ◌+◌, ◌==◌, true, false, not, cond, ◌||◌, List, [], ◌∷◌, Option, None, Some, is_some, Result, Ok, Err, refl, sym, ◌∙◌, ap, subst, arith}
use Rattle.etcd_types.specs.declared.answer.Answer.{Answer}
use Rattle.etcd_types.specs.declared.answer.Body.{Body}
use Rattle.etcd_types.specs.declared.answer.Refusal.{Refusal}
use Rattle.etcd_types.specs.declared.record.Header.{Header}
use Rattle.etcd_types.specs.declared.request.Request.{Request}
use Rattle.etcd_types.specs.declared.request.Request.TheVariants as request
use Rattle.etcd_types.specs.declared.watch.Event.{Event}
use Rattle.etcd_types.specs.declared.watch.WatchItem.{WatchItem}
use Rattle.etcd_types.specs.declared.watch.WatchItem.TheVariants as item
use Rattle.etcd_types.proofs.Bools.{or_first, or_left, or_false}
use Rattle.proxy_model.specs.declared.session.Standing.{Standing}
use Rattle.proxy_model.specs.Session.{is_due}
use Rattle.proxy_model.specs.Unwrapped.{Unwrapped, item_without}
use Rattle.proxy_model.specs.Upstream.{Upstream, created, advance, opened}
use Rattle.wait_model.specs.declared.sending.Sending.{Sending}
use Rattle.wait_model.specs.declared.sending.Sending.TheVariants as sending
use Rattle.wait_model.specs.LeasingStream.{resynced, all_given_up}
use Rattle.wait_model.specs.Notices.{all_noticed}
use Rattle.wait_model.specs.Sent.{JobSent, job_sent}
use Rattle.wait_model.specs.State.{Ownership}
use Rattle.watch_model.specs.declared.stream.StreamJob.{StreamJob}
use Rattle.watch_model.specs.declared.stream.StreamJob.TheVariants as stream
use Rattle.watch_model.specs.Cuts.{cut_stream}
use Rattle.watch_model.specs.Due.{next_job}
use Rattle.watch_model.specs.Joining.{joined}
use Rattle.watch_model.specs.Leaving.{removed}
use Rattle.watch_model.specs.Lookups.{stream_at, watch_at, is_begun}
use Rattle.watch_model.specs.State.{Stream, Watch, Broadcasts}
use Rattle.watch_model.specs.Takes as watches
use Rattle.read_model.specs.declared.asked.Asked.{Asked}
use Rattle.read_model.specs.declared.asked.Stage.{Stage}
use Rattle.read_model.specs.declared.asked.Stage.TheVariants as stage
use Rattle.read_model.specs.Acquires.{read_asked}
use Rattle.read_model.specs.Fits.{ReadsOk}
use Rattle.read_model.specs.PlainRead.{decided_ask}
use Rattle.read_model.specs.Release.{ask_stands}
use Rattle.read_model.specs.State.{Moment, ground_of}
use Rattle.core_model.specs.declared.event.CoreEvent.{CoreEvent}
use Rattle.core_model.specs.declared.event.CoreEvent.TheVariants as event
use Rattle.core_model.specs.declared.event.Outcome.{Outcome}
use Rattle.core_model.specs.declared.event.StepFault.{StepFault}
use Rattle.core_model.specs.declared.event.StepFault.TheVariants as fault
use Rattle.core_model.specs.declared.out_call.OutCall.{OutCall}
use Rattle.core_model.specs.Asking.{asked_at, is_leased_read, read_by, read_is_asked, with_ask, write_is_asked, held_body, if_live, call_stage, call_is_asked, answered_or_called, leased_ask, taken_in, request_asked, refused_or_taken, on_ask}
use Rattle.core_model.specs.ClockWork.{is_replied, begun, writes_go_on, clock_work}
use Rattle.core_model.specs.DueJobs.{DueJob, ForSession, ForWrites, ForAcquire, ForAsk, ForGroup, ToOpen, ForStream, first_job}
use Rattle.core_model.specs.Ends.{call_gone, answered_call, lost_call, answer_of, on_answer, loss_of, on_lost}
use Rattle.core_model.specs.Fits.{has_number, job_at, has_standing, is_standing, is_seated, is_call_out, is_seat_out, ask_tickets, CoreOk}
use Rattle.core_model.specs.Heard.{heard, header_taken}
use Rattle.core_model.specs.Kinds.{writes_keys}
use Rattle.core_model.specs.LeasingStream.{due_anew, leasing_ticked, leasing_cut, stream_is, own_created, leasing_created, leasing_cancelled, told_revision, is_readable, leasing_told, leasing_message, message_if_sent, item_header, leasing_item, opening_sent}
use Rattle.core_model.specs.LeasingStream as leasing
use Rattle.core_model.specs.Lookups.{leases, live_number, reads_of, with_reads, has_ticket, ask_at, is_known, out_at, moment}
use Rattle.core_model.specs.Refusals.{refusal_of}
use Rattle.core_model.specs.Sending.{next_call, writes_sent, sent_by, on_work}
use Rattle.core_model.specs.Sessions.{without_session, seat_is_over, call_ticked, seat_ticked}
use Rattle.core_model.specs.State.{Seat, Opening, Core, first_core}
use Rattle.core_model.specs.declared.settings.Settings.{Settings}
use Rattle.core_model.specs.Step.{ticked, on_tick, opening_at, client_item, item_of, on_item, client_cut, cut_of, on_cut, happened, is_worn, stepped}
use Rattle.core_model.specs.Stepped.{Stepped, faults, counted, counted_by}
use Rattle.core_model.specs.Takes.{gone, item_taken, taken, on_take, has_left, watcher_left, left, on_leave}
use Rattle.core_model.specs.Takes as takes
use Rattle.core_model.specs.Watching.{watch_is_asked, stream_message, message_if_begun, stream_item, taken_item, watch_taken, stream_job, stream_sent, with_watches}
use Rattle.core_model.specs.Watching as watching
use Rattle.core_laws.specs.Steps.Kept.{HeardBytes, IsHeard, StepsKeep, Timed, after, ran, AllHeard, RunsKeep, RunsLeaveNoneIdle, RunsShareKeepalives}
use Rattle.core_laws.proofs.Steps.Asks.{unknown, call_mid, write_mid, read_mid}
use Rattle.core_laws.proofs.Steps.Calls.{IsFound, found_is}
use Rattle.core_laws.proofs.Steps.Comes.{by_test}
use Rattle.core_laws.proofs.Steps.Due.{DueIf, first_due}
use Rattle.core_laws.proofs.Steps.Idle.{none_is_idle}
use Rattle.core_laws.proofs.Steps.Lists.{all_filtered}
use Rattle.core_laws.proofs.Steps.Middle.{left_mid, clock_whole, message_mid, resynced_mid, given_up_mid, lost_mid, answered_mid}
use Rattle.core_laws.proofs.Steps.Sends.{session_whole, writes_whole, acquire_whole, ask_whole, group_whole}
use Rattle.core_laws.proofs.Steps.Start.{start_fits}
use Rattle.core_laws.proofs.Steps.TakenOff.{gone_agrees}
use Rattle.core_laws.proofs.Steps.Whole.{Mid, Whole, goes_whole, beside_mid, beside_whole, is_ok, of_ok, counted_ok}

-- what stands after a step of its event
abbrev After : ℕ → Stepped → Type 0
After most s = Whole most s.core

watches_whole : (most : ℕ) (c : Core) (b : Broadcasts) → Whole most c → Whole most (with_watches c b)
watches_whole most c b h = beside_whole most c c.members c.header c.leasing b h

-- Ask.

call_after : (most : ℕ) (a : Asked) (c : Core) → has_number (ask_tickets c.asks) a.ticket ≡ false → Whole most c → After most (call_is_asked a c)
call_after most a c n h = goes_whole most (with_ask (call_stage a.request c) a c) (call_mid most c a n h.mid)

read_after : (most : ℕ) (m : Moment) (a : Asked) (c : Core) → has_number (ask_tickets c.asks) a.ticket ≡ false → Whole most c → After most (read_is_asked m a c)
read_after most m a c n h = by_stage (decided_ask m (ground_of (reads_of c)) a).stage
  where
    waits : Whole most (writes_go_on (with_reads c (read_asked m a (reads_of c))))
    waits = goes_whole most (with_reads c (read_asked m a (reads_of c))) (read_mid most m c a n h.mid)

    by_stage : (s : Stage) → After most (read_by s c (with_reads c (read_asked m a (reads_of c))))
    by_stage (stage.Calling s) = waits
    by_stage stage.Acquiring = waits
    by_stage stage.Joined = waits
    by_stage stage.Behind = waits
    by_stage stage.Writes = waits
    by_stage (stage.Grouped s) = waits
    by_stage (stage.Replied v) = h

answered_after : (most : ℕ) (o : Option Body) (a : Asked) (c : Core) → has_number (ask_tickets c.asks) a.ticket ≡ false → Whole most c → After most (answered_or_called o a c)
answered_after most None a c n h = call_after most a c n h
answered_after most (Some b) a c n h = h

taken_after : (most : ℕ) (m : Moment) (a : Asked) (c : Core) → has_number (ask_tickets c.asks) a.ticket ≡ false → Whole most c → After most (taken_in m a c)
taken_after most m a c n h =
    let other = answered_or_called (if_live m.session (held_body c.own.entries a.request)) a c in
    by_test (After most) (leases c) (leased_ask m a c) (call_is_asked a c)
    (λ t. by_test (After most) (is_leased_read c.own.waits.prefix a.request) (read_is_asked m a c) (cond (writes_keys a.request) (write_is_asked a c) other)
    (λ u. read_after most m a c n h)
    (λ u. by_test (After most) (writes_keys a.request) (write_is_asked a c) other
    (λ v. goes_whole most _ (write_mid most c a n v h.mid))
    (λ v. answered_after most (if_live m.session (held_body c.own.entries a.request)) a c n h)))
    (λ t. call_after most a c n h)

request_after : (most : ℕ) (q : Request) (m : Moment) (a : Asked) (c : Core) → has_number (ask_tickets c.asks) a.ticket ≡ false → Whole most c → After most (request_asked q m a c)
request_after most (request.Watch ask) m a c n h = watches_whole most c (joined c.watches a.ticket ask c.header) h
request_after most (request.Range ask) m a c n h = taken_after most m a c n h
request_after most (request.Put ask) m a c n h = taken_after most m a c n h
request_after most (request.Delete ask) m a c n h = taken_after most m a c n h
request_after most (request.Txn t) m a c n h = taken_after most m a c n h
request_after most (request.Compact revision physical) m a c n h = taken_after most m a c n h
request_after most (request.Grant ttl lease) m a c n h = taken_after most m a c n h
request_after most (request.Revoke lease) m a c n h = taken_after most m a c n h
request_after most (request.KeepAlive lease) m a c n h = taken_after most m a c n h
request_after most (request.TimeToLive lease keys) m a c n h = taken_after most m a c n h
request_after most request.Leases m a c n h = taken_after most m a c n h

ask_after : (most now ticket : ℕ) (q : Request) (word : ℕ) (c : Core) → Whole most c → After most (on_ask now ticket q word c)
unfolding on_ask
ask_after most now ticket q word c h =
    by_test (After most) (is_known ticket c) (faults c (fault.TicketUsed ticket)) (refused_or_taken (refusal_of c.own.waits.prefix q) (moment c now) (asked_at now ticket q word) c)
    (λ t. h)
    (λ t. by_refusal (refusal_of c.own.waits.prefix q) (unknown ticket c.asks (or_first (is_some (ask_at ticket c.asks)) (is_some (watch_at ticket c.watches.watches)) t)))
  where
    by_refusal : (r : Option Refusal) → has_number (ask_tickets c.asks) ticket ≡ false → After most (refused_or_taken r (moment c now) (asked_at now ticket q word) c)
    by_refusal None n = request_after most q (moment c now) (asked_at now ticket q word) c n h
    by_refusal (Some r) n = h

-- Answer, Lost.

its_job : (call : ℕ) (o : OutCall) (c : Core) → IsFound call o c.out → job_at o.call c.out ≡ Some o.job
its_job call o c f = ap (λ n. job_at n c.out) f.number ∙ f.job

answer_after : (most now call : ℕ) (a : Answer) (c : Core) → HeardBytes (heard c.settings.namespace a) → Whole most c → (x : Option OutCall) → out_at call c.out ≡ x → After most (answer_of now call a x c)
answer_after most now call a c b h None e = h
answer_after most now call a c b h (Some o) e =
    let f = found_is call o c.out e in
    goes_whole most (answered_call now o a (call_gone call c)) (subst (λ n. Mid most (answered_call now o a (call_gone n c))) f.number (answered_mid most now o a c (its_job call o c f) b h.mid))

loss_after : (most now call : ℕ) (c : Core) → Whole most c → (x : Option OutCall) → out_at call c.out ≡ x → After most (loss_of now call x c)
loss_after most now call c h None e = h
loss_after most now call c h (Some o) e =
    let f = found_is call o c.out e in
    goes_whole most (lost_call now o (call_gone call c)) (subst (λ n. Mid most (lost_call now o (call_gone n c))) f.number (lost_mid most now o c (its_job call o c f) h.mid))

-- Tick.

record Seated (s t : Option Seat) : Type 0 where
  standing : is_standing t ≡ is_standing s
  out : (out : List OutCall) → is_seat_out out s ≡ true → is_seat_out out t ≡ true
  seated : is_seated s ≡ true → is_seated t ≡ true

seat_ticks : (word ttl step now : ℕ) (s : Option Seat) → Seated s (Some (seat_ticked word ttl step now s))
seat_ticks word ttl step now None = record { standing = refl; out = λ out h. refl; seated = λ h. refl }
seat_ticks word ttl step now (Some s) = record { standing = refl; out = λ out h. by_call s.call s.session.standing out h; seated = λ h. seated_by s.call h }
  where
    by_call : (o : Option Sending) (x : Option Standing) (out : List OutCall) → is_call_out x out o ≡ true → is_call_out x out (call_ticked step now s.session o) ≡ true
    by_call None x out h = by_test (λ (o : Option Sending). is_call_out x out o ≡ true) (is_due s.session now) (Some (sending.Due step)) None (λ t. refl) (λ t. refl)
    by_call (Some y) x out h = h

    seated_by : (o : Option Sending) → has_standing s.session.standing || is_some o ≡ true → has_standing s.session.standing || is_some (call_ticked step now s.session o) ≡ true
    seated_by None h = or_left (has_standing s.session.standing) (is_some (call_ticked step now s.session None)) (sym (or_false (has_standing s.session.standing)) ∙ h)
    seated_by (Some y) h = h

seat_whole : (most : ℕ) (c : Core) (t : Option Seat) → Seated c.seat t → Whole most c → Whole most (record c { seat = t })
seat_whole most c t s h = record {
  mid = record {
    given = h.mid.given;
    reads = subst (λ b. ReadsOk b (reads_of c)) (sym s.standing) h.mid.reads;
    agrees = record {
      writes = h.mid.agrees.writes;
      asks = h.mid.agrees.asks;
      awaited = h.mid.agrees.awaited;
      out = record { seat = s.out c.out h.mid.agrees.out.seat; acquires = h.mid.agrees.out.acquires; asks = h.mid.agrees.out.asks };
      numbers = h.mid.agrees.numbers;
      groups = h.mid.agrees.groups;
      seated = s.seated h.mid.agrees.seated;
    };
  };
  settled = h.settled;
  unfinished = h.unfinished;
}

anew_whole : (most : ℕ) (s : Upstream) (c : Core) → Whole most c → Whole most (due_anew s c)
anew_whole most s c h = beside_whole most c c.members c.header (due_anew s c).leasing (due_anew s c).watches h

tick_after : (most now word : ℕ) (c : Core) → Whole most c → After most (on_tick now word c)
unfolding on_tick
tick_after most now word c h = by_test (Whole most) (leases c) (ticked now word c) c (λ t. by_opening c.leasing) (λ t. h)
  where
    d : Core
    d = record c { seat = Some (seat_ticked word c.settings.ttl c.own.waits.step now c.seat) }

    seated : Whole most (record c { seat = Some (seat_ticked word c.settings.ttl c.own.waits.step now c.seat) })
    seated = seat_whole most c (Some (seat_ticked word c.settings.ttl c.own.waits.step now c.seat)) (seat_ticks word c.settings.ttl c.own.waits.step now c.seat) h

    by_opening : (o : Option Opening) → Whole most (leasing_ticked o (record c { seat = Some (seat_ticked word c.settings.ttl c.own.waits.step now c.seat) }))
    by_opening None = beside_whole most d c.members c.header (leasing_ticked None d).leasing (leasing_ticked None d).watches seated
    by_opening (Some o) = seated

-- Item, Cut.

anew_mid : (most : ℕ) (s : Upstream) (c : Core) → Mid most c → Mid most (due_anew s c)
anew_mid most s c h = beside_mid most c c.members c.header (due_anew s c).leasing (due_anew s c).watches h

created_mid : (most : ℕ) (o : Opening) (d : Header) (c : Core) → Mid most c → Mid most (leasing_created o d c)
created_mid most o d c h =
    by_test (Mid most) o.stream.created c (record (stream_is o (created o.stream d.revision) c) { own = own_created o.stream.next c.own }) (λ t. h)
    (λ t. by_test (λ (own : Ownership). Mid most (record (stream_is o (created o.stream d.revision) c) { own = own })) (o.stream.next == 0) (resynced c.own) c.own
    (λ u. beside_mid most (record c { own = resynced c.own }) c.members c.header (stream_is o (created o.stream d.revision) c).leasing c.watches (resynced_mid most c h))
    (λ u. beside_mid most c c.members c.header (stream_is o (created o.stream d.revision) c).leasing c.watches h))

told_mid : (most now : ℕ) (o : Opening) (d : Header) (es : List Event) (c : Core) → Mid most c → Mid most (leasing_told now o d es c)
told_mid most now o d es c h =
    let s = stream_is o (advance o.stream (told_revision d es)) c in
    let session = live_number c.seat now in
    by_test (Mid most) (is_readable o.stream es) (record s { own = all_noticed session es c.own }) (leasing_cut o c)
    (λ t. beside_mid most (record c { own = all_noticed session es c.own }) c.members c.header s.leasing c.watches (message_mid most session es c h))
    (λ t. anew_mid most _ c h)

cancelled_mid : (most : ℕ) (o : Opening) (compaction : ℕ) (c : Core) → Mid most c → Mid most (leasing_cancelled o compaction c)
cancelled_mid most o compaction c h =
    let d = record c { own = all_given_up c.own } in
    by_test (Mid most) (compaction == 0) (leasing_cut o c) (due_anew (opened o.stream.range 0) d) (λ t. anew_mid most _ c h) (λ t. anew_mid most (opened o.stream.range 0) d (given_up_mid most c h))

message_of : (most now : ℕ) (o : Opening) (x : WatchItem) (c : Core) → Mid most c → Mid most (leasing_message now o x c)
message_of most now o (item.Created d) c h = created_mid most o d c h
message_of most now o (item.Events d es) c h = told_mid most now o d es c h
message_of most now o (item.Canceled d compaction) c h = cancelled_mid most o compaction c h

leasing_mid : (most now : ℕ) (o : Opening) (x : WatchItem) (c : Core) → Mid most c → Mid most (leasing_item now o x c)
leasing_mid most now o x c h = by_due o.due
  where
    d : Core
    d = header_taken (item_header x) c

    header : Mid most (header_taken (item_header x) c)
    header = beside_mid most c (header_taken (item_header x) c).members (header_taken (item_header x) c).header c.leasing c.watches h

    by_text : (u : Unwrapped WatchItem) → Mid most (leasing.unwrapped_message now o u (header_taken (item_header x) c))
    by_text (Ok y) = message_of most now o y (header_taken (item_header x) c) header
    by_text (Err foreign) = anew_mid most _ (header_taken (item_header x) c) header

    by_due : (s : Option ℕ) → Mid most (message_if_sent now o s x (header_taken (item_header x) c))
    by_due None = by_text (item_without c.settings.namespace x)
    by_due (Some since) = header

watches_mid : (most : ℕ) (c : Core) (b : Broadcasts) → Mid most c → Mid most (with_watches c b)
watches_mid most c b h = beside_mid most c c.members c.header c.leasing b h

stream_mid : (most : ℕ) (s : Stream) (x : WatchItem) (c : Core) → Mid most c → Mid most (stream_item s x c)
stream_mid most s x c h =
    by_test (Mid most) (is_begun s.phase) (watching.unwrapped_message s (item_without c.settings.namespace x) (header_taken (item_header x) c)) (header_taken (item_header x) c) (λ t. by_text (item_without c.settings.namespace x)) (λ t. header)
  where
    header : Mid most (header_taken (item_header x) c)
    header = beside_mid most c (header_taken (item_header x) c).members (header_taken (item_header x) c).header c.leasing c.watches h

    by_message : (y : WatchItem) → Mid most (stream_message s y (header_taken (item_header x) c))
    by_message (item.Created d) = watches_mid most (header_taken (item_header x) c) _ header
    by_message (item.Events d es) = watches_mid most (header_taken (item_header x) c) _ header
    by_message (item.Canceled d compaction) = watches_mid most (header_taken (item_header x) c) _ header

    by_text : (u : Unwrapped WatchItem) → Mid most (watching.unwrapped_message s u (header_taken (item_header x) c))
    by_text (Ok y) = by_message y
    by_text (Err foreign) = watches_mid most (header_taken (item_header x) c) _ header

item_after : (most now number : ℕ) (x : WatchItem) (c : Core) → Whole most c → (o : Option Opening) → After most (item_of now number x o c)
item_after most now number x c h None = by_stream (stream_at number c.watches.streams)
  where
    by_stream : (s : Option Stream) → After most (client_item number x s c)
    by_stream None = h
    by_stream (Some s) = goes_whole most (stream_item s x c) (stream_mid most s x c h.mid)
item_after most now number x c h (Some o) = goes_whole most (leasing_item now o x c) (leasing_mid most now o x c h.mid)

cut_after : (most number : ℕ) (c : Core) → Whole most c → (o : Option Opening) → After most (cut_of number o c)
cut_after most number c h None = by_stream (stream_at number c.watches.streams)
  where
    by_stream : (s : Option Stream) → After most (client_cut number s c)
    by_stream None = h
    by_stream (Some s) = watches_whole most c (cut_stream c.watches s) h
cut_after most number c h (Some o) = anew_whole most _ c h

-- Take, Leave.

gone_whole : (most ticket : ℕ) (a : Asked) (c : Core) → ask_at ticket c.asks ≡ Some a → is_replied a.stage ≡ true → Whole most c → Whole most (gone ticket c)
gone_whole most ticket a c e r h = record {
  mid = record {
    given = h.mid.given;
    reads = record { ground = h.mid.reads.ground; asks = all_filtered (ask_stands (ground_of (reads_of c))) (λ x. not (has_ticket ticket x)) c.asks h.mid.reads.asks };
    agrees = gone_agrees ticket a c e r h.mid.agrees;
  };
  settled = h.settled;
  unfinished = h.unfinished;
}

take_after : (most ticket : ℕ) (c : Core) → Whole most c → (o : Option Asked) → ask_at ticket c.asks ≡ o → After most (taken ticket o c)
take_after most ticket c h None e = by_watch (watch_at ticket c.watches.watches)
  where
    by_pair : (x : Broadcasts × Option WatchItem) → After most (taken_item c x)
    by_pair (b, None) = h
    by_pair (b, Some x) = watches_whole most c b h

    by_watch : (w : Option Watch) → After most (item_taken ticket w c)
    by_watch None = h
    by_watch (Some w) = by_pair (watches.taken_from c.watches c.header w w.queue)
take_after most ticket c h (Some a) e = by_stage a.stage refl
  where
    by_stage : (s : Stage) → a.stage ≡ s → After most (takes.taken_from ticket s c)
    by_stage (stage.Calling s) q = h
    by_stage stage.Acquiring q = h
    by_stage stage.Joined q = h
    by_stage stage.Behind q = h
    by_stage stage.Writes q = h
    by_stage (stage.Grouped s) q = h
    by_stage (stage.Replied v) q = gone_whole most ticket a c e (ap is_replied q) h

leave_after : (most now ticket : ℕ) (c : Core) → Whole most c → (o : Option Asked) → After most (left now ticket o c)
leave_after most now ticket c h None = by_watch (watch_at ticket c.watches.watches)
  where
    by_watch : (w : Option Watch) → After most (watcher_left ticket w c)
    by_watch None = h
    by_watch (Some w) = watches_whole most c (removed c.watches ticket (watch_at ticket c.watches.watches)) h
leave_after most now ticket c h (Some a) = goes_whole most (has_left now ticket c) (left_mid most now ticket c h.mid)

-- Work: it gives an outcome always, and so the step is counted.

plain_count : (c : Core) → Whole 0 c → CoreOk (record c { steps = c.steps + 1 })
plain_count c h = counted_ok 0 c (omega arith) h

sent_count : (c : Core) → Whole 1 c → CoreOk (record c { steps = c.steps + 1 })
sent_count c h = counted_ok 1 c (omega arith) h

writes_count : (now : ℕ) (c : Core) → Whole 0 c → (x : Option JobSent) → job_sent (next_call c) c.own ≡ x → CoreOk (counted (writes_sent now x c)).core
writes_count now c h None e = plain_count c h
writes_count now c h (Some x) e = sent_count _ (writes_whole 0 now c x e h)

job_count : (c d : Core) (o : Option StreamJob) → Whole 0 d → CoreOk (counted (stream_job o d)).core
job_count c d None h = plain_count d h
job_count c d (Some (stream.Close number)) h = plain_count d h
job_count c d (Some (stream.Open number range from)) h = plain_count d h

work_count : (now : ℕ) (c : Core) → Whole 0 c → (j : Option DueJob) → DueIf c j → CoreOk (counted (sent_by now j c)).core
work_count now c h None d = plain_count c h
work_count now c h (Some (ForSession s)) d = sent_count _ (session_whole 0 now s c d h)
work_count now c h (Some ForWrites) d = writes_count now c h (job_sent (next_call c) c.own) refl
work_count now c h (Some (ForAcquire k x)) d = sent_count _ (acquire_whole 0 now k c h)
work_count now c h (Some (ForAsk a)) d = sent_count _ (ask_whole 0 now a c d h)
work_count now c h (Some (ForGroup lease ticket)) d = sent_count _ (group_whole 0 now lease ticket c d h)
work_count now c h (Some (ToOpen o)) d = plain_count (record c { leasing = Some (opening_sent o) }) (beside_whole 0 c c.members c.header (Some (opening_sent o)) c.watches h)
work_count now c h (Some (ForStream s)) d = job_count c (with_watches c (next_job c.watches (Some s)).0) (next_job c.watches (Some s)).1 (watches_whole 0 c (next_job c.watches (Some s)).0 h)

-- The whole step.

count_after : (s : Stepped) → After 0 s → CoreOk (counted s).core
count_after s h = by_outcome s.outcome
  where
    by_outcome : (o : Result Outcome StepFault) → CoreOk (counted_by s.core o).core
    by_outcome (Ok o) = plain_count s.core h
    by_outcome (Err f) = is_ok s.core h

happened_count : (now : ℕ) (e : CoreEvent) (c : Core) → IsHeard c e → Whole 0 c → CoreOk (counted (happened now e c)).core
unfolding on_answer on_lost on_item on_cut on_take on_leave on_work
happened_count now (event.Ask ticket q word) c b h = count_after (on_ask now ticket q word c) (ask_after 0 now ticket q word c h)
happened_count now (event.Answer call a) c b h = count_after (on_answer now call a c) (answer_after 0 now call a c b h (out_at call c.out) refl)
happened_count now (event.Lost call) c b h = count_after (on_lost now call c) (loss_after 0 now call c h (out_at call c.out) refl)
happened_count now (event.Tick word) c b h = count_after (on_tick now word c) (tick_after 0 now word c h)
happened_count now (event.Item number x) c b h = count_after (on_item now number x c) (item_after 0 now number x c h (opening_at number c.leasing))
happened_count now (event.Cut number) c b h = count_after (on_cut number c) (cut_after 0 number c h (opening_at number c.leasing))
happened_count now (event.Take ticket) c b h = count_after (on_take ticket c) (take_after 0 ticket c h (ask_at ticket c.asks) refl)
happened_count now (event.Leave ticket) c b h = count_after (on_leave now ticket c) (leave_after 0 now ticket c h (ask_at ticket c.asks))
happened_count now event.Work c b h = work_count now c h (first_job c) (first_due c h.mid.agrees)

-- clock work leaves the settings
same_settings : (now : ℕ) (c : Core) → (clock_work now c).settings ≡ c.settings
unfolding clock_work
same_settings now c = by_test (λ (d : Core). d.settings ≡ c.settings) (seat_is_over c.seat now) (without_session now (begun c)) (begun c) (λ t. refl) (λ t. refl)

still_heard : (now : ℕ) (e : CoreEvent) (c : Core) → IsHeard c e → IsHeard (clock_work now c) e
still_heard now (event.Ask ticket q word) c b = tt
still_heard now (event.Answer call a) c b = subst (λ (s : Settings). HeardBytes (heard s.namespace a)) (sym (same_settings now c)) b
still_heard now (event.Lost call) c b = tt
still_heard now (event.Tick word) c b = tt
still_heard now (event.Item number x) c b = tt
still_heard now (event.Cut number) c b = tt
still_heard now (event.Take ticket) c b = tt
still_heard now (event.Leave ticket) c b = tt
still_heard now event.Work c b = tt

pub steps_keep : StepsKeep
unfolding stepped
steps_keep c e now b h =
    by_test (λ (s : Stepped). CoreOk s.core) (is_worn c) (faults c fault.Worn) (counted (happened now e (clock_work now c)))
    (λ t. h) (λ t. happened_count now e (clock_work now c) (still_heard now e c b) (clock_whole 0 now c (of_ok c h).mid))

-- Runs.

run_keeps : (c : Core) (xs : List Timed) → CoreOk c → AllHeard c xs → CoreOk (ran c xs)
run_keeps c [] h b = h
run_keeps c (x ∷ xs) h b = run_keeps (after c x) xs (steps_keep c x.event x.now b.0 h) b.1

pub runs_keep : RunsKeep
runs_keep settings xs b = run_keeps (first_core settings) xs (start_fits settings) b

pub runs_leave_none_idle : RunsLeaveNoneIdle
runs_leave_none_idle settings xs b = none_is_idle (ran (first_core settings) xs) (runs_keep settings xs b)

pub runs_share_keepalives : RunsShareKeepalives
runs_share_keepalives settings xs b = (runs_keep settings xs b).agrees.groups
