-- What each event makes of the session and its call, of the leasing stream and of the cached header.
use Rattle.std.proofs.Common.{◌≡◌, ℕ, ◌==◌, true, List, Option, None, Some, Result, Ok, Err, sym, ◌∙◌, ap}
use Rattle.etcd_types.specs.declared.record.Header.{Header}
use Rattle.etcd_types.specs.declared.watch.WatchItem.{WatchItem}
use Rattle.etcd_types.specs.declared.watch.WatchItem.TheVariants as item
use Rattle.proxy_model.specs.Prefixes.{leasing_range}
use Rattle.proxy_model.specs.RequestRefusals.{is_session}
use Rattle.proxy_model.specs.Session.{Session}
use Rattle.proxy_model.specs.Unwrapped.{Unwrapped, item_without}
use Rattle.wait_model.specs.Sent.{JobSent, job_sent}
use Rattle.read_model.specs.declared.asked.Asked.{Asked}
use Rattle.read_model.specs.declared.asked.Stage.{Stage}
use Rattle.read_model.specs.declared.asked.Stage.TheVariants as stage
use Rattle.core_model.specs.declared.event.CoreEvent.{CoreEvent}
use Rattle.core_model.specs.declared.event.CoreEvent.TheVariants as event
use Rattle.core_model.specs.declared.event.Outcome.{Outcome}
use Rattle.core_model.specs.declared.event.StepFault.{StepFault}
use Rattle.core_model.specs.declared.event.StepFault.TheVariants as fault
use Rattle.core_model.specs.declared.out_call.OutJob.TheVariants as job
use Rattle.core_model.specs.ClockWork.{clock_work}
use Rattle.core_model.specs.DueJobs.{DueJob, ForSession, ForWrites, ForAcquire, ForAsk, ForGroup, ToOpen, ForStream, first_job}
use Rattle.core_model.specs.Ends.{on_answer, on_lost}
use Rattle.core_model.specs.Fits.{Agrees}
use Rattle.core_model.specs.Heard.{header_taken}
use Rattle.core_model.specs.LeasingStream.{leasing_ticked, leasing_cut, leasing_created, leasing_cancelled, leasing_told, leasing_message, message_if_sent, item_header, leasing_item, is_readable}
use Rattle.core_model.specs.LeasingStream as leasing
use Rattle.core_model.specs.Lookups.{leases, ask_at, out_at}
use Rattle.core_model.specs.Sending.{next_call, writes_sent, sent_by, on_work}
use Rattle.core_model.specs.Sessions.{seat_ticked}
use Rattle.core_model.specs.State.{Seat, Opening, Core}
use Rattle.core_model.specs.Step.{happened, is_worn, stepped, ticked, on_tick, client_item, item_of, on_item, client_cut, cut_of, on_cut, opening_at}
use Rattle.core_model.specs.Stepped.{Stepped, faults, counted, counted_by}
use Rattle.core_model.specs.Takes.{item_taken, taken, on_take, watcher_left, left, on_leave}
use Rattle.core_model.specs.Takes as takes
use Rattle.core_model.specs.Watching.{with_watches, stream_message, stream_item, taken_item, stream_job}
use Rattle.core_model.specs.Watching as watching
use Rattle.watch_model.specs.declared.stream.StreamJob.{StreamJob}
use Rattle.watch_model.specs.declared.stream.StreamJob.TheVariants as stream
use Rattle.watch_model.specs.Due.{next_job}
use Rattle.watch_model.specs.Lookups.{stream_at, watch_at, is_begun}
use Rattle.watch_model.specs.State.{Stream, Watch, Broadcasts}
use Rattle.watch_model.specs.Takes as watches
use Rattle.core_laws.proofs.Steps.Comes.{by_test}
use Rattle.core_laws.proofs.Steps.Due.{DueIf, first_due}
use Rattle.core_fits.specs.Fits.{SeatIsNumbered, IsOfLeasing}
use Rattle.core_fits.proofs.Headers.{taken_seen}
use Rattle.core_fits.proofs.Openings.{OpensIf, first_opens}
use Rattle.core_fits.proofs.Seats.{SeatFits, ticked_fits, sent_fits, other_fits}
use Rattle.core_fits.proofs.CallsBeside.{Beside, StepBeside, either, clock_beside, answer_of_beside, loss_of_beside, asked_beside}

-- ---- ticks, messages, cuts

tick_beside : (p : List ℕ) (now word : ℕ) (c : Core) → c.own.waits.prefix ≡ p → Beside p c → StepBeside p (on_tick now word c)
unfolding on_tick
tick_beside p now word c e t = either p (leases c) (ticked now word c) c (by_opening c.leasing t.1.0) t
  where
    seat : SeatFits (Some (seat_ticked word c.settings.ttl c.own.waits.step now c.seat)) c.out
    seat = ticked_fits word c.settings.ttl c.own.waits.step now c.seat c.out t.0

    by_opening : (o : Option Opening) → IsOfLeasing p o → Beside p (leasing_ticked o (record c { seat = Some (seat_ticked word c.settings.ttl c.own.waits.step now c.seat); leasing = o }))
    by_opening None h = (seat, (ap leasing_range e, t.1.1))
    by_opening (Some o) h = (seat, (h, t.1.1))

created_beside : (p : List ℕ) (o : Opening) (x : Header) (c : Core) → IsOfLeasing p (Some o) → Beside p c → Beside p (leasing_created o x c)
created_beside p o x c h t = by_test (Beside p) o.stream.created c _ (λ e. t) (λ e. (t.0, (h, t.1.1)))

message_beside : (p : List ℕ) (now : ℕ) (o : Opening) (x : WatchItem) (c : Core) → IsOfLeasing p (Some o) → Beside p c → Beside p (leasing_message now o x c)
message_beside p now o (item.Created d) c h t = created_beside p o d c h t
message_beside p now o (item.Events d es) c h t = by_test (Beside p) (is_readable o.stream es) _ (leasing_cut o c) (λ e. (t.0, (h, t.1.1))) (λ e. (t.0, (h, t.1.1)))
message_beside p now o (item.Canceled d compaction) c h t = by_test (Beside p) (compaction == 0) (leasing_cut o c) _ (λ e. (t.0, (h, t.1.1))) (λ e. (t.0, (h, t.1.1)))

leasing_beside : (p : List ℕ) (now : ℕ) (o : Opening) (x : WatchItem) (c : Core) → IsOfLeasing p (Some o) → Beside p c → Beside p (leasing_item now o x c)
leasing_beside p now o x c h t = by_due o.due
  where
    taken : Beside p (header_taken (item_header x) c)
    taken = (t.0, (t.1.0, taken_seen (item_header x) c t.1.1))

    by_text : (u : Unwrapped WatchItem) (d : Core) → Beside p d → Beside p (leasing.unwrapped_message now o u d)
    by_text (Ok y) d e = message_beside p now o y d h e
    by_text (Err foreign) d e = (e.0, (h, e.1.1))

    by_due : (s : Option ℕ) → Beside p (message_if_sent now o s x (header_taken (item_header x) c))
    by_due None = by_text (item_without c.settings.namespace x) (header_taken (item_header x) c) taken
    by_due (Some since) = taken

stream_beside : (p : List ℕ) (s : Stream) (x : WatchItem) (c : Core) → Beside p c → Beside p (stream_item s x c)
stream_beside p s x c t = by_test (Beside p) (is_begun s.phase) _ (header_taken (item_header x) c) (λ e. by_text (item_without c.settings.namespace x)) (λ e. taken)
  where
    taken : Beside p (header_taken (item_header x) c)
    taken = (t.0, (t.1.0, taken_seen (item_header x) c t.1.1))

    by_message : (y : WatchItem) → Beside p (stream_message s y (header_taken (item_header x) c))
    by_message (item.Created d) = taken
    by_message (item.Events d es) = taken
    by_message (item.Canceled d compaction) = taken

    by_text : (u : Unwrapped WatchItem) → Beside p (watching.unwrapped_message s u (header_taken (item_header x) c))
    by_text (Ok y) = by_message y
    by_text (Err foreign) = taken

-- the leasing stream, where it has this number
numbered_range : (p : List ℕ) (number : ℕ) (o : Option Opening) → IsOfLeasing p o → IsOfLeasing p (opening_at number o)
numbered_range p number None h = tt
numbered_range p number (Some o) h = by_test (IsOfLeasing p) (o.number == number) (Some o) None (λ t. h) (λ t. tt)

item_beside : (p : List ℕ) (now number : ℕ) (x : WatchItem) (c : Core) → Beside p c → StepBeside p (on_item now number x c)
unfolding on_item
item_beside p now number x c t = by_opening (opening_at number c.leasing) (numbered_range p number c.leasing t.1.0)
  where
    by_stream : (s : Option Stream) → StepBeside p (client_item number x s c)
    by_stream None = t
    by_stream (Some s) = stream_beside p s x c t

    by_opening : (o : Option Opening) → IsOfLeasing p o → StepBeside p (item_of now number x o c)
    by_opening None h = by_stream (stream_at number c.watches.streams)
    by_opening (Some o) h = leasing_beside p now o x c h t

cut_beside : (p : List ℕ) (number : ℕ) (c : Core) → Beside p c → StepBeside p (on_cut number c)
unfolding on_cut
cut_beside p number c t = by_opening (opening_at number c.leasing) (numbered_range p number c.leasing t.1.0)
  where
    by_stream : (s : Option Stream) → StepBeside p (client_cut number s c)
    by_stream None = t
    by_stream (Some s) = t

    by_opening : (o : Option Opening) → IsOfLeasing p o → StepBeside p (cut_of number o c)
    by_opening None h = by_stream (stream_at number c.watches.streams)
    by_opening (Some o) h = (t.0, (h, t.1.1))

-- ---- takes and leaving

take_beside : (p : List ℕ) (ticket : ℕ) (c : Core) → Beside p c → StepBeside p (on_take ticket c)
unfolding on_take
take_beside p ticket c t = by_ask (ask_at ticket c.asks)
  where
    by_pair : (x : Broadcasts × Option WatchItem) → StepBeside p (taken_item c x)
    by_pair (b, None) = t
    by_pair (b, Some x) = t

    by_watch : (w : Option Watch) → StepBeside p (item_taken ticket w c)
    by_watch None = t
    by_watch (Some w) = by_pair (watches.taken_from c.watches c.header w w.queue)

    by_stage : (s : Stage) → StepBeside p (takes.taken_from ticket s c)
    by_stage (stage.Replied v) = t
    by_stage (stage.Calling s) = t
    by_stage stage.Acquiring = t
    by_stage stage.Joined = t
    by_stage stage.Behind = t
    by_stage stage.Writes = t
    by_stage (stage.Grouped s) = t

    by_ask : (o : Option Asked) → StepBeside p (taken ticket o c)
    by_ask None = by_watch (watch_at ticket c.watches.watches)
    by_ask (Some a) = by_stage a.stage

leave_beside : (p : List ℕ) (now ticket : ℕ) (c : Core) → Beside p c → StepBeside p (on_leave now ticket c)
unfolding on_leave
leave_beside p now ticket c t = by_ask (ask_at ticket c.asks)
  where
    by_watch : (w : Option Watch) → StepBeside p (watcher_left ticket w c)
    by_watch None = t
    by_watch (Some w) = t

    by_ask : (o : Option Asked) → StepBeside p (left now ticket o c)
    by_ask None = by_watch (watch_at ticket c.watches.watches)
    by_ask (Some a) = t

-- ---- what is due is sent

sent_beside : (p : List ℕ) (now : ℕ) (j : Option DueJob) (c : Core) → Agrees c → DueIf c j → OpensIf p j → Beside p c → StepBeside p (sent_by now j c)
sent_beside p now None c a d o t = t
sent_beside p now (Some (ForSession s)) c a d o t = (sent_fits now s c a (ap (λ (x : Session). is_session x.number) (sym d.2) ∙ by_seat c.seat d.1 t.0.1), t.1)
  where
    by_seat : (x : Option Seat) → x ≡ Some d.0 → SeatIsNumbered x → is_session d.0.session.number ≡ true
    by_seat None e n = absurd (cc)
    by_seat (Some x) e n = let i : x ≡ d.0 = cc in ap (λ (y : Seat). is_session y.session.number) (sym i) ∙ n
sent_beside p now (Some ForWrites) c a d o t = by_job (job_sent (next_call c) c.own)
  where
    by_job : (x : Option JobSent) → StepBeside p (writes_sent now x c)
    by_job None = t
    by_job (Some x) = (other_fits now job.Wait c a t.0, t.1)
sent_beside p now (Some (ForAcquire k x)) c a d o t = (other_fits now (job.Acquire k) c a t.0, t.1)
sent_beside p now (Some (ForAsk x)) c a d o t = (other_fits now _ c a t.0, t.1)
sent_beside p now (Some (ForGroup lease ticket)) c a d o t = (other_fits now (job.Group lease) c a t.0, t.1)
sent_beside p now (Some (ToOpen x)) c a d o t = (t.0, (o, t.1.1))
sent_beside p now (Some (ForStream x)) c a d o t = by_job (next_job c.watches (Some x)).1
  where
    by_job : (i : Option StreamJob) → StepBeside p (stream_job i (with_watches c (next_job c.watches (Some x)).0))
    by_job None = t
    by_job (Some (stream.Close number)) = t
    by_job (Some (stream.Open number range start)) = t

-- ---- whole steps

happened_beside : (p : List ℕ) (now : ℕ) (e : CoreEvent) (c : Core) → Agrees c → c.own.waits.prefix ≡ p → Beside p c → StepBeside p (happened now e c)
unfolding on_answer on_lost on_work
happened_beside p now (event.Ask ticket q word) c a k t = asked_beside p now ticket q word c t
happened_beside p now (event.Answer call x) c a k t = answer_of_beside p now call x (out_at call c.out) c t
happened_beside p now (event.Lost call) c a k t = loss_of_beside p now call (out_at call c.out) c t
happened_beside p now (event.Tick word) c a k t = tick_beside p now word c k t
happened_beside p now (event.Item number x) c a k t = item_beside p now number x c t
happened_beside p now (event.Cut number) c a k t = cut_beside p number c t
happened_beside p now (event.Take ticket) c a k t = take_beside p ticket c t
happened_beside p now (event.Leave ticket) c a k t = leave_beside p now ticket c t
happened_beside p now event.Work c a k t = sent_beside p now (first_job c) c a (first_due c a) (first_opens p c t.1.0) t

counted_beside : (p : List ℕ) (s : Stepped) → StepBeside p s → StepBeside p (counted s)
counted_beside p s t = by_outcome s.outcome
  where
    by_outcome : (o : Result Outcome StepFault) → StepBeside p (counted_by s.core o)
    by_outcome (Ok o) = t
    by_outcome (Err f) = t

pub stepped_beside : (e : CoreEvent) (now : ℕ) (c : Core) → Agrees (clock_work now c) → (clock_work now c).own.waits.prefix ≡ c.own.waits.prefix → Beside c.own.waits.prefix c → StepBeside c.own.waits.prefix (stepped c e now)
unfolding stepped
stepped_beside e now c a k t =
    let p = c.own.waits.prefix in
    by_test (StepBeside p) (is_worn c) (faults c fault.Worn) (counted (happened now e (clock_work now c))) (λ w. t)
    (λ w. counted_beside p (happened now e (clock_work now c)) (happened_beside p now e (clock_work now c) a k (clock_beside p now c t)))
