-- What each event makes of the requests and writes of a proxy: but for one that is asked each was there before, with the same ticket
-- and the same request, and none begins to wait for an acquire or for an owner write.
use Rattle.std.proofs.Common.{ℕ, ◌==◌, true, not, Option, None, Some, Result, Ok, Err}
use Rattle.etcd_types.specs.declared.record.Header.{Header}
use Rattle.etcd_types.specs.declared.watch.WatchItem.{WatchItem}
use Rattle.etcd_types.specs.declared.watch.WatchItem.TheVariants as item
use Rattle.proxy_model.specs.Unwrapped.{Unwrapped, item_without}
use Rattle.wait_model.specs.declared.write.Write.{Write}
use Rattle.wait_model.specs.ForeignOwnership.{stage_gone}
use Rattle.wait_model.specs.LeasingStream.{resynced}
use Rattle.wait_model.specs.Sent.{JobSent, job_sent}
use Rattle.read_model.specs.declared.asked.Asked.{Asked}
use Rattle.read_model.specs.declared.asked.Stage.{Stage}
use Rattle.read_model.specs.declared.asked.Stage.TheVariants as stage
use Rattle.core_model.specs.declared.event.CoreEvent.{CoreEvent}
use Rattle.core_model.specs.declared.event.CoreEvent.TheVariants as event
use Rattle.core_model.specs.declared.event.Outcome.{Outcome}
use Rattle.core_model.specs.declared.event.StepFault.{StepFault}
use Rattle.core_model.specs.declared.event.StepFault.TheVariants as fault
use Rattle.core_model.specs.ClockWork.{clock_work}
use Rattle.core_model.specs.DueJobs.{DueJob, ForSession, ForWrites, ForAcquire, ForAsk, ForGroup, ToOpen, ForStream, first_job}
use Rattle.core_model.specs.Ends.{on_answer, on_lost}
use Rattle.core_model.specs.Groups.{group_sent}
use Rattle.core_model.specs.Heard.{header_taken}
use Rattle.core_model.specs.LeasingStream.{leasing_ticked, leasing_cut, own_created, leasing_created, leasing_cancelled, leasing_told, leasing_message, message_if_sent, item_header, leasing_item, is_readable}
use Rattle.core_model.specs.LeasingStream as leasing
use Rattle.core_model.specs.Lookups.{leases, moment, live_number, reads_of, has_ticket, without_ask, ask_at, out_at}
use Rattle.core_model.specs.Sending.{next_call, called_as, writes_sent, sent_by, on_work}
use Rattle.core_model.specs.Sessions.{seat_ticked}
use Rattle.core_model.specs.State.{Opening, Core}
use Rattle.core_model.specs.Step.{happened, is_worn, stepped, ticked, on_tick, client_item, item_of, on_item, client_cut, cut_of, on_cut, opening_at}
use Rattle.core_model.specs.Stepped.{Stepped, faults, counted, counted_by}
use Rattle.core_model.specs.Takes.{has_left, item_taken, taken, on_take, watcher_left, left, on_leave}
use Rattle.core_model.specs.Takes as takes
use Rattle.core_model.specs.Watching.{with_watches, stream_message, stream_item, taken_item, stream_job}
use Rattle.core_model.specs.Watching as watching
use Rattle.watch_model.specs.declared.stream.StreamJob.{StreamJob}
use Rattle.watch_model.specs.declared.stream.StreamJob.TheVariants as stream
use Rattle.watch_model.specs.Due.{next_job}
use Rattle.watch_model.specs.Lookups.{stream_at, watch_at, is_begun}
use Rattle.watch_model.specs.State.{Stream, Watch, Broadcasts}
use Rattle.watch_model.specs.Takes as watches
use Rattle.core_laws.proofs.Steps.Comes.{by_test}
use Rattle.core_fits.proofs.Eachs.{each_filtered}
use Rattle.core_fits.proofs.AskRows.{group_sent_goes, called_goes}
use Rattle.core_fits.proofs.ReadRows.{each_goes, taken_off_has}
use Rattle.core_fits.proofs.WriteRows.{OwnHas, SentHas, staged_has, message_has, job_sent_has}
use Rattle.core_fits.proofs.CallRows.{CoreHas, StepHas, Last, either, go_on, clock_has, answer_of_has, loss_of_has}
use Rattle.core_fits.proofs.NewRows.{IsNew, asked_has}

-- ---- ticks, messages, cuts

tick_has : (P : Asked → Type 0) (W : Write → Type 0) (now word : ℕ) (c : Core) → CoreHas P W c → StepHas P W (on_tick now word c)
unfolding on_tick
tick_has P W now word c t = either P W (leases c) (ticked now word c) c (by_opening c.leasing) t
  where
    by_opening : (o : Option Opening) → CoreHas P W (leasing_ticked o (record c { seat = Some (seat_ticked word c.settings.ttl c.own.waits.step now c.seat) }))
    by_opening None = t
    by_opening (Some o) = t

created_has : (P : Asked → Type 0) (W : Write → Type 0) → Last P W → (o : Opening) (x : Header) (c : Core) → CoreHas P W c → CoreHas P W (leasing_created o x c)
created_has P W l o x c t =
    by_test (CoreHas P W) o.stream.created c _ (λ e. t)
    (λ e. (t.0, by_test (OwnHas W) (o.stream.next == 0) (resynced c.own) c.own (λ u. staged_has W l.writes (λ w. stage_gone (λ k. true) w.stage) c.own.waits.writes t.1) (λ u. t.1)))

message_of_has : (P : Asked → Type 0) (W : Write → Type 0) → Last P W → (now : ℕ) (o : Opening) (x : WatchItem) (c : Core) → CoreHas P W c → CoreHas P W (leasing_message now o x c)
message_of_has P W l now o (item.Created d) c t = created_has P W l o d c t
message_of_has P W l now o (item.Events d es) c t =
    by_test (CoreHas P W) (is_readable o.stream es) _ (leasing_cut o c) (λ e. (t.0, message_has W l.writes (live_number c.seat now) es c.own t.1)) (λ e. t)
message_of_has P W l now o (item.Canceled d compaction) c t = by_test (CoreHas P W) (compaction == 0) (leasing_cut o c) _ (λ e. t) (λ e. t)

leasing_has : (P : Asked → Type 0) (W : Write → Type 0) → Last P W → (now : ℕ) (o : Opening) (x : WatchItem) (c : Core) → CoreHas P W c → CoreHas P W (leasing_item now o x c)
leasing_has P W l now o x c t = by_due o.due
  where
    by_text : (u : Unwrapped WatchItem) (d : Core) → CoreHas P W d → CoreHas P W (leasing.unwrapped_message now o u d)
    by_text (Ok y) d e = message_of_has P W l now o y d e
    by_text (Err foreign) d e = e

    by_due : (s : Option ℕ) → CoreHas P W (message_if_sent now o s x (header_taken (item_header x) c))
    by_due None = by_text (item_without c.settings.namespace x) (header_taken (item_header x) c) t
    by_due (Some since) = t

stream_has : (P : Asked → Type 0) (W : Write → Type 0) (s : Stream) (x : WatchItem) (c : Core) → CoreHas P W c → CoreHas P W (stream_item s x c)
stream_has P W s x c t = by_test (CoreHas P W) (is_begun s.phase) _ (header_taken (item_header x) c) (λ e. by_text (item_without c.settings.namespace x)) (λ e. t)
  where
    by_message : (y : WatchItem) → CoreHas P W (stream_message s y (header_taken (item_header x) c))
    by_message (item.Created d) = t
    by_message (item.Events d es) = t
    by_message (item.Canceled d compaction) = t

    by_text : (u : Unwrapped WatchItem) → CoreHas P W (watching.unwrapped_message s u (header_taken (item_header x) c))
    by_text (Ok y) = by_message y
    by_text (Err foreign) = t

item_has : (P : Asked → Type 0) (W : Write → Type 0) → Last P W → (now number : ℕ) (x : WatchItem) (c : Core) → CoreHas P W c → StepHas P W (on_item now number x c)
unfolding on_item
item_has P W l now number x c t = by_opening (opening_at number c.leasing)
  where
    by_stream : (s : Option Stream) → StepHas P W (client_item number x s c)
    by_stream None = t
    by_stream (Some s) = go_on P W l (stream_item s x c) (stream_has P W s x c t)

    by_opening : (o : Option Opening) → StepHas P W (item_of now number x o c)
    by_opening None = by_stream (stream_at number c.watches.streams)
    by_opening (Some o) = go_on P W l (leasing_item now o x c) (leasing_has P W l now o x c t)

cut_has : (P : Asked → Type 0) (W : Write → Type 0) (number : ℕ) (c : Core) → CoreHas P W c → StepHas P W (on_cut number c)
unfolding on_cut
cut_has P W number c t = by_opening (opening_at number c.leasing)
  where
    by_stream : (s : Option Stream) → StepHas P W (client_cut number s c)
    by_stream None = t
    by_stream (Some s) = t

    by_opening : (o : Option Opening) → StepHas P W (cut_of number o c)
    by_opening None = by_stream (stream_at number c.watches.streams)
    by_opening (Some o) = t

-- ---- takes and leaving

take_has : (P : Asked → Type 0) (W : Write → Type 0) (ticket : ℕ) (c : Core) → CoreHas P W c → StepHas P W (on_take ticket c)
unfolding on_take
take_has P W ticket c t = by_ask (ask_at ticket c.asks)
  where
    by_pair : (x : Broadcasts × Option WatchItem) → StepHas P W (taken_item c x)
    by_pair (b, None) = t
    by_pair (b, Some x) = t

    by_watch : (w : Option Watch) → StepHas P W (item_taken ticket w c)
    by_watch None = t
    by_watch (Some w) = by_pair (watches.taken_from c.watches c.header w w.queue)

    by_stage : (s : Stage) → StepHas P W (takes.taken_from ticket s c)
    by_stage (stage.Replied v) = (each_filtered P (λ a. not (has_ticket ticket a)) c.asks t.0, t.1)
    by_stage (stage.Calling s) = t
    by_stage stage.Acquiring = t
    by_stage stage.Joined = t
    by_stage stage.Behind = t
    by_stage stage.Writes = t
    by_stage (stage.Grouped s) = t

    by_ask : (o : Option Asked) → StepHas P W (taken ticket o c)
    by_ask None = by_watch (watch_at ticket c.watches.watches)
    by_ask (Some a) = by_stage a.stage

leave_has : (P : Asked → Type 0) (W : Write → Type 0) → Last P W → (now ticket : ℕ) (c : Core) → CoreHas P W c → StepHas P W (on_leave now ticket c)
unfolding on_leave
leave_has P W l now ticket c t = by_ask (ask_at ticket c.asks)
  where
    by_watch : (w : Option Watch) → StepHas P W (watcher_left ticket w c)
    by_watch None = t
    by_watch (Some w) = t

    by_ask : (o : Option Asked) → StepHas P W (left now ticket o c)
    by_ask None = by_watch (watch_at ticket c.watches.watches)
    by_ask (Some a) =
        go_on P W l (has_left now ticket c)
        (taken_off_has P W l.asks (moment c now) (has_ticket ticket) (without_ask ticket c.asks) (reads_of c) (each_filtered P (λ b. not (has_ticket ticket b)) c.asks t.0) t.1)

-- ---- what is due is sent

sent_has : (P : Asked → Type 0) (W : Write → Type 0) → Last P W → (now : ℕ) (j : Option DueJob) (c : Core) → CoreHas P W c → StepHas P W (sent_by now j c)
sent_has P W l now None c t = t
sent_has P W l now (Some (ForSession x)) c t = t
sent_has P W l now (Some ForWrites) c t = by_job (job_sent (next_call c) c.own) (job_sent_has W l.writes (next_call c) c.own t.1)
  where
    by_job : (x : Option JobSent) → SentHas W x → StepHas P W (writes_sent now x c)
    by_job None s = t
    by_job (Some x) s = (t.0, s)
sent_has P W l now (Some (ForAcquire k x)) c t = t
sent_has P W l now (Some (ForAsk a)) c t = (each_goes P l.asks (called_as (next_call c) a.ticket) (called_goes (next_call c) a.ticket) c.asks t.0, t.1)
sent_has P W l now (Some (ForGroup lease ticket)) c t = (each_goes P l.asks (group_sent (next_call c) lease) (group_sent_goes (next_call c) lease) c.asks t.0, t.1)
sent_has P W l now (Some (ToOpen o)) c t = t
sent_has P W l now (Some (ForStream x)) c t = by_job (next_job c.watches (Some x)).1
  where
    by_job : (o : Option StreamJob) → StepHas P W (stream_job o (with_watches c (next_job c.watches (Some x)).0))
    by_job None = t
    by_job (Some (stream.Close number)) = t
    by_job (Some (stream.Open number range start)) = t

-- ---- whole steps

-- what an event may bring
abbrev pub Brings : (Asked → Type 0) → (Write → Type 0) → CoreEvent → ℕ → Core → Type 0
Brings P W (event.Ask ticket q word) now c = IsNew P W now ticket q word c
Brings P W _ now c = Unit {0}

pub happened_has : (P : Asked → Type 0) (W : Write → Type 0) → Last P W → (now : ℕ) (e : CoreEvent) (c : Core) → Brings P W e now c → CoreHas P W c → StepHas P W (happened now e c)
unfolding on_answer on_lost on_work
happened_has P W l now (event.Ask ticket q word) c b t = asked_has P W l now ticket q word c b t
happened_has P W l now (event.Answer call a) c b t = answer_of_has P W l now call a (out_at call c.out) c t
happened_has P W l now (event.Lost call) c b t = loss_of_has P W l now call (out_at call c.out) c t
happened_has P W l now (event.Tick word) c b t = tick_has P W now word c t
happened_has P W l now (event.Item number x) c b t = item_has P W l now number x c t
happened_has P W l now (event.Cut number) c b t = cut_has P W number c t
happened_has P W l now (event.Take ticket) c b t = take_has P W ticket c t
happened_has P W l now (event.Leave ticket) c b t = leave_has P W l now ticket c t
happened_has P W l now event.Work c b t = sent_has P W l now (first_job c) c t

pub counted_has : (P : Asked → Type 0) (W : Write → Type 0) (s : Stepped) → StepHas P W s → StepHas P W (counted s)
counted_has P W s t = by_outcome s.outcome
  where
    by_outcome : (o : Result Outcome StepFault) → StepHas P W (counted_by s.core o)
    by_outcome (Ok o) = t
    by_outcome (Err f) = t

-- What held of each request and write of a proxy holds of each after a step, where it holds of what the step brings.
pub stepped_has : (P : Asked → Type 0) (W : Write → Type 0) → Last P W → (e : CoreEvent) (now : ℕ) (c : Core) → Brings P W e now (clock_work now c) → CoreHas P W c → StepHas P W (stepped c e now)
unfolding stepped
stepped_has P W l e now c b t =
    by_test (StepHas P W) (is_worn c) (faults c fault.Worn) (counted (happened now e (clock_work now c))) (λ w. t)
    (λ w. counted_has P W (happened now e (clock_work now c)) (happened_has P W l now e (clock_work now c) b (clock_has P W l now c t)))
