-- A request that a call names waits as a read for nothing but the acquire that is for it: each step keeps that.
use Rattle.std.proofs.Common.{◌≡◌, ◌≢◌, ℕ, ◌==◌, true, false, not, ◌&&◌, map, Option, None, Some, Result, Ok, Err, refl}
use Rattle.etcd_types.specs.declared.answer.Refusal.{Refusal}
use Rattle.etcd_types.specs.declared.answer.Body.{Body}
use Rattle.etcd_types.specs.declared.request.Request.{Request}
use Rattle.etcd_types.specs.declared.request.Request.TheVariants as request
use Rattle.etcd_types.specs.declared.watch.WatchItem.{WatchItem}
use Rattle.etcd_types.specs.declared.watch.WatchItem.TheVariants as item
use Rattle.proxy_model.specs.Unwrapped.{Unwrapped, item_without}
use Rattle.wait_model.specs.declared.sending.Sending.TheVariants as sending
use Rattle.wait_model.specs.Sent.{JobSent, job_sent}
use Rattle.read_model.specs.declared.asked.Asked.{Asked}
use Rattle.read_model.specs.declared.asked.Stage.{Stage}
use Rattle.read_model.specs.declared.asked.Stage.TheVariants as stage
use Rattle.read_model.specs.declared.asked.Verdict.TheVariants as verdict
use Rattle.read_model.specs.Acquires.{read_asked}
use Rattle.read_model.specs.PlainRead.{decided_ask, in_stage}
use Rattle.read_model.specs.State.{ground_of}
use Rattle.watch_model.specs.declared.stream.StreamJob.{StreamJob}
use Rattle.watch_model.specs.declared.stream.StreamJob.TheVariants as stream
use Rattle.watch_model.specs.Due.{next_job}
use Rattle.watch_model.specs.Lookups.{stream_at, watch_at, is_begun}
use Rattle.watch_model.specs.State.{Stream, Watch, Broadcasts}
use Rattle.watch_model.specs.Takes as watches
use Rattle.core_model.specs.declared.event.CoreEvent.{CoreEvent}
use Rattle.core_model.specs.declared.event.CoreEvent.TheVariants as event
use Rattle.core_model.specs.declared.event.Outcome.{Outcome}
use Rattle.core_model.specs.declared.event.StepFault.{StepFault}
use Rattle.core_model.specs.declared.event.StepFault.TheVariants as fault
use Rattle.core_model.specs.declared.out_call.OutCall.{OutCall}
use Rattle.core_model.specs.Asking.{asked_at, is_leased_read, read_by, read_is_asked, held_body, if_live, call_stage, call_is_asked, answered_or_called, leased_ask, taken_in, request_asked, refused_or_taken, on_ask}
use Rattle.core_model.specs.ClockWork.{begun, clock_work, times_out, timed_out_ask}
use Rattle.core_model.specs.DueJobs.{DueJob, ForSession, ForWrites, ForAcquire, ForAsk, ForGroup, ToOpen, ForStream, first_job}
use Rattle.core_model.specs.Ends.{call_gone, member_failed, loss_of, on_lost}
use Rattle.core_model.specs.Fits.{CoreOk, Agrees}
use Rattle.core_model.specs.Groups.{keeps, is_due_stage, group_sent}
use Rattle.core_model.specs.Heard.{header_taken}
use Rattle.core_model.specs.Kinds.{writes_keys}
use Rattle.core_model.specs.LeasingStream.{leasing_ticked, leasing_cut, leasing_created, is_readable, leasing_message, message_if_sent, item_header, leasing_item}
use Rattle.core_model.specs.LeasingStream as leasing
use Rattle.core_model.specs.Lookups.{leases, is_known, moment, reads_of, with_reads, has_ticket, without_ask, ask_at, out_at}
use Rattle.core_model.specs.Refusals.{refusal_of}
use Rattle.core_model.specs.Sending.{next_call, called_as, writes_sent, sent_by, on_work}
use Rattle.core_model.specs.Sessions.{without_session, seat_is_over, deadline_passed, seat_ticked}
use Rattle.core_model.specs.State.{Opening, Core}
use Rattle.core_model.specs.Step.{ticked, on_tick, opening_at, client_item, item_of, on_item, client_cut, cut_of, on_cut, is_worn, happened, stepped}
use Rattle.core_model.specs.Stepped.{Stepped, faults, counted, counted_by}
use Rattle.core_model.specs.Takes.{item_taken, taken, on_take, watcher_left, left, on_leave}
use Rattle.core_model.specs.Takes as takes
use Rattle.core_model.specs.Watching.{with_watches, stream_message, stream_item, taken_item, stream_job}
use Rattle.core_model.specs.Watching as watching
use Rattle.core_laws.proofs.Steps.Comes.{by_test}
use Rattle.core_laws.proofs.Steps.Middle.{clock_whole}
use Rattle.core_laws.proofs.Steps.Whole.{Whole, of_ok}
use Rattle.core_fits.specs.Fits.{is_reading}
use Rattle.keep_laws.proofs.Rows.{All, all_mapped, all_filtered, all_pushed}
use Rattle.reply_laws.proofs.Before as before
use Rattle.executed_laws.proofs.Waiting.{Class, Of, not_both, released_false, lost_job_so, answered_so}

-- ---- the class

abbrev pub Waits : Asked → Type 0
Waits y = is_reading y.stage ≡ true → y.stage ≡ stage.Acquiring

quiet_unread : (s : Stage) → before.is_quiet s ≡ true → is_reading s ≡ false
quiet_unread (stage.Calling s) h = refl
quiet_unread (stage.Replied v) h = refl
quiet_unread stage.Acquiring h = absurd (cc)
quiet_unread stage.Joined h = absurd (cc)
quiet_unread stage.Behind h = absurd (cc)
quiet_unread stage.Writes h = absurd (cc)
quiet_unread (stage.Grouped s) h = absurd (cc)

unread : {A : Type 0} (s : Stage) → is_reading s ≡ false → is_reading s ≡ true → A
unread s f t = not_both (is_reading s) t f

pub waits_class : Class Waits
waits_class = record {
  quiet = λ y q r. unread y.stage (quiet_unread y.stage q) r;
  waits = λ y h r. h r;
  said = λ x call a h e r. absurd (cc);
  wrote = λ x a h e r. absurd (cc);
  shared = λ x call v h e r. absurd (cc);
  next = λ x step h e r. absurd (cc);
}

module _ (t : ℕ) where
  abbrev P : Asked → Type 0
  P = Of t Waits waits_class

  abbrev pub WaitsSo : Core → Type 0
  WaitsSo c = All P c.asks

  of_unread : (y : Asked) → is_reading y.stage ≡ false → P y
  of_unread y f n r = unread y.stage f r

  -- the clock's work

  ends_so : (now : ℕ) (c : Core) → WaitsSo c → WaitsSo (without_session now c)
  ends_so now c h = released_false t Waits waits_class _ _ c.asks h

  pub clock_waits : (now : ℕ) (c : Core) → WaitsSo c → WaitsSo (clock_work now c)
  unfolding clock_work
  clock_waits now c h =
      let d = deadline_passed now (begun c) in
      let k : WaitsSo d = by_test WaitsSo (seat_is_over c.seat now) (without_session now (begun c)) (begun c) (λ e. ends_so now (begun c) h) (λ e. h) in
      released_false t Waits waits_class _ _ (map (timed_out_ask now) d.asks)
      (all_mapped P P (timed_out_ask now) (λ x k. by_test P (times_out now x) (in_stage (stage.Replied verdict.TimedOut) x) x (λ e. of_unread (in_stage (stage.Replied verdict.TimedOut) x) refl) (λ e. k)) d.asks k)

  -- a request is asked, under another ticket

  call_so : (a : Asked) (c : Core) → P (in_stage (call_stage a.request c) a) → WaitsSo c → WaitsSo (call_is_asked a c).core
  call_so a c n h = all_pushed P (in_stage (call_stage a.request c) a) c.asks h n

  abbrev Other : Asked → Type 0
  Other a = (s : Stage) → P (in_stage s a)

  read_so : (m : Rattle.read_model.specs.State.Moment) (a : Asked) (c : Core) → Other a → WaitsSo c → WaitsSo (read_is_asked m a c).core
  read_so m a c n h = by (decided_ask m (ground_of (reads_of c)) a).stage
    where
      after : WaitsSo (with_reads c (read_asked m a (reads_of c)))
      after = all_pushed P (decided_ask m (ground_of (reads_of c)) a) c.asks h (n _)

      by : (s : Stage) → WaitsSo (read_by s c (with_reads c (read_asked m a (reads_of c)))).core
      by (stage.Replied v) = h
      by (stage.Calling s) = after
      by stage.Acquiring = after
      by stage.Joined = after
      by stage.Behind = after
      by stage.Writes = after
      by (stage.Grouped s) = after

  taken_so : (m : Rattle.read_model.specs.State.Moment) (a : Asked) (c : Core) → Other a → WaitsSo c → WaitsSo (taken_in m a c).core
  taken_so m a c n h =
      by_test (λ (s : Stepped). WaitsSo s.core) (leases c) (leased_ask m a c) (call_is_asked a c)
      (λ e. by_test (λ (s : Stepped). WaitsSo s.core) (is_leased_read c.own.waits.prefix a.request) (read_is_asked m a c) _ (λ f. read_so m a c n h)
      (λ f. by_test (λ (s : Stepped). WaitsSo s.core) (writes_keys a.request) _ _ (λ w. all_pushed P (in_stage stage.Writes a) c.asks h (n stage.Writes)) (λ w. by_body (if_live m.session (held_body c.own.entries a.request)))))
      (λ e. call_so a c (n (call_stage a.request c)) h)
    where
      by_body : (b : Option Body) → WaitsSo (answered_or_called b a c).core
      by_body None = call_so a c (n (call_stage a.request c)) h
      by_body (Some b) = h

  request_so : (q : Request) (m : Rattle.read_model.specs.State.Moment) (a : Asked) (c : Core) → Other a → WaitsSo c → WaitsSo (request_asked q m a c).core
  request_so (request.Watch ask) m a c n h = h
  request_so (request.KeepAlive lease) m a c n h = taken_so m a c n h
  request_so (request.Range ask) m a c n h = taken_so m a c n h
  request_so (request.Put ask) m a c n h = taken_so m a c n h
  request_so (request.Delete ask) m a c n h = taken_so m a c n h
  request_so (request.Txn x) m a c n h = taken_so m a c n h
  request_so (request.Compact revision physical) m a c n h = taken_so m a c n h
  request_so (request.Grant ttl lease) m a c n h = taken_so m a c n h
  request_so (request.Revoke lease) m a c n h = taken_so m a c n h
  request_so (request.TimeToLive lease keys) m a c n h = taken_so m a c n h
  request_so request.Leases m a c n h = taken_so m a c n h

  asked_so : (now ticket : ℕ) (q : Request) (word : ℕ) (c : Core) → ticket ≢ t → WaitsSo c → WaitsSo (on_ask now ticket q word c).core
  unfolding on_ask
  asked_so now ticket q word c n h = by_test (λ (s : Stepped). WaitsSo s.core) (is_known ticket c) _ _ (λ e. h) (λ e. by (refusal_of c.own.waits.prefix q))
    where
      by : (o : Option Refusal) → WaitsSo (refused_or_taken o (moment c now) (asked_at now ticket q word) c).core
      by None = request_so q (moment c now) (asked_at now ticket q word) c (λ s e. absurd (n e)) h
      by (Some r) = h

  -- a call is lost; a request is taken or left

  lost_so : (now call : ℕ) (c : Core) → Agrees c → WaitsSo c → WaitsSo (on_lost now call c).core
  unfolding on_lost
  lost_so now call c g h = by (out_at call c.out)
    where
      by : (o : Option OutCall) → WaitsSo (loss_of now call o c).core
      by None = h
      by (Some o) = lost_job_so t Waits waits_class now o o.job (member_failed o (call_gone call c)) g.asks g.writes h

  take_so : (ticket : ℕ) (c : Core) → WaitsSo c → WaitsSo (on_take ticket c).core
  unfolding on_take
  take_so ticket c h = by_ask (ask_at ticket c.asks)
    where
      by_pair : (x : Broadcasts × Option WatchItem) → WaitsSo (taken_item c x).core
      by_pair (b, None) = h
      by_pair (b, Some x) = h

      by_watch : (w : Option Watch) → WaitsSo (item_taken ticket w c).core
      by_watch None = h
      by_watch (Some w) = by_pair (watches.taken_from c.watches c.header w w.queue)

      by_stage : (s : Stage) → WaitsSo (takes.taken_from ticket s c).core
      by_stage (stage.Replied v) = all_filtered P (λ a. not (has_ticket ticket a)) c.asks h
      by_stage (stage.Calling s) = h
      by_stage stage.Acquiring = h
      by_stage stage.Joined = h
      by_stage stage.Behind = h
      by_stage stage.Writes = h
      by_stage (stage.Grouped s) = h

      by_ask : (o : Option Asked) → WaitsSo (taken ticket o c).core
      by_ask None = by_watch (watch_at ticket c.watches.watches)
      by_ask (Some a) = by_stage a.stage

  leave_so : (now ticket : ℕ) (c : Core) → WaitsSo c → WaitsSo (on_leave now ticket c).core
  unfolding on_leave
  leave_so now ticket c h = by_ask (ask_at ticket c.asks)
    where
      by_watch : (w : Option Watch) → WaitsSo (watcher_left ticket w c).core
      by_watch None = h
      by_watch (Some w) = h

      by_ask : (o : Option Asked) → WaitsSo (left now ticket o c).core
      by_ask None = by_watch (watch_at ticket c.watches.watches)
      by_ask (Some a) = released_false t Waits waits_class _ _ (without_ask ticket c.asks) (all_filtered P (λ b. not (has_ticket ticket b)) c.asks h)

  -- ticks, messages and cuts

  tick_so : (now word : ℕ) (c : Core) → WaitsSo c → WaitsSo (on_tick now word c).core
  unfolding on_tick
  tick_so now word c h = by_test WaitsSo (leases c) (ticked now word c) c (λ e. by c.leasing) (λ e. h)
    where
      by : (o : Option Opening) → WaitsSo (leasing_ticked o (record c { seat = Some (seat_ticked word c.settings.ttl c.own.waits.step now c.seat) }))
      by None = h
      by (Some o) = h

  message_so : (now : ℕ) (o : Opening) (x : WatchItem) (c : Core) → WaitsSo c → WaitsSo (leasing_message now o x c)
  message_so now o (item.Created d) c h = by_test WaitsSo o.stream.created c _ (λ e. h) (λ e. h)
  message_so now o (item.Events d es) c h = by_test WaitsSo (is_readable o.stream es) _ (leasing_cut o c) (λ e. h) (λ e. h)
  message_so now o (item.Canceled d compaction) c h = by_test WaitsSo (compaction == 0) (leasing_cut o c) _ (λ e. h) (λ e. h)

  leasing_so : (now : ℕ) (o : Opening) (x : WatchItem) (c : Core) → WaitsSo c → WaitsSo (leasing_item now o x c)
  leasing_so now o x c h = by_due o.due
    where
      by_text : (u : Unwrapped WatchItem) (d : Core) → WaitsSo d → WaitsSo (leasing.unwrapped_message now o u d)
      by_text (Ok y) d k = message_so now o y d k
      by_text (Err foreign) d k = k

      by_due : (s : Option ℕ) → WaitsSo (message_if_sent now o s x (header_taken (item_header x) c))
      by_due None = by_text (item_without c.settings.namespace x) (header_taken (item_header x) c) h
      by_due (Some since) = h

  stream_so : (s : Stream) (x : WatchItem) (c : Core) → WaitsSo c → WaitsSo (stream_item s x c)
  stream_so s x c h = by_test WaitsSo (is_begun s.phase) _ (header_taken (item_header x) c) (λ e. by_text (item_without c.settings.namespace x)) (λ e. h)
    where
      by_message : (y : WatchItem) → WaitsSo (stream_message s y (header_taken (item_header x) c))
      by_message (item.Created d) = h
      by_message (item.Events d es) = h
      by_message (item.Canceled d compaction) = h

      by_text : (u : Unwrapped WatchItem) → WaitsSo (watching.unwrapped_message s u (header_taken (item_header x) c))
      by_text (Ok y) = by_message y
      by_text (Err foreign) = h

  item_so : (now number : ℕ) (x : WatchItem) (c : Core) → WaitsSo c → WaitsSo (on_item now number x c).core
  unfolding on_item
  item_so now number x c h = by_opening (opening_at number c.leasing)
    where
      by_stream : (s : Option Stream) → WaitsSo (client_item number x s c).core
      by_stream None = h
      by_stream (Some s) = stream_so s x c h

      by_opening : (o : Option Opening) → WaitsSo (item_of now number x o c).core
      by_opening None = by_stream (stream_at number c.watches.streams)
      by_opening (Some o) = leasing_so now o x c h

  cut_so : (number : ℕ) (c : Core) → WaitsSo c → WaitsSo (on_cut number c).core
  unfolding on_cut
  cut_so number c h = by_opening (opening_at number c.leasing)
    where
      by_stream : (s : Option Stream) → WaitsSo (client_cut number s c).core
      by_stream None = h
      by_stream (Some s) = h

      by_opening : (o : Option Opening) → WaitsSo (cut_of number o c).core
      by_opening None = by_stream (stream_at number c.watches.streams)
      by_opening (Some o) = h

  -- what is due is sent

  pub sent_waits : (now : ℕ) (c : Core) (j : Option DueJob) → WaitsSo c → WaitsSo (sent_by now j c).core
  sent_waits now c None h = h
  sent_waits now c (Some (ForSession s)) h = h
  sent_waits now c (Some ForWrites) h = by (job_sent (next_call c) c.own)
    where
      by : (o : Option JobSent) → WaitsSo (writes_sent now o c).core
      by None = h
      by (Some x) = h
  sent_waits now c (Some (ForAcquire k x)) h = h
  sent_waits now c (Some (ForAsk a)) h =
      all_mapped P P (called_as (next_call c) a.ticket) (λ y k. by_test P (has_ticket a.ticket y) (in_stage (stage.Calling (sending.Out (next_call c))) y) y (λ e. of_unread (in_stage (stage.Calling (sending.Out (next_call c))) y) refl) (λ e. k)) c.asks h
  sent_waits now c (Some (ForGroup lease ticket)) h =
      all_mapped P P (group_sent (next_call c) lease)
      (λ y k. by_test P (keeps lease y.request && is_due_stage y.stage) (in_stage (stage.Grouped (Some (sending.Out (next_call c)))) y) y (λ e. of_unread (in_stage (stage.Grouped (Some (sending.Out (next_call c)))) y) refl) (λ e. k)) c.asks h
  sent_waits now c (Some (ToOpen o)) h = h
  sent_waits now c (Some (ForStream x)) h = by (next_job c.watches (Some x)).1
    where
      by : (o : Option StreamJob) → WaitsSo (stream_job o (with_watches c (next_job c.watches (Some x)).0)).core
      by None = h
      by (Some (stream.Close number)) = h
      by (Some (stream.Open number range start)) = h

  work_waits : (now : ℕ) (c : Core) → WaitsSo c → WaitsSo (on_work now c).core
  unfolding on_work
  work_waits now c h = sent_waits now c (first_job c) h

  -- ---- a whole step

  happened_waits : (now : ℕ) (e : CoreEvent) (c : Core) → Whole 0 c → ((ticket word : ℕ) (q : Request) → e ≡ event.Ask ticket q word → ticket ≢ t) → WaitsSo c → WaitsSo (happened now e c).core
  happened_waits now (event.Ask ticket q word) c k n h = asked_so now ticket q word c (n ticket word q refl) h
  happened_waits now (event.Answer call a) c k n h =
      answered_so t Waits waits_class now call a c (λ o x e f i reply claim g u v y w z r. absurd (cc)) k.mid.reads.asks k.mid.agrees.asks k.mid.agrees.writes h
  happened_waits now (event.Lost call) c k n h = lost_so now call c k.mid.agrees h
  happened_waits now (event.Tick word) c k n h = tick_so now word c h
  happened_waits now (event.Item number x) c k n h = item_so now number x c h
  happened_waits now (event.Cut number) c k n h = cut_so number c h
  happened_waits now (event.Take ticket) c k n h = take_so ticket c h
  happened_waits now (event.Leave ticket) c k n h = leave_so now ticket c h
  happened_waits now event.Work c k n h = work_waits now c h

  counted_waits : (c : Core) (r : Result Outcome StepFault) → WaitsSo c → WaitsSo (counted_by c r).core
  counted_waits c (Ok o) h = h
  counted_waits c (Err f) h = h

  pub step_waits : (c : Core) (e : CoreEvent) (now : ℕ) → CoreOk c → ((ticket word : ℕ) (q : Request) → e ≡ event.Ask ticket q word → ticket ≢ t) → WaitsSo c → WaitsSo (stepped c e now).core
  unfolding stepped
  step_waits c e now ok n h =
      by_test (λ (s : Stepped). WaitsSo s.core) (is_worn c) (faults c fault.Worn) (counted (happened now e (clock_work now c))) (λ w. h)
      (λ w. counted_waits (happened now e (clock_work now c)).core (happened now e (clock_work now c)).outcome (happened_waits now e (clock_work now c) (clock_whole 0 now c (of_ok c ok).mid) n (clock_waits now c h)))
