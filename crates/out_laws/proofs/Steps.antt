-- What each event makes of the writes and of the calls that are out: but for what is sent under the next number, each write whose call is
-- out, and each call that is out, was so before.
use Rattle.std.proofs.Common.{◌≡◌, ℕ, ◌+◌, ◌==◌, true, [], ◌∷◌, ◌++◌, Option, None, Some, Result, Ok, Err, refl, sym, ap, subst}
use Rattle.etcd_types.specs.declared.answer.Body.{Body}
use Rattle.etcd_types.specs.declared.answer.Refusal.{Refusal}
use Rattle.etcd_types.specs.declared.record.Header.{Header}
use Rattle.etcd_types.specs.declared.request.Request.{Request}
use Rattle.etcd_types.specs.declared.request.Request.TheVariants as request
use Rattle.etcd_types.specs.declared.watch.WatchItem.{WatchItem}
use Rattle.etcd_types.specs.declared.watch.WatchItem.TheVariants as item
use Rattle.proxy_model.specs.Unwrapped.{Unwrapped, item_without}
use Rattle.wait_model.specs.declared.write.Write.{Write}
use Rattle.wait_model.specs.declared.write.WriteStage.TheVariants.{Waiting}
use Rattle.wait_model.specs.Asked.{new_write}
use Rattle.wait_model.specs.LeasingStream.{resynced}
use Rattle.wait_model.specs.Sent.{JobSent, job_sent}
use Rattle.wait_model.specs.State.{Ownership}
use Rattle.read_model.specs.declared.asked.Asked.{Asked}
use Rattle.read_model.specs.declared.asked.Stage.{Stage}
use Rattle.read_model.specs.declared.asked.Stage.TheVariants as stage
use Rattle.read_model.specs.Acquires.{read_asked}
use Rattle.read_model.specs.PlainRead.{decided_ask}
use Rattle.read_model.specs.State.{Moment, ground_of}
use Rattle.core_model.specs.declared.event.CoreEvent.{CoreEvent}
use Rattle.core_model.specs.declared.event.CoreEvent.TheVariants as event
use Rattle.core_model.specs.declared.event.Outcome.{Outcome}
use Rattle.core_model.specs.declared.event.StepFault.{StepFault}
use Rattle.core_model.specs.declared.event.StepFault.TheVariants as fault
use Rattle.core_model.specs.declared.out_call.OutCall.{OutCall}
use Rattle.core_model.specs.declared.out_call.OutJob.TheVariants as job
use Rattle.core_model.specs.Asking.{asked_at, is_leased_read, read_by, read_is_asked, with_ask, write_is_asked, held_body, if_live, call_stage, call_is_asked, answered_or_called, leased_ask, taken_in, request_asked, refused_or_taken, on_ask}
use Rattle.core_model.specs.ClockWork.{writes_go_on, begun, clock_work}
use Rattle.core_model.specs.DueJobs.{DueJob, ForSession, ForWrites, ForAcquire, ForAsk, ForGroup, ToOpen, ForStream, first_job}
use Rattle.core_model.specs.Heard.{header_taken}
use Rattle.core_model.specs.Kinds.{writes_keys}
use Rattle.core_model.specs.LeasingStream.{leasing_ticked, leasing_cut, leasing_created, leasing_message, message_if_sent, item_header, leasing_item, is_readable}
use Rattle.core_model.specs.LeasingStream as leasing
use Rattle.core_model.specs.Lookups.{leases, is_known, moment, live_number, reads_of, with_reads, has_ticket, without_ask, ask_at}
use Rattle.core_model.specs.Refusals.{refusal_of}
use Rattle.core_model.specs.Sending.{next_call, out_call, writes_sent, sent_by, on_work}
use Rattle.core_model.specs.Sessions.{seat_ticked, seat_is_over, without_session}
use Rattle.core_model.specs.State.{Opening, Core}
use Rattle.core_model.specs.Step.{happened, is_worn, stepped, ticked, on_tick, client_item, item_of, on_item, client_cut, cut_of, on_cut, opening_at}
use Rattle.core_model.specs.Stepped.{Stepped, faults, counted, counted_by}
use Rattle.core_model.specs.Takes.{has_left, item_taken, taken, on_take, watcher_left, left, on_leave}
use Rattle.core_model.specs.Takes as takes
use Rattle.core_model.specs.Watching.{with_watches, stream_message, stream_item, taken_item, stream_job}
use Rattle.core_model.specs.Watching as watching
use Rattle.watch_model.specs.declared.stream.StreamJob.{StreamJob}
use Rattle.watch_model.specs.declared.stream.StreamJob.TheVariants as stream
use Rattle.watch_model.specs.Due.{next_job}
use Rattle.watch_model.specs.Lookups.{stream_at, watch_at, is_begun}
use Rattle.watch_model.specs.State.{Stream, Watch, Broadcasts}
use Rattle.watch_model.specs.Takes as watches
use Rattle.core_laws.proofs.Steps.Comes.{by_test}
use Rattle.core_fits.specs.Fits.{EachOf}
use Rattle.core_fits.proofs.Eachs.{each_pushed}
use Rattle.core_fits.proofs.ReadRows.{decided_writes}
use Rattle.out_laws.proofs.Writes.{Lasts, Goes, SentHas, gone_all, message_has, job_sent_has}
use Rattle.out_laws.proofs.Reading as reads
use Rattle.out_laws.proofs.Calls.{CoreHas, StepHas, go_on, clock_has, answered_has, lost_has}

-- clock work sends nothing
pub same_calls : (now : ℕ) (c : Core) → (clock_work now c).calls ≡ c.calls
unfolding clock_work
same_calls now c = by_test (λ (d : Core). d.calls ≡ c.calls) (seat_is_over c.seat now) (without_session now (begun c)) (begun c) (λ t. refl) (λ t. refl)

module _ (W : Write → Type 0) (O : OutCall → Type 0) (l : Lasts W) where
  abbrev Has : Core → Type 0
  Has c = CoreHas W O l c

  abbrev Steps : Stepped → Type 0
  Steps s = StepHas W O l s

  -- a request is asked

  read_has : (m : Moment) (a : Asked) (c : Core) → Has c → Steps (read_is_asked m a c)
  read_has m a c t = by_stage (decided_ask m (ground_of (reads_of c)) a).stage
    where
      pushed : Has (writes_go_on (with_reads c (read_asked m a (reads_of c))))
      pushed = go_on W O l (with_reads c (read_asked m a (reads_of c))) (subst (EachOf W) (sym (decided_writes m (ground_of (reads_of c)) a)) t.0, t.1)

      by_stage : (s : Stage) → Steps (read_by s c (with_reads c (read_asked m a (reads_of c))))
      by_stage (stage.Replied v) = t
      by_stage (stage.Calling s) = pushed
      by_stage stage.Acquiring = pushed
      by_stage stage.Joined = pushed
      by_stage stage.Behind = pushed
      by_stage stage.Writes = pushed
      by_stage (stage.Grouped s) = pushed

  call_has : (a : Asked) (c : Core) → Has c → Steps (call_is_asked a c)
  call_has a c t = go_on W O l (with_ask (call_stage a.request c) a c) t

  leased_has : (m : Moment) (a : Asked) (c : Core) → Has c → Steps (leased_ask m a c)
  leased_has m a c t =
      by_test Steps (is_leased_read c.own.waits.prefix a.request) _ _ (λ e. read_has m a c t)
      (λ e. by_test Steps (writes_keys a.request) (write_is_asked a c) (answered_or_called (if_live m.session (held_body c.own.entries a.request)) a c) (λ u. written) (λ u. by_body (if_live m.session (held_body c.own.entries a.request))))
    where
      next : Core
      next = with_ask stage.Writes a (record c { own = record c.own { waits = record c.own.waits { writes = c.own.waits.writes ++ new_write a.ticket a.request ∷ [] } } })

      written : Steps (write_is_asked a c)
      written = go_on W O l next (each_pushed W (new_write a.ticket a.request) c.own.waits.writes t.0 (l (new_write a.ticket a.request) Waiting refl), t.1)

      by_body : (b : Option Body) → Steps (answered_or_called b a c)
      by_body None = call_has a c t
      by_body (Some b) = t

  taken_in_has : (m : Moment) (a : Asked) (c : Core) → Has c → Steps (taken_in m a c)
  taken_in_has m a c t = by_test Steps (leases c) _ _ (λ e. leased_has m a c t) (λ e. call_has a c t)

  request_has : (q : Request) (m : Moment) (a : Asked) (c : Core) → Has c → Steps (request_asked q m a c)
  request_has (request.Watch ask) m a c t = t
  request_has (request.KeepAlive lease) m a c t = taken_in_has m a c t
  request_has (request.Range ask) m a c t = taken_in_has m a c t
  request_has (request.Put ask) m a c t = taken_in_has m a c t
  request_has (request.Delete ask) m a c t = taken_in_has m a c t
  request_has (request.Txn x) m a c t = taken_in_has m a c t
  request_has (request.Compact revision physical) m a c t = taken_in_has m a c t
  request_has (request.Grant ttl lease) m a c t = taken_in_has m a c t
  request_has (request.Revoke lease) m a c t = taken_in_has m a c t
  request_has (request.TimeToLive lease keys) m a c t = taken_in_has m a c t
  request_has request.Leases m a c t = taken_in_has m a c t

  asked_has : (now ticket : ℕ) (q : Request) (word : ℕ) (c : Core) → Has c → Steps (on_ask now ticket q word c)
  unfolding on_ask
  asked_has now ticket q word c t = by_test Steps (is_known ticket c) _ _ (λ e. t) (λ e. by_refusal (refusal_of c.own.waits.prefix q))
    where
      by_refusal : (o : Option Refusal) → Steps (refused_or_taken o (moment c now) (asked_at now ticket q word) c)
      by_refusal None = request_has q (moment c now) (asked_at now ticket q word) c t
      by_refusal (Some x) = t

  -- ticks, messages and cuts

  tick_has : (now word : ℕ) (c : Core) → Has c → Steps (on_tick now word c)
  unfolding on_tick
  tick_has now word c t = by_test Has (leases c) (ticked now word c) c (λ e. by_opening c.leasing) (λ e. t)
    where
      by_opening : (o : Option Opening) → Has (leasing_ticked o (record c { seat = Some (seat_ticked word c.settings.ttl c.own.waits.step now c.seat) }))
      by_opening None = t
      by_opening (Some o) = t

  created_has : (o : Opening) (h : Header) (c : Core) → Has c → Has (leasing_created o h c)
  created_has o h c t =
      by_test Has o.stream.created c _ (λ e. t)
      (λ e. (by_test (λ (x : Ownership). EachOf W x.waits.writes) (o.stream.next == 0) (resynced c.own) c.own (λ u. gone_all W l (λ k. true) c.own.waits.writes t.0) (λ u. t.0), t.1))

  message_of_has : (now : ℕ) (o : Opening) (x : WatchItem) (c : Core) → Has c → Has (leasing_message now o x c)
  message_of_has now o (item.Created d) c t = created_has o d c t
  message_of_has now o (item.Events d es) c t = by_test Has (is_readable o.stream es) _ (leasing_cut o c) (λ e. (message_has W l (live_number c.seat now) es c.own t.0, t.1)) (λ e. t)
  message_of_has now o (item.Canceled d compaction) c t = by_test Has (compaction == 0) (leasing_cut o c) _ (λ e. t) (λ e. t)

  leasing_has : (now : ℕ) (o : Opening) (x : WatchItem) (c : Core) → Has c → Has (leasing_item now o x c)
  leasing_has now o x c t = by_due o.due
    where
      by_text : (u : Unwrapped WatchItem) (d : Core) → Has d → Has (leasing.unwrapped_message now o u d)
      by_text (Ok y) d e = message_of_has now o y d e
      by_text (Err foreign) d e = e

      by_due : (s : Option ℕ) → Has (message_if_sent now o s x (header_taken (item_header x) c))
      by_due None = by_text (item_without c.settings.namespace x) (header_taken (item_header x) c) t
      by_due (Some since) = t

  stream_has : (s : Stream) (x : WatchItem) (c : Core) → Has c → Has (stream_item s x c)
  stream_has s x c t = by_test Has (is_begun s.phase) _ (header_taken (item_header x) c) (λ e. by_text (item_without c.settings.namespace x)) (λ e. t)
    where
      by_message : (y : WatchItem) → Has (stream_message s y (header_taken (item_header x) c))
      by_message (item.Created d) = t
      by_message (item.Events d es) = t
      by_message (item.Canceled d compaction) = t

      by_text : (u : Unwrapped WatchItem) → Has (watching.unwrapped_message s u (header_taken (item_header x) c))
      by_text (Ok y) = by_message y
      by_text (Err foreign) = t

  item_has : (now number : ℕ) (x : WatchItem) (c : Core) → Has c → Steps (on_item now number x c)
  unfolding on_item
  item_has now number x c t = by_opening (opening_at number c.leasing)
    where
      by_stream : (s : Option Stream) → Steps (client_item number x s c)
      by_stream None = t
      by_stream (Some s) = go_on W O l (stream_item s x c) (stream_has s x c t)

      by_opening : (o : Option Opening) → Steps (item_of now number x o c)
      by_opening None = by_stream (stream_at number c.watches.streams)
      by_opening (Some o) = go_on W O l (leasing_item now o x c) (leasing_has now o x c t)

  cut_has : (number : ℕ) (c : Core) → Has c → Steps (on_cut number c)
  unfolding on_cut
  cut_has number c t = by_opening (opening_at number c.leasing)
    where
      by_stream : (s : Option Stream) → Steps (client_cut number s c)
      by_stream None = t
      by_stream (Some s) = t

      by_opening : (o : Option Opening) → Steps (cut_of number o c)
      by_opening None = by_stream (stream_at number c.watches.streams)
      by_opening (Some o) = t

  -- takes and leaving

  take_has : (ticket : ℕ) (c : Core) → Has c → Steps (on_take ticket c)
  unfolding on_take
  take_has ticket c t = by_ask (ask_at ticket c.asks)
    where
      by_pair : (x : Broadcasts × Option WatchItem) → Steps (taken_item c x)
      by_pair (b, None) = t
      by_pair (b, Some x) = t

      by_watch : (w : Option Watch) → Steps (item_taken ticket w c)
      by_watch None = t
      by_watch (Some w) = by_pair (watches.taken_from c.watches c.header w w.queue)

      by_stage : (s : Stage) → Steps (takes.taken_from ticket s c)
      by_stage (stage.Replied v) = t
      by_stage (stage.Calling s) = t
      by_stage stage.Acquiring = t
      by_stage stage.Joined = t
      by_stage stage.Behind = t
      by_stage stage.Writes = t
      by_stage (stage.Grouped s) = t

      by_ask : (o : Option Asked) → Steps (taken ticket o c)
      by_ask None = by_watch (watch_at ticket c.watches.watches)
      by_ask (Some a) = by_stage a.stage

  leave_has : (now ticket : ℕ) (c : Core) → Has c → Steps (on_leave now ticket c)
  unfolding on_leave
  leave_has now ticket c t = by_ask (ask_at ticket c.asks)
    where
      by_watch : (w : Option Watch) → Steps (watcher_left ticket w c)
      by_watch None = t
      by_watch (Some w) = t

      by_ask : (o : Option Asked) → Steps (left now ticket o c)
      by_ask None = by_watch (watch_at ticket c.watches.watches)
      by_ask (Some a) = go_on W O l (has_left now ticket c) (reads.taken_off_has W l (moment c now) (has_ticket ticket) (without_ask ticket c.asks) (reads_of c) t.0, t.1)

  -- what is due is sent, under the next number

  -- it holds of what is out under this number
  pub record OutAs (call : ℕ) : Type 0 where
    pub writes : Goes W l call
    pub out : (o : OutCall) → o.call ≡ call → O o

  sent_has : (now : ℕ) (j : Option DueJob) (c : Core) → OutAs (next_call c) → Has c → Steps (sent_by now j c)
  sent_has now None c g t = t
  sent_has now (Some (ForSession s)) c g t = (t.0, each_pushed O (out_call now _ c) c.out t.1 (g.out (out_call now _ c) refl))
  sent_has now (Some ForWrites) c g t = by_job (job_sent (next_call c) c.own) (job_sent_has W l (next_call c) g.writes c.own t.0)
    where
      by_job : (x : Option JobSent) → SentHas W l x → Steps (writes_sent now x c)
      by_job None s = t
      by_job (Some x) s = (s, each_pushed O (out_call now job.Wait c) c.out t.1 (g.out (out_call now job.Wait c) refl))
  sent_has now (Some (ForAcquire k x)) c g t = (t.0, each_pushed O (out_call now (job.Acquire k) c) c.out t.1 (g.out (out_call now (job.Acquire k) c) refl))
  sent_has now (Some (ForAsk a)) c g t = (t.0, each_pushed O (out_call now _ c) c.out t.1 (g.out (out_call now _ c) refl))
  sent_has now (Some (ForGroup lease ticket)) c g t = (t.0, each_pushed O (out_call now (job.Group lease) c) c.out t.1 (g.out (out_call now (job.Group lease) c) refl))
  sent_has now (Some (ToOpen o)) c g t = t
  sent_has now (Some (ForStream x)) c g t = by_job (next_job c.watches (Some x)).1
    where
      by_job : (o : Option StreamJob) → Steps (stream_job o (with_watches c (next_job c.watches (Some x)).0))
      by_job None = t
      by_job (Some (stream.Close number)) = t
      by_job (Some (stream.Open number range start)) = t

  -- whole steps

  happened_has : (now : ℕ) (e : CoreEvent) (c : Core) → OutAs (next_call c) → Has c → Steps (happened now e c)
  unfolding on_work
  happened_has now (event.Ask ticket q word) c g t = asked_has now ticket q word c t
  happened_has now (event.Answer call a) c g t = answered_has W O l now call a c t
  happened_has now (event.Lost call) c g t = lost_has W O l now call c t
  happened_has now (event.Tick word) c g t = tick_has now word c t
  happened_has now (event.Item number x) c g t = item_has now number x c t
  happened_has now (event.Cut number) c g t = cut_has number c t
  happened_has now (event.Take ticket) c g t = take_has ticket c t
  happened_has now (event.Leave ticket) c g t = leave_has now ticket c t
  happened_has now event.Work c g t = sent_has now (first_job c) c g t

  counted_has : (s : Stepped) → Steps s → Steps (counted s)
  counted_has s t = by_outcome s.outcome
    where
      by_outcome : (o : Result Outcome StepFault) → Steps (counted_by s.core o)
      by_outcome (Ok o) = t
      by_outcome (Err f) = t

  -- What holds of each write and of each call that is out holds of each behind a step, where it holds of what is sent under the next number.
  pub stepped_has : (e : CoreEvent) (now : ℕ) (c : Core) → OutAs (next_call c) → Has c → Steps (stepped c e now)
  unfolding stepped
  stepped_has e now c g t =
      by_test Steps (is_worn c) (faults c fault.Worn) (counted (happened now e (clock_work now c))) (λ w. t)
      (λ w. counted_has (happened now e (clock_work now c)) (happened_has now e (clock_work now c) (subst OutAs (sym (ap (λ (n : ℕ). n + 1) (same_calls now c))) g) (clock_has W O l now c t)))
