-- What each event makes of the leasing stream: most leave it; it becomes due anew under the next number, is opened, or goes on by a message.
use Rattle.std.proofs.Common.{◌≡◌, ℕ, ◌+◌, ◌==◌, nat_le, Bool, true, false, not, cond, ◌&&◌, ◌||◌, List, [], ◌∷◌, ◌++◌, map, Option, None, Some, is_some, Ok, Err, refl, sym, ◌∙◌, ap, subst}
use Rattle.etcd_types.specs.declared.answer.Answer.{Answer}
use Rattle.etcd_types.specs.declared.answer.Answer.TheVariants.{Done, Refused}
use Rattle.etcd_types.specs.declared.answer.Body.{Body}
use Rattle.etcd_types.specs.declared.answer.Body.TheVariants as body
use Rattle.etcd_types.specs.declared.answer.Refusal.{Refusal}
use Rattle.etcd_types.specs.declared.record.Header.{Header}
use Rattle.etcd_types.specs.declared.record.Kv.{Kv}
use Rattle.etcd_types.specs.declared.request.Request.{Request}
use Rattle.etcd_types.specs.declared.request.Request.TheVariants as request
use Rattle.etcd_types.specs.declared.watch.WatchItem.{WatchItem}
use Rattle.etcd_types.specs.declared.watch.WatchItem.TheVariants as item
use Rattle.proxy_model.specs.declared.lease.Entry.{Entry}
use Rattle.proxy_model.specs.declared.lease.Phase.{Phase}
use Rattle.proxy_model.specs.declared.lease.Phase.TheVariants.{Held, Writing, Leaving}
use Rattle.proxy_model.specs.declared.ownership.Claim.{Claim}
use Rattle.proxy_model.specs.declared.ownership.Claim.TheVariants.{Acquired, OwnedBy}
use Rattle.proxy_model.specs.Acquire.{claimed}
use Rattle.proxy_model.specs.Keyed.{Keyed, at, with_at}
use Rattle.proxy_model.specs.Limits.{capped}
use Rattle.proxy_model.specs.Unwrapped.{Unwrapped, item_without}
use Rattle.wait_model.specs.declared.sending.Sending.TheVariants as sending
use Rattle.wait_model.specs.declared.wait.Settled.{Settled}
use Rattle.wait_model.specs.declared.wait.Settled.TheVariants as settled
use Rattle.wait_model.specs.Edits.{without}
use Rattle.wait_model.specs.Endings as endings
use Rattle.wait_model.specs.GuardedAnswers.{Ending}
use Rattle.read_model.specs.declared.acquire.Acquire.{Acquire}
use Rattle.read_model.specs.declared.asked.Asked.{Asked}
use Rattle.read_model.specs.declared.asked.Stage.{Stage}
use Rattle.read_model.specs.declared.asked.Stage.TheVariants as stage
use Rattle.read_model.specs.declared.asked.Verdict.{Verdict}
use Rattle.read_model.specs.declared.asked.Verdict.TheVariants as verdict
use Rattle.read_model.specs.Acquires.{read_asked, acquires_at, told, acquire_gone, acquire_done, AfterAcquire, done_by, acquire_refused, is_to_be_held, answered_acquire, acquire_answered, lost_once, acquire_lost}
use Rattle.read_model.specs.PlainRead.{ask_key, shown, called, acquirable, held_turn, read_turn, decision, begun_under, in_stage, decided_ground, decided_ask}
use Rattle.read_model.specs.Release.{ask_stands, released_ground, released_ask, released_from}
use Rattle.read_model.specs.SessionEnd.{is_due, dropped, over, session_over}
use Rattle.read_model.specs.State.{Reads, Moment, Ground, ground_of, on}
use Rattle.read_model.specs.TakingOff.{forgotten_all, falls, taken_off}
use Rattle.read_model.specs.WriteAnswers.{settled_ask, ending, answered_by, wait_answered}
use Rattle.watch_model.specs.Lookups.{stream_at, watch_at, is_begun}
use Rattle.watch_model.specs.State.{Stream, Watch, Broadcasts}
use Rattle.watch_model.specs.Takes as watches
use Rattle.core_model.specs.declared.out_call.CallKind.{CallKind}
use Rattle.core_model.specs.declared.out_call.OutCall.{OutCall}
use Rattle.core_model.specs.declared.out_call.OutJob.{OutJob}
use Rattle.core_model.specs.declared.out_call.OutJob.TheVariants as job
use Rattle.core_model.specs.Asking.{asked_at, is_leased_read, read_by, read_is_asked, held_body, if_live, call_stage, call_is_asked, answered_or_called, leased_ask, taken_in, request_asked, refused_or_taken, on_ask}
use Rattle.core_model.specs.ClockWork.{times_out, timed_out_ask, begun, clock_work}
use Rattle.core_model.specs.Ends.{with_caller, member_failed, stale_once, stales_limit, said, is_stale_reply, ask_done, ask_answered, lost_ask, lost_job, lost_call, acquire_if, reads_if, answered_job, or_lost, heard_call, answered_call, call_gone, answer_of, on_answer, loss_of, on_lost}
use Rattle.core_model.specs.Ends.{is_keepalive as answers_keepalive}
use Rattle.core_model.specs.Groups.{keeps, is_out_stage, waits_next, is_out_for, group_since, joining, group_ended}
use Rattle.core_model.specs.Heard.{heard, header_taken}
use Rattle.core_model.specs.Kinds.{is_read, is_body_of, writes_keys}
use Rattle.core_model.specs.LeasingStream.{leasing_ticked, leasing_cut, is_readable, leasing_message, message_if_sent, item_header, leasing_item}
use Rattle.core_model.specs.LeasingStream as leasing
use Rattle.core_model.specs.Lookups.{leases, is_known, moment, reads_of, with_reads, has_ticket, ask_at, calls_as, out_at}
use Rattle.core_model.specs.Refusals.{refusal_of}
use Rattle.core_model.specs.Sessions.{without_session, seat_is_over, deadline_passed, seat_ticked, seat_calls, granted_by, grant_failed, keep_failed, kept, kept_by}
use Rattle.core_model.specs.State.{Opening, Core}
use Rattle.core_model.specs.Step.{ticked, on_tick, opening_at, client_item, item_of, on_item, client_cut, cut_of, on_cut}
use Rattle.core_model.specs.Stepped.{Stepped}
use Rattle.core_model.specs.Takes.{item_taken, taken, on_take, watcher_left, left, on_leave}
use Rattle.core_model.specs.Takes as takes
use Rattle.core_model.specs.Watching.{stream_message, stream_item, taken_item}
use Rattle.core_model.specs.Watching as watching
use Rattle.core_laws.proofs.Steps.Lists.{all_filtered, all_pushed, same_number}
use Rattle.watch_model.specs.Due as watches_due
use Rattle.std.specs.Option.{option_map}
use Rattle.etcd_types.proofs.KeyOrder.{same-equal}
use Rattle.etcd_types.specs.declared.watch.Event.{Event}
use Rattle.proxy_model.proofs.KeyedLaws.{at-with_at}
use Rattle.proxy_model.specs.Keyed.{at}
use Rattle.etcd_types.specs.Keys.{same}
use Rattle.proxy_model.specs.SeveralKeys.{written_ranges}
use Rattle.wait_model.specs.Asked.{submitted}
use Rattle.wait_model.specs.Covers.{covered}
use Rattle.wait_model.specs.Sent.{JobSent, job_sent}
use Rattle.wait_model.specs.Writes.{sends}
use Rattle.core_laws.specs.Writes.Laws.{OwnersCovered}
use Rattle.read_model.specs.Acquires.{acquire_sent, sent_out}
use Rattle.read_model.specs.PlainRead.{key_of}
use Rattle.core_model.specs.Asking.{write_is_asked}
use Rattle.core_model.specs.ClockWork.{writes_go_on, requests_timed_out}
use Rattle.core_model.specs.DueJobs.{DueJob, ForSession, ForWrites, ForAcquire, ForAsk, ForGroup, ToOpen, ForStream, first_job}
use Rattle.core_model.specs.Groups.{group_sent}
use Rattle.core_model.specs.Sending.{next_call, called_as, writes_sent, stream_opened, sent_by, on_work}
use Rattle.core_model.specs.Watching.{stream_job, stream_sent}
use Rattle.watch_model.specs.declared.stream.StreamJob.{StreamJob}
use Rattle.watch_model.specs.declared.stream.StreamJob.TheVariants as stream
use Rattle.core_model.specs.declared.event.CoreEvent.{CoreEvent}
use Rattle.core_model.specs.declared.event.CoreEvent.TheVariants as event
use Rattle.core_model.specs.Step.{happened, stepped, is_worn}
use Rattle.core_fits.specs.Fits.{is_reading}
use Rattle.proxy_model.specs.Upstream.{Upstream, created, advance, cut, opened}
use Rattle.core_model.specs.declared.event.Outcome.{Outcome}
use Rattle.core_model.specs.declared.event.Outcome.TheVariants as outcome
use Rattle.core_model.specs.LeasingStream.{watch_of, opening_sent, told_revision}
use Rattle.core_model.specs.declared.event.Job.TheVariants as sent
use Rattle.proxy_model.specs.Wrapped.{request_under}
use Rattle.watch_model.specs.declared.stream.StreamPhase.TheVariants as phase
use Rattle.core_model.specs.declared.event.StepFault.{StepFault}
use Rattle.std.specs.Prelude.{Result}
use Rattle.cached_laws.specs.Streams.{told_by, told_in}
use Rattle.cached_laws.proofs.Jobs.{StandsIf}

either : {A : Type 0} (P : A → Type 0) (b : Bool) (x y : A) → P x → P y → P (cond b x y)
either P true x y h i = h
either P false x y h i = i

module _ (l : Option Opening) where
  abbrev pub CoreSo : Core → Type 0
  CoreSo c = c.leasing ≡ l

  abbrev pub StepSo : Stepped → Type 0
  StepSo s = CoreSo s.core

  ended_so : (now : ℕ) (c : Core) → CoreSo c → CoreSo (without_session now c)
  ended_so now c h = h

  pub clock_so : (now : ℕ) (c : Core) → CoreSo c → CoreSo (clock_work now c)
  unfolding clock_work
  clock_so now c h = either CoreSo (seat_is_over c.seat now) (without_session now (begun c)) (begun c) h h

  abbrev IfSo : Option Core → Type 0
  IfSo None = Unit {0}
  IfSo (Some c) = CoreSo c

  kept_so : (now : ℕ) (o : OutCall) (ttl : ℕ) (c : Core) → CoreSo c → CoreSo (kept now o ttl c)
  kept_so now o ttl c t = either CoreSo (ttl == 0) (without_session now c) (record c { seat = Rattle.core_model.specs.Sessions.seat_renewed o.sent_at ttl c.seat }) t t

  renewed_so : (now : ℕ) (o : OutCall) (b : Body) (c : Core) → CoreSo c → IfSo (kept_by now o b c)
  renewed_so now o (body.KeepAlive lease ttl) c t = either CoreSo (seat_calls o.call c.seat) (kept now o ttl c) c (kept_so now o ttl c t) t
  renewed_so now o (body.Range count more kvs) c t = tt
  renewed_so now o (body.Put prev) c t = tt
  renewed_so now o (body.Delete deleted prevs) c t = tt
  renewed_so now o (body.Txn' succeeded n bodies) c t = tt
  renewed_so now o body.Compact c t = tt
  renewed_so now o (body.Grant lease ttl) c t = tt
  renewed_so now o body.Revoke c t = tt
  renewed_so now o (body.TimeToLive lease ttl granted keys) c t = tt
  renewed_so now o (body.Leases leases) c t = tt

  granted_so : (o : OutCall) (b : Body) (c : Core) → CoreSo c → IfSo (granted_by o b c)
  granted_so o (body.Grant lease ttl) c t = either CoreSo (seat_calls o.call c.seat) (record c { seat = Rattle.core_model.specs.Sessions.seat_granted o.sent_at ttl c.seat }) c t t
  granted_so o (body.Range count more kvs) c t = tt
  granted_so o (body.Put prev) c t = tt
  granted_so o (body.Delete deleted prevs) c t = tt
  granted_so o (body.Txn' succeeded n bodies) c t = tt
  granted_so o body.Compact c t = tt
  granted_so o (body.KeepAlive lease ttl) c t = tt
  granted_so o body.Revoke c t = tt
  granted_so o (body.TimeToLive lease ttl granted keys) c t = tt
  granted_so o (body.Leases leases) c t = tt

  grant_failed_so : (o : OutCall) (c : Core) → CoreSo c → CoreSo (grant_failed o c)
  grant_failed_so o c t = either CoreSo (seat_calls o.call c.seat) (record c { seat = None }) c t t

  keep_failed_so : (o : OutCall) (c : Core) → CoreSo c → CoreSo (keep_failed o c)
  keep_failed_so o c t = either CoreSo (seat_calls o.call c.seat) (record c { seat = Rattle.core_model.specs.Sessions.seat_free c.seat }) c t t

  ask_so : (j : CallKind) (o : OutCall) (a : Answer) (c : Core) → CoreSo c → IfSo (ask_answered j o a c)
  ask_so j o (Refused r) c t = t
  ask_so j o (Done reply) c t =
      either IfSo (is_body_of j reply.body) (Some (ask_done j o reply c)) None
      (either CoreSo (is_stale_reply j o reply) (with_caller o.call (stale_once c.members.count c.own.waits.step) (member_failed o c)) (with_caller o.call (said (Done reply)) c) t t) tt

  lost_job_so : (now : ℕ) (o : OutCall) (j : OutJob) (c : Core) → CoreSo c → CoreSo (lost_job now o j c)
  lost_job_so now o (job.Grant lease) c t = grant_failed_so o c t
  lost_job_so now o (job.Keep lease) c t = keep_failed_so o c t
  lost_job_so now o (job.Acquire i) c t = t
  lost_job_so now o job.Wait c t = t
  lost_job_so now o (job.Ask j) c t = t
  lost_job_so now o (job.Group lease) c t = t

  lost_call_so : (now : ℕ) (o : OutCall) (c : Core) → CoreSo c → CoreSo (lost_call now o c)
  lost_call_so now o c t = lost_job_so now o o.job (member_failed o c) t

  job_so : (now : ℕ) (o : OutCall) (j : OutJob) (a : Answer) (c : Core) → CoreSo c → IfSo (answered_job now o j a c)
  job_so now o (job.Grant lease) (Done reply) c t = granted_so o reply.body c t
  job_so now o (job.Grant lease) (Refused r) c t = grant_failed_so o c t
  job_so now o (job.Keep lease) (Done reply) c t = renewed_so now o reply.body c t
  job_so now o (job.Keep lease) (Refused r) c t = keep_failed_so o c t
  job_so now o (job.Acquire i) a c t = by (acquire_answered (moment c now) i a (reads_of c))
    where
      by_end : (ends : Bool) (r : Reads) → CoreSo (with_reads (cond ends (record c { seat = None }) c) r)
      by_end true r = t
      by_end false r = t

      by : (q : Option AfterAcquire) → IfSo (acquire_if c q)
      by None = tt
      by (Some x) = by_end x.ends x.reads
  job_so now o job.Wait a c t = by (wait_answered (moment c now) o.call a (reads_of c))
    where
      by : (q : Option Reads) → IfSo (reads_if c q)
      by None = tt
      by (Some r) = t
  job_so now o (job.Ask j) a c t = ask_so j o a c t
  job_so now o (job.Group lease) a c t =
      either IfSo (answers_keepalive a) (Some (record c { asks = Rattle.core_model.specs.Groups.groups_ended c.own.waits.step o.call lease (verdict.Said a) c.asks })) None t tt

  heard_so : (now : ℕ) (o : OutCall) (h : Option Answer) (c : Core) → CoreSo c → CoreSo (heard_call now o h c)
  heard_so now o None c t = lost_call_so now o c t
  heard_so now o (Some a) c t = by (answered_job now o o.job a c) (job_so now o o.job a c t)
    where
      by : (q : Option Core) → IfSo q → CoreSo (or_lost now o c q)
      by None h = lost_call_so now o c t
      by (Some d) h = h

  pub answered_so : (now call : ℕ) (a : Answer) (c : Core) → CoreSo c → StepSo (on_answer now call a c)
  unfolding on_answer
  answered_so now call a c t = by (out_at call c.out)
    where
      by_answer : (o : OutCall) (b : Answer) → CoreSo (answered_call now o b (call_gone call c))
      by_answer o (Done reply) = heard_so now o (heard c.settings.namespace (Done reply)) (header_taken reply.header (call_gone call c)) t
      by_answer o (Refused r) = heard_so now o (heard c.settings.namespace (Refused r)) (call_gone call c) t

      by : (q : Option OutCall) → StepSo (answer_of now call a q c)
      by None = t
      by (Some o) = by_answer o a

  pub lost_so : (now call : ℕ) (c : Core) → CoreSo c → StepSo (on_lost now call c)
  unfolding on_lost
  lost_so now call c t = by (out_at call c.out)
    where
      by : (q : Option OutCall) → StepSo (loss_of now call q c)
      by None = t
      by (Some o) = lost_call_so now o (call_gone call c) t

  read_so : (m : Moment) (a : Asked) (c : Core) → CoreSo c → StepSo (read_is_asked m a c)
  read_so m a c t = by (decided_ask m (ground_of (reads_of c)) a).stage
    where
      by : (s : Stage) → StepSo (read_by s c (with_reads c (read_asked m a (reads_of c))))
      by (stage.Replied v) = t
      by (stage.Calling s) = t
      by stage.Acquiring = t
      by stage.Joined = t
      by stage.Behind = t
      by stage.Writes = t
      by (stage.Grouped s) = t

  taken_in_so : (m : Moment) (a : Asked) (c : Core) → CoreSo c → StepSo (taken_in m a c)
  taken_in_so m a c t =
      either StepSo (leases c) (leased_ask m a c) (call_is_asked a c)
      (either StepSo (is_leased_read c.own.waits.prefix a.request) (read_is_asked m a c) (cond (writes_keys a.request) (write_is_asked a c) (answered_or_called (if_live m.session (held_body c.own.entries a.request)) a c)) (read_so m a c t)
      (either StepSo (writes_keys a.request) (write_is_asked a c) (answered_or_called (if_live m.session (held_body c.own.entries a.request)) a c) t (by_body (if_live m.session (held_body c.own.entries a.request)))))
      t
    where
      by_body : (b : Option Body) → StepSo (answered_or_called b a c)
      by_body None = t
      by_body (Some b) = t

  request_so : (q : Request) (m : Moment) (a : Asked) (c : Core) → CoreSo c → StepSo (request_asked q m a c)
  request_so (request.Watch ask) m a c t = t
  request_so (request.KeepAlive lease) m a c t = taken_in_so m a c t
  request_so (request.Range ask) m a c t = taken_in_so m a c t
  request_so (request.Put ask) m a c t = taken_in_so m a c t
  request_so (request.Delete ask) m a c t = taken_in_so m a c t
  request_so (request.Txn x) m a c t = taken_in_so m a c t
  request_so (request.Compact revision physical) m a c t = taken_in_so m a c t
  request_so (request.Grant ttl lease) m a c t = taken_in_so m a c t
  request_so (request.Revoke lease) m a c t = taken_in_so m a c t
  request_so (request.TimeToLive lease keys) m a c t = taken_in_so m a c t
  request_so request.Leases m a c t = taken_in_so m a c t

  pub asked_so : (now ticket : ℕ) (q : Request) (word : ℕ) (c : Core) → CoreSo c → StepSo (on_ask now ticket q word c)
  unfolding on_ask
  asked_so now ticket q word c t =
      either StepSo (is_known ticket c) (Rattle.core_model.specs.Stepped.faults c (Rattle.core_model.specs.declared.event.StepFault.TheVariants.TicketUsed ticket)) (refused_or_taken (refusal_of c.own.waits.prefix q) (moment c now) (asked_at now ticket q word) c) t (by (refusal_of c.own.waits.prefix q))
    where
      by : (r : Option Refusal) → StepSo (refused_or_taken r (moment c now) (asked_at now ticket q word) c)
      by None = request_so q (moment c now) (asked_at now ticket q word) c t
      by (Some r) = t

  pub take_so : (ticket : ℕ) (c : Core) → CoreSo c → StepSo (on_take ticket c)
  unfolding on_take
  take_so ticket c t = by_ask (ask_at ticket c.asks)
    where
      by_pair : (x : Broadcasts × Option WatchItem) → StepSo (taken_item c x)
      by_pair (b, None) = t
      by_pair (b, Some x) = t

      by_watch : (w : Option Watch) → StepSo (item_taken ticket w c)
      by_watch None = t
      by_watch (Some w) = by_pair (watches.taken_from c.watches c.header w w.queue)

      by_stage : (s : Stage) → StepSo (takes.taken_from ticket s c)
      by_stage (stage.Replied v) = t
      by_stage (stage.Calling s) = t
      by_stage stage.Acquiring = t
      by_stage stage.Joined = t
      by_stage stage.Behind = t
      by_stage stage.Writes = t
      by_stage (stage.Grouped s) = t

      by_ask : (o : Option Asked) → StepSo (taken ticket o c)
      by_ask None = by_watch (watch_at ticket c.watches.watches)
      by_ask (Some a) = by_stage a.stage

  pub leave_so : (now ticket : ℕ) (c : Core) → CoreSo c → StepSo (on_leave now ticket c)
  unfolding on_leave
  leave_so now ticket c t = by_ask (ask_at ticket c.asks)
    where
      by_watch : (w : Option Watch) → StepSo (watcher_left ticket w c)
      by_watch None = t
      by_watch (Some w) = t

      by_ask : (o : Option Asked) → StepSo (left now ticket o c)
      by_ask None = by_watch (watch_at ticket c.watches.watches)
      by_ask (Some a) = t

  pub stream_item_so : (s : Stream) (x : WatchItem) (c : Core) → CoreSo c → CoreSo (stream_item s x c)
  stream_item_so s x c t = either CoreSo (is_begun s.phase) (watching.unwrapped_message s (item_without c.settings.namespace x) (header_taken (item_header x) c)) (header_taken (item_header x) c) (by_text (item_without c.settings.namespace x)) t
    where
      by_message : (y : WatchItem) → CoreSo (stream_message s y (header_taken (item_header x) c))
      by_message (item.Created d) = t
      by_message (item.Events d es) = t
      by_message (item.Canceled d compaction) = t

      by_text : (u : Unwrapped WatchItem) → CoreSo (watching.unwrapped_message s u (header_taken (item_header x) c))
      by_text (Ok y) = by_message y
      by_text (Err foreign) = t

-- ---- the leasing stream behind a step

same_leasing : (c d : Core) (s : Stepped) → s.core.leasing ≡ d.leasing → d.leasing ≡ c.leasing → s.core.leasing ≡ c.leasing
same_leasing c d s e f = e ∙ f

-- due anew, under the next number
pub record IsAnew (c : Core) (l : Option Opening) : Type 0 where
  pub opening : Opening
  pub is : l ≡ Some opening
  pub number : opening.number ≡ c.watches.given + 1
  pub since : ℕ
  pub due : opening.due ≡ Some since
  pub uncreated : opening.stream.created ≡ false

anew : (u : Upstream) (c : Core) → u.created ≡ false → IsAnew c (leasing.due_anew u c).leasing
anew u c e = record { opening = leasing.opening_of (c.watches.given + 1) c.own.waits.step u; is = refl; number = refl; since = c.own.waits.step; due = refl; uncreated = e }

-- a tick
pub data TickGoes (c : Core) (l : Option Opening) : Type 0 where
  stays : l ≡ c.leasing → TickGoes c l
  begins : c.leasing ≡ None → IsAnew c l → TickGoes c l

pub tick_goes : (now word : ℕ) (c : Core) → TickGoes c (on_tick now word c).core.leasing
unfolding on_tick
tick_goes now word c = either (λ (d : Core). TickGoes c d.leasing) (leases c) (ticked now word c) c (by c.leasing refl) (stays refl)
  where
    seated : Core
    seated = record c { seat = Some (seat_ticked word c.settings.ttl c.own.waits.step now c.seat) }

    by : (o : Option Opening) → c.leasing ≡ o → TickGoes c (leasing_ticked o seated).leasing
    by None e = begins e (record { opening = leasing.opening_of (c.watches.given + 1) c.own.waits.step (opened (Rattle.proxy_model.specs.Prefixes.leasing_range c.own.waits.prefix) 0); is = refl; number = refl; since = c.own.waits.step; due = refl; uncreated = refl })
    by (Some o) e = stays refl

-- a message of the stream of this number
pub data ItemGoes (c : Core) (number : ℕ) (x : WatchItem) (l : Option Opening) : Type 0 where
  stays : l ≡ c.leasing → ((o : Opening) → opening_at number c.leasing ≡ Some o → o.due ≡ None → ⊥) → ItemGoes c number x l
  goes_on : (o : Opening) (u : Upstream) → opening_at number c.leasing ≡ Some o → o.due ≡ None → told_in o.stream (item_without c.settings.namespace x) ≡ Some u → l ≡ Some (record o { stream = u }) → ItemGoes c number x l
  breaks : (o : Opening) → opening_at number c.leasing ≡ Some o → told_in o.stream (item_without c.settings.namespace x) ≡ None → IsAnew c l → ItemGoes c number x l

some_opening : (a b : Opening) → Some a ≡ Some b → a ≡ b
some_opening a b e = cc

its_opening : (number : ℕ) (l : Option Opening) (o : Opening) → opening_at number l ≡ Some o → l ≡ Some o
its_opening number None o e = absurd (cc)
its_opening number (Some y) o e = by (y.number == number) e
  where
    by : (b : Bool) → cond b (Some y) None ≡ Some o → Some y ≡ Some o
    by true f = f
    by false f = absurd (cc)

no_due : {A : Type 0} (since : ℕ) → ◌≡◌ {A = Option ℕ} (Some since) None → A
no_due since e = absurd (cc)

message_goes : (now number : ℕ) (o : Opening) (x : WatchItem) (c d : Core) (u : Unwrapped WatchItem) → d.leasing ≡ c.leasing → d.watches ≡ c.watches → opening_at number c.leasing ≡ Some o → o.due ≡ None → item_without c.settings.namespace x ≡ u
    → ItemGoes c number x (leasing.unwrapped_message now o u d).leasing
message_goes now number o x c d (Err foreign) l w f q e = breaks o f (ap (told_in o.stream) e) (record { opening = leasing.opening_of (d.watches.given + 1) d.own.waits.step (cut o.stream); is = refl; number = ap (λ (b : Broadcasts). b.given + 1) w; since = d.own.waits.step; due = refl; uncreated = refl })
message_goes now number o x c d (Ok (item.Created h)) l w f q e = by o.stream.created refl
  where
    by : (b : Bool) → o.stream.created ≡ b → ItemGoes c number x (cond b d (record (leasing.stream_is o (created o.stream h.revision) d) { own = leasing.own_created o.stream.next d.own })).leasing
    by true g = goes_on o o.stream f q (ap (told_in o.stream) e ∙ ap (λ (b : Bool). Some (cond b o.stream (created o.stream h.revision))) g) (l ∙ its_opening number c.leasing o f)
    by false g = goes_on o (created o.stream h.revision) f q (ap (told_in o.stream) e ∙ ap (λ (b : Bool). Some (cond b o.stream (created o.stream h.revision))) g) refl
message_goes now number o x c d (Ok (item.Events h es)) l w f q e = by (is_readable o.stream es) refl
  where
    by : (b : Bool) → is_readable o.stream es ≡ b → ItemGoes c number x (cond b (record (leasing.stream_is o (advance o.stream (told_revision h es)) d) { own = Rattle.wait_model.specs.Notices.all_noticed (Rattle.core_model.specs.Lookups.live_number d.seat now) es d.own }) (leasing_cut o d)).leasing
    by true g = goes_on o (advance o.stream (told_revision h es)) f q (ap (told_in o.stream) e ∙ ap (λ (b : Bool). cond b (Some (advance o.stream (told_revision h es))) None) g) refl
    by false g = breaks o f (ap (told_in o.stream) e ∙ ap (λ (b : Bool). cond b (Some (advance o.stream (told_revision h es))) None) g) (record { opening = leasing.opening_of (d.watches.given + 1) d.own.waits.step (cut o.stream); is = refl; number = ap (λ (b : Broadcasts). b.given + 1) w; since = d.own.waits.step; due = refl; uncreated = refl })
message_goes now number o x c d (Ok (item.Canceled h compaction)) l w f q e = by (compaction == 0)
  where
    by : (b : Bool) → ItemGoes c number x (cond b (leasing_cut o d) (leasing.due_anew (opened o.stream.range 0) (record d { own = Rattle.wait_model.specs.LeasingStream.all_given_up d.own }))).leasing
    by true = breaks o f (ap (told_in o.stream) e) (record { opening = leasing.opening_of (d.watches.given + 1) d.own.waits.step (cut o.stream); is = refl; number = ap (λ (b : Broadcasts). b.given + 1) w; since = d.own.waits.step; due = refl; uncreated = refl })
    by false = breaks o f (ap (told_in o.stream) e) (record { opening = leasing.opening_of (d.watches.given + 1) d.own.waits.step (opened o.stream.range 0); is = refl; number = ap (λ (b : Broadcasts). b.given + 1) w; since = d.own.waits.step; due = refl; uncreated = refl })

pub item_goes : (now number : ℕ) (x : WatchItem) (c : Core) → ItemGoes c number x (on_item now number x c).core.leasing
unfolding on_item
item_goes now number x c = by (opening_at number c.leasing) refl
  where
    none_there : {A : Type 0} (o : Opening) → ◌≡◌ {A = Option Opening} None (Some o) → A
    none_there o e = absurd (cc)

    by_stream : opening_at number c.leasing ≡ None → (s : Option Stream) → ItemGoes c number x (client_item number x s c).core.leasing
    by_stream n None = stays refl (λ o e f. none_there o (sym n ∙ e))
    by_stream n (Some s) = stays (stream_item_so c.leasing s x c refl) (λ o e f. none_there o (sym n ∙ e))

    by_due : (o : Opening) → opening_at number c.leasing ≡ Some o → (q : Option ℕ) → o.due ≡ q → ItemGoes c number x (message_if_sent now o q x (header_taken (item_header x) c)).leasing
    by_due o f None g = message_goes now number o x c (header_taken (item_header x) c) (item_without c.settings.namespace x) refl refl f g refl
    by_due o f (Some since) g = stays refl (λ y e h. no_due since (sym g ∙ ap (λ (z : Opening). z.due) (some_opening o y (sym f ∙ e)) ∙ h))

    by : (o : Option Opening) → opening_at number c.leasing ≡ o → ItemGoes c number x (item_of now number x o c).core.leasing
    by None n = by_stream n (stream_at number c.watches.streams)
    by (Some o) f = by_due o f o.due refl

-- a cut of the stream of this number
pub data CutGoes (c : Core) (number : ℕ) (l : Option Opening) : Type 0 where
  stays : l ≡ c.leasing → opening_at number c.leasing ≡ None → CutGoes c number l
  breaks : (o : Opening) → opening_at number c.leasing ≡ Some o → IsAnew c l → CutGoes c number l

pub cut_goes : (number : ℕ) (c : Core) → CutGoes c number (on_cut number c).core.leasing
unfolding on_cut
cut_goes number c = by (opening_at number c.leasing) refl
  where
    by_stream : opening_at number c.leasing ≡ None → (s : Option Stream) → CutGoes c number (client_cut number s c).core.leasing
    by_stream n None = stays refl n
    by_stream n (Some s) = stays refl n

    by : (o : Option Opening) → opening_at number c.leasing ≡ o → CutGoes c number (cut_of number o c).core.leasing
    by None n = by_stream n (stream_at number c.watches.streams)
    by (Some o) f = breaks o f (record { opening = leasing.opening_of (c.watches.given + 1) c.own.waits.step (cut o.stream); is = refl; number = refl; since = c.own.waits.step; due = refl; uncreated = refl })

abbrev pub Answered : Type 0
Answered = Result Outcome StepFault

-- a job is sent
pub data WorkGoes (c : Core) (l : Option Opening) (r : Answered) : Type 0 where
  -- a client's stream, which is opened with the records before, or no opening
  stays : l ≡ c.leasing → ((own member : ℕ) (q : Request) → r ≡ Ok (outcome.Job (Some (sent.Begin own member q))) → (range : Rattle.etcd_types.specs.declared.key_range.KeyRange.KeyRange) × (start : ℕ) × (q ≡ request_under c.settings.namespace (watching.watch_from range start)) × (stream_at own c.watches.streams ≡ None → ⊥)) → WorkGoes c l r
  opens : (o : Opening) (member since : ℕ) → c.leasing ≡ Some o → o.due ≡ Some since → l ≡ Some (opening_sent o) → r ≡ Ok (outcome.Job (Some (sent.Begin o.number member (request_under c.settings.namespace (watch_of o.stream))))) → WorkGoes c l r

pub work_goes : (ticket now : ℕ) (c : Core) → StandsIf ticket c (first_job c) → WorkGoes c (on_work now c).core.leasing (on_work now c).outcome
unfolding on_work
work_goes ticket now c s = by (first_job c) s
  where
    no_begin : (o : Outcome) → ((own member : ℕ) (q : Request) → ◌≡◌ {A = Answered} (Ok o) (Ok (outcome.Job (Some (sent.Begin own member q)))) → ⊥) → WorkGoes c c.leasing (Ok o)
    no_begin o n = stays refl (λ own member q e. absurd (n own member q e))

    by_stream : (x : Stream) → is_some (stream_at x.number c.watches.streams) ≡ true → (p : Rattle.watch_model.specs.declared.stream.StreamPhase.StreamPhase)
        → WorkGoes c (stream_job (watches_due.sent c.watches x p).1 (watching.with_watches c (watches_due.sent c.watches x p).0)).core.leasing (stream_job (watches_due.sent c.watches x p).1 (watching.with_watches c (watches_due.sent c.watches x p).0)).outcome
    by_stream x h (phase.Closing since) = stays refl (λ own member q e. absurd (cc))
    by_stream x h (phase.Due since) = stays refl (λ own member q e. (x.stream.range, x.stream.next, its_request own member q e, λ n. lost (its_own own member q e) n))
      where
        its_request : (own member : ℕ) (q : Request)
            → ◌≡◌ {A = Answered} (Ok (outcome.Job (Some (sent.Begin x.number c.members.current (request_under c.settings.namespace (watching.watch_from x.stream.range x.stream.next)))))) (Ok (outcome.Job (Some (sent.Begin own member q))))
            → q ≡ request_under c.settings.namespace (watching.watch_from x.stream.range x.stream.next)
        its_request own member q e = cc

        its_own : (own member : ℕ) (q : Request)
            → ◌≡◌ {A = Answered} (Ok (outcome.Job (Some (sent.Begin x.number c.members.current (request_under c.settings.namespace (watching.watch_from x.stream.range x.stream.next)))))) (Ok (outcome.Job (Some (sent.Begin own member q))))
            → own ≡ x.number
        its_own own member q e = cc

        lost : {own : ℕ} → own ≡ x.number → stream_at own c.watches.streams ≡ None → ⊥
        lost {own} e n = absurd (let f : false ≡ true = sym (ap is_some (ap (λ (m : ℕ). stream_at m c.watches.streams) (sym e) ∙ n)) ∙ h in cc)
    by_stream x h phase.Begun = stays refl (λ own member q e. absurd (cc))

    by_writes : (o : Option JobSent) → WorkGoes c (writes_sent now o c).core.leasing (writes_sent now o c).outcome
    by_writes None = no_begin (outcome.Job None) (λ own member q e. absurd (cc))
    by_writes (Some x) = stays refl (λ own member q e. absurd (cc))

    by : (j : Option DueJob) → StandsIf ticket c j → WorkGoes c (sent_by now j c).core.leasing (sent_by now j c).outcome
    by None h = no_begin (outcome.Job None) (λ own member q e. absurd (cc))
    by (Some (ForSession x)) h = stays refl (λ own member q e. absurd (cc))
    by (Some ForWrites) h = by_writes (job_sent (next_call c) c.own)
    by (Some (ForAcquire i x)) h = stays refl (λ own member q e. absurd (cc))
    by (Some (ForAsk a)) h = stays refl (λ own member q e. absurd (cc))
    by (Some (ForGroup lease t)) h = stays refl (λ own member q e. absurd (cc))
    by (Some (ToOpen o)) h = opens o c.members.current h.1.0 h.0 h.1.1 refl refl
    by (Some (ForStream x)) h = by_stream x h x.phase
