-- What each event makes of the entries and requests of a proxy, up to a whole step.
use Rattle.std.proofs.Common.{Bool, Err, List, None, Ok, Option, Result, Some, ap, cond, false, map, not, refl, subst, sym, true, ℕ, ◌==◌, ◌||◌, ◌∙◌, ◌≡◌}
use Rattle.etcd_types.specs.declared.answer.Answer.{Answer}
use Rattle.etcd_types.specs.declared.answer.Answer.TheVariants.{Done, Refused}
use Rattle.etcd_types.specs.declared.answer.Body.{Body}
use Rattle.read_model.specs.declared.asked.Asked.{Asked}
use Rattle.read_model.specs.declared.asked.Verdict.{Verdict}
use Rattle.read_model.specs.Acquires.{AfterAcquire, acquire_answered, read_asked}
use Rattle.read_model.specs.PlainRead.{ask_key, decided_ask, decision, in_stage}
use Rattle.read_model.specs.State.{Moment, Reads, ground_of}
use Rattle.read_model.specs.WriteAnswers.{wait_answered}
use Rattle.core_model.specs.declared.out_call.CallKind.{CallKind}
use Rattle.core_model.specs.declared.out_call.OutCall.{OutCall}
use Rattle.core_model.specs.declared.out_call.OutJob.{OutJob}
use Rattle.core_model.specs.ClockWork.{begun, clock_work, requests_timed_out, timed_out_ask, times_out, writes_go_on}
use Rattle.core_model.specs.Ends.{acquire_if, answer_of, answered_call, answered_job, ask_answered, ask_done, call_gone, heard_call, is_keepalive, is_stale_reply, loss_of, lost_ask, lost_call, lost_job, member_failed, on_answer, on_lost, or_lost, reads_if, said, stale_once, with_caller}
use Rattle.core_model.specs.Groups.{group_ended, group_sent, group_since, groups_ended, is_out_for, joining}
use Rattle.core_model.specs.Heard.{header_taken, heard}
use Rattle.core_model.specs.Kinds.{is_body_of, writes_keys}
use Rattle.core_model.specs.Lookups.{ask_at, calls_as, has_ticket, is_known, leases, live_number, moment, out_at, reads_of, with_reads, without_ask}
use Rattle.core_model.specs.Sessions.{deadline_passed, grant_failed, granted_by, keep_failed, kept, kept_by, seat_calls, seat_is_over, seat_ticked, without_session}
use Rattle.core_model.specs.State.{Core, Opening}
use Rattle.core_model.specs.Stepped.{Stepped, counted, counted_by, faults}
use Rattle.core_laws.proofs.Steps.Comes.{by_test}
use Rattle.etcd_types.specs.declared.answer.Refusal.{Refusal}
use Rattle.etcd_types.specs.declared.request.Request.{Request}
use Rattle.wait_model.specs.Asked.{submitted}
use Rattle.read_model.specs.declared.asked.Stage.{Stage}
use Rattle.core_model.specs.Asking.{answered_or_called, asked_at, call_is_asked, call_stage, held_body, if_live, is_leased_read, leased_ask, on_ask, read_by, read_is_asked, refused_or_taken, request_asked, taken_in, with_ask, write_is_asked}
use Rattle.core_model.specs.Refusals.{refusal_of}
use Rattle.etcd_types.specs.declared.record.Header.{Header}
use Rattle.etcd_types.specs.declared.watch.WatchItem.{WatchItem}
use Rattle.proxy_model.specs.Unwrapped.{Unwrapped, item_without}
use Rattle.wait_model.specs.LeasingStream.{resynced}
use Rattle.wait_model.specs.Sent.{JobSent, job_sent}
use Rattle.core_model.specs.declared.event.CoreEvent.{CoreEvent}
use Rattle.core_model.specs.declared.event.Outcome.{Outcome}
use Rattle.core_model.specs.declared.event.StepFault.{StepFault}
use Rattle.core_model.specs.DueJobs.{DueJob, ForAcquire, ForAsk, ForGroup, ForSession, ForStream, ForWrites, ToOpen, first_job}
use Rattle.core_model.specs.LeasingStream.{is_readable, item_header, leasing_cancelled, leasing_created, leasing_cut, leasing_item, leasing_message, leasing_ticked, leasing_told, message_if_sent, own_created}
use Rattle.core_model.specs.Sending.{next_call, on_work, sent_by, writes_sent}
use Rattle.core_model.specs.Step.{client_cut, client_item, cut_of, happened, is_worn, item_of, on_cut, on_item, on_tick, opening_at, stepped, ticked}
use Rattle.core_model.specs.Takes.{has_left, item_taken, left, on_leave, on_take, taken, watcher_left}
use Rattle.core_model.specs.Watching.{stream_item, stream_job, stream_message, taken_item, with_watches}
use Rattle.watch_model.specs.declared.stream.StreamJob.{StreamJob}
use Rattle.watch_model.specs.Due.{next_job}
use Rattle.watch_model.specs.Lookups.{is_begun, stream_at, watch_at}
use Rattle.watch_model.specs.State.{Broadcasts, Stream, Watch}
use Rattle.core_fits.specs.Fits.{EachOf, is_reading}
use Rattle.core_fits.proofs.Eachs.{each_filtered, each_pushed}
use Rattle.core_model.specs.Fits.{Agrees}
use Rattle.core_laws.proofs.Steps.Due.{DueIf, first_due}
use Rattle.etcd_types.specs.Keys.{is_empty}
use Rattle.etcd_types.proofs.Bools.{not_false}
use Rattle.step_moves.specs.Work.{is_called, is_calling}
use Rattle.step_moves.proofs.Orders.{Ordered, Rises, SentOrdered, each_rises, job_sent_ordered, message_ordered, pass_ordered}
use Rattle.step_moves.proofs.Stages.{Fit, Fits, at_rest, called_fits, caller_fits, each_fits, group_fits, group_sent_fits, is_watch, lost_ask_fits, read_fits, replied_fits, stale_fits, times_fit, written_or_called}
use Rattle.step_moves.proofs.Reading.{AfterFits, ReadsFitIf, acquire_answered_fit, acquire_lost_fit, decided_entries, session_over_fit, taken_off_fit, wait_answered_fit, wait_lost_fit}
use Rattle.core_model.specs.LeasingStream as leasing
use Rattle.core_model.specs.Takes as takes
use Rattle.core_model.specs.Watching as watching
use Rattle.core_model.specs.declared.event.CoreEvent.TheVariants as event
use Rattle.core_model.specs.declared.event.StepFault.TheVariants as fault
use Rattle.core_model.specs.declared.out_call.OutJob.TheVariants as job
use Rattle.etcd_types.specs.declared.answer.Body.TheVariants as body
use Rattle.etcd_types.specs.declared.request.Request.TheVariants as request
use Rattle.etcd_types.specs.declared.watch.WatchItem.TheVariants as item
use Rattle.read_model.specs.declared.asked.Stage.TheVariants as stage
use Rattle.read_model.specs.declared.asked.Verdict.TheVariants as verdict
use Rattle.watch_model.specs.Takes as watches
use Rattle.watch_model.specs.declared.stream.StreamJob.TheVariants as stream

module _ (prefix : List ℕ) where
  abbrev pub CoreFit : Core → Type 0
  CoreFit c = Ordered c.own × EachOf (Fits prefix) c.asks

  abbrev FitIf : Option Core → Type 0
  FitIf None = Unit {0}
  FitIf (Some c) = CoreFit c

  abbrev pub StepFit : Stepped → Type 0
  StepFit s = CoreFit s.core

  either : (b : Bool) (x y : Core) → CoreFit x → CoreFit y → CoreFit (cond b x y)
  either b x y h i = by_test CoreFit b x y (λ t. h) (λ t. i)

  go_on : (c : Core) → CoreFit c → CoreFit (writes_go_on c)
  go_on c h = (pass_ordered c.own h.0, h.1)

  -- The clock's work.

  over_fit : (now : ℕ) (c : Core) → CoreFit c → CoreFit (without_session now c)
  over_fit now c h = session_over_fit prefix (moment (record c { seat = None }) now) (reads_of (record c { seat = None })) h.1

  pub clock_fit : (now : ℕ) (c : Core) → CoreFit c → CoreFit (clock_work now c)
  unfolding clock_work
  clock_fit now c h =
      let d = deadline_passed now (begun c) in
      let k : CoreFit d = either (seat_is_over c.seat now) (without_session now (begun c)) (begun c) (over_fit now (begun c) h) h in
      go_on (requests_timed_out now d) (taken_off_fit prefix (moment d now) (times_out now) (map (timed_out_ask now) d.asks) (reads_of d) (each_fits prefix (timed_out_ask now) (times_fit prefix now) d.asks k.1) k.0)

  -- Calls that end.

  acquire_if_fit : (c : Core) (o : Option AfterAcquire) → AfterFits prefix o → FitIf (acquire_if c o)
  acquire_if_fit c None t = tt
  acquire_if_fit c (Some x) t = t

  reads_if_fit : (c : Core) (o : Option Reads) → ReadsFitIf prefix o → FitIf (reads_if c o)
  reads_if_fit c None t = tt
  reads_if_fit c (Some r) t = t

  kept_fit : (now : ℕ) (o : OutCall) (b : Body) (c : Core) → CoreFit c → FitIf (kept_by now o b c)
  kept_fit now o (body.KeepAlive lease ttl) c t =
      either (seat_calls o.call c.seat) (kept now o ttl c) c (by_test CoreFit (ttl == 0) (without_session now c) _ (λ e. over_fit now c t) (λ e. t)) t
  kept_fit now o (body.Range count more kvs) c t = tt
  kept_fit now o (body.Put prev) c t = tt
  kept_fit now o (body.Delete deleted prevs) c t = tt
  kept_fit now o (body.Txn' succeeded n bodies) c t = tt
  kept_fit now o body.Compact c t = tt
  kept_fit now o (body.Grant lease ttl) c t = tt
  kept_fit now o body.Revoke c t = tt
  kept_fit now o (body.TimeToLive lease ttl granted keys) c t = tt
  kept_fit now o (body.Leases leases) c t = tt

  granted_fit : (o : OutCall) (b : Body) (c : Core) → CoreFit c → FitIf (granted_by o b c)
  granted_fit o (body.Grant lease ttl) c t = by_test CoreFit (seat_calls o.call c.seat) _ c (λ e. t) (λ e. t)
  granted_fit o (body.Range count more kvs) c t = tt
  granted_fit o (body.Put prev) c t = tt
  granted_fit o (body.Delete deleted prevs) c t = tt
  granted_fit o (body.Txn' succeeded n bodies) c t = tt
  granted_fit o body.Compact c t = tt
  granted_fit o (body.KeepAlive lease ttl) c t = tt
  granted_fit o body.Revoke c t = tt
  granted_fit o (body.TimeToLive lease ttl granted keys) c t = tt
  granted_fit o (body.Leases leases) c t = tt

  grant_fails_fit : (o : OutCall) (c : Core) → CoreFit c → CoreFit (grant_failed o c)
  grant_fails_fit o c t = by_test CoreFit (seat_calls o.call c.seat) _ c (λ e. t) (λ e. t)

  keep_fails_fit : (o : OutCall) (c : Core) → CoreFit c → CoreFit (keep_failed o c)
  keep_fails_fit o c t = by_test CoreFit (seat_calls o.call c.seat) _ c (λ e. t) (λ e. t)

  caller_fit : (n : ℕ) (f : Asked → Asked) → ((x : Asked) → is_reading x.stage || is_calling x.stage ≡ true → Fits prefix x → Fits prefix (f x)) → (c : Core) → CoreFit c → CoreFit (with_caller n f c)
  caller_fit n f g c t = (t.0, each_fits prefix (λ a. cond (calls_as n a) (f a) a) (caller_fits prefix n f g) c.asks t.1)

  said_fits : (a : Answer) (x : Asked) → is_reading x.stage || is_calling x.stage ≡ true → Fits prefix x → Fits prefix (said a x)
  said_fits a x h f = replied_fits prefix (verdict.Said a) x.request

  ask_answered_fit : (k : CallKind) (o : OutCall) (a : Answer) (c : Core) → CoreFit c → FitIf (ask_answered k o a c)
  ask_answered_fit k o (Done reply) c t =
      by_test FitIf (is_body_of k reply.body) (Some (ask_done k o reply c)) None
      (λ e. by_test CoreFit (is_stale_reply k o reply) (with_caller o.call (stale_once c.members.count c.own.waits.step) (member_failed o c)) (with_caller o.call (said (Done reply)) c)
      (λ u. caller_fit o.call (stale_once c.members.count c.own.waits.step) (stale_fits prefix c.members.count c.own.waits.step) (member_failed o c) t)
      (λ u. caller_fit o.call (said (Done reply)) (said_fits (Done reply)) c t)) (λ e. tt)
  ask_answered_fit k o (Refused r) c t = caller_fit o.call (said (Refused r)) (said_fits (Refused r)) c t

  groups_fit : (step call lease : ℕ) (v : Verdict) (c : Core) → CoreFit c → CoreFit (record c { asks = groups_ended step call lease v c.asks })
  groups_fit step call lease v c t = (t.0, each_fits prefix (group_ended step call lease v) (group_fits prefix step call lease v) c.asks t.1)

  lost_job_fit : (now : ℕ) (o : OutCall) (j : OutJob) (c : Core) → CoreFit c → CoreFit (lost_job now o j c)
  lost_job_fit now o (job.Grant lease) c t = grant_fails_fit o c t
  lost_job_fit now o (job.Keep lease) c t = keep_fails_fit o c t
  lost_job_fit now o (job.Acquire k) c t = acquire_lost_fit prefix c.members.count (moment c now) k (reads_of c) t
  lost_job_fit now o job.Wait c t = wait_lost_fit prefix (moment c now) o.call (reads_of c) t
  lost_job_fit now o (job.Ask k) c t = caller_fit o.call (lost_ask k o c) (lost_ask_fits prefix k o c) c t
  lost_job_fit now o (job.Group lease) c t = groups_fit c.own.waits.step o.call lease verdict.Lost c t

  job_fit : (now : ℕ) (o : OutCall) (j : OutJob) (a : Answer) (c : Core) → CoreFit c → FitIf (answered_job now o j a c)
  job_fit now o (job.Grant lease) (Done reply) c t = granted_fit o reply.body c t
  job_fit now o (job.Grant lease) (Refused r) c t = grant_fails_fit o c t
  job_fit now o (job.Keep lease) (Done reply) c t = kept_fit now o reply.body c t
  job_fit now o (job.Keep lease) (Refused r) c t = keep_fails_fit o c t
  job_fit now o (job.Acquire k) a c t = acquire_if_fit c (acquire_answered (moment c now) k a (reads_of c)) (acquire_answered_fit prefix (moment c now) k a (reads_of c) t)
  job_fit now o job.Wait a c t = reads_if_fit c (wait_answered (moment c now) o.call a (reads_of c)) (wait_answered_fit prefix (moment c now) o.call a (reads_of c) t)
  job_fit now o (job.Ask k) a c t = ask_answered_fit k o a c t
  job_fit now o (job.Group lease) a c t =
      by_test FitIf (is_keepalive a) (Some (record c { asks = groups_ended c.own.waits.step o.call lease (verdict.Said a) c.asks })) None (λ e. groups_fit c.own.waits.step o.call lease (verdict.Said a) c t) (λ e. tt)

  lost_call_fit : (now : ℕ) (o : OutCall) (c : Core) → CoreFit c → CoreFit (lost_call now o c)
  lost_call_fit now o c t = lost_job_fit now o o.job (member_failed o c) t

  heard_fit : (now : ℕ) (o : OutCall) (a : Option Answer) (c : Core) → CoreFit c → CoreFit (heard_call now o a c)
  heard_fit now o None c t = lost_call_fit now o c t
  heard_fit now o (Some a) c t = by_core (answered_job now o o.job a c) (job_fit now o o.job a c t)
    where
      by_core : (d : Option Core) → FitIf d → CoreFit (or_lost now o c d)
      by_core None u = lost_call_fit now o c t
      by_core (Some d) u = u

  answer_fit : (now : ℕ) (o : OutCall) (a : Answer) (c : Core) → CoreFit c → CoreFit (answered_call now o a c)
  answer_fit now o (Done reply) c t = heard_fit now o (heard c.settings.namespace (Done reply)) (header_taken reply.header c) t
  answer_fit now o (Refused r) c t = heard_fit now o (heard c.settings.namespace (Refused r)) c t

  answer_of_fit : (now call : ℕ) (a : Answer) (x : Option OutCall) (c : Core) → CoreFit c → StepFit (answer_of now call a x c)
  answer_of_fit now call a None c t = t
  answer_of_fit now call a (Some o) c t = go_on (answered_call now o a (call_gone call c)) (answer_fit now o a (call_gone call c) t)

  loss_of_fit : (now call : ℕ) (x : Option OutCall) (c : Core) → CoreFit c → StepFit (loss_of now call x c)
  loss_of_fit now call None c t = t
  loss_of_fit now call (Some o) c t = go_on (lost_call now o (call_gone call c)) (lost_call_fit now o (call_gone call c) t)

  -- A request is asked.

  joining_waits : (step : ℕ) (o : Option ℕ) → (is_reading (joining step o) ≡ false) × (is_calling (joining step o) ≡ false)
  joining_waits step None = (refl, refl)
  joining_waits step (Some since) = (refl, refl)

  -- of a new request its stage: a keepalive's group, or its call
  new_fits : (q : Request) (c : Core) → (is_empty prefix ≡ false → is_called q ≡ true) → Fit prefix (call_stage q c) q
  new_fits (request.KeepAlive lease) c f =
      by_test (λ (s : Stage). Fit prefix s (request.KeepAlive lease)) (is_out_for lease c.out) (stage.Grouped None) (joining c.own.waits.step (group_since lease c.asks)) (λ t. at_rest prefix (stage.Grouped None) (request.KeepAlive lease) refl refl)
      (λ t. let j = joining_waits c.own.waits.step (group_since lease c.asks) in at_rest prefix (joining c.own.waits.step (group_since lease c.asks)) (request.KeepAlive lease) j.0 j.1)
  new_fits (request.Range ask) c f = record { reads = λ h. absurd (cc); calls = λ e h. f e }
  new_fits (request.Put ask) c f = record { reads = λ h. absurd (cc); calls = λ e h. f e }
  new_fits (request.Delete ask) c f = record { reads = λ h. absurd (cc); calls = λ e h. f e }
  new_fits (request.Txn t) c f = record { reads = λ h. absurd (cc); calls = λ e h. f e }
  new_fits (request.Compact revision physical) c f = record { reads = λ h. absurd (cc); calls = λ e h. f e }
  new_fits (request.Grant ttl lease) c f = record { reads = λ h. absurd (cc); calls = λ e h. f e }
  new_fits (request.Revoke lease) c f = record { reads = λ h. absurd (cc); calls = λ e h. f e }
  new_fits (request.TimeToLive lease keys) c f = record { reads = λ h. absurd (cc); calls = λ e h. f e }
  new_fits request.Leases c f = record { reads = λ h. absurd (cc); calls = λ e h. f e }
  new_fits (request.Watch ask) c f = record { reads = λ h. absurd (cc); calls = λ e h. f e }

  call_asked : (a : Asked) (c : Core) → (is_empty prefix ≡ false → is_called a.request ≡ true) → CoreFit c → StepFit (call_is_asked a c)
  call_asked a c f t = go_on (with_ask (call_stage a.request c) a c) (t.0, each_pushed (Fits prefix) (in_stage (call_stage a.request c) a) c.asks t.1 (new_fits a.request c f))

  read_asked_fit : (m : Moment) (a : Asked) (c : Core) → is_leased_read prefix a.request ≡ true → CoreFit c → StepFit (read_is_asked m a c)
  read_asked_fit m a c l t = by_stage (decided_ask m (ground_of (reads_of c)) a).stage
    where
      pushed : CoreFit (writes_go_on (with_reads c (read_asked m a (reads_of c))))
      pushed =
          go_on (with_reads c (read_asked m a (reads_of c)))
          (subst Rises (sym (decided_entries m (ground_of (reads_of c)) a)) t.0, each_pushed (Fits prefix) (decided_ask m (ground_of (reads_of c)) a) c.asks t.1 (read_fits prefix a.request l (decision m (ground_of (reads_of c)) (ask_key a)).stage))

      by_stage : (s : Stage) → StepFit (read_by s c (with_reads c (read_asked m a (reads_of c))))
      by_stage (stage.Replied v) = t
      by_stage (stage.Calling s) = pushed
      by_stage stage.Acquiring = pushed
      by_stage stage.Joined = pushed
      by_stage stage.Behind = pushed
      by_stage stage.Writes = pushed
      by_stage (stage.Grouped s) = pushed

  write_asked_fit : (a : Asked) (c : Core) → CoreFit c → StepFit (write_is_asked a c)
  write_asked_fit a c t =
      let d = with_ask stage.Writes a (record c { own = submitted a.ticket a.request c.own }) in
      go_on d (t.0, each_pushed (Fits prefix) (in_stage stage.Writes a) c.asks t.1 (at_rest prefix stage.Writes a.request refl refl))

  leased_fit : (m : Moment) (a : Asked) (c : Core) → c.own.waits.prefix ≡ prefix → is_watch prefix a.request ≡ false → CoreFit c → StepFit (leased_ask m a c)
  leased_fit m a c p n t =
      by_test StepFit (is_leased_read c.own.waits.prefix a.request) _ _ (λ e. read_asked_fit m a c (ap (λ (k : List ℕ). is_leased_read k a.request) (sym p) ∙ e) t)
      (λ e. by_test StepFit (writes_keys a.request) _ _ (λ u. write_asked_fit a c t) (λ u. by_body u (if_live m.session (held_body c.own.entries a.request))))
    where
      by_body : writes_keys a.request ≡ false → (b : Option Body) → StepFit (answered_or_called b a c)
      by_body u None = call_asked a c (λ e. written_or_called prefix a.request n u) t
      by_body u (Some b) = t

  taken_in_fit : (m : Moment) (a : Asked) (c : Core) → c.own.waits.prefix ≡ prefix → is_watch prefix a.request ≡ false → CoreFit c → StepFit (taken_in m a c)
  taken_in_fit m a c p n t =
      by_test StepFit (leases c) _ _ (λ e. leased_fit m a c p n t)
      (λ e. call_asked a c (λ l. absurd (let x = not_false (is_empty c.own.waits.prefix) e in let y = ap is_empty p in cc)) t)

  request_fit : (m : Moment) (a : Asked) (q : Request) (c : Core) → a.request ≡ q → c.own.waits.prefix ≡ prefix → CoreFit c → StepFit (request_asked q m a c)
  request_fit m a (request.Watch ask) c e p t = t
  request_fit m a (request.KeepAlive lease) c e p t = taken_in_fit m a c p (ap (is_watch prefix) e) t
  request_fit m a (request.Range ask) c e p t = taken_in_fit m a c p (ap (is_watch prefix) e) t
  request_fit m a (request.Put ask) c e p t = taken_in_fit m a c p (ap (is_watch prefix) e) t
  request_fit m a (request.Delete ask) c e p t = taken_in_fit m a c p (ap (is_watch prefix) e) t
  request_fit m a (request.Txn x) c e p t = taken_in_fit m a c p (ap (is_watch prefix) e) t
  request_fit m a (request.Compact revision physical) c e p t = taken_in_fit m a c p (ap (is_watch prefix) e) t
  request_fit m a (request.Grant ttl lease) c e p t = taken_in_fit m a c p (ap (is_watch prefix) e) t
  request_fit m a (request.Revoke lease) c e p t = taken_in_fit m a c p (ap (is_watch prefix) e) t
  request_fit m a (request.TimeToLive lease keys) c e p t = taken_in_fit m a c p (ap (is_watch prefix) e) t
  request_fit m a request.Leases c e p t = taken_in_fit m a c p (ap (is_watch prefix) e) t

  asked_fit : (now ticket : ℕ) (q : Request) (word : ℕ) (c : Core) → c.own.waits.prefix ≡ prefix → CoreFit c → StepFit (on_ask now ticket q word c)
  unfolding on_ask
  asked_fit now ticket q word c p t = by_test StepFit (is_known ticket c) _ _ (λ e. t) (λ e. by_refusal (refusal_of c.own.waits.prefix q))
    where
      by_refusal : (o : Option Refusal) → StepFit (refused_or_taken o (moment c now) (asked_at now ticket q word) c)
      by_refusal None = request_fit (moment c now) (asked_at now ticket q word) q c refl p t
      by_refusal (Some x) = t

  -- Ticks, messages, cuts.

  tick_fit : (now word : ℕ) (c : Core) → CoreFit c → StepFit (on_tick now word c)
  unfolding on_tick
  tick_fit now word c t = either (leases c) (ticked now word c) c (by_opening c.leasing) t
    where
      by_opening : (o : Option Opening) → CoreFit (leasing_ticked o (record c { seat = Some (seat_ticked word c.settings.ttl c.own.waits.step now c.seat) }))
      by_opening None = t
      by_opening (Some o) = t

  created_fit : (o : Opening) (x : Header) (c : Core) → CoreFit c → CoreFit (leasing_created o x c)
  created_fit o x c t =
      by_test CoreFit o.stream.created c _ (λ e. t)
      (λ e. (by_test Ordered (o.stream.next == 0) (resynced c.own) c.own (λ u. t.0) (λ u. t.0), t.1))

  message_of_fit : (now : ℕ) (o : Opening) (x : WatchItem) (c : Core) → CoreFit c → CoreFit (leasing_message now o x c)
  message_of_fit now o (item.Created d) c t = created_fit o d c t
  message_of_fit now o (item.Events d es) c t =
      by_test CoreFit (is_readable o.stream es) _ (leasing_cut o c) (λ e. (message_ordered (live_number c.seat now) es c.own t.0, t.1)) (λ e. t)
  message_of_fit now o (item.Canceled d compaction) c t = by_test CoreFit (compaction == 0) (leasing_cut o c) _ (λ e. t) (λ e. (each_rises _ c.own.entries t.0, t.1))

  leasing_fit : (now : ℕ) (o : Opening) (x : WatchItem) (c : Core) → CoreFit c → CoreFit (leasing_item now o x c)
  leasing_fit now o x c t = by_due o.due
    where
      by_text : (u : Unwrapped WatchItem) (d : Core) → CoreFit d → CoreFit (leasing.unwrapped_message now o u d)
      by_text (Ok y) d e = message_of_fit now o y d e
      by_text (Err foreign) d e = e

      by_due : (s : Option ℕ) → CoreFit (message_if_sent now o s x (header_taken (item_header x) c))
      by_due None = by_text (item_without c.settings.namespace x) (header_taken (item_header x) c) t
      by_due (Some since) = t

  stream_fit : (s : Stream) (x : WatchItem) (c : Core) → CoreFit c → CoreFit (stream_item s x c)
  stream_fit s x c t = by_test CoreFit (is_begun s.phase) _ (header_taken (item_header x) c) (λ e. by_text (item_without c.settings.namespace x)) (λ e. t)
    where
      by_message : (y : WatchItem) → CoreFit (stream_message s y (header_taken (item_header x) c))
      by_message (item.Created d) = t
      by_message (item.Events d es) = t
      by_message (item.Canceled d compaction) = t

      by_text : (u : Unwrapped WatchItem) → CoreFit (watching.unwrapped_message s u (header_taken (item_header x) c))
      by_text (Ok y) = by_message y
      by_text (Err foreign) = t

  item_fit : (now number : ℕ) (x : WatchItem) (c : Core) → CoreFit c → StepFit (on_item now number x c)
  unfolding on_item
  item_fit now number x c t = by_opening (opening_at number c.leasing)
    where
      by_stream : (s : Option Stream) → StepFit (client_item number x s c)
      by_stream None = t
      by_stream (Some s) = go_on (stream_item s x c) (stream_fit s x c t)

      by_opening : (o : Option Opening) → StepFit (item_of now number x o c)
      by_opening None = by_stream (stream_at number c.watches.streams)
      by_opening (Some o) = go_on (leasing_item now o x c) (leasing_fit now o x c t)

  cut_fit : (number : ℕ) (c : Core) → CoreFit c → StepFit (on_cut number c)
  unfolding on_cut
  cut_fit number c t = by_opening (opening_at number c.leasing)
    where
      by_stream : (s : Option Stream) → StepFit (client_cut number s c)
      by_stream None = t
      by_stream (Some s) = t

      by_opening : (o : Option Opening) → StepFit (cut_of number o c)
      by_opening None = by_stream (stream_at number c.watches.streams)
      by_opening (Some o) = t

  -- Takes and leaving.

  take_fit : (ticket : ℕ) (c : Core) → CoreFit c → StepFit (on_take ticket c)
  unfolding on_take
  take_fit ticket c t = by_ask (ask_at ticket c.asks)
    where
      by_pair : (x : Broadcasts × Option WatchItem) → StepFit (taken_item c x)
      by_pair (b, None) = t
      by_pair (b, Some x) = t

      by_watch : (w : Option Watch) → StepFit (item_taken ticket w c)
      by_watch None = t
      by_watch (Some w) = by_pair (watches.taken_from c.watches c.header w w.queue)

      by_stage : (s : Stage) → StepFit (takes.taken_from ticket s c)
      by_stage (stage.Replied v) = (t.0, each_filtered (Fits prefix) (λ a. not (has_ticket ticket a)) c.asks t.1)
      by_stage (stage.Calling s) = t
      by_stage stage.Acquiring = t
      by_stage stage.Joined = t
      by_stage stage.Behind = t
      by_stage stage.Writes = t
      by_stage (stage.Grouped s) = t

      by_ask : (o : Option Asked) → StepFit (taken ticket o c)
      by_ask None = by_watch (watch_at ticket c.watches.watches)
      by_ask (Some a) = by_stage a.stage

  leave_fit : (now ticket : ℕ) (c : Core) → CoreFit c → StepFit (on_leave now ticket c)
  unfolding on_leave
  leave_fit now ticket c t = by_ask (ask_at ticket c.asks)
    where
      by_watch : (w : Option Watch) → StepFit (watcher_left ticket w c)
      by_watch None = t
      by_watch (Some w) = t

      by_ask : (o : Option Asked) → StepFit (left now ticket o c)
      by_ask None = by_watch (watch_at ticket c.watches.watches)
      by_ask (Some a) =
          go_on (has_left now ticket c)
          (taken_off_fit prefix (moment c now) (has_ticket ticket) (without_ask ticket c.asks) (reads_of c) (each_filtered (Fits prefix) (λ b. not (has_ticket ticket b)) c.asks t.1) t.0)

  -- What is due is sent.

  sent_fit : (now : ℕ) (j : Option DueJob) (c : Core) → Agrees c → DueIf c j → CoreFit c → StepFit (sent_by now j c)
  sent_fit now None c a d t = t
  sent_fit now (Some (ForSession x)) c a d t = t
  sent_fit now (Some ForWrites) c a d t = by_job (job_sent (next_call c) c.own) (job_sent_ordered (next_call c) c.own t.0)
    where
      by_job : (x : Option JobSent) → SentOrdered x → StepFit (writes_sent now x c)
      by_job None s = t
      by_job (Some x) s = (s, t.1)
  sent_fit now (Some (ForAcquire k x)) c a d t = t
  sent_fit now (Some (ForAsk x)) c a d t = (t.0, called_fits prefix (next_call c) x.ticket c.asks a.asks.once d t.1)
  sent_fit now (Some (ForGroup lease ticket)) c a d t = (t.0, each_fits prefix (group_sent (next_call c) lease) (group_sent_fits prefix (next_call c) lease) c.asks t.1)
  sent_fit now (Some (ToOpen o)) c a d t = t
  sent_fit now (Some (ForStream x)) c a d t = by_job (next_job c.watches (Some x)).1
    where
      by_job : (o : Option StreamJob) → StepFit (stream_job o (with_watches c (next_job c.watches (Some x)).0))
      by_job None = t
      by_job (Some (stream.Close number)) = t
      by_job (Some (stream.Open number range start)) = t

  -- Whole steps.

  happened_fit : (now : ℕ) (e : CoreEvent) (c : Core) → Agrees c → c.own.waits.prefix ≡ prefix → CoreFit c → StepFit (happened now e c)
  unfolding on_answer on_lost on_work
  happened_fit now (event.Ask ticket q word) c a p t = asked_fit now ticket q word c p t
  happened_fit now (event.Answer call x) c a p t = answer_of_fit now call x (out_at call c.out) c t
  happened_fit now (event.Lost call) c a p t = loss_of_fit now call (out_at call c.out) c t
  happened_fit now (event.Tick word) c a p t = tick_fit now word c t
  happened_fit now (event.Item number x) c a p t = item_fit now number x c t
  happened_fit now (event.Cut number) c a p t = cut_fit number c t
  happened_fit now (event.Take ticket) c a p t = take_fit ticket c t
  happened_fit now (event.Leave ticket) c a p t = leave_fit now ticket c t
  happened_fit now event.Work c a p t = sent_fit now (first_job c) c a (first_due c a) t

  counted_fit : (s : Stepped) → StepFit s → StepFit (counted s)
  counted_fit s t = by_outcome s.outcome
    where
      by_outcome : (o : Result Outcome StepFault) → StepFit (counted_by s.core o)
      by_outcome (Ok o) = t
      by_outcome (Err f) = t

  pub stepped_fit : (e : CoreEvent) (now : ℕ) (c : Core) → Agrees (clock_work now c) → (clock_work now c).own.waits.prefix ≡ prefix → CoreFit c → StepFit (stepped c e now)
  unfolding stepped
  stepped_fit e now c a p t =
      by_test StepFit (is_worn c) (faults c fault.Worn) (counted (happened now e (clock_work now c))) (λ w. t)
      (λ w. counted_fit (happened now e (clock_work now c)) (happened_fit now e (clock_work now c) a p (clock_fit now c t)))
