-- A key of which a proxy has nothing, step by step: a step leaves it so, but where a read of the key is asked, or a write over it, or the
-- revoking word comes for it.
use Rattle.std.proofs.Common.{◌≡◌, ℕ, ◌+◌, ◌==◌, nat_le, Bool, true, false, not, cond, ◌&&◌, ◌||◌, List, [], ◌∷◌, ◌++◌, map, Option, None, Some, is_some, Ok, Err, refl, sym, ◌∙◌, ap, subst}
use Rattle.etcd_types.specs.declared.answer.Answer.{Answer}
use Rattle.etcd_types.specs.declared.answer.Answer.TheVariants.{Done, Refused}
use Rattle.etcd_types.specs.declared.answer.Body.{Body}
use Rattle.etcd_types.specs.declared.answer.Body.TheVariants as body
use Rattle.etcd_types.specs.declared.answer.Refusal.{Refusal}
use Rattle.etcd_types.specs.declared.record.Header.{Header}
use Rattle.etcd_types.specs.declared.record.Kv.{Kv}
use Rattle.etcd_types.specs.declared.request.Request.{Request}
use Rattle.etcd_types.specs.declared.request.Request.TheVariants as request
use Rattle.etcd_types.specs.declared.watch.WatchItem.{WatchItem}
use Rattle.etcd_types.specs.declared.watch.WatchItem.TheVariants as item
use Rattle.proxy_model.specs.declared.lease.Entry.{Entry}
use Rattle.proxy_model.specs.declared.lease.Phase.{Phase}
use Rattle.proxy_model.specs.declared.lease.Phase.TheVariants.{Held, Writing, Leaving}
use Rattle.proxy_model.specs.declared.ownership.Claim.{Claim}
use Rattle.proxy_model.specs.declared.ownership.Claim.TheVariants.{Acquired, OwnedBy}
use Rattle.proxy_model.specs.Acquire.{claimed}
use Rattle.proxy_model.specs.Keyed.{Keyed, at, with_at}
use Rattle.proxy_model.specs.Limits.{capped}
use Rattle.proxy_model.specs.Unwrapped.{Unwrapped, item_without}
use Rattle.wait_model.specs.declared.sending.Sending.TheVariants as sending
use Rattle.wait_model.specs.declared.wait.Settled.{Settled}
use Rattle.wait_model.specs.declared.wait.Settled.TheVariants as settled
use Rattle.wait_model.specs.Edits.{without}
use Rattle.wait_model.specs.Endings as endings
use Rattle.wait_model.specs.GuardedAnswers.{Ending}
use Rattle.read_model.specs.declared.acquire.Acquire.{Acquire}
use Rattle.read_model.specs.declared.asked.Asked.{Asked}
use Rattle.read_model.specs.declared.asked.Stage.{Stage}
use Rattle.read_model.specs.declared.asked.Stage.TheVariants as stage
use Rattle.read_model.specs.declared.asked.Verdict.{Verdict}
use Rattle.read_model.specs.declared.asked.Verdict.TheVariants as verdict
use Rattle.read_model.specs.Acquires.{read_asked, acquires_at, told, acquire_gone, acquire_done, AfterAcquire, done_by, acquire_refused, is_to_be_held, answered_acquire, acquire_answered, lost_once, acquire_lost}
use Rattle.read_model.specs.PlainRead.{ask_key, shown, called, acquirable, held_turn, read_turn, decision, begun_under, in_stage, decided_ground, decided_ask}
use Rattle.read_model.specs.Release.{ask_stands, released_ground, released_ask, released_from}
use Rattle.read_model.specs.SessionEnd.{is_due, dropped, over, session_over}
use Rattle.read_model.specs.State.{Reads, Moment, Ground, ground_of, on}
use Rattle.read_model.specs.TakingOff.{forgotten_all, falls, taken_off}
use Rattle.read_model.specs.WriteAnswers.{settled_ask, ending, answered_by, wait_answered}
use Rattle.watch_model.specs.Lookups.{stream_at, watch_at, is_begun}
use Rattle.watch_model.specs.State.{Stream, Watch, Broadcasts}
use Rattle.watch_model.specs.Takes as watches
use Rattle.core_model.specs.declared.out_call.CallKind.{CallKind}
use Rattle.core_model.specs.declared.out_call.OutCall.{OutCall}
use Rattle.core_model.specs.declared.out_call.OutJob.{OutJob}
use Rattle.core_model.specs.declared.out_call.OutJob.TheVariants as job
use Rattle.core_model.specs.Asking.{asked_at, is_leased_read, read_by, read_is_asked, held_body, if_live, call_stage, call_is_asked, answered_or_called, leased_ask, taken_in, request_asked, refused_or_taken, on_ask}
use Rattle.core_model.specs.ClockWork.{times_out, timed_out_ask, begun, clock_work}
use Rattle.core_model.specs.Ends.{with_caller, member_failed, stale_once, stales_limit, said, is_stale_reply, ask_done, ask_answered, lost_ask, lost_job, lost_call, acquire_if, reads_if, answered_job, or_lost, heard_call, answered_call, call_gone, answer_of, on_answer, loss_of, on_lost}
use Rattle.core_model.specs.Ends.{is_keepalive as answers_keepalive}
use Rattle.core_model.specs.Groups.{keeps, is_out_stage, waits_next, is_out_for, group_since, joining, group_ended}
use Rattle.core_model.specs.Heard.{heard, header_taken}
use Rattle.core_model.specs.Kinds.{is_read, is_body_of, writes_keys}
use Rattle.core_model.specs.LeasingStream.{leasing_ticked, leasing_cut, is_readable, leasing_message, message_if_sent, item_header, leasing_item}
use Rattle.core_model.specs.LeasingStream as leasing
use Rattle.core_model.specs.Lookups.{leases, is_known, moment, reads_of, with_reads, has_ticket, ask_at, calls_as, out_at}
use Rattle.core_model.specs.Refusals.{refusal_of}
use Rattle.core_model.specs.Sessions.{without_session, seat_is_over, deadline_passed, seat_ticked, seat_calls, granted_by, grant_failed, keep_failed, kept, kept_by}
use Rattle.core_model.specs.State.{Opening, Core}
use Rattle.core_model.specs.Step.{ticked, on_tick, opening_at, client_item, item_of, on_item, client_cut, cut_of, on_cut}
use Rattle.core_model.specs.Stepped.{Stepped}
use Rattle.core_model.specs.Takes.{item_taken, taken, on_take, watcher_left, left, on_leave}
use Rattle.core_model.specs.Takes as takes
use Rattle.core_model.specs.Watching.{stream_message, stream_item, taken_item}
use Rattle.core_model.specs.Watching as watching
use Rattle.core_laws.proofs.Steps.Lists.{all_filtered, all_pushed, same_number}
use Rattle.watch_model.specs.Due as watches_due
use Rattle.std.specs.Option.{option_map}
use Rattle.etcd_types.proofs.KeyOrder.{same-equal}
use Rattle.etcd_types.specs.declared.watch.Event.{Event}
use Rattle.proxy_model.proofs.KeyedLaws.{at-with_at}
use Rattle.proxy_model.specs.Keyed.{at}
use Rattle.etcd_types.specs.Keys.{same}
use Rattle.proxy_model.specs.SeveralKeys.{written_ranges}
use Rattle.wait_model.specs.Asked.{submitted}
use Rattle.wait_model.specs.Covers.{covered}
use Rattle.wait_model.specs.Sent.{JobSent, job_sent}
use Rattle.wait_model.specs.Writes.{sends}
use Rattle.core_laws.specs.Writes.Laws.{OwnersCovered}
use Rattle.read_model.specs.Acquires.{acquire_sent, sent_out}
use Rattle.read_model.specs.PlainRead.{key_of}
use Rattle.core_model.specs.Asking.{write_is_asked}
use Rattle.core_model.specs.ClockWork.{writes_go_on, requests_timed_out}
use Rattle.core_model.specs.DueJobs.{DueJob, ForSession, ForWrites, ForAcquire, ForAsk, ForGroup, ToOpen, ForStream, first_job}
use Rattle.core_model.specs.Groups.{group_sent}
use Rattle.core_model.specs.Sending.{next_call, called_as, writes_sent, stream_opened, sent_by, on_work}
use Rattle.core_model.specs.Watching.{stream_job, stream_sent}
use Rattle.watch_model.specs.declared.stream.StreamJob.{StreamJob}
use Rattle.watch_model.specs.declared.stream.StreamJob.TheVariants as stream
use Rattle.core_model.specs.declared.event.CoreEvent.{CoreEvent}
use Rattle.core_model.specs.declared.event.CoreEvent.TheVariants as event
use Rattle.core_model.specs.Step.{happened, stepped, is_worn}
use Rattle.core_fits.specs.Fits.{is_reading}
use Rattle.cached_laws.specs.Untouched.{is_apart, Misses, AllSpare, SparesIn}
use Rattle.cached_laws.proofs.Apart.{IsUntouched as ReadsUntouched, AllApart, apart_calm, apart_other, decided_so, mapped_so, calmed, over_so, taken_off_so, AfterSo, acquire_answered_so, acquire_lost_so, ReadsIf, wait_answered_so, wait_lost_so}
use Rattle.cached_laws.proofs.Clear.{IsClear, pass_clear, message_clear, resync_clear, compaction_clear, submitted_clear, SentClear, job_sent_clear}

either : {A : Type 0} (P : A → Type 0) (b : Bool) (x y : A) → P x → P y → P (cond b x y)
either P true x y h i = h
either P false x y h i = i

lost_calm : (members step : ℕ) (a : Asked) → is_reading (lost_once members step a).stage ≡ false
lost_calm members step a = either (λ (s : Stage). is_reading s ≡ false) _ (stage.Replied verdict.Lost) (called step) refl refl

stale_calm : (members step : ℕ) (a : Asked) → is_reading (stale_once members step a).stage ≡ false
stale_calm members step a = either (λ (s : Stage). is_reading s ≡ false) _ (stage.Replied verdict.Stale) (called step) refl refl

call_calm : (q : Request) (c : Core) → is_reading (call_stage q c) ≡ false
call_calm (request.KeepAlive lease) c = either (λ (s : Stage). is_reading s ≡ false) (is_out_for lease c.out) (stage.Grouped None) (joining c.own.waits.step (group_since lease c.asks)) refl (by (group_since lease c.asks))
  where
    by : (o : Option ℕ) → is_reading (joining c.own.waits.step o) ≡ false
    by None = refl
    by (Some since) = refl
call_calm (request.Range ask) c = refl
call_calm (request.Put ask) c = refl
call_calm (request.Delete ask) c = refl
call_calm (request.Txn t) c = refl
call_calm (request.Compact revision physical) c = refl
call_calm (request.Grant ttl lease) c = refl
call_calm (request.Revoke lease) c = refl
call_calm (request.TimeToLive lease keys) c = refl
call_calm request.Leases c = refl
call_calm (request.Watch ask) c = refl

module _ (k : List ℕ) where
  abbrev pub CoreSo : Core → Type 0
  CoreSo c = ReadsUntouched k (reads_of c)

  abbrev pub StepSo : Stepped → Type 0
  StepSo s = CoreSo s.core

  go_on : (c : Core) → CoreSo c → CoreSo (writes_go_on c)
  go_on c h = record { own = pass_clear k c.own h.own; acquire = h.acquire; asks = h.asks }

  with_asks : (xs : List Asked) (c : Core) → AllApart k xs → CoreSo c → CoreSo (record c { asks = xs })
  with_asks xs c t h = record { own = h.own; acquire = h.acquire; asks = t }

  -- ---- the clock's work

  ended_so : (now : ℕ) (c : Core) → CoreSo c → CoreSo (without_session now c)
  ended_so now c h = over_so k (moment (record c { seat = None }) now) (reads_of (record c { seat = None })) (record { own = h.own; acquire = h.acquire; asks = h.asks })

  pub clock_so : (now : ℕ) (c : Core) → CoreSo c → CoreSo (clock_work now c)
  unfolding clock_work
  clock_so now c h =
      let b : CoreSo (begun c) = record { own = record { bare = h.own.bare; quiet = h.own.quiet }; acquire = h.acquire; asks = h.asks } in
      let d = deadline_passed now (begun c) in
      let t : CoreSo d = either CoreSo (seat_is_over c.seat now) (without_session now (begun c)) (begun c) (ended_so now (begun c) b) b in
      go_on (requests_timed_out now d)
      (taken_off_so k (moment d now) (times_out now) (map (timed_out_ask now) d.asks) (reads_of d) (calmed k (times_out now) (in_stage (stage.Replied verdict.TimedOut)) d.asks (λ a. refl) t.asks) t)

  -- ---- calls end

  abbrev IfSo : Option Core → Type 0
  IfSo None = Unit {0}
  IfSo (Some c) = CoreSo c

  kept_so : (now : ℕ) (o : OutCall) (ttl : ℕ) (c : Core) → CoreSo c → CoreSo (kept now o ttl c)
  kept_so now o ttl c t = either CoreSo (ttl == 0) (without_session now c) _ (ended_so now c t) t

  renewed_so : (now : ℕ) (o : OutCall) (b : Body) (c : Core) → CoreSo c → IfSo (kept_by now o b c)
  renewed_so now o (body.KeepAlive lease ttl) c t = either CoreSo (seat_calls o.call c.seat) (kept now o ttl c) c (kept_so now o ttl c t) t
  renewed_so now o (body.Range count more kvs) c t = tt
  renewed_so now o (body.Put prev) c t = tt
  renewed_so now o (body.Delete deleted prevs) c t = tt
  renewed_so now o (body.Txn' succeeded n bodies) c t = tt
  renewed_so now o body.Compact c t = tt
  renewed_so now o (body.Grant lease ttl) c t = tt
  renewed_so now o body.Revoke c t = tt
  renewed_so now o (body.TimeToLive lease ttl granted keys) c t = tt
  renewed_so now o (body.Leases leases) c t = tt

  granted_so : (o : OutCall) (b : Body) (c : Core) → CoreSo c → IfSo (granted_by o b c)
  granted_so o (body.Grant lease ttl) c t = either CoreSo (seat_calls o.call c.seat) _ c t t
  granted_so o (body.Range count more kvs) c t = tt
  granted_so o (body.Put prev) c t = tt
  granted_so o (body.Delete deleted prevs) c t = tt
  granted_so o (body.Txn' succeeded n bodies) c t = tt
  granted_so o body.Compact c t = tt
  granted_so o (body.KeepAlive lease ttl) c t = tt
  granted_so o body.Revoke c t = tt
  granted_so o (body.TimeToLive lease ttl granted keys) c t = tt
  granted_so o (body.Leases leases) c t = tt

  grant_failed_so : (o : OutCall) (c : Core) → CoreSo c → CoreSo (grant_failed o c)
  grant_failed_so o c t = either CoreSo (seat_calls o.call c.seat) _ c t t

  keep_failed_so : (o : OutCall) (c : Core) → CoreSo c → CoreSo (keep_failed o c)
  keep_failed_so o c t = either CoreSo (seat_calls o.call c.seat) _ c t t

  caller_so : (f : Asked → Asked) (call : ℕ) (c : Core) → ((a : Asked) → is_reading (f a).stage ≡ false) → CoreSo c → CoreSo (with_caller call f c)
  caller_so f call c n t = with_asks _ c (calmed k (calls_as call) f c.asks n t.asks) t

  ask_so : (j : CallKind) (o : OutCall) (a : Answer) (c : Core) → CoreSo c → IfSo (ask_answered j o a c)
  ask_so j o (Refused r) c t = caller_so (said (Refused r)) o.call c (λ x. refl) t
  ask_so j o (Done reply) c t =
      either IfSo (is_body_of j reply.body) (Some (ask_done j o reply c)) None
      (either CoreSo (is_stale_reply j o reply) (with_caller o.call (stale_once c.members.count c.own.waits.step) (member_failed o c)) (with_caller o.call (said (Done reply)) c)
      (caller_so (stale_once c.members.count c.own.waits.step) o.call (member_failed o c) (stale_calm c.members.count c.own.waits.step) t) (caller_so (said (Done reply)) o.call c (λ x. refl) t))
      tt

  group_so : (step call lease : ℕ) (v : Verdict) (xs : List Asked) → AllApart k xs → AllApart k (map (group_ended step call lease v) xs)
  group_so step call lease v xs t =
      mapped_so k (group_ended step call lease v) xs
      (λ x h. either (λ (y : Asked). is_apart k y ≡ true) (is_out_stage call x.stage) (in_stage (stage.Replied v) x) _ (apart_calm k (in_stage (stage.Replied v) x) refl)
      (either (λ (y : Asked). is_apart k y ≡ true) (keeps lease x.request && waits_next x.stage) (in_stage (stage.Grouped (Some (sending.Due step))) x) x (apart_calm k (in_stage (stage.Grouped (Some (sending.Due step))) x) refl) h))
      t

  lost_ask_calm : (j : CallKind) (o : OutCall) (c : Core) (a : Asked) → is_reading (lost_ask j o c a).stage ≡ false
  lost_ask_calm j o c a = either (λ (x : Asked). is_reading x.stage ≡ false) (is_read j) (lost_once c.members.count c.own.waits.step a) (in_stage (stage.Replied verdict.Lost) a) (lost_calm c.members.count c.own.waits.step a) refl

  lost_job_so : (now : ℕ) (o : OutCall) (j : OutJob) (c : Core) → CoreSo c → CoreSo (lost_job now o j c)
  lost_job_so now o (job.Grant lease) c t = grant_failed_so o c t
  lost_job_so now o (job.Keep lease) c t = keep_failed_so o c t
  lost_job_so now o (job.Acquire i) c t = acquire_lost_so k c.members.count (moment c now) i (reads_of c) t
  lost_job_so now o job.Wait c t = wait_lost_so k (moment c now) o.call (reads_of c) t
  lost_job_so now o (job.Ask j) c t = caller_so (lost_ask j o c) o.call c (lost_ask_calm j o c) t
  lost_job_so now o (job.Group lease) c t = with_asks _ c (group_so c.own.waits.step o.call lease verdict.Lost c.asks t.asks) t

  lost_call_so : (now : ℕ) (o : OutCall) (c : Core) → CoreSo c → CoreSo (lost_call now o c)
  lost_call_so now o c t = lost_job_so now o o.job (member_failed o c) t

  job_so : (now : ℕ) (o : OutCall) (j : OutJob) (a : Answer) (c : Core) → (j ≡ job.Wait → OwnersCovered (sends o.call) a c.own) → CoreSo c → IfSo (answered_job now o j a c)
  job_so now o (job.Grant lease) (Done reply) c v t = granted_so o reply.body c t
  job_so now o (job.Grant lease) (Refused r) c v t = grant_failed_so o c t
  job_so now o (job.Keep lease) (Done reply) c v t = renewed_so now o reply.body c t
  job_so now o (job.Keep lease) (Refused r) c v t = keep_failed_so o c t
  job_so now o (job.Acquire i) a c v t = by (acquire_answered (moment c now) i a (reads_of c)) (acquire_answered_so k (moment c now) i a (reads_of c) t)
    where
      by_end : (ends : Bool) (x : AfterAcquire) → ReadsUntouched k x.reads → CoreSo (with_reads (cond ends (record c { seat = None }) c) x.reads)
      by_end true x h = h
      by_end false x h = h

      by : (q : Option AfterAcquire) → AfterSo k q → IfSo (acquire_if c q)
      by None h = tt
      by (Some x) h = by_end x.ends x h
  job_so now o job.Wait a c v t = by (wait_answered (moment c now) o.call a (reads_of c)) (wait_answered_so k (moment c now) o.call a (reads_of c) (v refl) t)
    where
      by : (q : Option Reads) → ReadsIf k q → IfSo (reads_if c q)
      by None h = tt
      by (Some r) h = h
  job_so now o (job.Ask j) a c v t = ask_so j o a c t
  job_so now o (job.Group lease) a c v t =
      either IfSo (answers_keepalive a) (Some (record c { asks = Rattle.core_model.specs.Groups.groups_ended c.own.waits.step o.call lease (verdict.Said a) c.asks })) None
      (with_asks _ c (group_so c.own.waits.step o.call lease (verdict.Said a) c.asks t.asks) t) tt

  heard_so : (now : ℕ) (o : OutCall) (h : Option Answer) (c : Core) → ((a : Answer) → h ≡ Some a → o.job ≡ job.Wait → OwnersCovered (sends o.call) a c.own) → CoreSo c → CoreSo (heard_call now o h c)
  heard_so now o None c v t = lost_call_so now o c t
  heard_so now o (Some a) c v t = by (answered_job now o o.job a c) (job_so now o o.job a c (v a refl) t)
    where
      by : (q : Option Core) → IfSo q → CoreSo (or_lost now o c q)
      by None h = lost_call_so now o c t
      by (Some d) h = h

  -- what is heard shows owners of the write's own keys
  pub answered_so : (now call : ℕ) (a : Answer) (c : Core) → ((h : Answer) → heard c.settings.namespace a ≡ Some h → OwnersCovered (sends call) h c.own) → CoreSo c → StepSo (on_answer now call a c)
  unfolding on_answer
  answered_so now call a c v t = by (out_at call c.out) refl
    where
      its_number : (xs : List OutCall) (o : OutCall) → out_at call xs ≡ Some o → o.call ≡ call
      its_number [] o e = absurd (cc)
      its_number (x ∷ xs) o e = by_number (x.call == call) refl (λ f. its_number xs o f) e
        where
          same_call : (x y : OutCall) → Some x ≡ Some y → x ≡ y
          same_call x y e = cc

          by_number : (b : Bool) → (x.call == call) ≡ b → (out_at call xs ≡ Some o → o.call ≡ call) → cond b (Some x) (out_at call xs) ≡ Some o → o.call ≡ call
          by_number true e g f = ap (λ (y : OutCall). y.call) (sym (same_call x o f)) ∙ same_number x.call call e
          by_number false e g f = g f

      by_answer : (o : OutCall) (b : Answer) → a ≡ b → o.call ≡ call → CoreSo (writes_go_on (answered_call now o b (call_gone call c)))
      by_answer o (Done reply) e n =
          let d = header_taken reply.header (call_gone call c) in
          go_on (answered_call now o (Done reply) (call_gone call c))
          (heard_so now o (heard c.settings.namespace (Done reply)) d (λ h f w. subst (λ (m : ℕ). OwnersCovered (sends m) h c.own) (sym n) (v h (ap (heard c.settings.namespace) e ∙ f))) t)
      by_answer o (Refused r) e n =
          go_on (answered_call now o (Refused r) (call_gone call c))
          (heard_so now o (heard c.settings.namespace (Refused r)) (call_gone call c) (λ h f w. subst (λ (m : ℕ). OwnersCovered (sends m) h c.own) (sym n) (v h (ap (heard c.settings.namespace) e ∙ f))) t)

      by : (q : Option OutCall) → out_at call c.out ≡ q → StepSo (answer_of now call a q c)
      by None f = t
      by (Some o) f = by_answer o a refl (its_number c.out o f)

  pub lost_so : (now call : ℕ) (c : Core) → CoreSo c → StepSo (on_lost now call c)
  unfolding on_lost
  lost_so now call c t = by (out_at call c.out)
    where
      by : (q : Option OutCall) → StepSo (loss_of now call q c)
      by None = t
      by (Some o) = go_on (lost_call now o (call_gone call c)) (lost_call_so now o (call_gone call c) t)

  -- ---- a request is asked

  pushed_so : (a : Asked) (c : Core) → is_apart k a ≡ true → CoreSo c → CoreSo (record c { asks = c.asks ++ a ∷ [] })
  pushed_so a c p t = with_asks _ c (all_pushed (is_apart k) a c.asks t.asks p) t

  call_asked_so : (a : Asked) (c : Core) → CoreSo c → StepSo (call_is_asked a c)
  call_asked_so a c t = go_on (record c { asks = c.asks ++ in_stage (call_stage a.request c) a ∷ [] }) (pushed_so (in_stage (call_stage a.request c) a) c (apart_calm k (in_stage (call_stage a.request c) a) (call_calm a.request c)) t)

  read_so : (m : Moment) (a : Asked) (c : Core) → same (ask_key a) k ≡ false → CoreSo c → StepSo (read_is_asked m a c)
  read_so m a c n t = by (decided_ask m (ground_of (reads_of c)) a).stage
    where
      pushed : CoreSo (with_reads c (read_asked m a (reads_of c)))
      pushed =
          let g = decided_so k m (ground_of (reads_of c)) a n (t.own, t.acquire) in
          record { own = g.0; acquire = g.1; asks = all_pushed (is_apart k) (decided_ask m (ground_of (reads_of c)) a) c.asks t.asks (apart_other k (decided_ask m (ground_of (reads_of c)) a) n) }

      by : (s : Stage) → StepSo (read_by s c (with_reads c (read_asked m a (reads_of c))))
      by (stage.Replied v) = t
      by (stage.Calling s) = go_on (with_reads c (read_asked m a (reads_of c))) pushed
      by stage.Acquiring = go_on (with_reads c (read_asked m a (reads_of c))) pushed
      by stage.Joined = go_on (with_reads c (read_asked m a (reads_of c))) pushed
      by stage.Behind = go_on (with_reads c (read_asked m a (reads_of c))) pushed
      by stage.Writes = go_on (with_reads c (read_asked m a (reads_of c))) pushed
      by (stage.Grouped s) = go_on (with_reads c (read_asked m a (reads_of c))) pushed

  write_so : (a : Asked) (c : Core) → covered (written_ranges a.request) k ≡ false → CoreSo c → StepSo (write_is_asked a c)
  write_so a c n t =
      go_on (record c { own = submitted a.ticket a.request c.own; asks = c.asks ++ in_stage stage.Writes a ∷ [] }) (record { own = submitted_clear k a.ticket a.request c.own n t.own; acquire = t.acquire; asks = all_pushed (is_apart k) (in_stage stage.Writes a) c.asks t.asks (apart_calm k (in_stage stage.Writes a) refl) })

  taken_so : (m : Moment) (a : Asked) (c : Core) → Misses k c.own.waits.prefix a.request → CoreSo c → StepSo (taken_in m a c)
  taken_so m a c n t = either StepSo (leases c) (leased_ask m a c) (call_is_asked a c) (by_read (is_leased_read c.own.waits.prefix a.request) refl) (call_asked_so a c t)
    where
      by_body : (b : Option Body) → StepSo (answered_or_called b a c)
      by_body None = call_asked_so a c t
      by_body (Some b) = t

      by_read : (b : Bool) → is_leased_read c.own.waits.prefix a.request ≡ b → StepSo (cond b (read_is_asked m a c) (cond (writes_keys a.request) (write_is_asked a c) (answered_or_called (if_live m.session (held_body c.own.entries a.request)) a c)))
      by_read true e = read_so m a c (n.reads e) t
      by_read false e = either StepSo (writes_keys a.request) (write_is_asked a c) (answered_or_called (if_live m.session (held_body c.own.entries a.request)) a c) (write_so a c n.writes t) (by_body (if_live m.session (held_body c.own.entries a.request)))

  request_so : (q : Request) (m : Moment) (a : Asked) (c : Core) → Misses k c.own.waits.prefix a.request → CoreSo c → StepSo (request_asked q m a c)
  request_so (request.Watch ask) m a c n t = t
  request_so (request.KeepAlive lease) m a c n t = taken_so m a c n t
  request_so (request.Range ask) m a c n t = taken_so m a c n t
  request_so (request.Put ask) m a c n t = taken_so m a c n t
  request_so (request.Delete ask) m a c n t = taken_so m a c n t
  request_so (request.Txn x) m a c n t = taken_so m a c n t
  request_so (request.Compact revision physical) m a c n t = taken_so m a c n t
  request_so (request.Grant ttl lease) m a c n t = taken_so m a c n t
  request_so (request.Revoke lease) m a c n t = taken_so m a c n t
  request_so (request.TimeToLive lease keys) m a c n t = taken_so m a c n t
  request_so request.Leases m a c n t = taken_so m a c n t

  pub asked_so : (now ticket : ℕ) (q : Request) (word : ℕ) (c : Core) → Misses k c.own.waits.prefix q → CoreSo c → StepSo (on_ask now ticket q word c)
  unfolding on_ask
  asked_so now ticket q word c n t = either StepSo (is_known ticket c) _ _ t (by (refusal_of c.own.waits.prefix q))
    where
      by : (o : Option Refusal) → StepSo (refused_or_taken o (moment c now) (asked_at now ticket q word) c)
      by None = request_so q (moment c now) (asked_at now ticket q word) c n t
      by (Some r) = t

  -- ---- a request is taken or left

  pub take_so : (ticket : ℕ) (c : Core) → CoreSo c → StepSo (on_take ticket c)
  unfolding on_take
  take_so ticket c t = by_ask (ask_at ticket c.asks)
    where
      by_pair : (x : Broadcasts × Option WatchItem) → StepSo (taken_item c x)
      by_pair (b, None) = t
      by_pair (b, Some x) = t

      by_watch : (w : Option Watch) → StepSo (item_taken ticket w c)
      by_watch None = t
      by_watch (Some w) = by_pair (watches.taken_from c.watches c.header w w.queue)

      by_stage : (s : Stage) → StepSo (takes.taken_from ticket s c)
      by_stage (stage.Replied v) = with_asks _ c (all_filtered (is_apart k) (λ a. not (has_ticket ticket a)) c.asks t.asks) t
      by_stage (stage.Calling s) = t
      by_stage stage.Acquiring = t
      by_stage stage.Joined = t
      by_stage stage.Behind = t
      by_stage stage.Writes = t
      by_stage (stage.Grouped s) = t

      by_ask : (o : Option Asked) → StepSo (taken ticket o c)
      by_ask None = by_watch (watch_at ticket c.watches.watches)
      by_ask (Some a) = by_stage a.stage

  pub leave_so : (now ticket : ℕ) (c : Core) → CoreSo c → StepSo (on_leave now ticket c)
  unfolding on_leave
  leave_so now ticket c t = by_ask (ask_at ticket c.asks)
    where
      by_watch : (w : Option Watch) → StepSo (watcher_left ticket w c)
      by_watch None = t
      by_watch (Some w) = t

      by_ask : (o : Option Asked) → StepSo (left now ticket o c)
      by_ask None = by_watch (watch_at ticket c.watches.watches)
      by_ask (Some a) = go_on (takes.has_left now ticket c) (taken_off_so k (moment c now) (has_ticket ticket) (Rattle.core_model.specs.Lookups.without_ask ticket c.asks) (reads_of c) (all_filtered (is_apart k) (λ b. not (has_ticket ticket b)) c.asks t.asks) t)

  -- ---- ticks, messages and cuts

  pub tick_so : (now word : ℕ) (c : Core) → CoreSo c → StepSo (on_tick now word c)
  unfolding on_tick
  tick_so now word c t = either CoreSo (leases c) (ticked now word c) c (by c.leasing) t
    where
      by : (o : Option Opening) → CoreSo (leasing_ticked o (record c { seat = Some (seat_ticked word c.settings.ttl c.own.waits.step now c.seat) }))
      by None = t
      by (Some o) = t

  created_so : (next : ℕ) (c : Core) (own : Rattle.wait_model.specs.State.Ownership) → own ≡ c.own → CoreSo c → IsClear k (leasing.own_created next own)
  created_so next c own e t =
      either (IsClear k) (next == 0) (Rattle.wait_model.specs.LeasingStream.resynced own) own (resync_clear k own (subst (IsClear k) (sym e) t.own)) (subst (IsClear k) (sym e) t.own)

  message_so : (now : ℕ) (o : Opening) (x : WatchItem) (c : Core) → ((h : Header) (es : List Event) → x ≡ item.Events h es → is_readable o.stream es ≡ true → AllSpare k c.own.waits.prefix es) → CoreSo c → CoreSo (leasing_message now o x c)
  message_so now o (item.Created d) c s t =
      either CoreSo o.stream.created c _ t (record { own = created_so o.stream.next c c.own refl t; acquire = t.acquire; asks = t.asks })
  message_so now o (item.Events d es) c s t = by (is_readable o.stream es) refl
    where
      by : (b : Bool) → is_readable o.stream es ≡ b → CoreSo (cond b (record (leasing.stream_is o (Rattle.proxy_model.specs.Upstream.advance o.stream (leasing.told_revision d es)) c) { own = Rattle.wait_model.specs.Notices.all_noticed (Rattle.core_model.specs.Lookups.live_number c.seat now) es c.own }) (leasing_cut o c))
      by true e = record { own = message_clear k (Rattle.core_model.specs.Lookups.live_number c.seat now) es c.own (s d es refl e) t.own; acquire = t.acquire; asks = t.asks }
      by false e = t
  message_so now o (item.Canceled d compaction) c s t =
      either CoreSo (compaction == 0) (leasing_cut o c) _ t (record { own = compaction_clear k c.own t.own; acquire = t.acquire; asks = t.asks })

  leasing_so : (now number : ℕ) (o : Opening) (x : WatchItem) (c : Core) → opening_at number c.leasing ≡ Some o → SparesIn k c number x → CoreSo c → CoreSo (leasing_item now o x c)
  leasing_so now number o x c f s t = by_due o.due
    where
      by_text : (u : Unwrapped WatchItem) → item_without c.settings.namespace x ≡ u → CoreSo (leasing.unwrapped_message now o u (header_taken (item_header x) c))
      by_text (Ok y) e = message_so now o y (header_taken (item_header x) c) (λ h es g r. s o h es f (e ∙ ap (λ (z : WatchItem). Ok z) g) r) t
      by_text (Err foreign) e = t

      by_due : (d : Option ℕ) → CoreSo (message_if_sent now o d x (header_taken (item_header x) c))
      by_due None = by_text (item_without c.settings.namespace x) refl
      by_due (Some since) = t

  stream_so : (s : Stream) (x : WatchItem) (c : Core) → CoreSo c → CoreSo (stream_item s x c)
  stream_so s x c t = either CoreSo (is_begun s.phase) _ (header_taken (item_header x) c) (by_text (item_without c.settings.namespace x)) t
    where
      by_message : (y : WatchItem) → CoreSo (stream_message s y (header_taken (item_header x) c))
      by_message (item.Created d) = t
      by_message (item.Events d es) = t
      by_message (item.Canceled d compaction) = t

      by_text : (u : Unwrapped WatchItem) → CoreSo (watching.unwrapped_message s u (header_taken (item_header x) c))
      by_text (Ok y) = by_message y
      by_text (Err foreign) = t

  pub item_so : (now number : ℕ) (x : WatchItem) (c : Core) → SparesIn k c number x → CoreSo c → StepSo (on_item now number x c)
  unfolding on_item
  item_so now number x c s t = by_opening (opening_at number c.leasing) refl
    where
      by_stream : (r : Option Stream) → StepSo (client_item number x r c)
      by_stream None = t
      by_stream (Some r) = go_on (stream_item r x c) (stream_so r x c t)

      by_opening : (o : Option Opening) → opening_at number c.leasing ≡ o → StepSo (item_of now number x o c)
      by_opening None f = by_stream (stream_at number c.watches.streams)
      by_opening (Some o) f = go_on (leasing_item now o x c) (leasing_so now number o x c f s t)

  pub cut_so : (number : ℕ) (c : Core) → CoreSo c → StepSo (on_cut number c)
  unfolding on_cut
  cut_so number c t = by_opening (opening_at number c.leasing)
    where
      by_stream : (s : Option Stream) → StepSo (client_cut number s c)
      by_stream None = t
      by_stream (Some s) = t

      by_opening : (o : Option Opening) → StepSo (cut_of number o c)
      by_opening None = by_stream (stream_at number c.watches.streams)
      by_opening (Some o) = t

  -- ---- a job is sent

  called_so : (call ticket : ℕ) (xs : List Asked) → AllApart k xs → AllApart k (map (called_as call ticket) xs)
  called_so call ticket xs t = calmed k (has_ticket ticket) (in_stage (stage.Calling (sending.Out call))) xs (λ a. refl) t

  grouped_so : (call lease : ℕ) (xs : List Asked) → AllApart k xs → AllApart k (map (group_sent call lease) xs)
  grouped_so call lease xs t = calmed k (λ a. keeps lease a.request && Rattle.core_model.specs.Groups.is_due_stage a.stage) (in_stage (stage.Grouped (Some (sending.Out call)))) xs (λ a. refl) t

  sent_so : (now : ℕ) (j : Option DueJob) (c : Core) → CoreSo c → StepSo (sent_by now j c)
  sent_so now None c t = t
  sent_so now (Some (ForSession s)) c t = t
  sent_so now (Some ForWrites) c t = by (job_sent (next_call c) c.own) (job_sent_clear k (next_call c) c.own t.own)
    where
      by : (o : Option JobSent) → SentClear k o → StepSo (writes_sent now o c)
      by None h = t
      by (Some x) h = record { own = h; acquire = t.acquire; asks = t.asks }
  sent_so now (Some (ForAcquire i x)) c t = record { own = t.own; acquire = none_changed; asks = t.asks }
    where
      by_key : (b : Bool) → same i k ≡ b → cond b (option_map (sent_out (next_call c)) (at c.acquires i)) (at c.acquires k) ≡ None
      by_key true e = ap (λ (l : List ℕ). option_map (sent_out (next_call c)) (at c.acquires l)) (same-equal i k e) ∙ ap (option_map (sent_out (next_call c))) t.acquire
      by_key false e = t.acquire

      none_changed : at (Rattle.proxy_model.specs.Keyed.changed_at c.acquires i (sent_out (next_call c))) k ≡ None
      none_changed = at-with_at c.acquires i k (option_map (sent_out (next_call c)) (at c.acquires i)) ∙ by_key (same i k) refl
  sent_so now (Some (ForAsk a)) c t = with_asks _ c (called_so (next_call c) a.ticket c.asks t.asks) t
  sent_so now (Some (ForGroup lease ticket)) c t = with_asks _ c (grouped_so (next_call c) lease c.asks t.asks) t
  sent_so now (Some (ToOpen o)) c t = t
  sent_so now (Some (ForStream s)) c t = by (watches_due.next_job c.watches (Some s)).1
    where
      by : (j : Option StreamJob) → StepSo (stream_job j (watching.with_watches c (watches_due.next_job c.watches (Some s)).0))
      by None = t
      by (Some (stream.Close number)) = t
      by (Some (stream.Open number range start)) = t

  pub work_so : (now : ℕ) (c : Core) → CoreSo c → StepSo (on_work now c)
  unfolding on_work
  work_so now c t = sent_so now (first_job c) c t
