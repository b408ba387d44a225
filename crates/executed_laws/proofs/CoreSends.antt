-- What each event makes of the writes whose calls are out, but for the sending of a job.
use Rattle.std.proofs.Common.{◌≡◌, ℕ, ◌==◌, Bool, true, false, not, cond, ◌&&◌, ◌||◌, List, [], ◌∷◌, ◌++◌, map, Option, None, Some, Ok, Err, refl, sym, ◌∙◌, subst}
use Rattle.etcd_types.specs.declared.answer.Answer.{Answer}
use Rattle.etcd_types.specs.declared.answer.Answer.TheVariants.{Done, Refused}
use Rattle.etcd_types.specs.declared.answer.Body.{Body}
use Rattle.etcd_types.specs.declared.answer.Body.TheVariants as body
use Rattle.etcd_types.specs.declared.answer.Refusal.{Refusal}
use Rattle.etcd_types.specs.declared.code.TheConstants.{NOT_FOUND}
use Rattle.etcd_types.specs.declared.record.Header.{Header}
use Rattle.etcd_types.specs.declared.request.Request.{Request}
use Rattle.etcd_types.specs.declared.request.Request.TheVariants as request
use Rattle.etcd_types.specs.declared.watch.WatchItem.{WatchItem}
use Rattle.etcd_types.specs.declared.watch.WatchItem.TheVariants as item
use Rattle.proxy_model.specs.declared.ownership.Claim.{Claim}
use Rattle.proxy_model.specs.declared.ownership.Claim.TheVariants.{Acquired, OwnedBy}
use Rattle.proxy_model.specs.Acquire.{claimed}
use Rattle.proxy_model.specs.Keyed.{at}
use Rattle.proxy_model.specs.Unwrapped.{Unwrapped, item_without}
use Rattle.wait_model.specs.declared.write.Write.{Write}
use Rattle.wait_model.specs.Asked.{new_write}
use Rattle.wait_model.specs.Endings.{answered, forgotten}
use Rattle.wait_model.specs.GuardedAnswers.{Ending}
use Rattle.wait_model.specs.LeasingStream.{resynced}
use Rattle.wait_model.specs.Phases.{is_session}
use Rattle.wait_model.specs.State.{Ownership}
use Rattle.read_model.specs.declared.acquire.Acquire.{Acquire}
use Rattle.read_model.specs.declared.asked.Asked.{Asked}
use Rattle.read_model.specs.declared.asked.Stage.{Stage}
use Rattle.read_model.specs.declared.asked.Stage.TheVariants as stage
use Rattle.read_model.specs.Acquires.{read_asked, AfterAcquire, acquire_gone, acquire_done, done_by, acquire_refused, answered_acquire, is_to_be_held, acquire_answered}
use Rattle.read_model.specs.PlainRead.{decided_ground, decided_ask}
use Rattle.read_model.specs.Release.{ask_stands, released_ground, released_from, released}
use Rattle.read_model.specs.SessionEnd.{session_over}
use Rattle.read_model.specs.State.{Reads, Moment, Ground, ground_of, on}
use Rattle.read_model.specs.TakingOff.{is_writes, forgotten_all, taken_off}
use Rattle.read_model.specs.WriteAnswers.{answered_by, wait_answered}
use Rattle.watch_model.specs.Lookups.{stream_at, watch_at, is_begun}
use Rattle.watch_model.specs.State.{Stream, Watch, Broadcasts}
use Rattle.watch_model.specs.Takes as watches
use Rattle.core_model.specs.declared.out_call.CallKind.{CallKind}
use Rattle.core_model.specs.declared.out_call.OutCall.{OutCall}
use Rattle.core_model.specs.declared.out_call.OutJob.{OutJob}
use Rattle.core_model.specs.declared.out_call.OutJob.TheVariants as job
use Rattle.core_model.specs.Asking.{asked_at, is_leased_read, read_by, read_is_asked, held_body, if_live, with_ask, call_stage, call_is_asked, write_is_asked, answered_or_called, leased_ask, taken_in, request_asked, refused_or_taken, on_ask}
use Rattle.core_model.specs.ClockWork.{begun, clock_work, times_out, timed_out_ask, writes_go_on, requests_timed_out}
use Rattle.core_model.specs.Ends.{with_caller, member_failed, stale_once, said, is_stale_reply, ask_done, ask_answered, lost_job, lost_call, acquire_if, reads_if, answered_job, or_lost, heard_call, answered_call, call_gone, answer_of, on_answer, loss_of, on_lost}
use Rattle.core_model.specs.Ends.{is_keepalive as answers_keepalive}
use Rattle.core_model.specs.Fits.{WritesOk}
use Rattle.core_model.specs.Heard.{heard, header_taken}
use Rattle.core_model.specs.Kinds.{is_body_of, writes_keys}
use Rattle.core_model.specs.LeasingStream.{leasing_ticked, leasing_cut, leasing_created, is_readable, leasing_message, message_if_sent, item_header, leasing_item}
use Rattle.core_model.specs.LeasingStream as leasing
use Rattle.core_model.specs.Lookups.{leases, is_known, moment, live_number, reads_of, with_reads, has_ticket, without_ask, ask_at, out_at}
use Rattle.core_model.specs.Refusals.{refusal_of}
use Rattle.core_model.specs.Sessions.{without_session, seat_is_over, deadline_passed, seat_ticked, seat_calls, granted_by, grant_failed, keep_failed, kept, kept_by}
use Rattle.core_model.specs.State.{Opening, Core}
use Rattle.core_model.specs.Step.{ticked, on_tick, opening_at, client_item, item_of, on_item, client_cut, cut_of, on_cut}
use Rattle.core_model.specs.Stepped.{Stepped}
use Rattle.core_model.specs.Takes.{has_left, item_taken, taken, on_take, watcher_left, left, on_leave}
use Rattle.core_model.specs.Takes as takes
use Rattle.core_model.specs.Watching.{stream_message, stream_item, taken_item}
use Rattle.core_model.specs.Watching as watching
use Rattle.core_laws.proofs.Steps.Comes.{by_test}
use Rattle.core_fits.specs.Fits.{EachOf}
use Rattle.core_fits.proofs.Eachs.{each_pushed}
use Rattle.core_fits.proofs.ReadRows.{decided_writes}
use Rattle.executed_laws.proofs.OwnSends.{Lasting, OwnSo, EndSo, passed_sent, answered_sent, lost_sent, forgotten_sent, ended_sent, gone_sent, message_sent}

module _ (P : Write → Type 0) (l : Lasting P) where
  abbrev ReadsSo : Reads → Type 0
  ReadsSo r = OwnSo P r.own

  abbrev pub CoreSo : Core → Type 0
  CoreSo c = OwnSo P c.own

  abbrev pub StepSo : Stepped → Type 0
  StepSo s = CoreSo s.core

  abbrev Ok' : Core → Type 0
  Ok' c = WritesOk c.own.waits.writes c.own.waits.out

  either : (b : Bool) (x y : Core) → CoreSo x → CoreSo y → CoreSo (cond b x y)
  either b x y h i = by_test CoreSo b x y (λ t. h) (λ t. i)

  pub go_on : (c : Core) → CoreSo c → CoreSo (writes_go_on c)
  go_on c h = passed_sent P l c.own.waits.step [] c.own.entries c.own.waits.spoiled c.own.waits.writes h

  -- releases

  released_writes : (again : Bool) (m : Moment) (g : Ground) (xs : List Asked) → (released_from again m g xs).ground.own.waits.writes ≡ g.own.waits.writes
  unfolding released_from
  released_writes again m g [] = refl
  released_writes again m g (a ∷ rest) =
      released_writes again m (released_ground again m g a) rest
      ∙ by_test (λ (h : Ground). h.own.waits.writes ≡ g.own.waits.writes) (ask_stands g a || not again) g (decided_ground m g a) (λ t. refl) (λ t. decided_writes m g a)

  released_so : (again : Bool) (m : Moment) (r : Reads) → ReadsSo r → ReadsSo (released again m r)
  released_so again m r h = subst (EachOf P) (sym (released_writes again m (ground_of r) r.asks)) h

  over_so : (m : Moment) (r : Reads) → ReadsSo r → ReadsSo (session_over m r)
  over_so m r h = subst (EachOf P) (sym (released_writes false m _ r.asks)) (ended_sent P l r.own.waits.writes h)

  forgotten_so : (p : Asked → Bool) (xs : List Asked) (own : Ownership) → OwnSo P own → OwnSo P (forgotten_all p xs own)
  forgotten_so p [] own h = h
  forgotten_so p (a ∷ rest) own h =
      forgotten_so p rest (cond (p a && is_writes a.stage) (forgotten a.ticket own) own) (by_test (OwnSo P) (p a && is_writes a.stage) (forgotten a.ticket own) own (λ t. forgotten_sent P l a.ticket own h) (λ t. h))

  taken_off_so : (m : Moment) (p : Asked → Bool) (xs : List Asked) (r : Reads) → ReadsSo r → ReadsSo (taken_off m p xs r)
  taken_off_so m p xs r h = subst (EachOf P) (sym (released_writes false m _ xs)) (forgotten_so p r.asks r.own h)

  -- the clock's work

  ends_so : (now : ℕ) (c : Core) → CoreSo c → CoreSo (without_session now c)
  ends_so now c h = over_so (moment (record c { seat = None }) now) (reads_of (record c { seat = None })) h

  pub clock_so : (now : ℕ) (c : Core) → CoreSo c → CoreSo (clock_work now c)
  unfolding clock_work
  clock_so now c h =
      let d = deadline_passed now (begun c) in
      let k : CoreSo d = either (seat_is_over c.seat now) (without_session now (begun c)) (begun c) (ends_so now (begun c) h) h in
      go_on (requests_timed_out now d) (taken_off_so (moment d now) (times_out now) (map (timed_out_ask now) d.asks) (reads_of d) k)

  -- acquires

  abbrev AfterSo : Option AfterAcquire → Type 0
  AfterSo None = Unit {0}
  AfterSo (Some x) = ReadsSo x.reads

  claim_so : (m : Moment) (k : List ℕ) (held : Bool) (h : Header) (c : Claim) (r : Reads) → ReadsSo r → ReadsSo (acquire_done m k held h c r)
  claim_so m k held h (Acquired create kv) r t = released_so held m _ t
  claim_so m k held h (OwnedBy kv owner) r t = released_so false m _ t

  claimed_so : (m : Moment) (k : List ℕ) (held : Bool) (h : Header) (o : Option Claim) (r : Reads) → ReadsSo r → AfterSo (done_by m k held h o r)
  claimed_so m k held h None r t = tt
  claimed_so m k held h (Some c) r t = claim_so m k held h c r t

  refused_so : (m : Moment) (k : List ℕ) (ends : Bool) (r : Reads) → ReadsSo r → ReadsSo (acquire_refused m k ends r).reads
  refused_so m k true r t = over_so m (on (acquire_gone k (ground_of r)) r.asks) t
  refused_so m k false r t = released_so false m (on (acquire_gone k (ground_of r)) r.asks) t

  acquire_so : (m : Moment) (k : List ℕ) (o : Option Acquire) (a : Answer) (r : Reads) → ReadsSo r → AfterSo (answered_acquire m k o a r)
  acquire_so m k None a r t = t
  acquire_so m k (Some c) (Done reply) r t = claimed_so m k (is_to_be_held m k c r) reply.header (claimed r.own.waits.prefix k reply) r t
  acquire_so m k (Some c) (Refused x) r t = refused_so m k (is_session m.session c.session && (x.code == NOT_FOUND)) r t

  -- writes

  abbrev ReadsIf : Option Reads → Type 0
  ReadsIf None = Unit {0}
  ReadsIf (Some r) = ReadsSo r

  ending_so : (m : Moment) (o : Option Ending) (r : Reads) → EndSo P o → ReadsIf (answered_by m o r)
  ending_so m None r h = tt
  ending_so m (Some x) r h = released_so true m _ h

  -- all that a call can be for

  abbrev IfSo : Option Core → Type 0
  IfSo None = Unit {0}
  IfSo (Some c) = CoreSo c

  kept_so : (now : ℕ) (o : OutCall) (b : Body) (c : Core) → CoreSo c → IfSo (kept_by now o b c)
  kept_so now o (body.KeepAlive lease ttl) c t = either (seat_calls o.call c.seat) (kept now o ttl c) c (by_test CoreSo (ttl == 0) (without_session now c) _ (λ e. ends_so now c t) (λ e. t)) t
  kept_so now o (body.Range count more kvs) c t = tt
  kept_so now o (body.Put prev) c t = tt
  kept_so now o (body.Delete deleted prevs) c t = tt
  kept_so now o (body.Txn' succeeded n bodies) c t = tt
  kept_so now o body.Compact c t = tt
  kept_so now o (body.Grant lease ttl) c t = tt
  kept_so now o body.Revoke c t = tt
  kept_so now o (body.TimeToLive lease ttl granted keys) c t = tt
  kept_so now o (body.Leases leases) c t = tt

  granted_so : (o : OutCall) (b : Body) (c : Core) → CoreSo c → IfSo (granted_by o b c)
  granted_so o (body.Grant lease ttl) c t = by_test CoreSo (seat_calls o.call c.seat) _ c (λ e. t) (λ e. t)
  granted_so o (body.Range count more kvs) c t = tt
  granted_so o (body.Put prev) c t = tt
  granted_so o (body.Delete deleted prevs) c t = tt
  granted_so o (body.Txn' succeeded n bodies) c t = tt
  granted_so o body.Compact c t = tt
  granted_so o (body.KeepAlive lease ttl) c t = tt
  granted_so o body.Revoke c t = tt
  granted_so o (body.TimeToLive lease ttl granted keys) c t = tt
  granted_so o (body.Leases leases) c t = tt

  grant_fails_so : (o : OutCall) (c : Core) → CoreSo c → CoreSo (grant_failed o c)
  grant_fails_so o c t = by_test CoreSo (seat_calls o.call c.seat) _ c (λ e. t) (λ e. t)

  keep_fails_so : (o : OutCall) (c : Core) → CoreSo c → CoreSo (keep_failed o c)
  keep_fails_so o c t = by_test CoreSo (seat_calls o.call c.seat) _ c (λ e. t) (λ e. t)

  ask_so : (k : CallKind) (o : OutCall) (a : Answer) (c : Core) → CoreSo c → IfSo (ask_answered k o a c)
  ask_so k o (Done reply) c t =
      by_test IfSo (is_body_of k reply.body) (Some (ask_done k o reply c)) None
      (λ e. by_test CoreSo (is_stale_reply k o reply) (with_caller o.call (stale_once c.members.count c.own.waits.step) (member_failed o c)) (with_caller o.call (said (Done reply)) c) (λ u. t) (λ u. t)) (λ e. tt)
  ask_so k o (Refused r) c t = t

  lost_job_so : (now : ℕ) (o : OutCall) (j : OutJob) (c : Core) → Ok' c → CoreSo c → CoreSo (lost_job now o j c)
  lost_job_so now o (job.Grant lease) c ok t = grant_fails_so o c t
  lost_job_so now o (job.Keep lease) c ok t = keep_fails_so o c t
  lost_job_so now o (job.Acquire k) c ok t = subst (EachOf P) (sym (released_writes false (moment c now) _ _)) t
  lost_job_so now o job.Wait c ok t = subst (EachOf P) (sym (released_writes false (moment c now) _ _)) (lost_sent P l o.call c.own ok t)
  lost_job_so now o (job.Ask k) c ok t = t
  lost_job_so now o (job.Group lease) c ok t = t

  job_so : (now : ℕ) (o : OutCall) (j : OutJob) (a : Answer) (c : Core) → Ok' c → CoreSo c → IfSo (answered_job now o j a c)
  job_so now o (job.Grant lease) (Done reply) c ok t = granted_so o reply.body c t
  job_so now o (job.Grant lease) (Refused r) c ok t = grant_fails_so o c t
  job_so now o (job.Keep lease) (Done reply) c ok t = kept_so now o reply.body c t
  job_so now o (job.Keep lease) (Refused r) c ok t = keep_fails_so o c t
  job_so now o (job.Acquire k) a c ok t = by (acquire_answered (moment c now) k a (reads_of c)) (acquire_so (moment c now) k (at c.acquires k) a (reads_of c) t)
    where
      by : (q : Option AfterAcquire) → AfterSo q → IfSo (acquire_if c q)
      by None h = tt
      by (Some x) h = h
  job_so now o job.Wait a c ok t =
      by (wait_answered (moment c now) o.call a (reads_of c)) (ending_so (moment c now) (answered o.call a (moment c now).session now c.own) (reads_of c) (answered_sent P l o.call a (moment c now).session now c.own ok t))
    where
      by : (q : Option Reads) → ReadsIf q → IfSo (reads_if c q)
      by None h = tt
      by (Some r) h = h
  job_so now o (job.Ask k) a c ok t = ask_so k o a c t
  job_so now o (job.Group lease) a c ok t = by_test IfSo (answers_keepalive a) _ None (λ e. t) (λ e. tt)

  heard_so : (now : ℕ) (o : OutCall) (q : Option Answer) (c : Core) → Ok' c → CoreSo c → CoreSo (heard_call now o q c)
  heard_so now o None c ok t = lost_job_so now o o.job (member_failed o c) ok t
  heard_so now o (Some a) c ok t = by (answered_job now o o.job a c) (job_so now o o.job a c ok t)
    where
      by : (q : Option Core) → IfSo q → CoreSo (or_lost now o c q)
      by None h = lost_job_so now o o.job (member_failed o c) ok t
      by (Some d) h = h

  pub answered_so : (now call : ℕ) (a : Answer) (c : Core) → Ok' c → CoreSo c → StepSo (on_answer now call a c)
  unfolding on_answer
  answered_so now call a c ok t = by (out_at call c.out)
    where
      by_answer : (o : OutCall) (x : Answer) → CoreSo (answered_call now o x (call_gone call c))
      by_answer o (Done reply) = heard_so now o (heard c.settings.namespace (Done reply)) (header_taken reply.header (call_gone call c)) ok t
      by_answer o (Refused r) = heard_so now o (heard c.settings.namespace (Refused r)) (call_gone call c) ok t

      by : (q : Option OutCall) → StepSo (answer_of now call a q c)
      by None = t
      by (Some o) = go_on (answered_call now o a (call_gone call c)) (by_answer o a)

  pub lost_so : (now call : ℕ) (c : Core) → Ok' c → CoreSo c → StepSo (on_lost now call c)
  unfolding on_lost
  lost_so now call c ok t = by (out_at call c.out)
    where
      by : (q : Option OutCall) → StepSo (loss_of now call q c)
      by None = t
      by (Some o) = go_on (lost_call now o (call_gone call c)) (lost_job_so now o o.job (member_failed o (call_gone call c)) ok t)

  -- a request is asked

  call_asked_so : (a : Asked) (c : Core) → CoreSo c → StepSo (call_is_asked a c)
  call_asked_so a c t = go_on (with_ask (call_stage a.request c) a c) t

  read_so : (m : Moment) (a : Asked) (c : Core) → CoreSo c → StepSo (read_is_asked m a c)
  read_so m a c t = by (decided_ask m (ground_of (reads_of c)) a).stage
    where
      after : CoreSo (writes_go_on (with_reads c (read_asked m a (reads_of c))))
      after = go_on (with_reads c (read_asked m a (reads_of c))) (subst (EachOf P) (sym (decided_writes m (ground_of (reads_of c)) a)) t)

      by : (s : Stage) → StepSo (read_by s c (with_reads c (read_asked m a (reads_of c))))
      by (stage.Replied v) = t
      by (stage.Calling s) = after
      by stage.Acquiring = after
      by stage.Joined = after
      by stage.Behind = after
      by stage.Writes = after
      by (stage.Grouped s) = after

  write_so : (a : Asked) (c : Core) → CoreSo c → StepSo (write_is_asked a c)
  write_so a c t =
      passed_sent P l c.own.waits.step [] c.own.entries c.own.waits.spoiled (c.own.waits.writes ++ new_write a.ticket a.request ∷ []) (each_pushed P (new_write a.ticket a.request) c.own.waits.writes t (l.fresh a.ticket a.request))

  taken_so : (m : Moment) (a : Asked) (c : Core) → CoreSo c → StepSo (taken_in m a c)
  taken_so m a c t =
      by_test StepSo (leases c) (leased_ask m a c) (call_is_asked a c)
      (λ e. by_test StepSo (is_leased_read c.own.waits.prefix a.request) (read_is_asked m a c) _ (λ f. read_so m a c t)
      (λ f. by_test StepSo (writes_keys a.request) _ _ (λ w. write_so a c t) (λ w. by_body (if_live m.session (held_body c.own.entries a.request)))))
      (λ e. call_asked_so a c t)
    where
      by_body : (b : Option Body) → StepSo (answered_or_called b a c)
      by_body None = call_asked_so a c t
      by_body (Some b) = t

  request_so : (q : Request) (m : Moment) (a : Asked) (c : Core) → CoreSo c → StepSo (request_asked q m a c)
  request_so (request.Watch ask) m a c t = t
  request_so (request.KeepAlive lease) m a c t = taken_so m a c t
  request_so (request.Range ask) m a c t = taken_so m a c t
  request_so (request.Put ask) m a c t = taken_so m a c t
  request_so (request.Delete ask) m a c t = taken_so m a c t
  request_so (request.Txn x) m a c t = taken_so m a c t
  request_so (request.Compact revision physical) m a c t = taken_so m a c t
  request_so (request.Grant ttl lease) m a c t = taken_so m a c t
  request_so (request.Revoke lease) m a c t = taken_so m a c t
  request_so (request.TimeToLive lease keys) m a c t = taken_so m a c t
  request_so request.Leases m a c t = taken_so m a c t

  pub asked_so : (now ticket : ℕ) (q : Request) (word : ℕ) (c : Core) → CoreSo c → StepSo (on_ask now ticket q word c)
  unfolding on_ask
  asked_so now ticket q word c t = by_test StepSo (is_known ticket c) _ _ (λ e. t) (λ e. by (refusal_of c.own.waits.prefix q))
    where
      by : (o : Option Refusal) → StepSo (refused_or_taken o (moment c now) (asked_at now ticket q word) c)
      by None = request_so q (moment c now) (asked_at now ticket q word) c t
      by (Some r) = t

  -- a request is taken or left

  pub take_so : (ticket : ℕ) (c : Core) → CoreSo c → StepSo (on_take ticket c)
  unfolding on_take
  take_so ticket c t = by_ask (ask_at ticket c.asks)
    where
      by_pair : (x : Broadcasts × Option WatchItem) → StepSo (taken_item c x)
      by_pair (b, None) = t
      by_pair (b, Some x) = t

      by_watch : (w : Option Watch) → StepSo (item_taken ticket w c)
      by_watch None = t
      by_watch (Some w) = by_pair (watches.taken_from c.watches c.header w w.queue)

      by_stage : (s : Stage) → StepSo (takes.taken_from ticket s c)
      by_stage (stage.Replied v) = t
      by_stage (stage.Calling s) = t
      by_stage stage.Acquiring = t
      by_stage stage.Joined = t
      by_stage stage.Behind = t
      by_stage stage.Writes = t
      by_stage (stage.Grouped s) = t

      by_ask : (o : Option Asked) → StepSo (taken ticket o c)
      by_ask None = by_watch (watch_at ticket c.watches.watches)
      by_ask (Some a) = by_stage a.stage

  pub leave_so : (now ticket : ℕ) (c : Core) → CoreSo c → StepSo (on_leave now ticket c)
  unfolding on_leave
  leave_so now ticket c t = by_ask (ask_at ticket c.asks)
    where
      by_watch : (w : Option Watch) → StepSo (watcher_left ticket w c)
      by_watch None = t
      by_watch (Some w) = t

      by_ask : (o : Option Asked) → StepSo (left now ticket o c)
      by_ask None = by_watch (watch_at ticket c.watches.watches)
      by_ask (Some a) = go_on (has_left now ticket c) (taken_off_so (moment c now) (has_ticket ticket) (without_ask ticket c.asks) (reads_of c) t)

  -- ticks, messages and cuts

  pub tick_so : (now word : ℕ) (c : Core) → CoreSo c → StepSo (on_tick now word c)
  unfolding on_tick
  tick_so now word c t = by_test CoreSo (leases c) (ticked now word c) c (λ e. by c.leasing) (λ e. t)
    where
      by : (o : Option Opening) → CoreSo (leasing_ticked o (record c { seat = Some (seat_ticked word c.settings.ttl c.own.waits.step now c.seat) }))
      by None = t
      by (Some o) = t

  created_so : (o : Opening) (x : Header) (c : Core) → CoreSo c → CoreSo (leasing_created o x c)
  created_so o x c t = by_test CoreSo o.stream.created c _ (λ e. t) (λ e. by_test (OwnSo P) (o.stream.next == 0) (resynced c.own) c.own (λ u. gone_sent P l (λ k. true) c.own.waits.writes t) (λ u. t))

  message_so : (now : ℕ) (o : Opening) (x : WatchItem) (c : Core) → CoreSo c → CoreSo (leasing_message now o x c)
  message_so now o (item.Created d) c t = created_so o d c t
  message_so now o (item.Events d es) c t = by_test CoreSo (is_readable o.stream es) _ (leasing_cut o c) (λ e. message_sent P l (live_number c.seat now) es c.own t) (λ e. t)
  message_so now o (item.Canceled d compaction) c t = by_test CoreSo (compaction == 0) (leasing_cut o c) _ (λ e. t) (λ e. t)

  leasing_so : (now : ℕ) (o : Opening) (x : WatchItem) (c : Core) → CoreSo c → CoreSo (leasing_item now o x c)
  leasing_so now o x c t = by_due o.due
    where
      by_text : (u : Unwrapped WatchItem) (d : Core) → CoreSo d → CoreSo (leasing.unwrapped_message now o u d)
      by_text (Ok y) d h = message_so now o y d h
      by_text (Err foreign) d h = h

      by_due : (s : Option ℕ) → CoreSo (message_if_sent now o s x (header_taken (item_header x) c))
      by_due None = by_text (item_without c.settings.namespace x) (header_taken (item_header x) c) t
      by_due (Some since) = t

  stream_so : (s : Stream) (x : WatchItem) (c : Core) → CoreSo c → CoreSo (stream_item s x c)
  stream_so s x c t = by_test CoreSo (is_begun s.phase) _ (header_taken (item_header x) c) (λ e. by_text (item_without c.settings.namespace x)) (λ e. t)
    where
      by_message : (y : WatchItem) → CoreSo (stream_message s y (header_taken (item_header x) c))
      by_message (item.Created d) = t
      by_message (item.Events d es) = t
      by_message (item.Canceled d compaction) = t

      by_text : (u : Unwrapped WatchItem) → CoreSo (watching.unwrapped_message s u (header_taken (item_header x) c))
      by_text (Ok y) = by_message y
      by_text (Err foreign) = t

  pub item_so : (now number : ℕ) (x : WatchItem) (c : Core) → CoreSo c → StepSo (on_item now number x c)
  unfolding on_item
  item_so now number x c t = by_opening (opening_at number c.leasing)
    where
      by_stream : (s : Option Stream) → StepSo (client_item number x s c)
      by_stream None = t
      by_stream (Some s) = go_on (stream_item s x c) (stream_so s x c t)

      by_opening : (o : Option Opening) → StepSo (item_of now number x o c)
      by_opening None = by_stream (stream_at number c.watches.streams)
      by_opening (Some o) = go_on (leasing_item now o x c) (leasing_so now o x c t)

  pub cut_so : (number : ℕ) (c : Core) → CoreSo c → StepSo (on_cut number c)
  unfolding on_cut
  cut_so number c t = by_opening (opening_at number c.leasing)
    where
      by_stream : (s : Option Stream) → StepSo (client_cut number s c)
      by_stream None = t
      by_stream (Some s) = t

      by_opening : (o : Option Opening) → StepSo (cut_of number o c)
      by_opening None = by_stream (stream_at number c.watches.streams)
      by_opening (Some o) = t
