-- What all events but a sending do to requests and acquires: no request comes to stand at a call that is out, and each acquire that is out was
-- out before.
use Rattle.std.proofs.Common.{◌≡◌, ℕ, ◌+◌, ◌==◌, nat_le, Bool, true, false, not, cond, ◌&&◌, ◌||◌, List, [], ◌∷◌, map, Option, None, Some, is_some, Ok, Err, refl}
use Rattle.etcd_types.specs.declared.answer.Answer.{Answer}
use Rattle.etcd_types.specs.declared.answer.Answer.TheVariants.{Done, Refused}
use Rattle.etcd_types.specs.declared.answer.Body.{Body}
use Rattle.etcd_types.specs.declared.answer.Body.TheVariants as body
use Rattle.etcd_types.specs.declared.answer.Refusal.{Refusal}
use Rattle.etcd_types.specs.declared.record.Header.{Header}
use Rattle.etcd_types.specs.declared.record.Kv.{Kv}
use Rattle.etcd_types.specs.declared.request.Request.{Request}
use Rattle.etcd_types.specs.declared.request.Request.TheVariants as request
use Rattle.etcd_types.specs.declared.watch.WatchItem.{WatchItem}
use Rattle.etcd_types.specs.declared.watch.WatchItem.TheVariants as item
use Rattle.proxy_model.specs.declared.lease.Entry.{Entry}
use Rattle.proxy_model.specs.declared.lease.Phase.{Phase}
use Rattle.proxy_model.specs.declared.lease.Phase.TheVariants.{Held, Writing, Leaving}
use Rattle.proxy_model.specs.declared.ownership.Claim.{Claim}
use Rattle.proxy_model.specs.declared.ownership.Claim.TheVariants.{Acquired, OwnedBy}
use Rattle.proxy_model.specs.Acquire.{claimed}
use Rattle.proxy_model.specs.Keyed.{Keyed, at, with_at}
use Rattle.proxy_model.specs.Limits.{capped}
use Rattle.proxy_model.specs.Unwrapped.{Unwrapped, item_without}
use Rattle.wait_model.specs.declared.sending.Sending.TheVariants as sending
use Rattle.wait_model.specs.declared.wait.Settled.{Settled}
use Rattle.wait_model.specs.declared.wait.Settled.TheVariants as settled
use Rattle.wait_model.specs.Edits.{without}
use Rattle.wait_model.specs.Endings as endings
use Rattle.wait_model.specs.GuardedAnswers.{Ending}
use Rattle.read_model.specs.declared.acquire.Acquire.{Acquire}
use Rattle.read_model.specs.declared.asked.Asked.{Asked}
use Rattle.read_model.specs.declared.asked.Stage.{Stage}
use Rattle.read_model.specs.declared.asked.Stage.TheVariants as stage
use Rattle.read_model.specs.declared.asked.Verdict.{Verdict}
use Rattle.read_model.specs.declared.asked.Verdict.TheVariants as verdict
use Rattle.read_model.specs.Acquires.{read_asked, acquires_at, told, acquire_gone, acquire_done, AfterAcquire, done_by, acquire_refused, is_to_be_held, answered_acquire, acquire_answered, lost_once, acquire_lost}
use Rattle.read_model.specs.PlainRead.{ask_key, shown, called, acquirable, held_turn, read_turn, decision, begun_under, in_stage, decided_ground, decided_ask}
use Rattle.read_model.specs.Release.{ask_stands, released_ground, released_ask, released_from}
use Rattle.read_model.specs.SessionEnd.{is_due, dropped, over, session_over}
use Rattle.read_model.specs.State.{Reads, Moment, Ground, ground_of, on}
use Rattle.read_model.specs.TakingOff.{forgotten_all, falls, taken_off}
use Rattle.read_model.specs.WriteAnswers.{settled_ask, ending, answered_by, wait_answered}
use Rattle.watch_model.specs.Lookups.{stream_at, watch_at, is_begun}
use Rattle.watch_model.specs.State.{Stream, Watch, Broadcasts}
use Rattle.watch_model.specs.Takes as watches
use Rattle.core_model.specs.declared.out_call.CallKind.{CallKind}
use Rattle.core_model.specs.declared.out_call.OutCall.{OutCall}
use Rattle.core_model.specs.declared.out_call.OutJob.{OutJob}
use Rattle.core_model.specs.declared.out_call.OutJob.TheVariants as job
use Rattle.core_model.specs.Asking.{asked_at, is_leased_read, read_by, read_is_asked, held_body, if_live, call_stage, call_is_asked, answered_or_called, leased_ask, taken_in, request_asked, refused_or_taken, on_ask}
use Rattle.core_model.specs.ClockWork.{times_out, timed_out_ask, begun, clock_work}
use Rattle.core_model.specs.Ends.{with_caller, member_failed, stale_once, stales_limit, said, is_stale_reply, ask_done, ask_answered, lost_ask, lost_job, lost_call, acquire_if, reads_if, answered_job, or_lost, heard_call, answered_call, call_gone, answer_of, on_answer, loss_of, on_lost}
use Rattle.core_model.specs.Ends.{is_keepalive as answers_keepalive}
use Rattle.core_model.specs.Groups.{keeps, is_out_stage, waits_next, is_out_for, group_since, joining, group_ended}
use Rattle.core_model.specs.Heard.{heard, header_taken}
use Rattle.core_model.specs.Kinds.{is_read, is_body_of, writes_keys}
use Rattle.core_model.specs.LeasingStream.{leasing_ticked, leasing_cut, is_readable, leasing_message, message_if_sent, item_header, leasing_item}
use Rattle.core_model.specs.LeasingStream as leasing
use Rattle.core_model.specs.Lookups.{leases, is_known, moment, reads_of, with_reads, has_ticket, ask_at, calls_as, out_at}
use Rattle.core_model.specs.Refusals.{refusal_of}
use Rattle.core_model.specs.Sessions.{without_session, seat_is_over, deadline_passed, seat_ticked, seat_calls, granted_by, grant_failed, keep_failed, kept, kept_by}
use Rattle.core_model.specs.State.{Opening, Core}
use Rattle.core_model.specs.Step.{ticked, on_tick, opening_at, client_item, item_of, on_item, client_cut, cut_of, on_cut}
use Rattle.core_model.specs.Stepped.{Stepped}
use Rattle.core_model.specs.Takes.{item_taken, taken, on_take, watcher_left, left, on_leave}
use Rattle.core_model.specs.Takes as takes
use Rattle.core_model.specs.Watching.{stream_message, stream_item, taken_item}
use Rattle.core_model.specs.Watching as watching
use Rattle.core_laws.proofs.Steps.Comes.{by_test}
use Rattle.keep_laws.proofs.Rows.{All, all_mapped, all_filtered, all_pushed}

-- it doesn't stand at a call of its own that is out
abbrev pub is_uncalled : Stage → Bool
is_uncalled (stage.Calling (sending.Out n)) = false
is_uncalled _ = true

-- of each request, and of the acquires by key: what comes to stand by itself doesn't touch it
pub record Lasts (P : Asked → Type 0) (K : Keyed Acquire → Type 0) : Type 0 where
  pub uncalled : (y : Asked) → is_uncalled y.stage ≡ true → P y
  pub gone : (xs : Keyed Acquire) (k : List ℕ) → K xs → K (with_at xs k None)
  pub due : (xs : Keyed Acquire) (k : List ℕ) (x : Acquire) → is_due x.sending ≡ true → K xs → K (with_at xs k (Some x))
  pub less : (xs : Keyed Acquire) (p : List ℕ → Bool) → K xs → K (without p xs)

turned_uncalled : (h : Header) (step : ℕ) (o : Option Entry) (claimed : Bool) (under : Option ℕ) → is_uncalled (read_turn h step o claimed under).stage ≡ true
turned_uncalled h step None true under = refl
turned_uncalled h step None false None = refl
turned_uncalled h step None false (Some n) = refl
turned_uncalled h step (Some x) claimed under = by x.phase
  where
    by : (p : Phase) → is_uncalled (held_turn h step x.kv p) ≡ true
    by Held = refl
    by (Writing revoked) = refl
    by (Leaving sent) = refl

joining_uncalled : (step : ℕ) (o : Option ℕ) → is_uncalled (joining step o) ≡ true
joining_uncalled step None = refl
joining_uncalled step (Some since) = refl

call_uncalled : (q : Request) (c : Core) → is_uncalled (call_stage q c) ≡ true
call_uncalled (request.KeepAlive lease) c = by_test (λ (s : Stage). is_uncalled s ≡ true) (is_out_for lease c.out) (stage.Grouped None) (joining c.own.waits.step (group_since lease c.asks)) (λ t. refl) (λ t. joining_uncalled c.own.waits.step (group_since lease c.asks))
call_uncalled (request.Range ask) c = refl
call_uncalled (request.Put ask) c = refl
call_uncalled (request.Delete ask) c = refl
call_uncalled (request.Txn t) c = refl
call_uncalled (request.Compact revision physical) c = refl
call_uncalled (request.Grant ttl lease) c = refl
call_uncalled (request.Revoke lease) c = refl
call_uncalled (request.TimeToLive lease keys) c = refl
call_uncalled request.Leases c = refl
call_uncalled (request.Watch ask) c = refl

lost_uncalled : (members step : ℕ) (a : Asked) → is_uncalled (lost_once members step a).stage ≡ true
lost_uncalled members step a = by_test (λ (s : Stage). is_uncalled s ≡ true) (nat_le members (capped (a.losses + 1))) (stage.Replied verdict.Lost) (called step) (λ e. refl) (λ e. refl)

stale_uncalled : (members step : ℕ) (a : Asked) → is_uncalled (stale_once members step a).stage ≡ true
stale_uncalled members step a = by_test (λ (s : Stage). is_uncalled s ≡ true) (nat_le (stales_limit members) (capped (a.stales + 1))) (stage.Replied verdict.Stale) (called step) (λ e. refl) (λ e. refl)

-- ---- what holds of requests and acquires lasts

module _ (P : Asked → Type 0) (K : Keyed Acquire → Type 0) (l : Lasts P K) where
  abbrev ReadsSo : Reads → Type 0
  ReadsSo r = All P r.asks × K r.acquires

  abbrev pub CoreSo : Core → Type 0
  CoreSo c = All P c.asks × K c.acquires

  abbrev pub StepSo : Stepped → Type 0
  StepSo s = CoreSo s.core

  one_of : (b : Bool) (x y : Asked) → is_uncalled y.stage ≡ true → P x → P (cond b y x)
  one_of true x y u t = l.uncalled y u
  one_of false x y u t = t

  each_of : (f : Asked → Asked) (b : Asked → Bool) (xs : List Asked) → ((x : Asked) → is_uncalled (f x).stage ≡ true) → All P xs → All P (map (λ x. cond (b x) (f x) x) xs)
  each_of f b xs u t = all_mapped P P (λ x. cond (b x) (f x) x) (λ x h. one_of (b x) x (f x) (u x) h) xs t

  -- releases

  decided : (m : Moment) (g : Ground) (a : Asked) → K g.acquires → K (decided_ground m g a).acquires
  decided m g a k = by (decision m g (ask_key a)).under
    where
      by : (o : Option ℕ) → K (begun_under a.ticket (ask_key a) o g).acquires
      by None = k
      by (Some n) = l.due g.acquires (ask_key a) _ refl k

  released_ask_so : (again : Bool) (m : Moment) (g : Ground) (x : Asked) → P x → P (released_ask again m g x)
  released_ask_so again m g x t =
      by_test P (ask_stands g x) x (cond again (decided_ask m g x) (in_stage (called g.own.waits.step) x)) (λ e. t)
      (λ e. by_test P again (decided_ask m g x) (in_stage (called g.own.waits.step) x) (λ f. l.uncalled (decided_ask m g x) (turned_uncalled m.header g.own.waits.step (at g.own.entries (ask_key x)) (is_some (at g.acquires (ask_key x))) (acquirable m g.own (ask_key x)))) (λ f. l.uncalled (in_stage (called g.own.waits.step) x) refl))

  released_ground_so : (again : Bool) (m : Moment) (g : Ground) (x : Asked) → K g.acquires → K (released_ground again m g x).acquires
  released_ground_so again m g x k = by_test (λ (h : Ground). K h.acquires) (ask_stands g x || not again) g (decided_ground m g x) (λ e. k) (λ e. decided m g x k)

  released_so : (again : Bool) (m : Moment) (g : Ground) (xs : List Asked) → All P xs → K g.acquires → All P (released_from again m g xs).asks × K (released_from again m g xs).ground.acquires
  unfolding released_from
  released_so again m g [] t k = (tt, k)
  released_so again m g (x ∷ xs) t k =
      let rest = released_so again m (released_ground again m g x) xs t.1 (released_ground_so again m g x k) in
      ((released_ask_so again m g x t.0, rest.0), rest.1)

  over_so : (m : Moment) (r : Reads) → ReadsSo r → ReadsSo (session_over m r)
  over_so m r h = released_so false m (over (ground_of r)) r.asks h.0 (l.less r.acquires _ h.1)

  taken_off_so : (m : Moment) (p : Asked → Bool) (xs : List Asked) (r : Reads) → All P xs → K r.acquires → ReadsSo (taken_off m p xs r)
  taken_off_so m p xs r t k = released_so false m (dropped (falls p r) (record (ground_of r) { own = forgotten_all p r.asks r.own })) xs t (l.less r.acquires (falls p r) k)

  -- the clock's work

  ended_so : (now : ℕ) (c : Core) → CoreSo c → CoreSo (without_session now c)
  ended_so now c h = over_so _ (reads_of (record c { seat = None })) h

  pub clock_so : (now : ℕ) (c : Core) → CoreSo c → CoreSo (clock_work now c)
  unfolding clock_work
  clock_so now c h =
      let d = deadline_passed now (begun c) in
      let t = by_test CoreSo (seat_is_over c.seat now) (without_session now (begun c)) (begun c) (λ e. ended_so now (begun c) h) (λ e. h) in
      taken_off_so (moment d now) (times_out now) (map (timed_out_ask now) d.asks) (reads_of d) (each_of (in_stage (stage.Replied verdict.TimedOut)) (times_out now) d.asks (λ x. refl) t.0) t.1

  -- an acquire's answer and loss

  told_so : (k : List ℕ) (h : Header) (kv : Option Kv) (xs : List Asked) → All P xs → All P (map (told k (shown h kv)) xs)
  told_so k h kv xs t = each_of (in_stage (shown h kv)) (acquires_at k) xs (λ x. refl) t

  claim_so : (m : Moment) (k : List ℕ) (held : Bool) (h : Header) (c : Claim) (r : Reads) → ReadsSo r → ReadsSo (acquire_done m k held h c r)
  claim_so m k held h (Acquired create kv) r t = released_so held m _ _ (told_so k h kv r.asks t.0) (l.gone r.acquires k t.1)
  claim_so m k held h (OwnedBy kv owner) r t = released_so false m _ _ (told_so k h kv r.asks t.0) (l.gone r.acquires k t.1)

  abbrev AfterSo : Option AfterAcquire → Type 0
  AfterSo None = Unit {0}
  AfterSo (Some x) = ReadsSo x.reads

  claimed_so : (m : Moment) (k : List ℕ) (held : Bool) (h : Header) (o : Option Claim) (r : Reads) → ReadsSo r → AfterSo (done_by m k held h o r)
  claimed_so m k held h None r t = tt
  claimed_so m k held h (Some c) r t = claim_so m k held h c r t

  refused_so : (m : Moment) (k : List ℕ) (ends : Bool) (r : Reads) → ReadsSo r → ReadsSo (acquire_refused m k ends r).reads
  refused_so m k ends r t =
      by_test (λ (x : AfterAcquire). ReadsSo x.reads) ends _ _ (λ e. over_so m (on (acquire_gone k (ground_of r)) r.asks) (t.0, l.gone r.acquires k t.1)) (λ e. released_so false m _ r.asks t.0 (l.gone r.acquires k t.1))

  acquire_so : (m : Moment) (k : List ℕ) (o : Option Acquire) (a : Answer) (r : Reads) → ReadsSo r → AfterSo (answered_acquire m k o a r)
  acquire_so m k None a r t = t
  acquire_so m k (Some c) (Done reply) r t = claimed_so m k (is_to_be_held m k c r) reply.header (claimed r.own.waits.prefix k reply) r t
  acquire_so m k (Some c) (Refused x) r t = refused_so m k _ r t

  acquire_lost_so : (members : ℕ) (m : Moment) (k : List ℕ) (r : Reads) → ReadsSo r → ReadsSo (acquire_lost members m k r)
  acquire_lost_so members m k r t =
      released_so false m _ _ (each_of (lost_once members r.own.waits.step) (acquires_at k) r.asks (lost_uncalled members r.own.waits.step) t.0) (l.gone r.acquires k t.1)

  -- a write's

  settled_so : (s : Settled) (xs : List Asked) → All P xs → All P (map (settled_ask s) xs)
  settled_so (settled.Reply ticket a) xs t = each_of (in_stage (stage.Replied (verdict.Said a))) (λ x. x.ticket == ticket) xs (λ x. refl) t
  settled_so (settled.Failed ticket) xs t = each_of (in_stage (stage.Replied verdict.Lost)) (λ x. x.ticket == ticket) xs (λ x. refl) t
  settled_so settled.Nothing xs t = all_mapped P P (settled_ask settled.Nothing) (λ x h. h) xs t

  abbrev ReadsIf : Option Reads → Type 0
  ReadsIf None = Unit {0}
  ReadsIf (Some r) = ReadsSo r

  ending_so : (m : Moment) (o : Option Ending) (r : Reads) → ReadsSo r → ReadsIf (answered_by m o r)
  ending_so m None r t = tt
  ending_so m (Some x) r t = released_so true m (ground_of (ending x r)) (ending x r).asks (settled_so x.settled r.asks t.0) t.1

  -- a session's, a request's own, a group's

  abbrev IfSo : Option Core → Type 0
  IfSo None = Unit {0}
  IfSo (Some c) = CoreSo c

  kept_so : (now : ℕ) (o : OutCall) (ttl : ℕ) (c : Core) → CoreSo c → CoreSo (kept now o ttl c)
  kept_so now o ttl c t = by_test CoreSo (ttl == 0) (without_session now c) _ (λ e. ended_so now c t) (λ e. t)

  renewed_so : (now : ℕ) (o : OutCall) (b : Body) (c : Core) → CoreSo c → IfSo (kept_by now o b c)
  renewed_so now o (body.KeepAlive lease ttl) c t = by_test CoreSo (seat_calls o.call c.seat) (kept now o ttl c) c (λ e. kept_so now o ttl c t) (λ e. t)
  renewed_so now o (body.Range count more kvs) c t = tt
  renewed_so now o (body.Put prev) c t = tt
  renewed_so now o (body.Delete deleted prevs) c t = tt
  renewed_so now o (body.Txn' succeeded n bodies) c t = tt
  renewed_so now o body.Compact c t = tt
  renewed_so now o (body.Grant lease ttl) c t = tt
  renewed_so now o body.Revoke c t = tt
  renewed_so now o (body.TimeToLive lease ttl granted keys) c t = tt
  renewed_so now o (body.Leases leases) c t = tt

  granted_so : (o : OutCall) (b : Body) (c : Core) → CoreSo c → IfSo (granted_by o b c)
  granted_so o (body.Grant lease ttl) c t = by_test CoreSo (seat_calls o.call c.seat) _ c (λ e. t) (λ e. t)
  granted_so o (body.Range count more kvs) c t = tt
  granted_so o (body.Put prev) c t = tt
  granted_so o (body.Delete deleted prevs) c t = tt
  granted_so o (body.Txn' succeeded n bodies) c t = tt
  granted_so o body.Compact c t = tt
  granted_so o (body.KeepAlive lease ttl) c t = tt
  granted_so o body.Revoke c t = tt
  granted_so o (body.TimeToLive lease ttl granted keys) c t = tt
  granted_so o (body.Leases leases) c t = tt

  grant_failed_so : (o : OutCall) (c : Core) → CoreSo c → CoreSo (grant_failed o c)
  grant_failed_so o c t = by_test CoreSo (seat_calls o.call c.seat) _ c (λ e. t) (λ e. t)

  keep_failed_so : (o : OutCall) (c : Core) → CoreSo c → CoreSo (keep_failed o c)
  keep_failed_so o c t = by_test CoreSo (seat_calls o.call c.seat) _ c (λ e. t) (λ e. t)

  ask_so : (k : CallKind) (o : OutCall) (a : Answer) (c : Core) → CoreSo c → IfSo (ask_answered k o a c)
  ask_so k o (Refused r) c t = (each_of (said (Refused r)) (calls_as o.call) c.asks (λ x. refl) t.0, t.1)
  ask_so k o (Done reply) c t =
      by_test IfSo (is_body_of k reply.body) (Some (ask_done k o reply c)) None
      (λ e. by_test CoreSo (is_stale_reply k o reply) (with_caller o.call (stale_once c.members.count c.own.waits.step) (member_failed o c)) (with_caller o.call (said (Done reply)) c)
      (λ s. (each_of (stale_once c.members.count c.own.waits.step) (calls_as o.call) c.asks (stale_uncalled c.members.count c.own.waits.step) t.0, t.1)) (λ s. (each_of (said (Done reply)) (calls_as o.call) c.asks (λ x. refl) t.0, t.1)))
      (λ e. tt)

  group_so : (step call lease : ℕ) (v : Verdict) (xs : List Asked) → All P xs → All P (map (group_ended step call lease v) xs)
  group_so step call lease v xs t =
      all_mapped P P (group_ended step call lease v)
      (λ x h. by_test P (is_out_stage call x.stage) (in_stage (stage.Replied v) x) _ (λ e. l.uncalled (in_stage (stage.Replied v) x) refl) (λ e. one_of (keeps lease x.request && waits_next x.stage) x (in_stage (stage.Grouped (Some (sending.Due step))) x) refl h))
      xs t

  -- all that a call can be for

  lost_ask_uncalled : (k : CallKind) (o : OutCall) (c : Core) (a : Asked) → is_uncalled (lost_ask k o c a).stage ≡ true
  lost_ask_uncalled k o c a = by_test (λ (x : Asked). is_uncalled x.stage ≡ true) (is_read k) (lost_once c.members.count c.own.waits.step a) (in_stage (stage.Replied verdict.Lost) a) (λ e. lost_uncalled c.members.count c.own.waits.step a) (λ e. refl)

  lost_job_so : (now : ℕ) (o : OutCall) (j : OutJob) (c : Core) → CoreSo c → CoreSo (lost_job now o j c)
  lost_job_so now o (job.Grant lease) c t = grant_failed_so o c t
  lost_job_so now o (job.Keep lease) c t = keep_failed_so o c t
  lost_job_so now o (job.Acquire k) c t = acquire_lost_so c.members.count (moment c now) k (reads_of c) t
  lost_job_so now o job.Wait c t = released_so false (moment c now) _ _ (settled_so (endings.lost o.call c.own).settled c.asks t.0) t.1
  lost_job_so now o (job.Ask k) c t = (each_of (lost_ask k o c) (calls_as o.call) c.asks (lost_ask_uncalled k o c) t.0, t.1)
  lost_job_so now o (job.Group lease) c t = (group_so c.own.waits.step o.call lease verdict.Lost c.asks t.0, t.1)

  lost_call_so : (now : ℕ) (o : OutCall) (c : Core) → CoreSo c → CoreSo (lost_call now o c)
  lost_call_so now o c t = lost_job_so now o o.job (member_failed o c) t

  job_so : (now : ℕ) (o : OutCall) (j : OutJob) (a : Answer) (c : Core) → CoreSo c → IfSo (answered_job now o j a c)
  job_so now o (job.Grant lease) (Done reply) c t = granted_so o reply.body c t
  job_so now o (job.Grant lease) (Refused r) c t = grant_failed_so o c t
  job_so now o (job.Keep lease) (Done reply) c t = renewed_so now o reply.body c t
  job_so now o (job.Keep lease) (Refused r) c t = keep_failed_so o c t
  job_so now o (job.Acquire k) a c t = by (acquire_answered (moment c now) k a (reads_of c)) (acquire_so (moment c now) k (at c.acquires k) a (reads_of c) t)
    where
      by : (q : Option AfterAcquire) → AfterSo q → IfSo (acquire_if c q)
      by None h = tt
      by (Some x) h = h
  job_so now o job.Wait a c t = by (wait_answered (moment c now) o.call a (reads_of c)) (ending_so (moment c now) _ (reads_of c) t)
    where
      by : (q : Option Reads) → ReadsIf q → IfSo (reads_if c q)
      by None h = tt
      by (Some r) h = h
  job_so now o (job.Ask k) a c t = ask_so k o a c t
  job_so now o (job.Group lease) a c t = by_test IfSo (answers_keepalive a) _ None (λ e. (group_so c.own.waits.step o.call lease (verdict.Said a) c.asks t.0, t.1)) (λ e. tt)

  heard_so : (now : ℕ) (o : OutCall) (q : Option Answer) (c : Core) → CoreSo c → CoreSo (heard_call now o q c)
  heard_so now o None c t = lost_call_so now o c t
  heard_so now o (Some a) c t = by (answered_job now o o.job a c) (job_so now o o.job a c t)
    where
      by : (q : Option Core) → IfSo q → CoreSo (or_lost now o c q)
      by None h = lost_call_so now o c t
      by (Some d) h = h

  pub answered_so : (now call : ℕ) (a : Answer) (c : Core) → CoreSo c → StepSo (on_answer now call a c)
  unfolding on_answer
  answered_so now call a c t = by (out_at call c.out)
    where
      by_answer : (o : OutCall) (x : Answer) → CoreSo (answered_call now o x (call_gone call c))
      by_answer o (Done reply) = heard_so now o (heard c.settings.namespace (Done reply)) (header_taken reply.header (call_gone call c)) t
      by_answer o (Refused r) = heard_so now o (heard c.settings.namespace (Refused r)) (call_gone call c) t

      by : (q : Option OutCall) → StepSo (answer_of now call a q c)
      by None = t
      by (Some o) = by_answer o a

  pub lost_so : (now call : ℕ) (c : Core) → CoreSo c → StepSo (on_lost now call c)
  unfolding on_lost
  lost_so now call c t = by (out_at call c.out)
    where
      by : (q : Option OutCall) → StepSo (loss_of now call q c)
      by None = t
      by (Some o) = lost_call_so now o (call_gone call c) t

  -- a request is asked

  call_asked_so : (a : Asked) (c : Core) → CoreSo c → StepSo (call_is_asked a c)
  call_asked_so a c t = (all_pushed P (in_stage (call_stage a.request c) a) c.asks t.0 (l.uncalled _ (call_uncalled a.request c)), t.1)

  read_so : (m : Moment) (a : Asked) (c : Core) → CoreSo c → StepSo (read_is_asked m a c)
  read_so m a c t = by (decided_ask m (ground_of (reads_of c)) a).stage
    where
      pushed : CoreSo (with_reads c (read_asked m a (reads_of c)))
      pushed = (
        all_pushed P (decided_ask m (ground_of (reads_of c)) a) c.asks t.0 (l.uncalled _ (turned_uncalled m.header c.own.waits.step (at c.own.entries (ask_key a)) (is_some (at c.acquires (ask_key a))) (acquirable m c.own (ask_key a)))),
        decided m (ground_of (reads_of c)) a t.1,
      )

      by : (s : Stage) → StepSo (read_by s c (with_reads c (read_asked m a (reads_of c))))
      by (stage.Replied v) = t
      by (stage.Calling s) = pushed
      by stage.Acquiring = pushed
      by stage.Joined = pushed
      by stage.Behind = pushed
      by stage.Writes = pushed
      by (stage.Grouped s) = pushed

  taken_so : (m : Moment) (a : Asked) (c : Core) → CoreSo c → StepSo (taken_in m a c)
  taken_so m a c t =
      by_test StepSo (leases c) (leased_ask m a c) (call_is_asked a c)
      (λ e. by_test StepSo (is_leased_read c.own.waits.prefix a.request) (read_is_asked m a c) _ (λ f. read_so m a c t)
      (λ f. by_test StepSo (writes_keys a.request) _ _ (λ w. (all_pushed P (in_stage stage.Writes a) c.asks t.0 (l.uncalled _ refl), t.1)) (λ w. by_body (if_live m.session (held_body c.own.entries a.request)))))
      (λ e. call_asked_so a c t)
    where
      by_body : (b : Option Body) → StepSo (answered_or_called b a c)
      by_body None = call_asked_so a c t
      by_body (Some b) = t

  request_so : (q : Request) (m : Moment) (a : Asked) (c : Core) → CoreSo c → StepSo (request_asked q m a c)
  request_so (request.Watch ask) m a c t = t
  request_so (request.KeepAlive lease) m a c t = taken_so m a c t
  request_so (request.Range ask) m a c t = taken_so m a c t
  request_so (request.Put ask) m a c t = taken_so m a c t
  request_so (request.Delete ask) m a c t = taken_so m a c t
  request_so (request.Txn x) m a c t = taken_so m a c t
  request_so (request.Compact revision physical) m a c t = taken_so m a c t
  request_so (request.Grant ttl lease) m a c t = taken_so m a c t
  request_so (request.Revoke lease) m a c t = taken_so m a c t
  request_so (request.TimeToLive lease keys) m a c t = taken_so m a c t
  request_so request.Leases m a c t = taken_so m a c t

  pub asked_so : (now ticket : ℕ) (q : Request) (word : ℕ) (c : Core) → CoreSo c → StepSo (on_ask now ticket q word c)
  unfolding on_ask
  asked_so now ticket q word c t = by_test StepSo (is_known ticket c) _ _ (λ e. t) (λ e. by (refusal_of c.own.waits.prefix q))
    where
      by : (o : Option Refusal) → StepSo (refused_or_taken o (moment c now) (asked_at now ticket q word) c)
      by None = request_so q (moment c now) (asked_at now ticket q word) c t
      by (Some r) = t

  -- a request is taken or left

  pub take_so : (ticket : ℕ) (c : Core) → CoreSo c → StepSo (on_take ticket c)
  unfolding on_take
  take_so ticket c t = by_ask (ask_at ticket c.asks)
    where
      by_pair : (x : Broadcasts × Option WatchItem) → StepSo (taken_item c x)
      by_pair (b, None) = t
      by_pair (b, Some x) = t

      by_watch : (w : Option Watch) → StepSo (item_taken ticket w c)
      by_watch None = t
      by_watch (Some w) = by_pair (watches.taken_from c.watches c.header w w.queue)

      by_stage : (s : Stage) → StepSo (takes.taken_from ticket s c)
      by_stage (stage.Replied v) = (all_filtered P (λ a. not (has_ticket ticket a)) c.asks t.0, t.1)
      by_stage (stage.Calling s) = t
      by_stage stage.Acquiring = t
      by_stage stage.Joined = t
      by_stage stage.Behind = t
      by_stage stage.Writes = t
      by_stage (stage.Grouped s) = t

      by_ask : (o : Option Asked) → StepSo (taken ticket o c)
      by_ask None = by_watch (watch_at ticket c.watches.watches)
      by_ask (Some a) = by_stage a.stage

  pub leave_so : (now ticket : ℕ) (c : Core) → CoreSo c → StepSo (on_leave now ticket c)
  unfolding on_leave
  leave_so now ticket c t = by_ask (ask_at ticket c.asks)
    where
      by_watch : (w : Option Watch) → StepSo (watcher_left ticket w c)
      by_watch None = t
      by_watch (Some w) = t

      by_ask : (o : Option Asked) → StepSo (left now ticket o c)
      by_ask None = by_watch (watch_at ticket c.watches.watches)
      by_ask (Some a) = taken_off_so (moment c now) (has_ticket ticket) _ (reads_of c) (all_filtered P (λ b. not (has_ticket ticket b)) c.asks t.0) t.1

  -- ticks, messages and cuts

  pub tick_so : (now word : ℕ) (c : Core) → CoreSo c → StepSo (on_tick now word c)
  unfolding on_tick
  tick_so now word c t = by_test CoreSo (leases c) (ticked now word c) c (λ e. by c.leasing) (λ e. t)
    where
      by : (o : Option Opening) → CoreSo (leasing_ticked o (record c { seat = Some (seat_ticked word c.settings.ttl c.own.waits.step now c.seat) }))
      by None = t
      by (Some o) = t

  message_so : (now : ℕ) (o : Opening) (x : WatchItem) (c : Core) → CoreSo c → CoreSo (leasing_message now o x c)
  message_so now o (item.Created d) c t = by_test CoreSo o.stream.created c _ (λ e. t) (λ e. t)
  message_so now o (item.Events d es) c t = by_test CoreSo (is_readable o.stream es) _ (leasing_cut o c) (λ e. t) (λ e. t)
  message_so now o (item.Canceled d compaction) c t = by_test CoreSo (compaction == 0) (leasing_cut o c) _ (λ e. t) (λ e. t)

  leasing_so : (now : ℕ) (o : Opening) (x : WatchItem) (c : Core) → CoreSo c → CoreSo (leasing_item now o x c)
  leasing_so now o x c t = by_due o.due
    where
      by_text : (u : Unwrapped WatchItem) (d : Core) → CoreSo d → CoreSo (leasing.unwrapped_message now o u d)
      by_text (Ok y) d h = message_so now o y d h
      by_text (Err foreign) d h = h

      by_due : (s : Option ℕ) → CoreSo (message_if_sent now o s x (header_taken (item_header x) c))
      by_due None = by_text (item_without c.settings.namespace x) (header_taken (item_header x) c) t
      by_due (Some since) = t

  stream_so : (s : Stream) (x : WatchItem) (c : Core) → CoreSo c → CoreSo (stream_item s x c)
  stream_so s x c t = by_test CoreSo (is_begun s.phase) _ (header_taken (item_header x) c) (λ e. by_text (item_without c.settings.namespace x)) (λ e. t)
    where
      by_message : (y : WatchItem) → CoreSo (stream_message s y (header_taken (item_header x) c))
      by_message (item.Created d) = t
      by_message (item.Events d es) = t
      by_message (item.Canceled d compaction) = t

      by_text : (u : Unwrapped WatchItem) → CoreSo (watching.unwrapped_message s u (header_taken (item_header x) c))
      by_text (Ok y) = by_message y
      by_text (Err foreign) = t

  pub item_so : (now number : ℕ) (x : WatchItem) (c : Core) → CoreSo c → StepSo (on_item now number x c)
  unfolding on_item
  item_so now number x c t = by_opening (opening_at number c.leasing)
    where
      by_stream : (s : Option Stream) → StepSo (client_item number x s c)
      by_stream None = t
      by_stream (Some s) = stream_so s x c t

      by_opening : (o : Option Opening) → StepSo (item_of now number x o c)
      by_opening None = by_stream (stream_at number c.watches.streams)
      by_opening (Some o) = leasing_so now o x c t

  pub cut_so : (number : ℕ) (c : Core) → CoreSo c → StepSo (on_cut number c)
  unfolding on_cut
  cut_so number c t = by_opening (opening_at number c.leasing)
    where
      by_stream : (s : Option Stream) → StepSo (client_cut number s c)
      by_stream None = t
      by_stream (Some s) = t

      by_opening : (o : Option Opening) → StepSo (cut_of number o c)
      by_opening None = by_stream (stream_at number c.watches.streams)
      by_opening (Some o) = t
