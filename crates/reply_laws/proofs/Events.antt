-- Events that make no reply ok: what holds of each request that isn't replied so, and held of each before, holds of each after it.
use Rattle.std.proofs.Common.{◌≡◌, ℕ, ◌+◌, ◌==◌, nat_le, Bool, true, false, not, cond, ◌&&◌, List, [], ◌∷◌, ◌++◌, map, Option, None, Some, refl, ap}
use Rattle.etcd_types.specs.declared.answer.Body.{Body}
use Rattle.etcd_types.specs.declared.answer.Refusal.{Refusal}
use Rattle.etcd_types.specs.declared.request.Request.{Request}
use Rattle.etcd_types.specs.declared.request.Request.TheVariants as request
use Rattle.proxy_model.specs.Limits.{capped}
use Rattle.wait_model.specs.declared.sending.Sending.TheVariants as sending
use Rattle.wait_model.specs.declared.wait.Settled.{Settled}
use Rattle.wait_model.specs.declared.wait.Settled.TheVariants as settled
use Rattle.wait_model.specs.declared.wait.WaitJob.{WaitJob}
use Rattle.wait_model.specs.declared.wait.WaitJob.TheVariants as wait
use Rattle.wait_model.specs.declared.write.Write.{Write}
use Rattle.wait_model.specs.Endings as endings
use Rattle.wait_model.specs.GuardedAnswers.{write_lost}
use Rattle.wait_model.specs.Sent.{JobSent, job_sent}
use Rattle.wait_model.specs.State.{Ownership}
use Rattle.wait_model.specs.Writes.{first_by, sends, asks, job_of}
use Rattle.read_model.specs.declared.asked.Asked.{Asked}
use Rattle.read_model.specs.declared.asked.Stage.{Stage}
use Rattle.read_model.specs.declared.asked.Stage.TheVariants as stage
use Rattle.read_model.specs.declared.asked.Verdict.TheVariants as verdict
use Rattle.read_model.specs.Acquires.{acquires_at, read_asked, lost_once, told_lost}
use Rattle.read_model.specs.PlainRead.{in_stage, called, decided_ask}
use Rattle.read_model.specs.Release.{ask_stands, released_ground, released_from}
use Rattle.read_model.specs.State.{Moment, Ground, ground_of}
use Rattle.read_model.specs.WriteAnswers.{settled_ask}
use Rattle.watch_model.specs.declared.stream.StreamJob.{StreamJob}
use Rattle.watch_model.specs.declared.stream.StreamJob.TheVariants as stream
use Rattle.watch_model.specs.Due.{next_job}
use Rattle.watch_model.specs.Lookups.{watch_at}
use Rattle.watch_model.specs.State.{Watch}
use Rattle.core_model.specs.declared.out_call.CallKind.{CallKind}
use Rattle.core_model.specs.declared.out_call.OutCall.{OutCall}
use Rattle.core_model.specs.declared.out_call.OutJob.{OutJob}
use Rattle.core_model.specs.declared.out_call.OutJob.TheVariants as job
use Rattle.core_model.specs.Asking.{asked_at, is_leased_read, read_by, read_is_asked, held_body, if_live, call_stage, call_is_asked, answered_or_called, leased_ask, taken_in, request_asked, refused_or_taken, on_ask}
use Rattle.core_model.specs.DueJobs.{DueJob, ForSession, ForWrites, ForAcquire, ForAsk, ForGroup, ToOpen, ForStream, first_job}
use Rattle.core_model.specs.Ends.{call_gone, lost_ask, lost_job, lost_call, member_failed, loss_of, on_lost}
use Rattle.core_model.specs.Groups.{keeps, is_out_stage, waits_next, is_due_stage, is_out_for, group_since, joining, group_sent, group_ended}
use Rattle.core_model.specs.Kinds.{is_read, writes_keys}
use Rattle.core_model.specs.Lookups.{leases, is_known, moment, reads_of, with_reads, has_ticket, ask_at, calls_as, out_at}
use Rattle.core_model.specs.Refusals.{refusal_of}
use Rattle.core_model.specs.Sending.{next_call, called_as, writes_sent, sent_by, on_work}
use Rattle.core_model.specs.Sessions.{without_session, seat_calls, grant_failed, keep_failed}
use Rattle.core_model.specs.State.{Core}
use Rattle.core_model.specs.Stepped.{Stepped}
use Rattle.core_model.specs.Takes.{watcher_left, left, on_leave}
use Rattle.core_model.specs.Watching.{with_watches, stream_job}
use Rattle.core_laws.proofs.Steps.Comes.{by_test}
use Rattle.keep_laws.proofs.Rows.{All, all_mapped, all_filtered, all_pushed, is_untold}

-- it isn't replied ok
abbrev pub is_unsaid : Stage → Bool
is_unsaid (stage.Replied v) = is_untold v
is_unsaid _ = true

-- it holds of each of those
abbrev pub OfUnsaid : (Asked → Type 0) → Type 0
OfUnsaid P = (y : Asked) → is_unsaid y.stage ≡ true → P y

pub unsaid_if : (P : Asked → Type 0) → OfUnsaid P → (b : Bool) (x y : Asked) → is_unsaid y.stage ≡ true → P x → P (cond b y x)
unsaid_if P u true x y s h = u y s
unsaid_if P u false x y s h = h

abbrev pub StepAll : (Asked → Type 0) → Stepped → Type 0
StepAll P s = All P s.core.asks

-- ---- a session that ends, a call that is lost

pub released_all : (P : Asked → Type 0) → OfUnsaid P → (m : Moment) (g : Ground) (xs : List Asked) → All P xs → All P (released_from false m g xs).asks
unfolding released_from
released_all P u m g [] t = tt
released_all P u m g (x ∷ xs) t = (
  by_test P (ask_stands g x) x (in_stage (called g.own.waits.step) x) (λ e. t.0) (λ e. u (in_stage (called g.own.waits.step) x) refl),
  released_all P u m (released_ground false m g x) xs t.1,
)

pub over_all : (P : Asked → Type 0) → OfUnsaid P → (now : ℕ) (c : Core) → All P c.asks → All P (without_session now c).asks
over_all P u now c t = released_all P u _ _ c.asks t

lost_unsaid : (members step : ℕ) (a : Asked) → is_unsaid (lost_once members step a).stage ≡ true
lost_unsaid members step a = by_test (λ (s : Stage). is_unsaid s ≡ true) (nat_le members (capped (a.losses + 1))) (stage.Replied verdict.Lost) (called step) (λ e. refl) (λ e. refl)

told_lost_all : (P : Asked → Type 0) → OfUnsaid P → (members step : ℕ) (k : List ℕ) (xs : List Asked) → All P xs → All P (map (told_lost members step k) xs)
told_lost_all P u members step k xs t = all_mapped P P (told_lost members step k) (λ x h. unsaid_if P u (acquires_at k x) x (lost_once members step x) (lost_unsaid members step x) h) xs t

lost_ask_unsaid : (k : CallKind) (o : OutCall) (c : Core) (a : Asked) → is_unsaid (lost_ask k o c a).stage ≡ true
lost_ask_unsaid k o c a = by_test (λ (x : Asked). is_unsaid x.stage ≡ true) (is_read k) (lost_once c.members.count c.own.waits.step a) (in_stage (stage.Replied verdict.Lost) a) (λ e. lost_unsaid c.members.count c.own.waits.step a) (λ e. refl)

group_lost_all : (P : Asked → Type 0) → OfUnsaid P → (step call lease : ℕ) (xs : List Asked) → All P xs → All P (map (group_ended step call lease verdict.Lost) xs)
group_lost_all P u step call lease xs t =
    all_mapped P P (group_ended step call lease verdict.Lost)
    (λ x h. by_test P (is_out_stage call x.stage) (in_stage (stage.Replied verdict.Lost) x) _ (λ e. u (in_stage (stage.Replied verdict.Lost) x) refl)
    (λ e. unsaid_if P u (keeps lease x.request && waits_next x.stage) x (in_stage (stage.Grouped (Some (sending.Due step))) x) refl h))
    xs t

-- what it settles isn't a reply
abbrev is_no_reply : Settled → Bool
is_no_reply (settled.Reply ticket a) = false
is_no_reply _ = true

write_lost_settles : (p : Write → Bool) (o : Option Write) (own : Ownership) → is_no_reply (write_lost p o own).settled ≡ true
write_lost_settles p None own = refl
write_lost_settles p (Some w) own = refl

lost_settles : (call : ℕ) (own : Ownership) → is_no_reply (endings.lost call own).settled ≡ true
unfolding endings.lost
lost_settles call own = by_job (job_of call own.waits.out)
  where
    by_job : (o : Option WaitJob) → is_no_reply (endings.lost_job call o (endings.without_out call own)).settled ≡ true
    by_job None = refl
    by_job (Some (wait.Rescind k create)) = refl
    by_job (Some (wait.Revoke k)) = write_lost_settles (asks call) (first_by (asks call) own.waits.writes) (endings.without_out call own)
    by_job (Some wait.Write) = write_lost_settles (sends call) (first_by (sends call) own.waits.writes) (endings.without_out call own)

settled_all : (P : Asked → Type 0) → OfUnsaid P → (s : Settled) (xs : List Asked) → is_no_reply s ≡ true → All P xs → All P (map (settled_ask s) xs)
settled_all P u (settled.Reply ticket a) xs n t = absurd (cc)
settled_all P u (settled.Failed ticket) xs n t = all_mapped P P (settled_ask (settled.Failed ticket)) (λ x h. unsaid_if P u (x.ticket == ticket) x (in_stage (stage.Replied verdict.Lost) x) refl h) xs t
settled_all P u settled.Nothing xs n t = all_mapped P P (settled_ask settled.Nothing) (λ x h. h) xs t

pub grant_failed_all : (P : Asked → Type 0) (o : OutCall) (c : Core) → All P c.asks → All P (grant_failed o c).asks
grant_failed_all P o c t = by_test (λ (d : Core). All P d.asks) (seat_calls o.call c.seat) _ c (λ e. t) (λ e. t)

pub keep_failed_all : (P : Asked → Type 0) (o : OutCall) (c : Core) → All P c.asks → All P (keep_failed o c).asks
keep_failed_all P o c t = by_test (λ (d : Core). All P d.asks) (seat_calls o.call c.seat) _ c (λ e. t) (λ e. t)

lost_job_all : (P : Asked → Type 0) → OfUnsaid P → (now : ℕ) (o : OutCall) (j : OutJob) (c : Core) → All P c.asks → All P (lost_job now o j c).asks
lost_job_all P u now o (job.Grant lease) c t = grant_failed_all P o c t
lost_job_all P u now o (job.Keep lease) c t = keep_failed_all P o c t
lost_job_all P u now o (job.Acquire k) c t = released_all P u _ _ _ (told_lost_all P u c.members.count c.own.waits.step k c.asks t)
lost_job_all P u now o job.Wait c t = released_all P u _ _ _ (settled_all P u (endings.lost o.call c.own).settled c.asks (lost_settles o.call c.own) t)
lost_job_all P u now o (job.Ask k) c t = all_mapped P P (λ a. cond (calls_as o.call a) (lost_ask k o c a) a) (λ x h. unsaid_if P u (calls_as o.call x) x (lost_ask k o c x) (lost_ask_unsaid k o c x) h) c.asks t
lost_job_all P u now o (job.Group lease) c t = group_lost_all P u c.own.waits.step o.call lease c.asks t

pub lost_call_all : (P : Asked → Type 0) → OfUnsaid P → (now : ℕ) (o : OutCall) (c : Core) → All P c.asks → All P (lost_call now o c).asks
lost_call_all P u now o c t = lost_job_all P u now o o.job (member_failed o c) t

pub lost_all : (P : Asked → Type 0) → OfUnsaid P → (now call : ℕ) (c : Core) → All P c.asks → StepAll P (on_lost now call c)
unfolding on_lost
lost_all P u now call c t = by_out (out_at call c.out)
  where
    by_out : (o : Option OutCall) → StepAll P (loss_of now call o c)
    by_out None = t
    by_out (Some o) = lost_call_all P u now o (call_gone call c) t

-- ---- a client leaves

pub leave_all : (P : Asked → Type 0) → OfUnsaid P → (now ticket : ℕ) (c : Core) → All P c.asks → StepAll P (on_leave now ticket c)
unfolding on_leave
leave_all P u now ticket c t = by_ask (ask_at ticket c.asks)
  where
    by_watch : (w : Option Watch) → StepAll P (watcher_left ticket w c)
    by_watch None = t
    by_watch (Some w) = t

    by_ask : (o : Option Asked) → StepAll P (left now ticket o c)
    by_ask None = by_watch (watch_at ticket c.watches.watches)
    by_ask (Some a) = released_all P u _ _ _ (all_filtered P (λ b. not (has_ticket ticket b)) c.asks t)

-- ---- what is due is sent

sent_all : (P : Asked → Type 0) → OfUnsaid P → (now : ℕ) (j : Option DueJob) (c : Core) → All P c.asks → StepAll P (sent_by now j c)
sent_all P u now None c t = t
sent_all P u now (Some (ForSession x)) c t = t
sent_all P u now (Some ForWrites) c t = by_job (job_sent (next_call c) c.own)
  where
    by_job : (x : Option JobSent) → StepAll P (writes_sent now x c)
    by_job None = t
    by_job (Some x) = t
sent_all P u now (Some (ForAcquire k x)) c t = t
sent_all P u now (Some (ForAsk a)) c t = all_mapped P P (called_as (next_call c) a.ticket) (λ x h. unsaid_if P u (has_ticket a.ticket x) x (in_stage (stage.Calling (sending.Out (next_call c))) x) refl h) c.asks t
sent_all P u now (Some (ForGroup lease ticket)) c t =
    all_mapped P P (group_sent (next_call c) lease) (λ x h. unsaid_if P u (keeps lease x.request && is_due_stage x.stage) x (in_stage (stage.Grouped (Some (sending.Out (next_call c)))) x) refl h) c.asks t
sent_all P u now (Some (ToOpen o)) c t = t
sent_all P u now (Some (ForStream x)) c t = by_job (next_job c.watches (Some x)).1
  where
    by_job : (o : Option StreamJob) → StepAll P (stream_job o (with_watches c (next_job c.watches (Some x)).0))
    by_job None = t
    by_job (Some (stream.Close number)) = t
    by_job (Some (stream.Open number range start)) = t

pub work_all : (P : Asked → Type 0) → OfUnsaid P → (now : ℕ) (c : Core) → All P c.asks → StepAll P (on_work now c)
unfolding on_work
work_all P u now c t = sent_all P u now (first_job c) c t

-- ---- a request is asked: one that is replied at once isn't kept

joining_unsaid : (step : ℕ) (o : Option ℕ) → is_unsaid (joining step o) ≡ true
joining_unsaid step None = refl
joining_unsaid step (Some since) = refl

call_unsaid : (q : Request) (c : Core) → is_unsaid (call_stage q c) ≡ true
call_unsaid (request.KeepAlive lease) c = by_test (λ (s : Stage). is_unsaid s ≡ true) (is_out_for lease c.out) (stage.Grouped None) (joining c.own.waits.step (group_since lease c.asks)) (λ t. refl) (λ t. joining_unsaid c.own.waits.step (group_since lease c.asks))
call_unsaid (request.Range ask) c = refl
call_unsaid (request.Put ask) c = refl
call_unsaid (request.Delete ask) c = refl
call_unsaid (request.Txn t) c = refl
call_unsaid (request.Compact revision physical) c = refl
call_unsaid (request.Grant ttl lease) c = refl
call_unsaid (request.Revoke lease) c = refl
call_unsaid (request.TimeToLive lease keys) c = refl
call_unsaid request.Leases c = refl
call_unsaid (request.Watch ask) c = refl

either : (P : Asked → Type 0) (b : Bool) (x y : Stepped) → StepAll P x → StepAll P y → StepAll P (cond b x y)
either P true x y f g = f
either P false x y f g = g

call_all : (P : Asked → Type 0) → OfUnsaid P → (a : Asked) (c : Core) → All P c.asks → StepAll P (call_is_asked a c)
call_all P u a c t = all_pushed P (in_stage (call_stage a.request c) a) c.asks t (u _ (call_unsaid a.request c))

read_all : (P : Asked → Type 0) → OfUnsaid P → (m : Moment) (a : Asked) (c : Core) → All P c.asks → StepAll P (read_is_asked m a c)
read_all P u m a c t = by_stage (decided_ask m (ground_of (reads_of c)) a).stage refl
  where
    pushed : is_unsaid (decided_ask m (ground_of (reads_of c)) a).stage ≡ true → All P (c.asks ++ decided_ask m (ground_of (reads_of c)) a ∷ [])
    pushed s = all_pushed P (decided_ask m (ground_of (reads_of c)) a) c.asks t (u (decided_ask m (ground_of (reads_of c)) a) s)

    by_stage : (s : Stage) → (decided_ask m (ground_of (reads_of c)) a).stage ≡ s → StepAll P (read_by s c (with_reads c (read_asked m a (reads_of c))))
    by_stage (stage.Replied v) e = t
    by_stage (stage.Calling s) e = pushed (ap is_unsaid e)
    by_stage stage.Acquiring e = pushed (ap is_unsaid e)
    by_stage stage.Joined e = pushed (ap is_unsaid e)
    by_stage stage.Behind e = pushed (ap is_unsaid e)
    by_stage stage.Writes e = pushed (ap is_unsaid e)
    by_stage (stage.Grouped s) e = pushed (ap is_unsaid e)

taken_all : (P : Asked → Type 0) → OfUnsaid P → (m : Moment) (a : Asked) (c : Core) → All P c.asks → StepAll P (taken_in m a c)
taken_all P u m a c t =
    either P (leases c) (leased_ask m a c) (call_is_asked a c)
    (either P (is_leased_read c.own.waits.prefix a.request) (read_is_asked m a c) _ (read_all P u m a c t)
    (either P (writes_keys a.request) _ _ (all_pushed P (in_stage stage.Writes a) c.asks t (u _ refl)) (by_body (if_live m.session (held_body c.own.entries a.request)))))
    (call_all P u a c t)
  where
    by_body : (b : Option Body) → StepAll P (answered_or_called b a c)
    by_body None = call_all P u a c t
    by_body (Some b) = t

request_all : (P : Asked → Type 0) → OfUnsaid P → (q : Request) (m : Moment) (a : Asked) (c : Core) → All P c.asks → StepAll P (request_asked q m a c)
request_all P u (request.Watch ask) m a c t = t
request_all P u (request.KeepAlive lease) m a c t = taken_all P u m a c t
request_all P u (request.Range ask) m a c t = taken_all P u m a c t
request_all P u (request.Put ask) m a c t = taken_all P u m a c t
request_all P u (request.Delete ask) m a c t = taken_all P u m a c t
request_all P u (request.Txn x) m a c t = taken_all P u m a c t
request_all P u (request.Compact revision physical) m a c t = taken_all P u m a c t
request_all P u (request.Grant ttl lease) m a c t = taken_all P u m a c t
request_all P u (request.Revoke lease) m a c t = taken_all P u m a c t
request_all P u (request.TimeToLive lease keys) m a c t = taken_all P u m a c t
request_all P u request.Leases m a c t = taken_all P u m a c t

pub ask_all : (P : Asked → Type 0) → OfUnsaid P → (now ticket : ℕ) (q : Request) (word : ℕ) (c : Core) → All P c.asks → StepAll P (on_ask now ticket q word c)
unfolding on_ask
ask_all P u now ticket q word c t = either P (is_known ticket c) _ _ t (by_refusal (refusal_of c.own.waits.prefix q))
  where
    by_refusal : (o : Option Refusal) → StepAll P (refused_or_taken o (moment c now) (asked_at now ticket q word) c)
    by_refusal None = request_all P u q (moment c now) (asked_at now ticket q word) c t
    by_refusal (Some r) = t
