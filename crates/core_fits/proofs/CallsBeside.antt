-- What the clock's work, answers, losses and new requests make of the session and its call, of the leasing stream and of the cached header.
use Rattle.std.proofs.Common.{ℕ, ◌==◌, Bool, true, false, cond, List, Option, None, Some, sym, ◌∙◌}
use Rattle.etcd_types.specs.declared.answer.Answer.{Answer}
use Rattle.etcd_types.specs.declared.answer.Answer.TheVariants.{Done, Refused}
use Rattle.etcd_types.specs.declared.answer.Body.{Body}
use Rattle.etcd_types.specs.declared.answer.Body.TheVariants as body
use Rattle.etcd_types.specs.declared.answer.Refusal.{Refusal}
use Rattle.etcd_types.specs.declared.request.Request.{Request}
use Rattle.etcd_types.specs.declared.request.Request.TheVariants as request
use Rattle.read_model.specs.declared.asked.Asked.{Asked}
use Rattle.read_model.specs.declared.asked.Stage.{Stage}
use Rattle.read_model.specs.declared.asked.Stage.TheVariants as stage
use Rattle.read_model.specs.Acquires.{AfterAcquire, acquire_answered, read_asked}
use Rattle.read_model.specs.PlainRead.{decided_ask}
use Rattle.read_model.specs.State.{Reads, Moment, ground_of}
use Rattle.read_model.specs.WriteAnswers.{wait_answered}
use Rattle.core_model.specs.declared.out_call.CallKind.{CallKind}
use Rattle.core_model.specs.declared.out_call.OutCall.{OutCall}
use Rattle.core_model.specs.declared.out_call.OutJob.{OutJob}
use Rattle.core_model.specs.declared.out_call.OutJob.TheVariants as job
use Rattle.core_model.specs.Asking.{asked_at, is_leased_read, read_by, held_body, if_live, answered_or_called, leased_ask, taken_in, request_asked, refused_or_taken, on_ask}
use Rattle.core_model.specs.ClockWork.{begun, clock_work}
use Rattle.core_model.specs.Ends.{call_gone, is_stale_reply, ask_done, ask_answered, member_failed, acquire_if, reads_if, is_keepalive, answered_job, lost_job, lost_call, or_lost, heard_call, answered_call, answer_of, loss_of, with_caller, stale_once, said}
use Rattle.core_model.specs.Heard.{heard, header_taken}
use Rattle.core_model.specs.Kinds.{is_body_of, writes_keys}
use Rattle.core_model.specs.Lookups.{leases, is_known, moment, reads_of, with_reads}
use Rattle.core_model.specs.Refusals.{refusal_of}
use Rattle.core_model.specs.Sessions.{seat_is_over, without_session, seat_calls, granted_by, grant_failed, keep_failed, kept, kept_by}
use Rattle.core_model.specs.State.{Core}
use Rattle.core_model.specs.Stepped.{Stepped}
use Rattle.core_laws.proofs.Steps.Comes.{by_test}
use Rattle.core_fits.specs.Fits.{IsOfLeasing, HeaderIsSeen}
use Rattle.core_fits.proofs.Headers.{failed_seen, taken_seen}
use Rattle.core_fits.proofs.Seats.{SeatFits, granted_fits, renewed_fits, free_fits, gone_fits}

abbrev pub Beside : List ℕ → Core → Type 0
Beside p c = SeatFits c.seat c.out × (IsOfLeasing p c.leasing × HeaderIsSeen c)

abbrev BesideIf : List ℕ → Option Core → Type 0
BesideIf p None = Unit {0}
BesideIf p (Some c) = Beside p c

abbrev pub StepBeside : List ℕ → Stepped → Type 0
StepBeside p s = Beside p s.core

pub either : (p : List ℕ) (b : Bool) (x y : Core) → Beside p x → Beside p y → Beside p (cond b x y)
either p b x y h i = by_test (Beside p) b x y (λ t. h) (λ t. i)

-- ---- the clock's work

over_beside : (p : List ℕ) (now : ℕ) (c : Core) → Beside p c → Beside p (without_session now c)
over_beside p now c h = ((tt, tt), h.1)

pub clock_beside : (p : List ℕ) (now : ℕ) (c : Core) → Beside p c → Beside p (clock_work now c)
unfolding clock_work
clock_beside p now c h = either p (seat_is_over c.seat now) (without_session now (begun c)) (begun c) (over_beside p now (begun c) h) h

-- ---- calls that end

failed_beside : (p : List ℕ) (o : OutCall) (c : Core) → Beside p c → Beside p (member_failed o c)
failed_beside p o c h = (h.0, (h.1.0, h.1.1 ∙ sym (failed_seen c.members o.member)))

acquire_beside : (p : List ℕ) (c : Core) (o : Option AfterAcquire) → Beside p c → BesideIf p (acquire_if c o)
acquire_beside p c None t = tt
acquire_beside p c (Some x) t = by_end x.ends
  where
    by_end : (b : Bool) → Beside p (with_reads (cond b (record c { seat = None }) c) x.reads)
    by_end true = ((tt, tt), t.1)
    by_end false = t

reads_beside : (p : List ℕ) (c : Core) (o : Option Reads) → Beside p c → BesideIf p (reads_if c o)
reads_beside p c None t = tt
reads_beside p c (Some r) t = t

kept_beside : (p : List ℕ) (now : ℕ) (o : OutCall) (b : Body) (c : Core) → Beside p c → BesideIf p (kept_by now o b c)
kept_beside p now o (body.KeepAlive lease ttl) c t =
    either p (seat_calls o.call c.seat) (kept now o ttl c) c (by_test (Beside p) (ttl == 0) (without_session now c) _ (λ e. over_beside p now c t) (λ e. (renewed_fits o.sent_at ttl c.seat c.out t.0, t.1))) t
kept_beside p now o (body.Range count more kvs) c t = tt
kept_beside p now o (body.Put prev) c t = tt
kept_beside p now o (body.Delete deleted prevs) c t = tt
kept_beside p now o (body.Txn' succeeded n bodies) c t = tt
kept_beside p now o body.Compact c t = tt
kept_beside p now o (body.Grant lease ttl) c t = tt
kept_beside p now o body.Revoke c t = tt
kept_beside p now o (body.TimeToLive lease ttl granted keys) c t = tt
kept_beside p now o (body.Leases leases) c t = tt

granted_beside : (p : List ℕ) (o : OutCall) (b : Body) (c : Core) → Beside p c → BesideIf p (granted_by o b c)
granted_beside p o (body.Grant lease ttl) c t = by_test (Beside p) (seat_calls o.call c.seat) _ c (λ e. (granted_fits o.sent_at ttl c.seat c.out t.0, t.1)) (λ e. t)
granted_beside p o (body.Range count more kvs) c t = tt
granted_beside p o (body.Put prev) c t = tt
granted_beside p o (body.Delete deleted prevs) c t = tt
granted_beside p o (body.Txn' succeeded n bodies) c t = tt
granted_beside p o body.Compact c t = tt
granted_beside p o (body.KeepAlive lease ttl) c t = tt
granted_beside p o body.Revoke c t = tt
granted_beside p o (body.TimeToLive lease ttl granted keys) c t = tt
granted_beside p o (body.Leases leases) c t = tt

grant_fails : (p : List ℕ) (o : OutCall) (c : Core) → Beside p c → Beside p (grant_failed o c)
grant_fails p o c t = by_test (Beside p) (seat_calls o.call c.seat) _ c (λ e. ((tt, tt), t.1)) (λ e. t)

keep_fails : (p : List ℕ) (o : OutCall) (c : Core) → Beside p c → Beside p (keep_failed o c)
keep_fails p o c t = by_test (Beside p) (seat_calls o.call c.seat) _ c (λ e. (free_fits c.seat c.out t.0, t.1)) (λ e. t)

ask_beside : (p : List ℕ) (k : CallKind) (o : OutCall) (a : Answer) (c : Core) → Beside p c → BesideIf p (ask_answered k o a c)
ask_beside p k o (Done reply) c t =
    by_test (BesideIf p) (is_body_of k reply.body) (Some (ask_done k o reply c)) None
    (λ e. either p (is_stale_reply k o reply) (with_caller o.call (stale_once c.members.count c.own.waits.step) (member_failed o c)) (with_caller o.call (said (Done reply)) c) (failed_beside p o c t) t) (λ e. tt)
ask_beside p k o (Refused r) c t = t

lost_job_beside : (p : List ℕ) (now : ℕ) (o : OutCall) (j : OutJob) (c : Core) → Beside p c → Beside p (lost_job now o j c)
lost_job_beside p now o (job.Grant lease) c t = grant_fails p o c t
lost_job_beside p now o (job.Keep lease) c t = keep_fails p o c t
lost_job_beside p now o (job.Acquire k) c t = t
lost_job_beside p now o job.Wait c t = t
lost_job_beside p now o (job.Ask k) c t = t
lost_job_beside p now o (job.Group lease) c t = t

job_beside : (p : List ℕ) (now : ℕ) (o : OutCall) (j : OutJob) (a : Answer) (c : Core) → Beside p c → BesideIf p (answered_job now o j a c)
job_beside p now o (job.Grant lease) (Done reply) c t = granted_beside p o reply.body c t
job_beside p now o (job.Grant lease) (Refused r) c t = grant_fails p o c t
job_beside p now o (job.Keep lease) (Done reply) c t = kept_beside p now o reply.body c t
job_beside p now o (job.Keep lease) (Refused r) c t = keep_fails p o c t
job_beside p now o (job.Acquire k) a c t = acquire_beside p c (acquire_answered (moment c now) k a (reads_of c)) t
job_beside p now o job.Wait a c t = reads_beside p c (wait_answered (moment c now) o.call a (reads_of c)) t
job_beside p now o (job.Ask k) a c t = ask_beside p k o a c t
job_beside p now o (job.Group lease) a c t = by_test (BesideIf p) (is_keepalive a) _ None (λ e. t) (λ e. tt)

lost_beside : (p : List ℕ) (now : ℕ) (o : OutCall) (c : Core) → Beside p c → Beside p (lost_call now o c)
lost_beside p now o c t = lost_job_beside p now o o.job (member_failed o c) (failed_beside p o c t)

heard_beside : (p : List ℕ) (now : ℕ) (o : OutCall) (a : Option Answer) (c : Core) → Beside p c → Beside p (heard_call now o a c)
heard_beside p now o None c t = lost_beside p now o c t
heard_beside p now o (Some a) c t = by_core (answered_job now o o.job a c) (job_beside p now o o.job a c t)
  where
    by_core : (d : Option Core) → BesideIf p d → Beside p (or_lost now o c d)
    by_core None u = lost_beside p now o c t
    by_core (Some d) u = u

answer_beside : (p : List ℕ) (now : ℕ) (o : OutCall) (a : Answer) (c : Core) → Beside p c → Beside p (answered_call now o a c)
answer_beside p now o (Done reply) c t = heard_beside p now o (heard c.settings.namespace (Done reply)) (header_taken reply.header c) (t.0, (t.1.0, taken_seen reply.header c t.1.1))
answer_beside p now o (Refused r) c t = heard_beside p now o (heard c.settings.namespace (Refused r)) c t

pub answer_of_beside : (p : List ℕ) (now call : ℕ) (a : Answer) (x : Option OutCall) (c : Core) → Beside p c → StepBeside p (answer_of now call a x c)
answer_of_beside p now call a None c t = t
answer_of_beside p now call a (Some o) c t = answer_beside p now o a (call_gone call c) (gone_fits call c.seat c.out t.0, t.1)

pub loss_of_beside : (p : List ℕ) (now call : ℕ) (x : Option OutCall) (c : Core) → Beside p c → StepBeside p (loss_of now call x c)
loss_of_beside p now call None c t = t
loss_of_beside p now call (Some o) c t = lost_beside p now o (call_gone call c) (gone_fits call c.seat c.out t.0, t.1)

-- ---- a request is asked: none of them changes

leased_beside : (p : List ℕ) (m : Moment) (a : Asked) (c : Core) → Beside p c → StepBeside p (leased_ask m a c)
leased_beside p m a c t =
    by_test (StepBeside p) (is_leased_read c.own.waits.prefix a.request) _ _ (λ e. by_stage (decided_ask m (ground_of (reads_of c)) a).stage)
    (λ e. by_test (StepBeside p) (writes_keys a.request) _ _ (λ u. t) (λ u. by_body (if_live m.session (held_body c.own.entries a.request))))
  where
    by_stage : (s : Stage) → StepBeside p (read_by s c (with_reads c (read_asked m a (reads_of c))))
    by_stage (stage.Replied v) = t
    by_stage (stage.Calling s) = t
    by_stage stage.Acquiring = t
    by_stage stage.Joined = t
    by_stage stage.Behind = t
    by_stage stage.Writes = t
    by_stage (stage.Grouped s) = t

    by_body : (b : Option Body) → StepBeside p (answered_or_called b a c)
    by_body None = t
    by_body (Some b) = t

taken_in_beside : (p : List ℕ) (m : Moment) (a : Asked) (c : Core) → Beside p c → StepBeside p (taken_in m a c)
taken_in_beside p m a c t = by_test (StepBeside p) (leases c) _ _ (λ e. leased_beside p m a c t) (λ e. t)

request_beside : (p : List ℕ) (q : Request) (m : Moment) (a : Asked) (c : Core) → Beside p c → StepBeside p (request_asked q m a c)
request_beside p (request.Watch ask) m a c t = t
request_beside p (request.KeepAlive lease) m a c t = taken_in_beside p m a c t
request_beside p (request.Range ask) m a c t = taken_in_beside p m a c t
request_beside p (request.Put ask) m a c t = taken_in_beside p m a c t
request_beside p (request.Delete ask) m a c t = taken_in_beside p m a c t
request_beside p (request.Txn x) m a c t = taken_in_beside p m a c t
request_beside p (request.Compact revision physical) m a c t = taken_in_beside p m a c t
request_beside p (request.Grant ttl lease) m a c t = taken_in_beside p m a c t
request_beside p (request.Revoke lease) m a c t = taken_in_beside p m a c t
request_beside p (request.TimeToLive lease keys) m a c t = taken_in_beside p m a c t
request_beside p request.Leases m a c t = taken_in_beside p m a c t

pub asked_beside : (p : List ℕ) (now ticket : ℕ) (q : Request) (word : ℕ) (c : Core) → Beside p c → StepBeside p (on_ask now ticket q word c)
unfolding on_ask
asked_beside p now ticket q word c t = by_test (StepBeside p) (is_known ticket c) _ _ (λ e. t) (λ e. by_refusal (refusal_of c.own.waits.prefix q))
  where
    by_refusal : (o : Option Refusal) → StepBeside p (refused_or_taken o (moment c now) (asked_at now ticket q word) c)
    by_refusal None = request_beside p q (moment c now) (asked_at now ticket q word) c t
    by_refusal (Some x) = t
