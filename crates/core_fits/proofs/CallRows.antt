-- What the clock's work, and an answer or a loss of a call, make of the requests and writes of a proxy.
use Rattle.std.proofs.Common.{ℕ, ◌==◌, Bool, cond, [], map, Option, None, Some, refl}
use Rattle.etcd_types.specs.declared.answer.Answer.{Answer}
use Rattle.etcd_types.specs.declared.answer.Answer.TheVariants.{Done, Refused}
use Rattle.etcd_types.specs.declared.answer.Body.{Body}
use Rattle.etcd_types.specs.declared.answer.Body.TheVariants as body
use Rattle.wait_model.specs.declared.write.Write.{Write}
use Rattle.read_model.specs.declared.asked.Asked.{Asked}
use Rattle.read_model.specs.declared.asked.Stage.TheVariants as stage
use Rattle.read_model.specs.declared.asked.Verdict.{Verdict}
use Rattle.read_model.specs.declared.asked.Verdict.TheVariants as verdict
use Rattle.read_model.specs.Acquires.{AfterAcquire, acquire_answered}
use Rattle.read_model.specs.PlainRead.{in_stage}
use Rattle.read_model.specs.State.{Reads}
use Rattle.read_model.specs.WriteAnswers.{wait_answered}
use Rattle.core_model.specs.declared.out_call.CallKind.{CallKind}
use Rattle.core_model.specs.declared.out_call.OutCall.{OutCall}
use Rattle.core_model.specs.declared.out_call.OutJob.{OutJob}
use Rattle.core_model.specs.declared.out_call.OutJob.TheVariants as job
use Rattle.core_model.specs.ClockWork.{begun, clock_work, times_out, timed_out_ask, writes_go_on, requests_timed_out}
use Rattle.core_model.specs.Ends.{call_gone, is_stale_reply, ask_done, ask_answered, member_failed, acquire_if, reads_if, is_keepalive, answered_job, lost_ask, lost_job, lost_call, or_lost, heard_call, answered_call, answer_of, loss_of, with_caller, stale_once, said}
use Rattle.core_model.specs.Groups.{group_ended, groups_ended}
use Rattle.core_model.specs.Heard.{heard, header_taken}
use Rattle.core_model.specs.Kinds.{is_read, is_body_of}
use Rattle.core_model.specs.Lookups.{leases, moment, reads_of, calls_as}
use Rattle.core_model.specs.Sessions.{seat_is_over, without_session, deadline_passed, seat_calls, granted_by, grant_failed, keep_failed, kept, kept_by}
use Rattle.core_model.specs.State.{Core}
use Rattle.core_model.specs.Stepped.{Stepped}
use Rattle.core_laws.proofs.Steps.Comes.{by_test}
use Rattle.core_fits.specs.Fits.{EachOf}
use Rattle.core_fits.proofs.AskRows.{Goes, Carries, stops, once_stops, stale_stops, times_go, caller_goes, group_goes}
use Rattle.core_fits.proofs.ReadRows.{ReadsHaveIf, AfterHas, each_goes, session_over_has, taken_off_has, acquire_answered_has, acquire_lost_has, wait_answered_has, wait_lost_has}
use Rattle.core_fits.proofs.WriteRows.{Stays, passed_has}

abbrev pub CoreHas : (Asked → Type 0) → (Write → Type 0) → Core → Type 0
CoreHas P W c = EachOf P c.asks × EachOf W c.own.waits.writes

abbrev pub HasIf : (Asked → Type 0) → (Write → Type 0) → Option Core → Type 0
HasIf P W None = Unit {0}
HasIf P W (Some c) = CoreHas P W c

abbrev pub StepHas : (Asked → Type 0) → (Write → Type 0) → Stepped → Type 0
StepHas P W s = CoreHas P W s.core

pub either : (P : Asked → Type 0) (W : Write → Type 0) (b : Bool) (x y : Core) → CoreHas P W x → CoreHas P W y → CoreHas P W (cond b x y)
either P W b x y h i = by_test (CoreHas P W) b x y (λ t. h) (λ t. i)

-- What lasts: of a request where it goes on, and of a write whatever its stage.
pub record Last (P : Asked → Type 0) (W : Write → Type 0) : Type 0 where
  pub asks : Carries P
  pub writes : Stays W

pub go_on : (P : Asked → Type 0) (W : Write → Type 0) → Last P W → (c : Core) → CoreHas P W c → CoreHas P W (writes_go_on c)
go_on P W l c h = (h.0, passed_has W l.writes c.own.waits.step [] c.own.entries c.own.waits.spoiled c.own.waits.writes h.1)

-- ---- the clock's work

pub over_has : (P : Asked → Type 0) (W : Write → Type 0) → Last P W → (now : ℕ) (c : Core) → CoreHas P W c → CoreHas P W (without_session now c)
over_has P W l now c h = session_over_has P W l.asks l.writes (moment (record c { seat = None }) now) (reads_of (record c { seat = None })) h

pub clock_has : (P : Asked → Type 0) (W : Write → Type 0) → Last P W → (now : ℕ) (c : Core) → CoreHas P W c → CoreHas P W (clock_work now c)
unfolding clock_work
clock_has P W l now c h =
    let d = deadline_passed now (begun c) in
    let k : CoreHas P W d = either P W (seat_is_over c.seat now) (without_session now (begun c)) (begun c) (over_has P W l now (begun c) h) h in
    go_on P W l (requests_timed_out now d) (taken_off_has P W l.asks (moment d now) (times_out now) (map (timed_out_ask now) d.asks) (reads_of d) (each_goes P l.asks (timed_out_ask now) (times_go now) d.asks k.0) k.1)

-- ---- calls that end

acquire_if_has : (P : Asked → Type 0) (W : Write → Type 0) (c : Core) (o : Option AfterAcquire) → AfterHas P W o → HasIf P W (acquire_if c o)
acquire_if_has P W c None t = tt
acquire_if_has P W c (Some x) t = t

reads_if_has : (P : Asked → Type 0) (W : Write → Type 0) (c : Core) (o : Option Reads) → ReadsHaveIf P W o → HasIf P W (reads_if c o)
reads_if_has P W c None t = tt
reads_if_has P W c (Some r) t = t

kept_has : (P : Asked → Type 0) (W : Write → Type 0) → Last P W → (now : ℕ) (o : OutCall) (b : Body) (c : Core) → CoreHas P W c → HasIf P W (kept_by now o b c)
kept_has P W l now o (body.KeepAlive lease ttl) c t =
    either P W (seat_calls o.call c.seat) (kept now o ttl c) c (by_test (CoreHas P W) (ttl == 0) (without_session now c) _ (λ e. over_has P W l now c t) (λ e. t)) t
kept_has P W l now o (body.Range count more kvs) c t = tt
kept_has P W l now o (body.Put prev) c t = tt
kept_has P W l now o (body.Delete deleted prevs) c t = tt
kept_has P W l now o (body.Txn' succeeded n bodies) c t = tt
kept_has P W l now o body.Compact c t = tt
kept_has P W l now o (body.Grant lease ttl) c t = tt
kept_has P W l now o body.Revoke c t = tt
kept_has P W l now o (body.TimeToLive lease ttl granted keys) c t = tt
kept_has P W l now o (body.Leases leases) c t = tt

granted_has : (P : Asked → Type 0) (W : Write → Type 0) (o : OutCall) (b : Body) (c : Core) → CoreHas P W c → HasIf P W (granted_by o b c)
granted_has P W o (body.Grant lease ttl) c t = by_test (CoreHas P W) (seat_calls o.call c.seat) _ c (λ e. t) (λ e. t)
granted_has P W o (body.Range count more kvs) c t = tt
granted_has P W o (body.Put prev) c t = tt
granted_has P W o (body.Delete deleted prevs) c t = tt
granted_has P W o (body.Txn' succeeded n bodies) c t = tt
granted_has P W o body.Compact c t = tt
granted_has P W o (body.KeepAlive lease ttl) c t = tt
granted_has P W o body.Revoke c t = tt
granted_has P W o (body.TimeToLive lease ttl granted keys) c t = tt
granted_has P W o (body.Leases leases) c t = tt

grant_fails_has : (P : Asked → Type 0) (W : Write → Type 0) (o : OutCall) (c : Core) → CoreHas P W c → CoreHas P W (grant_failed o c)
grant_fails_has P W o c t = by_test (CoreHas P W) (seat_calls o.call c.seat) _ c (λ e. t) (λ e. t)

keep_fails_has : (P : Asked → Type 0) (W : Write → Type 0) (o : OutCall) (c : Core) → CoreHas P W c → CoreHas P W (keep_failed o c)
keep_fails_has P W o c t = by_test (CoreHas P W) (seat_calls o.call c.seat) _ c (λ e. t) (λ e. t)

lost_goes : (k : CallKind) (o : OutCall) (c : Core) (x : Asked) → Goes x (lost_ask k o c x)
lost_goes k o c x = by_test (Goes x) (is_read k) _ (in_stage (stage.Replied verdict.Lost) x) (λ e. once_stops c.members.count c.own.waits.step x) (λ e. stops x (in_stage (stage.Replied verdict.Lost) x) refl refl refl)

caller_has : (P : Asked → Type 0) (W : Write → Type 0) → Last P W → (n : ℕ) (f : Asked → Asked) → ((x : Asked) → Goes x (f x)) → (c : Core) → CoreHas P W c → CoreHas P W (with_caller n f c)
caller_has P W l n f g c t = (each_goes P l.asks (λ a. cond (calls_as n a) (f a) a) (caller_goes n f g) c.asks t.0, t.1)

said_goes : (a : Answer) (x : Asked) → Goes x (said a x)
said_goes a x = stops x (said a x) refl refl refl

ask_answered_has : (P : Asked → Type 0) (W : Write → Type 0) → Last P W → (k : CallKind) (o : OutCall) (a : Answer) (c : Core) → CoreHas P W c → HasIf P W (ask_answered k o a c)
ask_answered_has P W l k o (Done reply) c t =
    by_test (HasIf P W) (is_body_of k reply.body) (Some (ask_done k o reply c)) None
    (λ e. by_test (CoreHas P W) (is_stale_reply k o reply) (with_caller o.call (stale_once c.members.count c.own.waits.step) (member_failed o c)) (with_caller o.call (said (Done reply)) c)
    (λ u. caller_has P W l o.call (stale_once c.members.count c.own.waits.step) (stale_stops c.members.count c.own.waits.step) (member_failed o c) t)
    (λ u. caller_has P W l o.call (said (Done reply)) (said_goes (Done reply)) c t)) (λ e. tt)
ask_answered_has P W l k o (Refused r) c t = caller_has P W l o.call (said (Refused r)) (said_goes (Refused r)) c t

groups_have : (P : Asked → Type 0) (W : Write → Type 0) → Last P W → (step call lease : ℕ) (v : Verdict) (c : Core) → CoreHas P W c → CoreHas P W (record c { asks = groups_ended step call lease v c.asks })
groups_have P W l step call lease v c t = (each_goes P l.asks (group_ended step call lease v) (group_goes step call lease v) c.asks t.0, t.1)

lost_job_has : (P : Asked → Type 0) (W : Write → Type 0) → Last P W → (now : ℕ) (o : OutCall) (j : OutJob) (c : Core) → CoreHas P W c → CoreHas P W (lost_job now o j c)
lost_job_has P W l now o (job.Grant lease) c t = grant_fails_has P W o c t
lost_job_has P W l now o (job.Keep lease) c t = keep_fails_has P W o c t
lost_job_has P W l now o (job.Acquire k) c t = acquire_lost_has P W l.asks c.members.count (moment c now) k (reads_of c) t
lost_job_has P W l now o job.Wait c t = wait_lost_has P W l.asks (moment c now) o.call (reads_of c) t
lost_job_has P W l now o (job.Ask k) c t = caller_has P W l o.call (lost_ask k o c) (lost_goes k o c) c t
lost_job_has P W l now o (job.Group lease) c t = groups_have P W l c.own.waits.step o.call lease verdict.Lost c t

job_has : (P : Asked → Type 0) (W : Write → Type 0) → Last P W → (now : ℕ) (o : OutCall) (j : OutJob) (a : Answer) (c : Core) → CoreHas P W c → HasIf P W (answered_job now o j a c)
job_has P W l now o (job.Grant lease) (Done reply) c t = granted_has P W o reply.body c t
job_has P W l now o (job.Grant lease) (Refused r) c t = grant_fails_has P W o c t
job_has P W l now o (job.Keep lease) (Done reply) c t = kept_has P W l now o reply.body c t
job_has P W l now o (job.Keep lease) (Refused r) c t = keep_fails_has P W o c t
job_has P W l now o (job.Acquire k) a c t = acquire_if_has P W c (acquire_answered (moment c now) k a (reads_of c)) (acquire_answered_has P W l.asks l.writes (moment c now) k a (reads_of c) t)
job_has P W l now o job.Wait a c t = reads_if_has P W c (wait_answered (moment c now) o.call a (reads_of c)) (wait_answered_has P W l.asks l.writes (moment c now) o.call a (reads_of c) t)
job_has P W l now o (job.Ask k) a c t = ask_answered_has P W l k o a c t
job_has P W l now o (job.Group lease) a c t =
    by_test (HasIf P W) (is_keepalive a) (Some (record c { asks = groups_ended c.own.waits.step o.call lease (verdict.Said a) c.asks })) None (λ e. groups_have P W l c.own.waits.step o.call lease (verdict.Said a) c t) (λ e. tt)

lost_call_has : (P : Asked → Type 0) (W : Write → Type 0) → Last P W → (now : ℕ) (o : OutCall) (c : Core) → CoreHas P W c → CoreHas P W (lost_call now o c)
lost_call_has P W l now o c t = lost_job_has P W l now o o.job (member_failed o c) t

heard_has : (P : Asked → Type 0) (W : Write → Type 0) → Last P W → (now : ℕ) (o : OutCall) (a : Option Answer) (c : Core) → CoreHas P W c → CoreHas P W (heard_call now o a c)
heard_has P W l now o None c t = lost_call_has P W l now o c t
heard_has P W l now o (Some a) c t = by_core (answered_job now o o.job a c) (job_has P W l now o o.job a c t)
  where
    by_core : (d : Option Core) → HasIf P W d → CoreHas P W (or_lost now o c d)
    by_core None u = lost_call_has P W l now o c t
    by_core (Some d) u = u

answer_has : (P : Asked → Type 0) (W : Write → Type 0) → Last P W → (now : ℕ) (o : OutCall) (a : Answer) (c : Core) → CoreHas P W c → CoreHas P W (answered_call now o a c)
answer_has P W l now o (Done reply) c t = heard_has P W l now o (heard c.settings.namespace (Done reply)) (header_taken reply.header c) t
answer_has P W l now o (Refused r) c t = heard_has P W l now o (heard c.settings.namespace (Refused r)) c t

pub answer_of_has : (P : Asked → Type 0) (W : Write → Type 0) → Last P W → (now call : ℕ) (a : Answer) (x : Option OutCall) (c : Core) → CoreHas P W c → StepHas P W (answer_of now call a x c)
answer_of_has P W l now call a None c t = t
answer_of_has P W l now call a (Some o) c t = go_on P W l (answered_call now o a (call_gone call c)) (answer_has P W l now o a (call_gone call c) t)

pub loss_of_has : (P : Asked → Type 0) (W : Write → Type 0) → Last P W → (now call : ℕ) (x : Option OutCall) (c : Core) → CoreHas P W c → StepHas P W (loss_of now call x c)
loss_of_has P W l now call None c t = t
loss_of_has P W l now call (Some o) c t = go_on P W l (lost_call now o (call_gone call c)) (lost_call_has P W l now o (call_gone call c) t)
