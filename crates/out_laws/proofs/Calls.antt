-- What the clock's work, and calls that end, make of the writes and of the calls that are out.
use Rattle.std.proofs.Common.{ℕ, ◌==◌, Bool, true, false, not, cond, map, Option, None, Some}
use Rattle.etcd_types.specs.declared.answer.Answer.{Answer}
use Rattle.etcd_types.specs.declared.answer.Answer.TheVariants.{Done, Refused}
use Rattle.etcd_types.specs.declared.answer.Body.{Body}
use Rattle.etcd_types.specs.declared.answer.Body.TheVariants as body
use Rattle.wait_model.specs.declared.write.Write.{Write}
use Rattle.read_model.specs.Acquires.{AfterAcquire, acquire_answered}
use Rattle.read_model.specs.State.{Reads}
use Rattle.read_model.specs.WriteAnswers.{wait_answered}
use Rattle.core_model.specs.declared.out_call.CallKind.{CallKind}
use Rattle.core_model.specs.declared.out_call.OutCall.{OutCall}
use Rattle.core_model.specs.declared.out_call.OutJob.{OutJob}
use Rattle.core_model.specs.declared.out_call.OutJob.TheVariants as job
use Rattle.core_model.specs.ClockWork.{writes_go_on, begun, clock_work, times_out, timed_out_ask, requests_timed_out}
use Rattle.core_model.specs.Ends.{call_gone, is_stale_reply, ask_done, ask_answered, member_failed, acquire_if, reads_if, is_keepalive, answered_job, lost_job, lost_call, or_lost, heard_call, answered_call, answer_of, on_answer, loss_of, on_lost, with_caller, stale_once, said}
use Rattle.core_model.specs.Heard.{heard, header_taken}
use Rattle.core_model.specs.Kinds.{is_body_of}
use Rattle.core_model.specs.Lookups.{moment, reads_of, with_reads, out_at}
use Rattle.core_model.specs.Sessions.{seat_is_over, without_session, deadline_passed, seat_calls, granted_by, grant_failed, keep_failed, kept, kept_by}
use Rattle.core_model.specs.State.{Core}
use Rattle.core_model.specs.Stepped.{Stepped}
use Rattle.core_laws.proofs.Steps.Comes.{by_test}
use Rattle.core_fits.specs.Fits.{EachOf}
use Rattle.core_fits.proofs.Eachs.{each_filtered}
use Rattle.out_laws.proofs.Writes.{Lasts, passed_has}
use Rattle.out_laws.proofs.Reading as reads

module _ (W : Write → Type 0) (O : OutCall → Type 0) (l : Lasts W) where
  abbrev pub CoreHas : Core → Type 0
  CoreHas c = EachOf W c.own.waits.writes × EachOf O c.out

  abbrev pub StepHas : Stepped → Type 0
  StepHas s = CoreHas s.core

  abbrev HasIf : Option Core → Type 0
  HasIf None = Unit {0}
  HasIf (Some c) = CoreHas c

  pub go_on : (c : Core) → CoreHas c → CoreHas (writes_go_on c)
  go_on c h = (passed_has W l c.own.waits.step _ c.own.entries c.own.waits.spoiled c.own.waits.writes h.0, h.1)

  -- the clock's work

  over_has : (now : ℕ) (c : Core) → CoreHas c → CoreHas (without_session now c)
  over_has now c h = (reads.over_has W l (moment (record c { seat = None }) now) (reads_of (record c { seat = None })) h.0, h.1)

  pub clock_has : (now : ℕ) (c : Core) → CoreHas c → CoreHas (clock_work now c)
  unfolding clock_work
  clock_has now c h =
      let d = deadline_passed now (begun c) in
      let k : CoreHas d = by_test CoreHas (seat_is_over c.seat now) (without_session now (begun c)) (begun c) (λ t. over_has now (begun c) h) (λ t. h) in
      go_on (requests_timed_out now d) (reads.taken_off_has W l (moment d now) (times_out now) (map (timed_out_ask now) d.asks) (reads_of d) k.0, k.1)

  -- calls that end

  acquire_has : (c : Core) (o : Option AfterAcquire) → reads.AfterHas W l o → EachOf O c.out → HasIf (acquire_if c o)
  acquire_has c None t u = tt
  acquire_has c (Some x) t u = by_end x.ends
    where
      by_end : (b : Bool) → CoreHas (with_reads (cond b (record c { seat = None }) c) x.reads)
      by_end true = (t, u)
      by_end false = (t, u)

  reads_have : (c : Core) (o : Option Reads) → reads.ReadsIf W l o → EachOf O c.out → HasIf (reads_if c o)
  reads_have c None t u = tt
  reads_have c (Some r) t u = (t, u)

  kept_has : (now : ℕ) (o : OutCall) (b : Body) (c : Core) → CoreHas c → HasIf (kept_by now o b c)
  kept_has now o (body.KeepAlive lease ttl) c t =
      by_test CoreHas (seat_calls o.call c.seat) (kept now o ttl c) c (λ e. by_test CoreHas (ttl == 0) (without_session now c) _ (λ u. over_has now c t) (λ u. t)) (λ e. t)
  kept_has now o (body.Range count more kvs) c t = tt
  kept_has now o (body.Put prev) c t = tt
  kept_has now o (body.Delete deleted prevs) c t = tt
  kept_has now o (body.Txn' succeeded n bodies) c t = tt
  kept_has now o body.Compact c t = tt
  kept_has now o (body.Grant lease ttl) c t = tt
  kept_has now o body.Revoke c t = tt
  kept_has now o (body.TimeToLive lease ttl granted keys) c t = tt
  kept_has now o (body.Leases leases) c t = tt

  granted_has : (o : OutCall) (b : Body) (c : Core) → CoreHas c → HasIf (granted_by o b c)
  granted_has o (body.Grant lease ttl) c t = by_test CoreHas (seat_calls o.call c.seat) _ c (λ e. t) (λ e. t)
  granted_has o (body.Range count more kvs) c t = tt
  granted_has o (body.Put prev) c t = tt
  granted_has o (body.Delete deleted prevs) c t = tt
  granted_has o (body.Txn' succeeded n bodies) c t = tt
  granted_has o body.Compact c t = tt
  granted_has o (body.KeepAlive lease ttl) c t = tt
  granted_has o body.Revoke c t = tt
  granted_has o (body.TimeToLive lease ttl granted keys) c t = tt
  granted_has o (body.Leases leases) c t = tt

  grant_fails : (o : OutCall) (c : Core) → CoreHas c → CoreHas (grant_failed o c)
  grant_fails o c t = by_test CoreHas (seat_calls o.call c.seat) _ c (λ e. t) (λ e. t)

  keep_fails : (o : OutCall) (c : Core) → CoreHas c → CoreHas (keep_failed o c)
  keep_fails o c t = by_test CoreHas (seat_calls o.call c.seat) _ c (λ e. t) (λ e. t)

  ask_has : (k : CallKind) (o : OutCall) (a : Answer) (c : Core) → CoreHas c → HasIf (ask_answered k o a c)
  ask_has k o (Done reply) c t =
      by_test HasIf (is_body_of k reply.body) (Some (ask_done k o reply c)) None
      (λ e. by_test CoreHas (is_stale_reply k o reply) (with_caller o.call (stale_once c.members.count c.own.waits.step) (member_failed o c)) (with_caller o.call (said (Done reply)) c) (λ u. t) (λ u. t))
      (λ e. tt)
  ask_has k o (Refused r) c t = t

  lost_job_has : (now : ℕ) (o : OutCall) (j : OutJob) (c : Core) → CoreHas c → CoreHas (lost_job now o j c)
  lost_job_has now o (job.Grant lease) c t = grant_fails o c t
  lost_job_has now o (job.Keep lease) c t = keep_fails o c t
  lost_job_has now o (job.Acquire k) c t = (reads.acquire_lost_has W l c.members.count (moment c now) k (reads_of c) t.0, t.1)
  lost_job_has now o job.Wait c t = (reads.wait_lost_has W l (moment c now) o.call (reads_of c) t.0, t.1)
  lost_job_has now o (job.Ask k) c t = t
  lost_job_has now o (job.Group lease) c t = t

  job_has : (now : ℕ) (o : OutCall) (j : OutJob) (a : Answer) (c : Core) → CoreHas c → HasIf (answered_job now o j a c)
  job_has now o (job.Grant lease) (Done reply) c t = granted_has o reply.body c t
  job_has now o (job.Grant lease) (Refused r) c t = grant_fails o c t
  job_has now o (job.Keep lease) (Done reply) c t = kept_has now o reply.body c t
  job_has now o (job.Keep lease) (Refused r) c t = keep_fails o c t
  job_has now o (job.Acquire k) a c t = acquire_has c (acquire_answered (moment c now) k a (reads_of c)) (reads.acquire_answered_has W l (moment c now) k a (reads_of c) t.0) t.1
  job_has now o job.Wait a c t = reads_have c (wait_answered (moment c now) o.call a (reads_of c)) (reads.wait_answered_has W l (moment c now) o.call a (reads_of c) t.0) t.1
  job_has now o (job.Ask k) a c t = ask_has k o a c t
  job_has now o (job.Group lease) a c t = by_test HasIf (is_keepalive a) _ None (λ e. t) (λ e. tt)

  lost_call_has : (now : ℕ) (o : OutCall) (c : Core) → CoreHas c → CoreHas (lost_call now o c)
  lost_call_has now o c t = lost_job_has now o o.job (member_failed o c) t

  heard_has : (now : ℕ) (o : OutCall) (a : Option Answer) (c : Core) → CoreHas c → CoreHas (heard_call now o a c)
  heard_has now o None c t = lost_call_has now o c t
  heard_has now o (Some a) c t = by_core (answered_job now o o.job a c) (job_has now o o.job a c t)
    where
      by_core : (d : Option Core) → HasIf d → CoreHas (or_lost now o c d)
      by_core None u = lost_call_has now o c t
      by_core (Some d) u = u

  answer_has : (now : ℕ) (o : OutCall) (a : Answer) (c : Core) → CoreHas c → CoreHas (answered_call now o a c)
  answer_has now o (Done reply) c t = heard_has now o (heard c.settings.namespace (Done reply)) (header_taken reply.header c) t
  answer_has now o (Refused r) c t = heard_has now o (heard c.settings.namespace (Refused r)) c t

  gone_has : (call : ℕ) (c : Core) → CoreHas c → CoreHas (call_gone call c)
  gone_has call c t = (t.0, each_filtered O (λ o. not (o.call == call)) c.out t.1)

  pub answered_has : (now call : ℕ) (a : Answer) (c : Core) → CoreHas c → StepHas (on_answer now call a c)
  unfolding on_answer
  answered_has now call a c t = by_out (out_at call c.out)
    where
      by_out : (x : Option OutCall) → StepHas (answer_of now call a x c)
      by_out None = t
      by_out (Some o) = go_on (answered_call now o a (call_gone call c)) (answer_has now o a (call_gone call c) (gone_has call c t))

  pub lost_has : (now call : ℕ) (c : Core) → CoreHas c → StepHas (on_lost now call c)
  unfolding on_lost
  lost_has now call c t = by_out (out_at call c.out)
    where
      by_out : (x : Option OutCall) → StepHas (loss_of now call x c)
      by_out None = t
      by_out (Some o) = go_on (lost_call now o (call_gone call c)) (lost_call_has now o (call_gone call c) (gone_has call c t))
