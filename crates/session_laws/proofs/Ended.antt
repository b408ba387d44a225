-- What the end of a call leaves of the session and of the calls that are out, by what the call is for and what is heard of it.
use Rattle.std.proofs.Common.{◌≡◌, ℕ, ◌==◌, Bool, true, false, ◌&&◌, cond, List, Option, None, Some, sym, subst}
use Rattle.etcd_types.specs.declared.answer.Answer.{Answer}
use Rattle.etcd_types.specs.declared.answer.Answer.TheVariants.{Done, Refused}
use Rattle.etcd_types.specs.declared.answer.Body.TheVariants as body
use Rattle.etcd_types.specs.declared.answer.Refusal.{Refusal}
use Rattle.etcd_types.specs.declared.answer.Reply.{Reply}
use Rattle.etcd_types.specs.declared.code.TheConstants.{NOT_FOUND}
use Rattle.proxy_model.specs.declared.ownership.Claim.{Claim}
use Rattle.proxy_model.specs.Acquire.{claimed}
use Rattle.proxy_model.specs.Keyed.{at}
use Rattle.wait_model.specs.Phases.{is_session}
use Rattle.read_model.specs.declared.acquire.Acquire.{Acquire}
use Rattle.read_model.specs.declared.asked.Verdict.TheVariants as verdict
use Rattle.read_model.specs.Acquires.{acquire_refused as refused_acquire, answered_acquire, done_by, is_to_be_held}
use Rattle.read_model.specs.State.{Reads}
use Rattle.read_model.specs.WriteAnswers.{wait_answered}
use Rattle.core_model.specs.declared.out_call.CallKind.{CallKind}
use Rattle.core_model.specs.declared.out_call.OutCall.{OutCall}
use Rattle.core_model.specs.declared.out_call.OutJob.{OutJob}
use Rattle.core_model.specs.declared.out_call.OutJob.TheVariants as job
use Rattle.core_model.specs.Ends.{with_caller, member_failed, call_gone, lost_job, stale_once, said, is_stale_reply, ask_done, acquire_if, acquire_ended, reads_if, is_keepalive, answered_job, or_lost, heard_call, answered_call, answer_of, on_answer, loss_of, on_lost}
use Rattle.core_model.specs.Groups.{groups_ended}
use Rattle.core_model.specs.Heard.{heard, answer_taken}
use Rattle.core_model.specs.Kinds.{is_body_of}
use Rattle.core_model.specs.Lookups.{live_number, moment, reads_of, out_at, without_out}
use Rattle.core_model.specs.Sessions.{without_session, seat_calls, seat_granted, seat_free, seat_renewed}
use Rattle.core_model.specs.State.{Seat, Core}
use Rattle.core_laws.proofs.Steps.Comes.{by_test}

-- where a call is lost
abbrev pub lost_seat : OutCall → OutJob → Option Seat → Option Seat
lost_seat o (job.Grant lease) s = cond (seat_calls o.call s) None s
lost_seat o (job.Keep lease) s = cond (seat_calls o.call s) (seat_free s) s
lost_seat o _ s = s

abbrev pub granted_seat : OutCall → ℕ → Option Seat → Option Seat
granted_seat o ttl s = cond (seat_calls o.call s) (seat_granted o.sent_at ttl s) s

abbrev pub kept_seat : OutCall → ℕ → Option Seat → Option Seat
kept_seat o ttl s = cond (seat_calls o.call s) (cond (ttl == 0) None (seat_renewed o.sent_at ttl s)) s

-- an acquire of this session is refused
abbrev pub refused_seat : ℕ → Refusal → ℕ → Option Seat → Option Seat
refused_seat now r session s = cond (is_session (live_number s now) session && (r.code == NOT_FOUND)) None s

-- a call ends that is for this

abbrev or_job : ℕ → OutCall → OutJob → Core → Option Core → Core
or_job now o j c None = lost_job now o j (member_failed o c)
or_job now o j c (Some d) = d

abbrev pub heard_job : ℕ → OutCall → OutJob → Option Answer → Core → Core
heard_job now o j None c = lost_job now o j (member_failed o c)
heard_job now o j (Some a) c = or_job now o j c (answered_job now o j a c)

module _ (S : Option Seat → List OutCall → Type 0) where
  abbrev pub EndSo : Core → Type 0
  EndSo c = S c.seat c.out

  pub lost_goes : (now : ℕ) (o : OutCall) (j : OutJob) (c : Core) → S (lost_seat o j c.seat) c.out → EndSo (lost_job now o j c)
  lost_goes now o (job.Grant lease) c h = by (seat_calls o.call c.seat) h
    where
      by : (b : Bool) → S (cond b None c.seat) c.out → EndSo (cond b (record c { seat = None }) c)
      by true t = t
      by false t = t
  lost_goes now o (job.Keep lease) c h = by (seat_calls o.call c.seat) h
    where
      by : (b : Bool) → S (cond b (seat_free c.seat) c.seat) c.out → EndSo (cond b (record c { seat = seat_free c.seat }) c)
      by true t = t
      by false t = t
  lost_goes now o (job.Acquire k) c h = h
  lost_goes now o job.Wait c h = h
  lost_goes now o (job.Ask kind) c h = h
  lost_goes now o (job.Group lease) c h = h

  pub unheard_goes : (now : ℕ) (o : OutCall) (j : OutJob) (c : Core) → S (lost_seat o j c.seat) c.out → EndSo (heard_job now o j None c)
  unheard_goes now o j c h = lost_goes now o j (member_failed o c) h

  pub grant_done : (now : ℕ) (o : OutCall) (lease number ttl : ℕ) (reply : Reply) (c : Core) → S (granted_seat o ttl c.seat) c.out → EndSo (heard_job now o (job.Grant lease) (Some (Done (record reply { body = body.Grant number ttl }))) c)
  grant_done now o lease number ttl reply c = by (seat_calls o.call c.seat)
    where
      by : (b : Bool) → S (cond b (seat_granted o.sent_at ttl c.seat) c.seat) c.out → EndSo (cond b (record c { seat = seat_granted o.sent_at ttl c.seat }) c)
      by true h = h
      by false h = h

  pub grant_refused : (now : ℕ) (o : OutCall) (lease : ℕ) (r : Refusal) (c : Core) → S (lost_seat o (job.Grant lease) c.seat) c.out → EndSo (heard_job now o (job.Grant lease) (Some (Refused r)) c)
  grant_refused now o lease r c h = lost_goes now o (job.Grant lease) c h

  pub keep_done : (now : ℕ) (o : OutCall) (lease number ttl : ℕ) (reply : Reply) (c : Core) → S (kept_seat o ttl c.seat) c.out → EndSo (heard_job now o (job.Keep lease) (Some (Done (record reply { body = body.KeepAlive number ttl }))) c)
  keep_done now o lease number ttl reply c = by (seat_calls o.call c.seat) (ttl == 0)
    where
      by : (b z : Bool) → S (cond b (cond z None (seat_renewed o.sent_at ttl c.seat)) c.seat) c.out → EndSo (cond b (cond z (without_session now c) (record c { seat = seat_renewed o.sent_at ttl c.seat })) c)
      by true true h = h
      by true false h = h
      by false z h = h

  pub keep_refused : (now : ℕ) (o : OutCall) (lease : ℕ) (r : Refusal) (c : Core) → S (lost_seat o (job.Keep lease) c.seat) c.out → EndSo (heard_job now o (job.Keep lease) (Some (Refused r)) c)
  keep_refused now o lease r c h = lost_goes now o (job.Keep lease) c h

  pub acquire_done : (now : ℕ) (o : OutCall) (k : List ℕ) (reply : Reply) (c : Core) → S c.seat c.out → EndSo (heard_job now o (job.Acquire k) (Some (Done reply)) c)
  acquire_done now o k reply c h = by (at c.acquires k)
    where
      by_claim : (x : Acquire) (q : Option Claim) → EndSo (or_job now o (job.Acquire k) c (acquire_if c (done_by (moment c now) k (is_to_be_held (moment c now) k x (reads_of c)) reply.header q (reads_of c))))
      by_claim x None = h
      by_claim x (Some q) = h

      by : (x : Option Acquire) → EndSo (or_job now o (job.Acquire k) c (acquire_if c (answered_acquire (moment c now) k x (Done reply) (reads_of c))))
      by None = h
      by (Some x) = by_claim x (claimed c.own.waits.prefix k reply)

  pub acquire_refused : (now : ℕ) (o : OutCall) (k : List ℕ) (x : Acquire) (r : Refusal) (c : Core) → at c.acquires k ≡ Some x → S (refused_seat now r x.session c.seat) c.out → EndSo (heard_job now o (job.Acquire k) (Some (Refused r)) c)
  acquire_refused now o k x r c e h = subst (λ (y : Option Acquire). EndSo (or_job now o (job.Acquire k) c (acquire_if c (answered_acquire (moment c now) k y (Refused r) (reads_of c))))) (sym e) (by (is_session (live_number c.seat now) x.session && (r.code == NOT_FOUND)) h)
    where
      by : (b : Bool) → S (cond b None c.seat) c.out → EndSo (acquire_ended c (refused_acquire (moment c now) k b (reads_of c)))
      by true t = t
      by false t = t

  pub wait_goes : (now : ℕ) (o : OutCall) (a : Answer) (c : Core) → S c.seat c.out → EndSo (heard_job now o job.Wait (Some a) c)
  wait_goes now o a c h = by (wait_answered (moment c now) o.call a (reads_of c))
    where
      by : (r : Option Reads) → EndSo (or_job now o job.Wait c (reads_if c r))
      by None = h
      by (Some r) = h

  pub ask_goes : (now : ℕ) (o : OutCall) (kind : CallKind) (a : Answer) (c : Core) → S c.seat c.out → EndSo (heard_job now o (job.Ask kind) (Some a) c)
  ask_goes now o kind (Refused r) c h = h
  ask_goes now o kind (Done reply) c h = by (is_body_of kind reply.body)
    where
      by : (b : Bool) → EndSo (or_job now o (job.Ask kind) c (cond b (Some (ask_done kind o reply c)) None))
      by true = by_test EndSo (is_stale_reply kind o reply) (with_caller o.call (stale_once c.members.count c.own.waits.step) (member_failed o c)) (with_caller o.call (said (Done reply)) c) (λ e. h) (λ e. h)
      by false = h

  pub group_goes : (now : ℕ) (o : OutCall) (lease : ℕ) (a : Answer) (c : Core) → S c.seat c.out → EndSo (heard_job now o (job.Group lease) (Some a) c)
  group_goes now o lease a c h = by (is_keepalive a)
    where
      by : (b : Bool) → EndSo (or_job now o (job.Group lease) c (cond b (Some (record c { asks = groups_ended c.own.waits.step o.call lease (verdict.Said a) c.asks })) None))
      by true = h
      by false = h

  as_heard : (now : ℕ) (o : OutCall) (x : Option Answer) (c : Core) → EndSo (heard_job now o o.job x c) → EndSo (heard_call now o x c)
  as_heard now o None c h = h
  as_heard now o (Some a) c h = by (answered_job now o o.job a c) h
    where
      by : (d : Option Core) → EndSo (or_job now o o.job c d) → EndSo (or_lost now o c d)
      by None t = t
      by (Some d) t = t

  pub answered_goes : (now call : ℕ) (a : Answer) (o : OutCall) (j : OutJob) (c : Core) → out_at call c.out ≡ Some o → o.job ≡ j → EndSo (heard_job now o j (heard c.settings.namespace a) (answer_taken a (call_gone call c))) → EndSo (on_answer now call a c).core
  unfolding on_answer
  answered_goes now call a o j c e i h =
      subst (λ (x : Option OutCall). EndSo (answer_of now call a x c).core) (sym e)
      (by_answer a (as_heard now o (heard c.settings.namespace a) (answer_taken a (call_gone call c)) (subst (λ (x : OutJob). EndSo (heard_job now o x (heard c.settings.namespace a) (answer_taken a (call_gone call c)))) (sym i) h)))
    where
      by_answer : (b : Answer) → EndSo (heard_call now o (heard c.settings.namespace b) (answer_taken b (call_gone call c))) → EndSo (answered_call now o b (call_gone call c))
      by_answer (Done reply) t = t
      by_answer (Refused r) t = t

  pub lost_goes_on : (now call : ℕ) (o : OutCall) (j : OutJob) (c : Core) → out_at call c.out ≡ Some o → o.job ≡ j → S (lost_seat o j c.seat) (without_out call c.out) → EndSo (on_lost now call c).core
  unfolding on_lost
  lost_goes_on now call o j c e i h =
      subst (λ (x : Option OutCall). EndSo (loss_of now call x c).core) (sym e) (subst (λ (x : OutJob). EndSo (lost_job now o x (member_failed o (call_gone call c)))) (sym i) (lost_goes now o j (member_failed o (call_gone call c)) h))
