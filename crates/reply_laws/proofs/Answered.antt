-- A call of any kind is answered: each ok reply that stands after it has a source.
use Rattle.std.proofs.Common.{◌≡◌, ℕ, ◌+◌, ◌==◌, nat_le, Bool, true, false, cond, ◌&&◌, List, map, Option, None, Some, refl, sym, ◌∙◌, ap, subst}
use Rattle.etcd_types.specs.declared.answer.Answer.{Answer}
use Rattle.etcd_types.specs.declared.answer.Answer.TheVariants.{Done, Refused}
use Rattle.etcd_types.specs.declared.answer.Body.{Body}
use Rattle.etcd_types.specs.declared.answer.Body.TheVariants as body
use Rattle.etcd_types.specs.declared.answer.Reply.{Reply}
use Rattle.proxy_model.specs.Limits.{capped}
use Rattle.wait_model.specs.declared.sending.Sending.TheVariants as sending
use Rattle.read_model.specs.declared.acquire.Acquire.{Acquire}
use Rattle.read_model.specs.declared.asked.Asked.{Asked}
use Rattle.read_model.specs.declared.asked.Stage.{Stage}
use Rattle.read_model.specs.declared.asked.Stage.TheVariants as stage
use Rattle.read_model.specs.declared.asked.Verdict.TheVariants as verdict
use Rattle.read_model.specs.Acquires.{AfterAcquire, acquire_answered, answered_acquire, acquire_refused}
use Rattle.read_model.specs.PlainRead.{called, in_stage}
use Rattle.read_model.specs.State.{Reads, Moment}
use Rattle.read_model.specs.WriteAnswers.{wait_answered}
use Rattle.core_model.specs.declared.event.CoreEvent.{CoreEvent}
use Rattle.core_model.specs.declared.event.CoreEvent.TheVariants as event
use Rattle.core_model.specs.declared.event.StepFault.TheVariants as fault
use Rattle.core_model.specs.declared.out_call.CallKind.{CallKind}
use Rattle.core_model.specs.declared.out_call.OutCall.{OutCall}
use Rattle.core_model.specs.declared.out_call.OutJob.{OutJob}
use Rattle.core_model.specs.declared.out_call.OutJob.TheVariants as job
use Rattle.core_model.specs.declared.settings.Settings.{Settings}
use Rattle.core_model.specs.ClockWork.{clock_work, writes_go_on}
use Rattle.core_model.specs.Ends.{member_failed, stale_once, stales_limit, said, is_stale_reply, ask_done, ask_answered, with_caller, acquire_if, reads_if, group_answered, answered_job, lost_job, or_lost, heard_call, answered_call, call_gone, answer_of, on_answer}
use Rattle.core_model.specs.Ends.{is_keepalive as answers_keepalive}
use Rattle.core_model.specs.Fits.{CoreOk}
use Rattle.core_model.specs.Groups.{keeps, is_out_stage, waits_next, group_ended}
use Rattle.core_model.specs.Heard.{heard}
use Rattle.core_model.specs.Kinds.{is_body_of}
use Rattle.core_model.specs.Lookups.{moment, reads_of, with_reads, stage_calls, calls_as, out_at}
use Rattle.core_model.specs.Sessions.{without_session, seat_calls, granted_by, kept, kept_by}
use Rattle.core_model.specs.State.{Core}
use Rattle.core_model.specs.Step.{is_worn, happened, stepped}
use Rattle.core_model.specs.Stepped.{Stepped, faults, noted, counted}
use Rattle.core_laws.proofs.Steps.Calls.{found_is}
use Rattle.core_laws.proofs.Steps.Comes.{by_test}
use Rattle.core_laws.proofs.Steps.Lists.{same_number}
use Rattle.core_laws.proofs.Steps.Middle.{clock_whole}
use Rattle.core_laws.proofs.Steps.Whole.{Whole, of_ok}
use Rattle.keep_laws.proofs.Rows.{All, all_mapped}
use Rattle.reply_laws.specs.Sources as sources
use Rattle.reply_laws.specs.Sources.{Hears, hearing, Source}
use Rattle.reply_laws.proofs.Before.{Since, since_stood, stood_on, clock_since, clock_leaves}
use Rattle.reply_laws.proofs.Events.{OfUnsaid, unsaid_if, StepAll, released_all, over_all, grant_failed_all, keep_failed_all, lost_call_all}
use Rattle.reply_laws.proofs.Heard.{Sourced, unsaid_sourced, since_sourced, all_sourced, same_reply, Meets, AllIf, acquire_sourced, wait_sourced}

-- ---- a session's call: at most it ends

kept_all : (P : Asked → Type 0) → OfUnsaid P → (now : ℕ) (o : OutCall) (ttl : ℕ) (c : Core) → All P c.asks → All P (kept now o ttl c).asks
kept_all P u now o ttl c t = by_test (λ (d : Core). All P d.asks) (ttl == 0) (without_session now c) _ (λ e. over_all P u now c t) (λ e. t)

renewed_all : (P : Asked → Type 0) → OfUnsaid P → (now : ℕ) (o : OutCall) (b : Body) (c : Core) → All P c.asks → AllIf P (kept_by now o b c)
renewed_all P u now o (body.KeepAlive lease ttl) c t = by_test (λ (d : Core). All P d.asks) (seat_calls o.call c.seat) (kept now o ttl c) c (λ e. kept_all P u now o ttl c t) (λ e. t)
renewed_all P u now o (body.Range count more kvs) c t = tt
renewed_all P u now o (body.Put prev) c t = tt
renewed_all P u now o (body.Delete deleted prevs) c t = tt
renewed_all P u now o (body.Txn' succeeded n bodies) c t = tt
renewed_all P u now o body.Compact c t = tt
renewed_all P u now o (body.Grant lease ttl) c t = tt
renewed_all P u now o body.Revoke c t = tt
renewed_all P u now o (body.TimeToLive lease ttl granted keys) c t = tt
renewed_all P u now o (body.Leases leases) c t = tt

granted_all : (P : Asked → Type 0) (o : OutCall) (b : Body) (c : Core) → All P c.asks → AllIf P (granted_by o b c)
granted_all P o (body.Grant lease ttl) c t = by_test (λ (d : Core). All P d.asks) (seat_calls o.call c.seat) _ c (λ e. t) (λ e. t)
granted_all P o (body.Range count more kvs) c t = tt
granted_all P o (body.Put prev) c t = tt
granted_all P o (body.Delete deleted prevs) c t = tt
granted_all P o (body.Txn' succeeded n bodies) c t = tt
granted_all P o body.Compact c t = tt
granted_all P o (body.KeepAlive lease ttl) c t = tt
granted_all P o body.Revoke c t = tt
granted_all P o (body.TimeToLive lease ttl granted keys) c t = tt
granted_all P o (body.Leases leases) c t = tt

-- ---- an acquire that is refused

acquire_refused_all : (P : Asked → Type 0) → OfUnsaid P → (m : Moment) (k : List ℕ) (ends : Bool) (r : Reads) → All P r.asks → All P (acquire_refused m k ends r).reads.asks
acquire_refused_all P u m k ends r t = by_test (λ (x : AfterAcquire). All P x.reads.asks) ends _ _ (λ e. released_all P u m _ r.asks t) (λ e. released_all P u m _ r.asks t)

-- ---- a request's own call

calling_is : (call : ℕ) (s : Stage) → stage_calls call s ≡ true → s ≡ stage.Calling (sending.Out call)
calling_is call (stage.Calling (sending.Out n)) h = ap (λ (i : ℕ). stage.Calling (sending.Out i)) (same_number n call h)
calling_is call (stage.Calling (sending.Due since)) h = absurd (cc)
calling_is call stage.Acquiring h = absurd (cc)
calling_is call stage.Joined h = absurd (cc)
calling_is call stage.Behind h = absurd (cc)
calling_is call stage.Writes h = absurd (cc)
calling_is call (stage.Grouped s) h = absurd (cc)
calling_is call (stage.Replied v) h = absurd (cc)

said_sourced : (c : Core) (e : CoreEvent) (now : ℕ) (o : OutCall) (reply : Reply) → Hears c e o (Done reply) → (k : CallKind) → o.job ≡ job.Ask k → (y : Asked) → Since c y → Sourced c e now (cond (calls_as o.call y) (said (Done reply) y) y)
said_sourced c e now o reply h k j y s =
    let x = said (Done reply) y in
    by_test (Sourced c e now) (calls_as o.call y) x y
    (λ t r q. subst (Source c e now x) (same_reply reply r q) (sources.called o k j (stood_on c y x (stage.Calling (sending.Out o.call)) refl refl (since_stood c y (stage.Calling (sending.Out o.call)) (calling_is o.call y.stage t) refl s)) h))
    (λ t. since_sourced c e now y s)

stale_unsaid : (P : Asked → Type 0) → OfUnsaid P → (members step : ℕ) (x : Asked) → P (stale_once members step x)
stale_unsaid P u members step x = by_test (λ (s : Stage). P (record x { stales = capped (x.stales + 1); stage = s })) (nat_le (stales_limit members) (capped (x.stales + 1))) (stage.Replied verdict.Stale) (called step) (λ e. u _ refl) (λ e. u _ refl)

done_sourced : (c : Core) (e : CoreEvent) (now : ℕ) (o : OutCall) (reply : Reply) → Hears c e o (Done reply) → (k : CallKind) → o.job ≡ job.Ask k → (d : Core) → All (Since c) d.asks → All (Sourced c e now) (ask_done k o reply d).asks
done_sourced c e now o reply h k j d t =
    let P = Sourced c e now in
    by_test (λ (x : Core). All P x.asks) (is_stale_reply k o reply) (with_caller o.call (stale_once d.members.count d.own.waits.step) (member_failed o d)) (with_caller o.call (said (Done reply)) d)
    (λ s. all_mapped (Since c) P (λ a. cond (calls_as o.call a) (stale_once d.members.count d.own.waits.step a) a)
    (λ y u. by_test P (calls_as o.call y) (stale_once d.members.count d.own.waits.step y) y (λ _. stale_unsaid P (unsaid_sourced c e now) d.members.count d.own.waits.step y) (λ _. since_sourced c e now y u)) d.asks t)
    (λ s. all_mapped (Since c) P (λ a. cond (calls_as o.call a) (said (Done reply) a) a) (said_sourced c e now o reply h k j) d.asks t)

ask_sourced : (c : Core) (e : CoreEvent) (now : ℕ) (o : OutCall) (reply : Reply) → Hears c e o (Done reply) → (k : CallKind) → o.job ≡ job.Ask k → (d : Core) → All (Since c) d.asks → AllIf (Sourced c e now) (ask_answered k o (Done reply) d)
ask_sourced c e now o reply h k j d t = by_body (is_body_of k reply.body)
  where
    by_body : (b : Bool) → AllIf (Sourced c e now) (cond b (Some (ask_done k o reply d)) None)
    by_body true = done_sourced c e now o reply h k j d t
    by_body false = tt

-- ---- a call that keepalives share

grouped_is : (call : ℕ) (s : Stage) → is_out_stage call s ≡ true → s ≡ stage.Grouped (Some (sending.Out call))
grouped_is call (stage.Grouped (Some (sending.Out n))) h = ap (λ (i : ℕ). stage.Grouped (Some (sending.Out i))) (same_number n call h)
grouped_is call (stage.Grouped (Some (sending.Due since))) h = absurd (cc)
grouped_is call (stage.Grouped None) h = absurd (cc)
grouped_is call (stage.Calling s) h = absurd (cc)
grouped_is call stage.Acquiring h = absurd (cc)
grouped_is call stage.Joined h = absurd (cc)
grouped_is call stage.Behind h = absurd (cc)
grouped_is call stage.Writes h = absurd (cc)
grouped_is call (stage.Replied v) h = absurd (cc)

shared_sourced : (c : Core) (e : CoreEvent) (now : ℕ) (o : OutCall) (reply : Reply) → Hears c e o (Done reply) → (lease step : ℕ) → o.job ≡ job.Group lease → (y : Asked) → Since c y
    → Sourced c e now (group_ended step o.call lease (verdict.Said (Done reply)) y)
shared_sourced c e now o reply h lease step j y s =
    let x = in_stage (stage.Replied (verdict.Said (Done reply))) y in
    by_test (Sourced c e now) (is_out_stage o.call y.stage) x (cond (keeps lease y.request && waits_next y.stage) (in_stage (stage.Grouped (Some (sending.Due step))) y) y)
    (λ t r q. subst (Source c e now x) (same_reply reply r q) (sources.shared o lease j (stood_on c y x (stage.Grouped (Some (sending.Out o.call))) refl refl (since_stood c y (stage.Grouped (Some (sending.Out o.call))) (grouped_is o.call y.stage t) refl s)) h))
    (λ t. unsaid_if (Sourced c e now) (unsaid_sourced c e now) (keeps lease y.request && waits_next y.stage) y (in_stage (stage.Grouped (Some (sending.Due step))) y) refl (since_sourced c e now y s))

group_sourced : (c : Core) (e : CoreEvent) (now : ℕ) (o : OutCall) (reply : Reply) → Hears c e o (Done reply) → (lease : ℕ) → o.job ≡ job.Group lease → (d : Core) → All (Since c) d.asks → AllIf (Sourced c e now) (group_answered o lease (Done reply) d)
group_sourced c e now o reply h lease j d t = by_body (is_body_of Rattle.core_model.specs.declared.out_call.CallKind.TheVariants.KeepAlive reply.body)
  where
    by_body : (b : Bool) → AllIf (Sourced c e now) (cond b (Some (record d { asks = map (group_ended d.own.waits.step o.call lease (verdict.Said (Done reply))) d.asks })) None)
    by_body true = all_mapped (Since c) (Sourced c e now) (group_ended d.own.waits.step o.call lease (verdict.Said (Done reply))) (shared_sourced c e now o reply h lease d.own.waits.step j) d.asks t
    by_body false = tt

group_refused_all : (P : Asked → Type 0) → OfUnsaid P → (step call lease : ℕ) (r : Rattle.etcd_types.specs.declared.answer.Refusal.Refusal) (xs : List Asked) → All P xs → All P (map (group_ended step call lease (verdict.Said (Refused r))) xs)
group_refused_all P u step call lease r xs t =
    all_mapped P P (group_ended step call lease (verdict.Said (Refused r)))
    (λ x h. by_test P (is_out_stage call x.stage) (in_stage (stage.Replied (verdict.Said (Refused r))) x) _ (λ e. u (in_stage (stage.Replied (verdict.Said (Refused r))) x) refl)
    (λ e. unsaid_if P u (keeps lease x.request && waits_next x.stage) x (in_stage (stage.Grouped (Some (sending.Due step))) x) refl h))
    xs t

-- ---- all that a call can be for

job_sourced : (c : Core) (e : CoreEvent) (now : ℕ) (o : OutCall) (a : Answer) (h : Hears c e o a) → Meets c e now (hearing now o.call h.answer c) → (j : OutJob) → o.job ≡ j → AllIf (Sourced c e now) (answered_job now o j a (hearing now o.call h.answer c))
job_sourced c e now o a h m job.Wait j = wait_sourced c e now o a h m j
job_sourced c e now o (Done reply) h m (job.Acquire k) j = acquire_sourced c e now o reply h m k j
job_sourced c e now o (Refused r) h m (job.Acquire k) j = by (Rattle.proxy_model.specs.Keyed.at (hearing now o.call h.answer c).acquires k)
  where
    by : (q : Option Acquire) → AllIf (Sourced c e now) (acquire_if (hearing now o.call h.answer c) (answered_acquire (moment (hearing now o.call h.answer c) now) k q (Refused r) (reads_of (hearing now o.call h.answer c))))
    by None = all_sourced c e now _ m.since
    by (Some x) = acquire_refused_all (Sourced c e now) (unsaid_sourced c e now) _ k _ _ (all_sourced c e now _ m.since)
job_sourced c e now o (Done reply) h m (job.Ask k) j = ask_sourced c e now o reply h k j (hearing now o.call h.answer c) m.since
job_sourced c e now o (Refused r) h m (job.Ask k) j =
    all_mapped (Since c) (Sourced c e now) (λ a. cond (calls_as o.call a) (said (Refused r) a) a)
    (λ y s. unsaid_if (Sourced c e now) (unsaid_sourced c e now) (calls_as o.call y) y (said (Refused r) y) refl (since_sourced c e now y s)) _ m.since
job_sourced c e now o (Done reply) h m (job.Group lease) j = group_sourced c e now o reply h lease j (hearing now o.call h.answer c) m.since
job_sourced c e now o (Refused r) h m (job.Group lease) j = group_refused_all (Sourced c e now) (unsaid_sourced c e now) _ o.call lease r _ (all_sourced c e now _ m.since)
job_sourced c e now o (Done reply) h m (job.Grant lease) j = granted_all (Sourced c e now) o reply.body (hearing now o.call h.answer c) (all_sourced c e now _ m.since)
job_sourced c e now o (Refused r) h m (job.Grant lease) j = grant_failed_all (Sourced c e now) o (hearing now o.call h.answer c) (all_sourced c e now _ m.since)
job_sourced c e now o (Done reply) h m (job.Keep lease) j = renewed_all (Sourced c e now) (unsaid_sourced c e now) now o reply.body (hearing now o.call h.answer c) (all_sourced c e now _ m.since)
job_sourced c e now o (Refused r) h m (job.Keep lease) j = keep_failed_all (Sourced c e now) o (hearing now o.call h.answer c) (all_sourced c e now _ m.since)

pub heard_sourced : (c : Core) (e : CoreEvent) (now : ℕ) (o : OutCall) (a : Answer) (h : Hears c e o a) → Meets c e now (hearing now o.call h.answer c) → All (Sourced c e now) (heard_call now o (Some a) (hearing now o.call h.answer c)).asks
heard_sourced c e now o a h m = by (answered_job now o o.job a (hearing now o.call h.answer c)) (job_sourced c e now o a h m o.job refl)
  where
    by : (q : Option Core) → AllIf (Sourced c e now) q → All (Sourced c e now) (or_lost now o (hearing now o.call h.answer c) q).asks
    by None t = lost_call_all (Sourced c e now) (unsaid_sourced c e now) now o (hearing now o.call h.answer c) (all_sourced c e now _ m.since)
    by (Some d) t = t

-- ---- what is heard changes the cached header, and nothing after it does

abbrev Same : Core → Core → Type 0
Same c d = d.header ≡ c.header

abbrev SameIf : Core → Option Core → Type 0
SameIf c None = Unit {0}
SameIf c (Some d) = Same c d

either : {A : Type 0} (P : A → Type 0) (b : Bool) (x y : A) → P x → P y → P (cond b x y)
either P true x y f g = f
either P false x y f g = g

lost_same : (now : ℕ) (o : OutCall) (j : OutJob) (c : Core) → Same c (lost_job now o j c)
lost_same now o (job.Grant lease) c = either (Same c) (seat_calls o.call c.seat) _ c refl refl
lost_same now o (job.Keep lease) c = either (Same c) (seat_calls o.call c.seat) _ c refl refl
lost_same now o (job.Acquire k) c = refl
lost_same now o job.Wait c = refl
lost_same now o (job.Ask k) c = refl
lost_same now o (job.Group lease) c = refl

granted_same : (o : OutCall) (b : Body) (c : Core) → SameIf c (granted_by o b c)
granted_same o (body.Grant lease ttl) c = either (Same c) (seat_calls o.call c.seat) _ c refl refl
granted_same o (body.Range count more kvs) c = tt
granted_same o (body.Put prev) c = tt
granted_same o (body.Delete deleted prevs) c = tt
granted_same o (body.Txn' succeeded m bodies) c = tt
granted_same o body.Compact c = tt
granted_same o body.Revoke c = tt
granted_same o (body.KeepAlive lease ttl) c = tt
granted_same o (body.TimeToLive lease ttl granted keys) c = tt
granted_same o (body.Leases leases) c = tt

kept_same : (now : ℕ) (o : OutCall) (b : Body) (c : Core) → SameIf c (kept_by now o b c)
kept_same now o (body.KeepAlive lease ttl) c = either (Same c) (seat_calls o.call c.seat) (kept now o ttl c) c (either (Same c) (ttl == 0) (without_session now c) _ refl refl) refl
kept_same now o (body.Range count more kvs) c = tt
kept_same now o (body.Put prev) c = tt
kept_same now o (body.Delete deleted prevs) c = tt
kept_same now o (body.Txn' succeeded m bodies) c = tt
kept_same now o body.Compact c = tt
kept_same now o (body.Grant lease ttl) c = tt
kept_same now o body.Revoke c = tt
kept_same now o (body.TimeToLive lease ttl granted keys) c = tt
kept_same now o (body.Leases leases) c = tt

acquire_same : (c : Core) (q : Option AfterAcquire) → SameIf c (acquire_if c q)
acquire_same c None = tt
acquire_same c (Some x) = either (λ (d : Core). Same c (with_reads d x.reads)) x.ends (record c { seat = None }) c refl refl

wait_same : (c : Core) (q : Option Reads) → SameIf c (reads_if c q)
wait_same c None = tt
wait_same c (Some r) = refl

ask_same : (k : CallKind) (o : OutCall) (a : Answer) (c : Core) → SameIf c (ask_answered k o a c)
ask_same k o (Done reply) c = either (SameIf c) (is_body_of k reply.body) (Some (ask_done k o reply c)) None (either (Same c) (is_stale_reply k o reply) (with_caller o.call (stale_once c.members.count c.own.waits.step) (member_failed o c)) (with_caller o.call (said (Done reply)) c) refl refl) tt
ask_same k o (Refused r) c = refl

job_same : (now : ℕ) (o : OutCall) (j : OutJob) (a : Answer) (c : Core) → SameIf c (answered_job now o j a c)
job_same now o (job.Grant lease) (Done reply) c = granted_same o reply.body c
job_same now o (job.Grant lease) (Refused r) c = either (Same c) (seat_calls o.call c.seat) _ c refl refl
job_same now o (job.Keep lease) (Done reply) c = kept_same now o reply.body c
job_same now o (job.Keep lease) (Refused r) c = either (Same c) (seat_calls o.call c.seat) _ c refl refl
job_same now o (job.Acquire k) a c = acquire_same c (acquire_answered (moment c now) k a (reads_of c))
job_same now o job.Wait a c = wait_same c (wait_answered (moment c now) o.call a (reads_of c))
job_same now o (job.Ask k) a c = ask_same k o a c
job_same now o (job.Group lease) a c = either (SameIf c) (answers_keepalive a) _ None refl tt

heard_same : (now : ℕ) (o : OutCall) (x : Option Answer) (c : Core) → Same c (heard_call now o x c)
heard_same now o None c = lost_same now o o.job (member_failed o c)
heard_same now o (Some a) c = by (answered_job now o o.job a c) (job_same now o o.job a c)
  where
    by : (q : Option Core) → SameIf c q → Same c (or_lost now o c q)
    by None h = lost_same now o o.job (member_failed o c)
    by (Some d) h = h

-- ---- a whole step

stepped_is : (c : Core) (call now : ℕ) (a : Answer) (o : OutCall) → is_worn c ≡ false → out_at call (clock_work now c).out ≡ Some o
    → stepped c (event.Answer call a) now ≡ counted (noted (writes_go_on (answered_call now o a (call_gone call (clock_work now c)))))
unfolding stepped on_answer
stepped_is c call now a o n f =
    ap (λ b. cond b (faults c fault.Worn) (counted (happened now (event.Answer call a) (clock_work now c)))) n
    ∙ ap (λ (q : Option OutCall). counted (answer_of now call a q (clock_work now c))) f

hearing_header : (c : Core) (now : ℕ) (o : OutCall) (a : Answer) (call : ℕ) → (answered_call now o a (call_gone call (clock_work now c))).header ≡ (hearing now call a c).header
hearing_header c now o a call = heard_same now o (heard (clock_work now c).settings.namespace a) (hearing now call a c)

top_is : (c : Core) (call now : ℕ) (a : Answer) (o : OutCall) → is_worn c ≡ false → out_at call (clock_work now c).out ≡ Some o → (stepped c (event.Answer call a) now).core.header ≡ (hearing now call a c).header
top_is c call now a o n f = ap (λ (s : Stepped). s.core.header) (stepped_is c call now a o n f) ∙ hearing_header c now o a call

-- what is heard meets what the clock's work left
met : (c : Core) (e : CoreEvent) (now call : ℕ) (a : Answer) → All (Since c) (clock_work now c).asks → Whole 0 (clock_work now c) → (stepped c e now).core.header ≡ (hearing now call a c).header → Meets c e now (hearing now call a c)
met c e now call (Done reply) t w top = record { since = t; own = refl; standing = _; reads = w.mid.reads; asks = w.mid.agrees.asks; writes = w.mid.agrees.writes; top = top }
met c e now call (Refused r) t w top = record { since = t; own = refl; standing = _; reads = w.mid.reads; asks = w.mid.agrees.asks; writes = w.mid.agrees.writes; top = top }

hearing_since : (c : Core) (now call : ℕ) (a : Answer) → All (Since c) (clock_work now c).asks → All (Since c) (hearing now call a c).asks
hearing_since c now call (Done reply) t = t
hearing_since c now call (Refused r) t = t

pub answer_all : (c : Core) (now call : ℕ) (a : Answer) → is_worn c ≡ false → CoreOk c → StepAll (Sourced c (event.Answer call a) now) (on_answer now call a (clock_work now c))
unfolding on_answer
answer_all c now call a n ok = by_out (out_at call (clock_work now c).out) refl
  where
    whole : Whole 0 (clock_work now c)
    whole = clock_whole 0 now c (of_ok c ok).mid

    since : All (Since c) (clock_work now c).asks
    since = clock_since c now ok.agrees.asks.once

    by_heard : (o : OutCall) → out_at call (clock_work now c).out ≡ Some o → o.call ≡ call → (q : Option Answer) → heard (clock_work now c).settings.namespace a ≡ q → All (Sourced c (event.Answer call a) now) (heard_call now o q (hearing now call a c)).asks
    by_heard o f is None g = lost_call_all (Sourced c (event.Answer call a) now) (unsaid_sourced c (event.Answer call a) now) now o (hearing now call a c) (all_sourced c (event.Answer call a) now _ (hearing_since c now call a since))
    by_heard o f is (Some x) g =
        let same = clock_leaves now c in
        let hears : Hears c (event.Answer call a) o x =
        record {
          answer = a;
          event = ap (λ (i : ℕ). event.Answer i a) (sym is);
          out = ap (λ (i : ℕ). out_at i c.out) is ∙ sym (ap (λ (os : List OutCall). out_at call os) same.out) ∙ f;
          heard = sym (ap (λ (s : Settings). heard s.namespace a) same.settings) ∙ g;
        } in
        subst (λ (i : ℕ). All (Sourced c (event.Answer call a) now) (heard_call now o (Some x) (hearing now i a c)).asks) is
        (heard_sourced c (event.Answer call a) now o x hears
        (subst (λ (i : ℕ). Meets c (event.Answer call a) now (hearing now i a c)) (sym is) (met c (event.Answer call a) now call a since whole (top_is c call now a o n f))))

    by_out : (q : Option OutCall) → out_at call (clock_work now c).out ≡ q → StepAll (Sourced c (event.Answer call a) now) (answer_of now call a q (clock_work now c))
    by_out None f = all_sourced c (event.Answer call a) now _ since
    by_out (Some o) f = by_heard o f (found_is call o (clock_work now c).out f).number (heard (clock_work now c).settings.namespace a) refl
