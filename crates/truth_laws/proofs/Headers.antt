-- What a step of a proxy makes of its cached header: it never falls, it is no lower than the header that the step is given, and no
-- higher than the greater of both.
use Rattle.std.proofs.Common.{◌≡◌, inl, inr, ℕ, ◌≤◌, Bool, true, false, cond, ◌==◌, nat_le, List, Option, None, Some, Result, Ok, Err, refl, sym, ◌∙◌, ap, subst, arith}
use Rattle.std.proofs.lemmas.Bool.Decides.{nat_tests}
use Rattle.etcd_types.specs.declared.answer.Answer.{Answer}
use Rattle.etcd_types.specs.declared.answer.Answer.TheVariants.{Done, Refused}
use Rattle.etcd_types.specs.declared.answer.Body.{Body}
use Rattle.etcd_types.specs.declared.answer.Body.TheVariants as body
use Rattle.etcd_types.specs.declared.answer.Reply.{Reply}
use Rattle.etcd_types.specs.declared.record.Header.{Header}
use Rattle.read_model.specs.Acquires.{AfterAcquire, acquire_answered}
use Rattle.read_model.specs.State.{Reads}
use Rattle.read_model.specs.WriteAnswers.{wait_answered}
use Rattle.core_model.specs.declared.event.CoreEvent.{CoreEvent}
use Rattle.core_model.specs.declared.event.CoreEvent.TheVariants as event
use Rattle.core_model.specs.declared.event.Job.TheVariants as sent
use Rattle.core_model.specs.declared.event.Outcome.{Outcome}
use Rattle.core_model.specs.declared.event.Outcome.TheVariants as outcome
use Rattle.core_model.specs.declared.event.StepFault.{StepFault}
use Rattle.core_model.specs.declared.event.StepFault.TheVariants as fault
use Rattle.core_model.specs.declared.out_call.CallKind.{CallKind}
use Rattle.core_model.specs.declared.out_call.OutCall.{OutCall}
use Rattle.core_model.specs.declared.out_call.OutJob.{OutJob}
use Rattle.core_model.specs.declared.out_call.OutJob.TheVariants as job
use Rattle.core_model.specs.ClockWork.{clock_work}
use Rattle.core_model.specs.Ends.{call_gone, is_stale_reply, stale_once, said, ask_done, ask_answered, is_keepalive, member_failed, acquire_if, reads_if, answered_job, lost_job, or_lost, heard_call, answer_of, on_answer, with_caller}
use Rattle.core_model.specs.Heard.{heard, header_taken, later_header}
use Rattle.core_model.specs.Kinds.{is_body_of}
use Rattle.core_model.specs.LeasingStream.{item_header}
use Rattle.core_model.specs.Lookups.{moment, out_at, reads_of, with_reads}
use Rattle.core_model.specs.Sessions.{seat_calls, without_session, granted_by, kept, kept_by}
use Rattle.core_model.specs.State.{Core}
use Rattle.core_model.specs.Step.{is_worn, stepped}
use Rattle.core_model.specs.Stepped.{Stepped, faults, counted}
use Rattle.core_laws.proofs.Watches.Touches.{Side, side, is_plain, Touch, leaves, hears, ticks, joins, heard_leasing, broke_leasing, cut_leasing, told, cut, took, left_it, opens_leasing, sends, step_touches}

-- ---- the later of two headers

pub no_older : (old new : Header) → old.revision ≤ (later_header old new).revision
no_older old new = by (nat_le old.revision new.revision) refl
  where
    by : (b : Bool) → nat_le old.revision new.revision ≡ b → old.revision ≤ (cond b new old).revision
    by true e = grind (arith, nat_tests, e)
    by false e = omega arith

pub no_newer : (old new : Header) (most : ℕ) → old.revision ≤ most → new.revision ≤ most → (later_header old new).revision ≤ most
no_newer old new most h k = by (nat_le old.revision new.revision)
  where
    by : (b : Bool) → (cond b new old).revision ≤ most
    by true = k
    by false = h

pub has_new : (old new : Header) → new.revision ≤ (later_header old new).revision
has_new old new = by (nat_le old.revision new.revision) refl
  where
    by : (b : Bool) → nat_le old.revision new.revision ≡ b → new.revision ≤ (cond b new old).revision
    by true e = omega arith
    by false e = grind (arith, nat_tests, e)

-- ---- by what a step does to its side

-- the header that an event brings is up to this
abbrev pub TakesIn : ℕ → CoreEvent → Type 0
TakesIn most (event.Answer call (Done reply)) = reply.header.revision ≤ most
TakesIn most (event.Item number x) = (item_header x).revision ≤ most
TakesIn most (event.Answer call (Refused r)) = Unit {0}
TakesIn most (event.Ask ticket q word) = Unit {0}
TakesIn most (event.Lost call) = Unit {0}
TakesIn most (event.Tick word) = Unit {0}
TakesIn most (event.Cut number) = Unit {0}
TakesIn most (event.Take ticket) = Unit {0}
TakesIn most (event.Leave ticket) = Unit {0}
TakesIn most event.Work = Unit {0}

touch_rises : (n : List ℕ) (a d : Side) (e : CoreEvent) (o : Result Outcome StepFault) → Touch n a e d o → a.header.revision ≤ d.header.revision
touch_rises n a _ _ _ (leaves e o p) = omega arith
touch_rises n a _ _ _ (hears call reply o p) = no_older a.header reply.header
touch_rises n a _ _ _ (ticks word) = omega arith
touch_rises n a _ _ _ (joins ticket ask word f) = omega arith
touch_rises n a _ _ _ (heard_leasing number x l) = no_older a.header (item_header x)
touch_rises n a _ _ _ (broke_leasing number x l) = no_older a.header (item_header x)
touch_rises n a _ _ _ (cut_leasing number l) = omega arith
touch_rises n a _ _ _ (told number x s f) = no_older a.header (item_header x)
touch_rises n a _ _ _ (cut number s f) = omega arith
touch_rises n a _ _ _ (took ticket w i is f q) = omega arith
touch_rises n a _ _ _ (left_it ticket) = omega arith
touch_rises n a _ _ _ (opens_leasing number member q l) = omega arith
touch_rises n a _ _ _ (sends c s m is f) = omega arith

touch_bounded : (most : ℕ) (n : List ℕ) (a d : Side) (e : CoreEvent) (o : Result Outcome StepFault) → Touch n a e d o → TakesIn most e → a.header.revision ≤ most → d.header.revision ≤ most
touch_bounded most n a _ _ _ (leaves e o p) b h = h
touch_bounded most n a _ _ _ (hears call reply o p) b h = no_newer a.header reply.header most h b
touch_bounded most n a _ _ _ (ticks word) b h = h
touch_bounded most n a _ _ _ (joins ticket ask word f) b h = h
touch_bounded most n a _ _ _ (heard_leasing number x l) b h = no_newer a.header (item_header x) most h b
touch_bounded most n a _ _ _ (broke_leasing number x l) b h = no_newer a.header (item_header x) most h b
touch_bounded most n a _ _ _ (cut_leasing number l) b h = h
touch_bounded most n a _ _ _ (told number x s f) b h = no_newer a.header (item_header x) most h b
touch_bounded most n a _ _ _ (cut number s f) b h = h
touch_bounded most n a _ _ _ (took ticket w i is f q) b h = h
touch_bounded most n a _ _ _ (left_it ticket) b h = h
touch_bounded most n a _ _ _ (opens_leasing number member q l) b h = h
touch_bounded most n a _ _ _ (sends c s m is f) b h = h

-- a message that is heard
abbrev HeardItem : CoreEvent → Result Outcome StepFault → Side → Type 0
HeardItem (event.Item number x) (Ok o) d = (item_header x).revision ≤ d.header.revision
HeardItem (event.Item number x) (Err f) d = Unit {0}
HeardItem (event.Ask ticket q word) r d = Unit {0}
HeardItem (event.Answer call a) r d = Unit {0}
HeardItem (event.Lost call) r d = Unit {0}
HeardItem (event.Tick word) r d = Unit {0}
HeardItem (event.Cut number) r d = Unit {0}
HeardItem (event.Take ticket) r d = Unit {0}
HeardItem (event.Leave ticket) r d = Unit {0}
HeardItem event.Work r d = Unit {0}

plain_heard : (e : CoreEvent) (r : Result Outcome StepFault) (d : Side) → is_plain e r ≡ true → HeardItem e r d
plain_heard (event.Item number x) (Err f) d p = tt
plain_heard (event.Item number x) (Ok (outcome.Replied a)) d p = absurd (cc)
plain_heard (event.Item number x) (Ok outcome.Waiting) d p = absurd (cc)
plain_heard (event.Item number x) (Ok outcome.Pending) d p = absurd (cc)
plain_heard (event.Item number x) (Ok (outcome.Item i)) d p = absurd (cc)
plain_heard (event.Item number x) (Ok outcome.Noted) d p = absurd (cc)
plain_heard (event.Item number x) (Ok (outcome.Job None)) d p = absurd (cc)
plain_heard (event.Item number x) (Ok (outcome.Job (Some (sent.Call own member ticket q)))) d p = absurd (cc)
plain_heard (event.Item number x) (Ok (outcome.Job (Some (sent.Begin own member q)))) d p = absurd (cc)
plain_heard (event.Item number x) (Ok (outcome.Job (Some (sent.Close own)))) d p = absurd (cc)
plain_heard (event.Ask ticket q word) r d p = tt
plain_heard (event.Answer call a) r d p = tt
plain_heard (event.Lost call) r d p = tt
plain_heard (event.Tick word) r d p = tt
plain_heard (event.Cut number) r d p = tt
plain_heard (event.Take ticket) r d p = tt
plain_heard (event.Leave ticket) r d p = tt
plain_heard event.Work r d p = tt

touch_heard : (n : List ℕ) (a d : Side) (e : CoreEvent) (r : Result Outcome StepFault) → Touch n a e d r → HeardItem e r d
touch_heard n a _ _ _ (leaves e r p) = plain_heard e r a p
touch_heard n a _ _ _ (hears call reply r p) = tt
touch_heard n a _ _ _ (ticks word) = tt
touch_heard n a _ _ _ (joins ticket ask word f) = tt
touch_heard n a _ _ _ (heard_leasing number x l) = has_new a.header (item_header x)
touch_heard n a _ _ _ (broke_leasing number x l) = has_new a.header (item_header x)
touch_heard n a _ _ _ (cut_leasing number l) = tt
touch_heard n a _ _ _ (told number x s f) = has_new a.header (item_header x)
touch_heard n a _ _ _ (cut number s f) = tt
touch_heard n a _ _ _ (took ticket w i is f q) = tt
touch_heard n a _ _ _ (left_it ticket) = tt
touch_heard n a _ _ _ (opens_leasing number member q l) = tt
touch_heard n a _ _ _ (sends c s m is f) = tt

-- ---- behind an answer nothing changes the header that was taken in

abbrev Same : Core → Core → Type 0
Same c d = d.header ≡ c.header

abbrev SameIf : Core → Option Core → Type 0
SameIf c None = Unit {0}
SameIf c (Some d) = Same c d

either : {A : Type 0} (P : A → Type 0) (b : Bool) (x y : A) → P x → P y → P (cond b x y)
either P true x y f g = f
either P false x y f g = g

lost_same : (now : ℕ) (o : OutCall) (j : OutJob) (c : Core) → Same c (lost_job now o j c)
lost_same now o (job.Grant lease) c = either (Same c) (seat_calls o.call c.seat) _ c refl refl
lost_same now o (job.Keep lease) c = either (Same c) (seat_calls o.call c.seat) _ c refl refl
lost_same now o (job.Acquire k) c = refl
lost_same now o job.Wait c = refl
lost_same now o (job.Ask k) c = refl
lost_same now o (job.Group lease) c = refl

granted_same : (o : OutCall) (b : Body) (c : Core) → SameIf c (granted_by o b c)
granted_same o (body.Grant lease ttl) c = either (Same c) (seat_calls o.call c.seat) _ c refl refl
granted_same o (body.Range count more kvs) c = tt
granted_same o (body.Put prev) c = tt
granted_same o (body.Delete deleted prevs) c = tt
granted_same o (body.Txn' succeeded m bodies) c = tt
granted_same o body.Compact c = tt
granted_same o body.Revoke c = tt
granted_same o (body.KeepAlive lease ttl) c = tt
granted_same o (body.TimeToLive lease ttl granted keys) c = tt
granted_same o (body.Leases leases) c = tt

kept_same : (now : ℕ) (o : OutCall) (b : Body) (c : Core) → SameIf c (kept_by now o b c)
kept_same now o (body.KeepAlive lease ttl) c = either (Same c) (seat_calls o.call c.seat) (kept now o ttl c) c (either (Same c) (ttl == 0) (without_session now c) _ refl refl) refl
kept_same now o (body.Range count more kvs) c = tt
kept_same now o (body.Put prev) c = tt
kept_same now o (body.Delete deleted prevs) c = tt
kept_same now o (body.Txn' succeeded m bodies) c = tt
kept_same now o body.Compact c = tt
kept_same now o (body.Grant lease ttl) c = tt
kept_same now o body.Revoke c = tt
kept_same now o (body.TimeToLive lease ttl granted keys) c = tt
kept_same now o (body.Leases leases) c = tt

acquire_same : (c : Core) (q : Option AfterAcquire) → SameIf c (acquire_if c q)
acquire_same c None = tt
acquire_same c (Some x) = either (λ (d : Core). Same c (with_reads d x.reads)) x.ends (record c { seat = None }) c refl refl

wait_same : (c : Core) (q : Option Reads) → SameIf c (reads_if c q)
wait_same c None = tt
wait_same c (Some r) = refl

ask_same : (k : CallKind) (o : OutCall) (a : Answer) (c : Core) → SameIf c (ask_answered k o a c)
ask_same k o (Done reply) c =
    either (SameIf c) (is_body_of k reply.body) (Some (ask_done k o reply c)) None
    (either (Same c) (is_stale_reply k o reply) (with_caller o.call (stale_once c.members.count c.own.waits.step) (member_failed o c)) (with_caller o.call (said (Done reply)) c) refl refl) tt
ask_same k o (Refused r) c = refl

job_same : (now : ℕ) (o : OutCall) (j : OutJob) (a : Answer) (c : Core) → SameIf c (answered_job now o j a c)
job_same now o (job.Grant lease) (Done reply) c = granted_same o reply.body c
job_same now o (job.Grant lease) (Refused r) c = either (Same c) (seat_calls o.call c.seat) _ c refl refl
job_same now o (job.Keep lease) (Done reply) c = kept_same now o reply.body c
job_same now o (job.Keep lease) (Refused r) c = either (Same c) (seat_calls o.call c.seat) _ c refl refl
job_same now o (job.Acquire k) a c = acquire_same c (acquire_answered (moment c now) k a (reads_of c))
job_same now o job.Wait a c = wait_same c (wait_answered (moment c now) o.call a (reads_of c))
job_same now o (job.Ask k) a c = ask_same k o a c
job_same now o (job.Group lease) a c = either (SameIf c) (is_keepalive a) _ None refl tt

heard_same : (now : ℕ) (o : OutCall) (x : Option Answer) (c : Core) → Same c (heard_call now o x c)
heard_same now o None c = lost_same now o o.job (member_failed o c)
heard_same now o (Some a) c = by (answered_job now o o.job a c) (job_same now o o.job a c)
  where
    by : (q : Option Core) → SameIf c q → Same c (or_lost now o c q)
    by None h = lost_same now o o.job (member_failed o c)
    by (Some d) h = h

answer_top : (c : Core) (now call : ℕ) (reply : Reply) (o : Outcome) → (stepped c (event.Answer call (Done reply)) now).outcome ≡ Ok o → reply.header.revision ≤ (stepped c (event.Answer call (Done reply)) now).core.header.revision
unfolding stepped on_answer
answer_top c now call reply o = by (is_worn c) (out_at call (clock_work now c).out)
  where
    d : Core
    d = clock_work now c

    by : (b : Bool) (q : Option OutCall) → (cond b (faults c fault.Worn) (counted (answer_of now call (Done reply) q d))).outcome ≡ Ok o
        → reply.header.revision ≤ (cond b (faults c fault.Worn) (counted (answer_of now call (Done reply) q d))).core.header.revision
    by true q e = absurd (cc)
    by false None e = absurd (cc)
    by false (Some out) e =
        subst (λ (h : Header). reply.header.revision ≤ h.revision) (sym (heard_same now out (heard d.settings.namespace (Done reply)) (header_taken reply.header (call_gone call d)))) (has_new d.header reply.header)

-- ---- a whole step

abbrev pub revision_of : Core → ℕ
revision_of c = c.header.revision

pub record HeaderGoes (c : Core) (e : CoreEvent) (s : Stepped) : Type 0 where
  pub rises : revision_of c ≤ revision_of s.core
  pub bounded : (most : ℕ) → TakesIn most e → revision_of c ≤ most → revision_of s.core ≤ most

pub header_goes : (c : Core) (e : CoreEvent) (now : ℕ) → HeaderGoes c e (stepped c e now)
header_goes c e now = elim (step_touches c e now) [
  | inl w ↦ subst (HeaderGoes c e) (sym w) (record { rises = omega arith; bounded = λ most b h. h })
  | inr t ↦ record { rises = touch_rises _ _ _ _ _ t; bounded = λ most b h. touch_bounded most _ _ _ _ _ t b h }
]

-- of a step that gave an outcome
pub header_taken_in : (c : Core) (e : CoreEvent) (now : ℕ) (o : Outcome) → (stepped c e now).outcome ≡ Ok o → TakesIn (revision_of (stepped c e now).core) e
header_taken_in c (event.Answer call (Done reply)) now o is = answer_top c now call reply o is
header_taken_in c (event.Answer call (Refused r)) now o is = tt
header_taken_in c (event.Item number x) now o is = elim (step_touches c (event.Item number x) now) [
  | inl w ↦ absurd (let e : ◌≡◌ {A = Result Outcome StepFault} (Err fault.Worn) (Ok o) = sym (ap (λ (s : Stepped). s.outcome) w) ∙ is in cc)
  | inr t ↦ subst (λ (r : Result Outcome StepFault). HeardItem (event.Item number x) r (side (stepped c (event.Item number x) now).core)) is (touch_heard _ _ _ _ _ t)
]
header_taken_in c (event.Ask ticket q word) now o is = tt
header_taken_in c (event.Lost call) now o is = tt
header_taken_in c (event.Tick word) now o is = tt
header_taken_in c (event.Cut number) now o is = tt
header_taken_in c (event.Take ticket) now o is = tt
header_taken_in c (event.Leave ticket) now o is = tt
header_taken_in c event.Work now o is = tt
