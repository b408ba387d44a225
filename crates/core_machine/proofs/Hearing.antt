-- What an answer to a call does, by what its call is for.
use Rattle.std.proofs.Common.{◌≡◌, ℕ, Bool, true, false, if◌then◌else◌, List, Option, None, Some, is_some, refl, sym, ap, subst, ◌∙◌}
use Rattle.etcd_types.specs.declared.answer.Answer.{Answer}
use Rattle.etcd_types.specs.declared.answer.Answer.TheVariants.{Done, Refused}
use Rattle.etcd_types.specs.declared.record.Header.{Header}
use Rattle.read_model.specs.Acquires.{AfterAcquire, acquire_answered}
use Rattle.read_model.specs.State.{Reads}
use Rattle.read_model.specs.WriteAnswers.{wait_answered}
use Rattle.core_model.specs.declared.out_call.OutCall.{OutCall}
use Rattle.core_model.specs.declared.out_call.OutJob.{OutJob}
use Rattle.core_model.specs.declared.out_call.OutJob.TheVariants as job
use Rattle.core_model.specs.ClockWork.{writes_go_on}
use Rattle.core_model.specs.Ends.{answer_of, answered_job, acquire_if, reads_if, is_keepalive, or_lost, heard_call, lost_call, call_gone}
use Rattle.core_model.specs.Fits.{passes}
use Rattle.core_model.specs.Groups.{groups_ended}
use Rattle.read_model.specs.declared.asked.Verdict.TheVariants as verdict
use Rattle.core_model.specs.Heard.{heard, answer_taken}
use Rattle.core_model.specs.Lookups.{moment, reads_of, with_reads, out_at}
use Rattle.core_model.specs.State.{Core}
use Rattle.core_model.specs.Stepped.{noted}
use Rattle.core_machine.specs.Answers.{delivered, heard_in, ended_in, is_wait, is_group_for, GroupIs, Hears, Answers, without_seat_if}
use Rattle.core_machine.specs.Keeping.{Kept}

pub there : {A : Type 0} (x : Option A) → is_some x ≡ true → (y : A) × (x ≡ Some y)
there None e = absurd (cc)
there (Some y) e = (y, refl)

-- the header is heard field by field
pub taken_in : (a : Answer) (c : Core) → answer_taken a c ≡ heard_in (delivered a) c
taken_in (Done reply) c = refl
taken_in (Refused r) c = refl

-- what was heard of a call that is out is what its answer does
pub answered_so :
    (k new : Kept) (now call : ℕ) (a : Answer)
    → is_some (out_at call k.core.out) ≡ true → Hears k now call (heard k.core.settings.namespace a) (delivered a) new
    → answer_of now call a (out_at call k.core.out) k.core ≡ noted (writes_go_on new.core)
answered_so k new now call a h hears =
    let o = there (out_at call k.core.out) h in
    ap (λ z. answer_of now call a z k.core) o.1
    ∙ ap (λ (c : Core). noted (writes_go_on (heard_call now o.0 (heard k.core.settings.namespace a) c))) (taken_in a (call_gone call k.core))
    ∙ ap (λ (v : Kept). noted (writes_go_on v.core)) (sym (hears o.0 o.1))

pub ranges_heard :
    (k new : Kept) (now call : ℕ) (x : Option Answer) (d : Option Header)
    → is_some (out_at call k.core.out) ≡ true → Hears k now call x d new → new.ranges ≡ k.ranges
ranges_heard k new now call x d h hears =
    let o = there (out_at call k.core.out) h in ap (λ (v : Kept). v.ranges) (hears o.0 o.1)

heard_so :
    (now : ℕ) (o : OutCall) (j : OutJob) (a : Answer) (c : Core) (x : Option Core)
    → o.job ≡ j → answered_job now o j a c ≡ x → heard_call now o (Some a) c ≡ or_lost now o c x
heard_so now o j a c x e f = ap (λ z. or_lost now o c (answered_job now o z a c)) e ∙ ap (or_lost now o c) f

-- What the call that is out is for.

pub waits : (o : OutCall) (x : Option OutCall) → x ≡ Some o → passes (λ o. is_wait o.job) x ≡ true → o.job ≡ job.Wait
waits o x e h = of o.job (ap (passes (λ o. is_wait o.job)) (sym e) ∙ h)
  where
    of : (j : OutJob) → is_wait j ≡ true → j ≡ job.Wait
    of job.Wait h = refl
    of _ h = absurd (cc)

pub groups : (lease : ℕ) (o : OutCall) (x : Option OutCall) → x ≡ Some o → GroupIs lease x → o.job ≡ job.Group lease
groups lease o x e h = of o.job (subst (GroupIs lease) e h)
  where
    of : (j : OutJob) → is_group_for lease j → j ≡ job.Group lease
    of (job.Group n) h = ap job.Group h
    of _ h = absurd h

-- An acquire.

seat_after : (ends : Bool) (c : Core) (r : Reads) → with_reads (if ends then record c { seat = None } else c) r ≡ without_seat_if ends (with_reads c r)
seat_after true c r = refl
seat_after false c r = refl

pub acquire_heard :
    (now call : ℕ) (d : Option Header) (o : OutCall) (k : List ℕ) (a : Answer) (c : Core) (x : AfterAcquire)
    → o.job ≡ job.Acquire k → acquire_answered (moment (heard_in d c) now) k a (reads_of c) ≡ Some x
    → heard_call now o (Some a) (ended_in call d c) ≡ without_seat_if x.ends (ended_in call d (with_reads c x.reads))
acquire_heard now call d o k a c x e f =
    let g = ended_in call d c in
    heard_so now o (job.Acquire k) a g _ e (ap (acquire_if g) f) ∙ seat_after x.ends g x.reads

-- A write's call, a revoke call or a rescind.

pub wait_heard :
    (now call : ℕ) (d : Option Header) (o : OutCall) (a : Answer) (c : Core) (r : Reads)
    → o.job ≡ job.Wait → o.call ≡ call → wait_answered (moment (heard_in d c) now) call a (reads_of c) ≡ Some r
    → heard_call now o (Some a) (ended_in call d c) ≡ ended_in call d (with_reads c r)
wait_heard now call d o a c r e n f =
    let g = ended_in call d c in
    heard_so now o job.Wait a g _ e (ap (λ m. reads_if g (wait_answered (moment g now) m a (reads_of g))) n ∙ ap (reads_if g) f)

pub wait_not_heard :
    (now call : ℕ) (d : Option Header) (o : OutCall) (a : Answer) (c : Core)
    → o.job ≡ job.Wait → o.call ≡ call → wait_answered (moment (heard_in d c) now) call a (reads_of c) ≡ None
    → heard_call now o (Some a) (ended_in call d c) ≡ lost_call now o (ended_in call d c)
wait_not_heard now call d o a c e n f =
    let g = ended_in call d c in
    heard_so now o job.Wait a g _ e (ap (λ m. reads_if g (wait_answered (moment g now) m a (reads_of g))) n ∙ ap (reads_if g) f)

-- A keepalive for clients.

abbrev pub keepalives_end : ℕ → ℕ → Answer → Core → Core
keepalives_end call lease a c = record c { asks = groups_ended c.own.waits.step call lease (verdict.Said a) c.asks }

pub group_heard :
    (now call lease : ℕ) (d : Option Header) (o : OutCall) (a : Answer) (c : Core)
    → o.job ≡ job.Group lease → o.call ≡ call → is_keepalive a ≡ true
    → heard_call now o (Some a) (ended_in call d c) ≡ ended_in call d (keepalives_end call lease a c)
group_heard now call lease d o a c e n t =
    let g = ended_in call d c in
    heard_so now o (job.Group lease) a g _ e (ap (λ b. if b then Some (keepalives_end o.call lease a g) else None) t ∙ ap (λ m. Some (keepalives_end m lease a g)) n)

-- The session's calls and a client's own.

pub not_taken :
    (now : ℕ) (o : OutCall) (a : Answer) (k new : Kept)
    → Answers k (answered_job now o o.job a k.core) false new → (new ≡ k) × (heard_call now o (Some a) k.core ≡ lost_call now o k.core)
not_taken now o a k new h = of (answered_job now o o.job a k.core) h
  where
    of : (x : Option Core) → Answers k x false new → (new ≡ k) × (or_lost now o k.core x ≡ lost_call now o k.core)
    of None h = (h.1, refl)
    of (Some c) h = let e = h.0 in absurd (cc)
