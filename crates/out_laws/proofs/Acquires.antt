-- What a step makes of the acquires: each that is out under a number that was given before is the one that stood at its key.
use Rattle.std.proofs.Common.{◌≡◌, ◌≢◌, ℕ, ◌+◌, Bool, true, false, cond, List, [], ◌∷◌, Option, None, Some, Result, Ok, Err, sym, ◌∙◌, ap, subst}
use Rattle.std.specs.Option.{option_map}
use Rattle.etcd_types.specs.Keys.{same}
use Rattle.proxy_model.specs.Keyed.{Keyed, at, changed_at}
use Rattle.proxy_model.proofs.KeyedLaws.{at-with_at}
use Rattle.wait_model.specs.declared.sending.Sending.TheVariants as sending
use Rattle.wait_model.specs.Sent.{JobSent, job_sent}
use Rattle.wait_model.proofs.Tables.{at-without}
use Rattle.read_model.specs.declared.acquire.Acquire.{Acquire}
use Rattle.read_model.specs.declared.asked.Asked.{Asked}
use Rattle.read_model.specs.Acquires.{sent_out}
use Rattle.read_model.specs.SessionEnd.{is_due}
use Rattle.watch_model.specs.declared.stream.StreamJob.{StreamJob}
use Rattle.watch_model.specs.declared.stream.StreamJob.TheVariants as stream
use Rattle.watch_model.specs.Due.{next_job}
use Rattle.core_model.specs.declared.event.CoreEvent.{CoreEvent}
use Rattle.core_model.specs.declared.event.CoreEvent.TheVariants as event
use Rattle.core_model.specs.declared.event.Outcome.{Outcome}
use Rattle.core_model.specs.declared.event.StepFault.{StepFault}
use Rattle.core_model.specs.declared.event.StepFault.TheVariants as fault
use Rattle.core_model.specs.ClockWork.{clock_work}
use Rattle.core_model.specs.DueJobs.{DueJob, ForSession, ForWrites, ForAcquire, ForAsk, ForGroup, ToOpen, ForStream, first_job}
use Rattle.core_model.specs.Sending.{next_call, writes_sent, sent_by, on_work}
use Rattle.core_model.specs.State.{Core}
use Rattle.core_model.specs.Step.{is_worn, happened, stepped}
use Rattle.core_model.specs.Stepped.{Stepped, faults, counted, counted_by}
use Rattle.core_model.specs.Watching.{with_watches, stream_job}
use Rattle.core_laws.proofs.Steps.Comes.{by_test}
use Rattle.keep_laws.proofs.Rows.{All}
use Rattle.reply_laws.proofs.Lasting.{Lasts, clock_so, answered_so, lost_so, asked_so, take_so, leave_so, tick_so, item_so, cut_so}
use Rattle.out_laws.proofs.Steps.{same_calls}

-- it stood there
abbrev pub Since : Keyed Acquire → ℕ → Keyed Acquire → Type 0
Since before next xs = (k : List ℕ) (n : ℕ) (x : Acquire) → at xs k ≡ Some x → x.sending ≡ sending.Out n → n ≢ next → at before k ≡ Some x

-- nothing is asked of the requests
abbrev Any : Asked → Type 0
Any a = Unit {0}

any : (xs : List Asked) → All Any xs
any [] = tt
any (a ∷ xs) = (tt, any xs)

abbrev Stood : Keyed Acquire → ℕ → Core → Type 0
Stood before next c = All Any c.asks × Since before next c.acquires

same_acquire : (x y : Acquire) → Some x ≡ Some y → x ≡ y
same_acquire x y e = cc

since_lasts : (before : Keyed Acquire) (next : ℕ) → Lasts Any (Since before next)
since_lasts before next = record {
  uncalled = λ y u. tt;
  gone = λ xs k h j n x e o d. gone_at xs (same k j) j n x h (sym (at-with_at xs k j None) ∙ e) o d;
  due = λ xs k y i h j n x e o d. due_at xs (same k j) y j n x i h (sym (at-with_at xs k j (Some y)) ∙ e) o d;
  less = λ xs p h j n x e o d. gone_at xs (p j) j n x h (sym (at-without p xs j) ∙ e) o d;
}
  where
    gone_at : (xs : Keyed Acquire) (b : Bool) (j : List ℕ) (n : ℕ) (x : Acquire) → Since before next xs → cond b None (at xs j) ≡ Some x → x.sending ≡ sending.Out n → n ≢ next → at before j ≡ Some x
    gone_at xs true j n x h e o d = absurd (cc)
    gone_at xs false j n x h e o d = h j n x e o d

    due_at : (xs : Keyed Acquire) (b : Bool) (y : Acquire) (j : List ℕ) (n : ℕ) (x : Acquire) → is_due y.sending ≡ true → Since before next xs → cond b (Some y) (at xs j) ≡ Some x → x.sending ≡ sending.Out n → n ≢ next → at before j ≡ Some x
    due_at xs true y j n x i h e o d = absurd (let s : y.sending ≡ sending.Out n = ap (λ (z : Acquire). z.sending) (same_acquire y x e) ∙ o in let f : false ≡ true = sym (ap is_due s) ∙ i in cc)
    due_at xs false y j n x i h e o d = h j n x e o d

-- the one that is sent is out under the next number
sent_since : (before : Keyed Acquire) (next : ℕ) (k : List ℕ) (xs : Keyed Acquire) → Since before next xs → Since before next (changed_at xs k (sent_out next))
sent_since before next k xs h j n x e o d = by (same k j) (at xs k) (sym (at-with_at xs k j (option_map (sent_out next) (at xs k))) ∙ e)
  where
    by : (b : Bool) (a : Option Acquire) → cond b (option_map (sent_out next) a) (at xs j) ≡ Some x → at before j ≡ Some x
    by false a t = h j n x t o d
    by true None t = absurd (cc)
    by true (Some y) t = absurd (d (number (ap (λ (z : Acquire). z.sending) (same_acquire (sent_out next y) x t) ∙ o)))
      where
        number : sending.Out next ≡ sending.Out n → n ≡ next
        number i = cc

sent_stood : (before : Keyed Acquire) (now : ℕ) (c : Core) (j : Option DueJob) → Stood before (next_call c) c → Stood before (next_call c) (sent_by now j c).core
sent_stood before now c j h = (any (sent_by now j c).core.asks, by_job j)
  where
    by_job : (j : Option DueJob) → Since before (next_call c) (sent_by now j c).core.acquires
    by_job None = h.1
    by_job (Some (ForSession x)) = h.1
    by_job (Some ForWrites) = by (job_sent (next_call c) c.own)
      where
        by : (x : Option JobSent) → Since before (next_call c) (writes_sent now x c).core.acquires
        by None = h.1
        by (Some x) = h.1
    by_job (Some (ForAcquire k x)) = sent_since before (next_call c) k c.acquires h.1
    by_job (Some (ForAsk a)) = h.1
    by_job (Some (ForGroup lease ticket)) = h.1
    by_job (Some (ToOpen o)) = h.1
    by_job (Some (ForStream x)) = by (next_job c.watches (Some x)).1
      where
        by : (o : Option StreamJob) → Since before (next_call c) (stream_job o (with_watches c (next_job c.watches (Some x)).0)).core.acquires
        by None = h.1
        by (Some (stream.Close number)) = h.1
        by (Some (stream.Open number range start)) = h.1

happened_stood : (before : Keyed Acquire) (now : ℕ) (e : CoreEvent) (c : Core) → Stood before (next_call c) c → Stood before (next_call c) (happened now e c).core
unfolding on_work
happened_stood before now (event.Ask ticket q word) c h = asked_so Any (Since before (next_call c)) (since_lasts before (next_call c)) now ticket q word c h
happened_stood before now (event.Answer call a) c h = answered_so Any (Since before (next_call c)) (since_lasts before (next_call c)) now call a c h
happened_stood before now (event.Lost call) c h = lost_so Any (Since before (next_call c)) (since_lasts before (next_call c)) now call c h
happened_stood before now (event.Tick word) c h = tick_so Any (Since before (next_call c)) (since_lasts before (next_call c)) now word c h
happened_stood before now (event.Item number x) c h = item_so Any (Since before (next_call c)) (since_lasts before (next_call c)) now number x c h
happened_stood before now (event.Cut number) c h = cut_so Any (Since before (next_call c)) (since_lasts before (next_call c)) number c h
happened_stood before now (event.Take ticket) c h = take_so Any (Since before (next_call c)) (since_lasts before (next_call c)) ticket c h
happened_stood before now (event.Leave ticket) c h = leave_so Any (Since before (next_call c)) (since_lasts before (next_call c)) now ticket c h
happened_stood before now event.Work c h = sent_stood before now c (first_job c) h

counted_since : (before : Keyed Acquire) (next : ℕ) (c : Core) (r : Result Outcome StepFault) → Since before next c.acquires → Since before next (counted_by c r).core.acquires
counted_since before next c (Ok o) h = h
counted_since before next c (Err f) h = h

pub stepped_since : (c : Core) (e : CoreEvent) (now : ℕ) → Since c.acquires (next_call c) (stepped c e now).core.acquires
unfolding stepped
stepped_since c e now =
    by_test (λ (s : Stepped). Since c.acquires (next_call c) s.core.acquires) (is_worn c) (faults c fault.Worn) (counted came) (λ w k n x a o d. a)
    (λ w. counted_since c.acquires (next_call c) came.core came.outcome stood)
  where
    d : Core
    d = clock_work now c

    came : Stepped
    came = happened now e (clock_work now c)

    clock : Stood c.acquires (next_call c) (clock_work now c)
    clock = clock_so Any (Since c.acquires (next_call c)) (since_lasts c.acquires (next_call c)) now c (any c.asks, λ k n x a o d. a)

    next : next_call (clock_work now c) ≡ next_call c
    next = ap (λ (n : ℕ). n + 1) (same_calls now c)

    stood : Since c.acquires (next_call c) (happened now e (clock_work now c)).core.acquires
    stood = subst (λ (n : ℕ). Since c.acquires n (happened now e (clock_work now c)).core.acquires) next (happened_stood c.acquires now e (clock_work now c) (subst (λ (n : ℕ). Stood c.acquires n (clock_work now c)) (sym next) clock)).1
