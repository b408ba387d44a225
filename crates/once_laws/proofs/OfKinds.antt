-- A request whose own call is out is of the kind that the call was sent for.
use Rattle.std.proofs.Common.{◌≡◌, ◌≢◌, ℕ, ◌+◌, ◌==◌, Bool, true, false, cond, ◌&&◌, List, [], ◌∷◌, ◌++◌, map, Option, None, Some, Result, Ok, Err, refl, sym, ◌∙◌, ap, subst}
use Rattle.std.specs.List.{list_all, Contains}
use Rattle.etcd_types.proofs.Bools.{and_first, and_second}
use Rattle.wait_model.specs.declared.sending.Sending.{Sending}
use Rattle.wait_model.specs.declared.sending.Sending.TheVariants as sending
use Rattle.wait_model.specs.Sent.{JobSent, job_sent}
use Rattle.read_model.specs.declared.asked.Asked.{Asked}
use Rattle.read_model.specs.declared.asked.Stage.{Stage}
use Rattle.read_model.specs.declared.asked.Stage.TheVariants as stage
use Rattle.read_model.specs.PlainRead.{in_stage}
use Rattle.watch_model.specs.declared.stream.StreamJob.{StreamJob}
use Rattle.watch_model.specs.declared.stream.StreamJob.TheVariants as stream
use Rattle.watch_model.specs.Due.{next_job}
use Rattle.core_model.specs.declared.event.CoreEvent.{CoreEvent}
use Rattle.core_model.specs.declared.event.CoreEvent.TheVariants as event
use Rattle.core_model.specs.declared.event.Outcome.{Outcome}
use Rattle.core_model.specs.declared.event.StepFault.{StepFault}
use Rattle.core_model.specs.declared.event.StepFault.TheVariants as fault
use Rattle.core_model.specs.declared.out_call.CallKind.{CallKind}
use Rattle.core_model.specs.declared.out_call.OutCall.{OutCall}
use Rattle.core_model.specs.declared.out_call.OutJob.{OutJob}
use Rattle.core_model.specs.declared.out_call.OutJob.TheVariants as job
use Rattle.core_model.specs.ClockWork.{clock_work}
use Rattle.core_model.specs.DueJobs.{DueJob, ForSession, ForWrites, ForAcquire, ForAsk, ForGroup, ToOpen, ForStream, first_job}
use Rattle.core_model.specs.Fits.{CoreOk, passes, job_at, is_out_to, is_ask_job, is_stage_out, numbers_of, NumbersOk}
use Rattle.core_model.specs.Fits as fits
use Rattle.core_model.specs.Groups.{keeps, is_due_stage, group_sent}
use Rattle.core_model.specs.Kinds.{kind_of}
use Rattle.core_model.specs.Lookups.{has_ticket, ask_at, stage_calls, calls_as, out_at}
use Rattle.core_model.specs.Sending.{next_call, called_as, writes_sent, sent_by, on_work, out_call}
use Rattle.core_model.specs.State.{Core}
use Rattle.core_model.specs.Step.{is_worn, happened, stepped}
use Rattle.core_model.specs.Stepped.{Stepped, faults, counted, counted_by}
use Rattle.core_model.specs.Watching.{with_watches, stream_job}
use Rattle.core_laws.specs.Steps.Kept.{IsHeard}
use Rattle.core_laws.proofs.Steps.Calls.{job_last, found_is, is_new}
use Rattle.core_laws.proofs.Steps.Comes.{by_test}
use Rattle.core_laws.proofs.Steps.Lists.{same_number}
use Rattle.core_laws.proofs.Steps.Middle.{clock_whole}
use Rattle.core_laws.proofs.Steps.Stepping.{steps_keep}
use Rattle.core_laws.proofs.Steps.Whole.{Whole, of_ok}
use Rattle.core_fits.specs.Fits.{EachOf}
use Rattle.keep_laws.proofs.Rows.{All, all_mapped, all_kept}
use Rattle.keep_laws.proofs.Runs.{found}
use Rattle.call_laws.specs.Forms.{Keeps}
use Rattle.out_laws.proofs.Lists.{each_of, of_each, jobs_found}
use Rattle.out_laws.proofs.Outs.{out_stays}
use Rattle.owner_fits.specs.Laws.{OwnersFit}
use Rattle.reply_laws.proofs.Before.{Found, found_all, clock_leaves}
use Rattle.reply_laws.proofs.Lasting as lasting
use Rattle.reply_laws.proofs.Lasting.{is_uncalled, Lasts}
use Rattle.executed_laws.proofs.Dues.{StandsIf, first_stands}
use Rattle.once_laws.proofs.FreeCore.{AreOfKind}

abbrev pub KindAt : List OutCall → Asked → Type 0
KindAt out a = (n : ℕ) → a.stage ≡ stage.Calling (sending.Out n) → job_at n out ≡ Some (job.Ask (kind_of a.request))

abbrev pub KindsOk : Core → Type 0
KindsOk c = All (KindAt c.out) c.asks

-- ---- what goes by the number of the call

abbrev AnyAcquires : Rattle.proxy_model.specs.Keyed.Keyed Rattle.read_model.specs.declared.acquire.Acquire.Acquire → Type 0
AnyAcquires xs = Unit {0}

kinds_last : (out : List OutCall) → Lasts (KindAt out) AnyAcquires
kinds_last out = record {
  uncalled = λ y u n e. absurd (let f : true ≡ false = sym u ∙ ap is_uncalled e in cc);
  gone = λ xs k h. tt;
  due = λ xs k x d h. tt;
  less = λ xs p h. tt;
}

-- every event but a sending leaves those that were called before
other_so : (out : List OutCall) (now : ℕ) (e : CoreEvent) (c : Core) → (e ≡ event.Work → ⊥) → All (KindAt out) c.asks → All (KindAt out) (happened now e c).core.asks
other_so out now (event.Ask ticket q word) c n h = (lasting.asked_so (KindAt out) AnyAcquires (kinds_last out) now ticket q word c (h, tt)).0
other_so out now (event.Answer call a) c n h = (lasting.answered_so (KindAt out) AnyAcquires (kinds_last out) now call a c (h, tt)).0
other_so out now (event.Lost call) c n h = (lasting.lost_so (KindAt out) AnyAcquires (kinds_last out) now call c (h, tt)).0
other_so out now (event.Tick word) c n h = (lasting.tick_so (KindAt out) AnyAcquires (kinds_last out) now word c (h, tt)).0
other_so out now (event.Item number x) c n h = (lasting.item_so (KindAt out) AnyAcquires (kinds_last out) now number x c (h, tt)).0
other_so out now (event.Cut number) c n h = (lasting.cut_so (KindAt out) AnyAcquires (kinds_last out) number c (h, tt)).0
other_so out now (event.Take ticket) c n h = (lasting.take_so (KindAt out) AnyAcquires (kinds_last out) ticket c (h, tt)).0
other_so out now (event.Leave ticket) c n h = (lasting.leave_so (KindAt out) AnyAcquires (kinds_last out) now ticket c (h, tt)).0
other_so out now event.Work c n h = absurd (n refl)

pub clock_kinds : (now : ℕ) (c : Core) → KindsOk c → KindsOk (clock_work now c)
clock_kinds now c h = subst (λ (out : List OutCall). All (KindAt out) (clock_work now c).asks) (sym (clock_leaves now c).out) (lasting.clock_so (KindAt c.out) AnyAcquires (kinds_last c.out) now c (h, tt)).0

-- ---- what is out behind the step was out before

record FoundOut (P : OutCall → Type 0) (n : ℕ) (j : OutJob) : Type 0 where
  out : OutCall
  so : P out
  call : out.call ≡ n
  job : out.job ≡ j

found_out : (P : OutCall → Type 0) (n : ℕ) (j : OutJob) (out : List OutCall) → job_at n out ≡ Some j → EachOf P out → FoundOut P n j
found_out P n j [] e h = absurd (cc)
found_out P n j (o ∷ out) e h = by (o.call == n) refl e (λ f. found_out P n j out f h.1)
  where
    same_job : Some o.job ≡ Some j → o.job ≡ j
    same_job f = cc

    by : (b : Bool) → (o.call == n) ≡ b → cond b (Some o.job) (job_at n out) ≡ Some j → (job_at n out ≡ Some j → FoundOut P n j) → FoundOut P n j
    by true t f more = record { out = o; so = h.0; call = same_number o.call n t; job = same_job f }
    by false t f more = more f

passing_job : (n : ℕ) (out : List OutCall) → passes is_ask_job (job_at n out) ≡ true → (j : OutJob) × (job_at n out ≡ Some j)
passing_job n out h = by (job_at n out) refl h
  where
    by : (o : Option OutJob) → job_at n out ≡ o → passes is_ask_job o ≡ true → (j : OutJob) × (job_at n out ≡ Some j)
    by None e t = absurd (cc)
    by (Some j) e t = (j, e)

one_job : (j k : OutJob) → Some j ≡ Some k → j ≡ k
one_job j k e = cc

-- a request that is called behind the step as it was before it
abbrev WasBefore : Core → OutCall → Type 0
WasBefore c o = o.call ≢ next_call c → job_at o.call c.out ≡ Some o.job

stays_before : (c : Core) (e : CoreEvent) (now : ℕ) → IsHeard c e → CoreOk c → OwnersFit c → EachOf (WasBefore c) (stepped c e now).core.out
stays_before c e now b ok fit =
    each_of (WasBefore c) (stepped c e now).core.out
    (λ o i n. of_each (λ (x : OutCall). job_at x.call c.out ≡ Some x.job) c.out o (jobs_found c.out ok.agrees.numbers.once) (out_stays c e now o (Keeps 0) b ok fit i n).0)

-- what was known of it by what was out holds by what is
now_kind : (c : Core) (out : List OutCall) (y : Asked) → job_at (next_call c) c.out ≡ None → EachOf (WasBefore c) out → is_stage_out out y.stage ≡ true → KindAt c.out y → KindAt out y
now_kind c out y new was stands known n e =
    let there = passing_job n out (sym (ap (is_stage_out out) e) ∙ stands) in
    let o = found_out (WasBefore c) n there.0 out there.1 was in
    let before : job_at n c.out ≡ Some o.out.job = ap (λ (i : ℕ). job_at i c.out) (sym o.call) ∙ o.so (λ same. is_none n (sym o.call ∙ same) (known n e)) in
    there.1 ∙ ap (λ (j : OutJob). Some j) (sym o.job ∙ one_job o.out.job (job.Ask (kind_of y.request)) (sym before ∙ known n e))
  where
    is_none : (n : ℕ) → n ≡ next_call c → job_at n c.out ≡ Some (job.Ask (kind_of y.request)) → ⊥
    is_none n same f = absurd (let g : None ≡ Some (job.Ask (kind_of y.request)) = sym new ∙ ap (λ (i : ℕ). job_at i c.out) (sym same) ∙ f in cc)

all_now : (c : Core) (out : List OutCall) (ys : List Asked) → job_at (next_call c) c.out ≡ None → EachOf (WasBefore c) out → list_all (λ a. is_stage_out out a.stage) ys ≡ true → All (KindAt c.out) ys → All (KindAt out) ys
all_now c out [] new was stands known = tt
all_now c out (y ∷ ys) new was stands known = (
  now_kind c out y new was (and_first (is_stage_out out y.stage) (list_all (λ a. is_stage_out out a.stage) ys) stands) known.0,
  all_now c out ys new was (and_second (is_stage_out out y.stage) (list_all (λ a. is_stage_out out a.stage) ys) stands) known.1,
)

counted_asks : (P : Asked → Type 0) (c : Core) (r : Result Outcome StepFault) → All P c.asks → All P (counted_by c r).core.asks
counted_asks P c (Ok o) h = h
counted_asks P c (Err f) h = h

-- ---- a call is sent

job_front : (n : ℕ) (x : OutCall) (out : List OutCall) (j : OutJob) → job_at n out ≡ Some j → job_at n (out ++ x ∷ []) ≡ Some j
job_front n x [] j e = absurd (cc)
job_front n x (o ∷ out) j e = by (o.call == n) e (job_front n x out j)
  where
    by : (b : Bool) → cond b (Some o.job) (job_at n out) ≡ Some j → (job_at n out ≡ Some j → job_at n (out ++ x ∷ []) ≡ Some j) → cond b (Some o.job) (job_at n (out ++ x ∷ [])) ≡ Some j
    by true e more = e
    by false e more = more e

more_out : (x : OutCall) (out : List OutCall) (ys : List Asked) → All (KindAt out) ys → All (KindAt (out ++ x ∷ [])) ys
more_out x out ys h = all_kept (KindAt out) (KindAt (out ++ x ∷ [])) (λ y k n e. job_front n x out (job.Ask (kind_of y.request)) (k n e)) ys h

out_number : (n m : ℕ) → ◌≡◌ {A = Stage} (stage.Calling (sending.Out n)) (stage.Calling (sending.Out m)) → n ≡ m
out_number n m e = cc

both_kinds : (P Q R : Asked → Type 0) (f : Asked → Asked) → ((x : Asked) → P x → Q x → R (f x)) → (xs : List Asked) → All P xs → All Q xs → All R (map f xs)
both_kinds P Q R f h [] s t = tt
both_kinds P Q R f h (x ∷ xs) s t = (h x s.0 t.0, both_kinds P Q R f h xs s.1 t.1)

one_ask : (x y : Asked) → Some x ≡ Some y → x ≡ y
one_ask x y e = cc

sent_kinds : (now : ℕ) (c : Core) (j : Option DueJob) → StandsIf c j → job_at (next_call c) c.out ≡ None → All (Found c.asks) c.asks → KindsOk c → KindsOk (sent_by now j c).core
sent_kinds now c None k new u h = h
sent_kinds now c (Some (ForSession s)) k new u h = more_out _ c.out c.asks h
sent_kinds now c (Some ForWrites) k new u h = by (job_sent (next_call c) c.own)
  where
    by : (o : Option JobSent) → KindsOk (writes_sent now o c).core
    by None = h
    by (Some x) = more_out _ c.out c.asks h
sent_kinds now c (Some (ForAcquire i x)) k new u h = more_out _ c.out c.asks h
sent_kinds now c (Some (ForAsk a)) k new u h =
    let x = out_call now (job.Ask (kind_of a.request)) c in
    both_kinds (Found c.asks) (KindAt c.out) (KindAt (c.out ++ x ∷ [])) (called_as (next_call c) a.ticket)
    (λ y f t. by_test (KindAt (c.out ++ x ∷ [])) (has_ticket a.ticket y) (in_stage (stage.Calling (sending.Out (next_call c))) y) y
    (λ e n g.
    let same : a ≡ y = one_ask a y (sym k ∙ ap (λ (i : ℕ). ask_at i c.asks) (sym (same_number y.ticket a.ticket e)) ∙ f) in
    ap (λ (i : ℕ). job_at i (c.out ++ x ∷ [])) (sym (out_number (next_call c) n g)) ∙ job_last x c.out new ∙ ap (λ (z : Asked). Some (job.Ask (kind_of z.request))) same)
    (λ e n g. job_front n x c.out (job.Ask (kind_of y.request)) (t n g))) c.asks u h
sent_kinds now c (Some (ForGroup lease ticket)) k new u h =
    let x = out_call now (job.Group lease) c in
    all_mapped (KindAt c.out) (KindAt (c.out ++ x ∷ [])) (group_sent (next_call c) lease)
    (λ y t. by_test (KindAt (c.out ++ x ∷ [])) (keeps lease y.request && is_due_stage y.stage) (in_stage (stage.Grouped (Some (sending.Out (next_call c)))) y) y (λ e n g. absurd (cc)) (λ e n g. job_front n x c.out (job.Ask (kind_of y.request)) (t n g))) c.asks h
sent_kinds now c (Some (ToOpen o)) k new u h = h
sent_kinds now c (Some (ForStream x)) k new u h = by (next_job c.watches (Some x)).1
  where
    by : (o : Option StreamJob) → KindsOk (stream_job o (with_watches c (next_job c.watches (Some x)).0)).core
    by None = h
    by (Some (stream.Close number)) = h
    by (Some (stream.Open number range start)) = h

work_kinds : (now : ℕ) (c : Core) → Rattle.proxy_model.specs.Keyed.is_in_order c.acquires ≡ true → Whole 0 c → KindsOk c → KindsOk (on_work now c).core
unfolding on_work
work_kinds now c order k h =
    sent_kinds now c (first_job c) (first_stands c order k.mid.agrees.asks.once) (is_new c.calls c.out c.own.waits.out k.mid.agrees.numbers) (found_all c.asks k.mid.agrees.asks.once) h

-- ---- a whole step

abbrev is_work : CoreEvent → Bool
is_work event.Work = true
is_work _ = false

not_work : (e : CoreEvent) → is_work e ≡ false → e ≡ event.Work → ⊥
not_work e n f = absurd (let g : true ≡ false = sym (ap is_work f) ∙ n in cc)

pub step_kinds : (c : Core) (e : CoreEvent) (now : ℕ) → IsHeard c e → CoreOk c → OwnersFit c → Rattle.proxy_model.specs.Keyed.is_in_order (clock_work now c).acquires ≡ true → KindsOk c → KindsOk (stepped c e now).core
unfolding stepped
step_kinds c e now b ok fit order h = by (is_work e) refl
  where
    whole : Whole 0 (clock_work now c)
    whole = clock_whole 0 now c (of_ok c ok).mid

    new : job_at (next_call c) c.out ≡ None
    new = is_new c.calls c.out c.own.waits.out ok.agrees.numbers

    other : (e ≡ event.Work → ⊥) → All (KindAt c.out) (stepped c e now).core.asks
    other n =
        by_test (λ (s : Stepped). All (KindAt c.out) s.core.asks) (is_worn c) (faults c fault.Worn) (counted (happened now e (clock_work now c))) (λ w. h)
        (λ w. counted_asks (KindAt c.out) (happened now e (clock_work now c)).core (happened now e (clock_work now c)).outcome
        (other_so c.out now e (clock_work now c) n (lasting.clock_so (KindAt c.out) AnyAcquires (kinds_last c.out) now c (h, tt)).0))

    counted_work : (d : Core) (r : Result Outcome StepFault) → KindsOk d → KindsOk (counted_by d r).core
    counted_work d (Ok o) k = k
    counted_work d (Err f) k = k

    work : KindsOk (stepped c event.Work now).core
    work =
        by_test (λ (s : Stepped). KindsOk s.core) (is_worn c) (faults c fault.Worn) (counted (happened now event.Work (clock_work now c))) (λ w. h)
        (λ w. counted_work (on_work now (clock_work now c)).core (on_work now (clock_work now c)).outcome (work_kinds now (clock_work now c) order whole (clock_kinds now c h)))

    by : (b : Bool) → is_work e ≡ b → KindsOk (stepped c e now).core
    by true w = subst (λ (x : CoreEvent). KindsOk (stepped c x now).core) (sym (its_work e w)) work
      where
        its_work : (e : CoreEvent) → is_work e ≡ true → e ≡ event.Work
        its_work event.Work w = refl
        its_work (event.Ask ticket q word) w = absurd (cc)
        its_work (event.Answer call a) w = absurd (cc)
        its_work (event.Lost call) w = absurd (cc)
        its_work (event.Tick word) w = absurd (cc)
        its_work (event.Item number x) w = absurd (cc)
        its_work (event.Cut number) w = absurd (cc)
        its_work (event.Take ticket) w = absurd (cc)
        its_work (event.Leave ticket) w = absurd (cc)
    by false w = all_now c (stepped c e now).core.out (stepped c e now).core.asks new (stays_before c e now b ok fit) (steps_keep c e now b ok).agrees.out.asks (other (not_work e w))

-- the requests whose own call is out are of the kind that it was sent for
pub kinds_of : (call : ℕ) (out : List OutCall) (o : OutCall) (k : CallKind) (xs : List Asked) → out_at call out ≡ Some o → o.job ≡ job.Ask k → All (KindAt out) xs → AreOfKind o.call k xs
kinds_of call out o k xs e j h = all_kept (KindAt out) (λ x. calls_as o.call x ≡ true → kind_of x.request ≡ k) (λ x t c. its x (t o.call (out_stage x.stage c))) xs h
  where
    its : (x : Asked) → job_at o.call out ≡ Some (job.Ask (kind_of x.request)) → kind_of x.request ≡ k
    its x f =
        let is = found_is call o out e in
        let g : job.Ask (kind_of x.request) ≡ job.Ask k = one_job (job.Ask (kind_of x.request)) (job.Ask k) (sym f ∙ ap (λ (i : ℕ). job_at i out) is.number ∙ is.job ∙ ap (λ (y : OutJob). Some y) j) in
        cc

    out_stage : (s : Stage) → stage_calls o.call s ≡ true → s ≡ stage.Calling (sending.Out o.call)
    out_stage (stage.Calling (sending.Due since)) t = absurd (cc)
    out_stage (stage.Calling (sending.Out n)) t = ap (λ (i : ℕ). stage.Calling (sending.Out i)) (same_number n o.call t)
    out_stage stage.Acquiring t = absurd (cc)
    out_stage stage.Joined t = absurd (cc)
    out_stage stage.Behind t = absurd (cc)
    out_stage stage.Writes t = absurd (cc)
    out_stage (stage.Grouped s) t = absurd (cc)
    out_stage (stage.Replied v) t = absurd (cc)
