-- A request that waits for the acquire that is for it, and stands replied ok behind the step, was told what came with that acquire's answer.
use Rattle.std.proofs.Common.{◌≡◌, ℕ, ◌==◌, Bool, true, false, cond, List, [], ◌∷◌, Some, Result, Ok, Err, refl, sym, ◌∙◌, ap, subst}
use Rattle.etcd_types.proofs.Bools.{and_first, and_second}
use Rattle.etcd_types.proofs.KeyOrder.{same-equal}
use Rattle.etcd_types.specs.declared.answer.Answer.{Answer}
use Rattle.etcd_types.specs.declared.answer.Answer.TheVariants.{Done}
use Rattle.etcd_types.specs.declared.answer.Reply.{Reply}
use Rattle.etcd_types.specs.Keys.{same}
use Rattle.proxy_model.specs.declared.ownership.Claim.{Claim}
use Rattle.proxy_model.specs.Acquire.{claimed}
use Rattle.wait_model.specs.declared.sending.Sending.TheVariants as sending
use Rattle.read_model.specs.declared.asked.Asked.{Asked}
use Rattle.read_model.specs.declared.asked.Stage.{Stage}
use Rattle.read_model.specs.declared.asked.Stage.TheVariants as stage
use Rattle.read_model.specs.declared.asked.Verdict.TheVariants as verdict
use Rattle.read_model.specs.Acquires.{is_acquiring, acquires_at}
use Rattle.read_model.specs.PlainRead.{ask_key, shown, in_stage}
use Rattle.read_model.specs.TakingOff.{is_writes}
use Rattle.core_model.specs.declared.event.CoreEvent.{CoreEvent}
use Rattle.core_model.specs.declared.event.CoreEvent.TheVariants as event
use Rattle.core_model.specs.declared.event.Outcome.{Outcome}
use Rattle.core_model.specs.declared.event.StepFault.{StepFault}
use Rattle.core_model.specs.declared.event.StepFault.TheVariants as fault
use Rattle.core_model.specs.declared.out_call.OutCall.{OutCall}
use Rattle.core_model.specs.declared.out_call.OutJob.TheVariants as job
use Rattle.core_model.specs.declared.settings.Settings.{Settings}
use Rattle.core_model.specs.ClockWork.{clock_work}
use Rattle.core_model.specs.Ends.{on_answer}
use Rattle.core_model.specs.Fits.{CoreOk}
use Rattle.core_model.specs.Groups.{is_out_stage, waits_next}
use Rattle.core_model.specs.Heard.{heard}
use Rattle.core_model.specs.Lookups.{stage_calls, ask_at, out_at}
use Rattle.core_model.specs.State.{Core}
use Rattle.core_model.specs.Step.{is_worn, happened, stepped}
use Rattle.core_model.specs.Stepped.{faults, counted, counted_by}
use Rattle.core_laws.proofs.Steps.Lists.{same_number}
use Rattle.core_laws.proofs.Steps.Middle.{clock_whole}
use Rattle.core_laws.proofs.Steps.Whole.{of_ok}
use Rattle.core_fits.specs.Fits.{is_reading}
use Rattle.keep_laws.proofs.Rows.{All, all_kept}
use Rattle.keep_laws.proofs.Runs.{found}
use Rattle.reply_laws.specs.Sources.{Stood, Hears, claimed_record}
use Rattle.reply_laws.proofs.Before.{is_quiet, Since, since_stood, stood_on, clock_since, clock_leaves}
use Rattle.executed_laws.proofs.Waiting.{Class, Of, not_both, answered_so}
use Rattle.executed_laws.proofs.Reading.{Waits, waits_class, WaitsSo}

-- it is told what came with the acquire's answer
pub record Claims (c : Core) (e : CoreEvent) (now : ℕ) (y : Asked) : Type 0 where
  pub call : OutCall
  pub transaction : Reply
  pub claim : Claim
  pub job : call.job ≡ job.Acquire (ask_key y)
  pub stood : Stood c y stage.Acquiring
  pub hears : Hears c e call (Done transaction)
  pub claimed : claimed (clock_work now c).own.waits.prefix (ask_key y) transaction ≡ Some claim
  pub stage : y.stage ≡ shown transaction.header (claimed_record claim)

data Tracked (c : Core) (e : CoreEvent) (now : ℕ) (y : Asked) : Type 0 where
  still : Since c y → y.stage ≡ stage.Acquiring → Tracked c e now y
  quiet : is_quiet y.stage ≡ true → Tracked c e now y
  claims : Claims c e now y → Tracked c e now y

-- a test of stages that holds of none of these
record Deaf (f : Stage → Bool) : Type 0 where
  acquiring : f stage.Acquiring ≡ false
  due : (since : ℕ) → f (stage.Calling (sending.Due since)) ≡ false
  replied : (v : Rattle.read_model.specs.declared.asked.Verdict.Verdict) → f (stage.Replied v) ≡ false

quiet_deaf : (f : Stage → Bool) → Deaf f → (s : Stage) → is_quiet s ≡ true → f s ≡ false
quiet_deaf f d (stage.Calling (sending.Due since)) h = d.due since
quiet_deaf f d (stage.Calling (sending.Out n)) h = absurd (cc)
quiet_deaf f d (stage.Replied v) h = d.replied v
quiet_deaf f d stage.Acquiring h = absurd (cc)
quiet_deaf f d stage.Joined h = absurd (cc)
quiet_deaf f d stage.Behind h = absurd (cc)
quiet_deaf f d stage.Writes h = absurd (cc)
quiet_deaf f d (stage.Grouped s) h = absurd (cc)

tracked_deaf : {A : Type 0} (c : Core) (e : CoreEvent) (now : ℕ) (f : Stage → Bool) → Deaf f → (y : Asked) → Tracked c e now y → f y.stage ≡ true → A
tracked_deaf c e now f d y (still s a) h = not_both (f y.stage) h (ap f a ∙ d.acquiring)
tracked_deaf c e now f d y (quiet q) h = not_both (f y.stage) h (quiet_deaf f d y.stage q)
tracked_deaf c e now f d y (claims k) h = not_both (f y.stage) h (ap f k.stage ∙ d.replied _)

tracked_waits : (c : Core) (e : CoreEvent) (now : ℕ) (y : Asked) → Tracked c e now y → is_reading y.stage ≡ true → y.stage ≡ stage.Acquiring
tracked_waits c e now y (still s a) h = a
tracked_waits c e now y (quiet q) h = not_both (is_reading y.stage) h (quiet_read y.stage q)
  where
    quiet_read : (s : Stage) → is_quiet s ≡ true → is_reading s ≡ false
    quiet_read (stage.Calling s) h = refl
    quiet_read (stage.Replied v) h = refl
    quiet_read stage.Acquiring h = absurd (cc)
    quiet_read stage.Joined h = absurd (cc)
    quiet_read stage.Behind h = absurd (cc)
    quiet_read stage.Writes h = absurd (cc)
    quiet_read (stage.Grouped s) h = absurd (cc)
tracked_waits c e now y (claims k) h = not_both (is_reading y.stage) h (ap is_reading k.stage)

tracked_class : (c : Core) (e : CoreEvent) (now : ℕ) → Class (Tracked c e now)
tracked_class c e now = record {
  quiet = λ y q. quiet q;
  waits = tracked_waits c e now;
  said = λ x call a h t. tracked_deaf c e now (stage_calls call) (record { acquiring = refl; due = λ s. refl; replied = λ v. refl }) x h t;
  wrote = λ x a h t. tracked_deaf c e now is_writes (record { acquiring = refl; due = λ s. refl; replied = λ v. refl }) x h t;
  shared = λ x call v h t. tracked_deaf c e now (is_out_stage call) (record { acquiring = refl; due = λ s. refl; replied = λ v. refl }) x h t;
  next = λ x step h t. tracked_deaf c e now waits_next (record { acquiring = refl; due = λ s. refl; replied = λ v. refl }) x h t;
}

-- what the acquire's answer tells
tells : (c : Core) (now call : ℕ) (a : Answer) (o : OutCall) (x : Answer) → Hears c (event.Answer call a) o x → (k : List ℕ) (reply : Reply) (claim : Claim) → o.job ≡ job.Acquire k → x ≡ Done reply → claimed (clock_work now c).own.waits.prefix k reply ≡ Some claim
    → (y : Asked) → Tracked c (event.Answer call a) now y → acquires_at k y ≡ true → Tracked c (event.Answer call a) now (in_stage (shown reply.header (claimed_record claim)) y)
tells c now call a o x h k reply claim j is f y (still s w) t =
    let key = same-equal (ask_key y) k (and_second (is_acquiring y.stage) (same (ask_key y) k) t) in
    let z = in_stage (shown reply.header (claimed_record claim)) y in
    claims (record {
      call = o;
      transaction = reply;
      claim = claim;
      job = j ∙ ap (λ (i : List ℕ). job.Acquire i) (sym key);
      stood = stood_on c y z stage.Acquiring refl refl (since_stood c y stage.Acquiring w refl s);
      hears = subst (Hears c (event.Answer call a) o) is h;
      claimed = ap (λ (i : List ℕ). claimed (clock_work now c).own.waits.prefix i reply) key ∙ f;
      stage = refl;
    })
tells c now call a o x h k reply claim j is f y (quiet q) t =
    tracked_deaf c (event.Answer call a) now (λ s. s_acquiring s) (record { acquiring = refl; due = λ s. refl; replied = λ v. refl }) y (quiet q) (not_acquiring y.stage q (and_first (is_acquiring y.stage) (same (ask_key y) k) t))
  where
    s_acquiring : Stage → Bool
    s_acquiring s = false

    not_acquiring : (s : Stage) → is_quiet s ≡ true → is_acquiring s ≡ true → false ≡ true
    not_acquiring stage.Acquiring q h = absurd (let e : false ≡ true = q in cc)
    not_acquiring stage.Joined q h = h
    not_acquiring stage.Behind q h = h
    not_acquiring (stage.Calling s) q h = h
    not_acquiring stage.Writes q h = h
    not_acquiring (stage.Grouped s) q h = h
    not_acquiring (stage.Replied v) q h = h
tells c now call a o x h k reply claim j is f y (claims g) t =
    not_both (is_acquiring y.stage) (and_first (is_acquiring y.stage) (same (ask_key y) k) t) (ap is_acquiring g.stage)

-- ---- behind the clock's work

same_ask : (a b : Asked) → Some a ≡ Some b → a ≡ b
same_ask a b e = cc

start_tracked : (c : Core) (e : CoreEvent) (now t : ℕ) (s : Stage) (b : Asked) → ask_at t c.asks ≡ Some b → b.stage ≡ s → is_reading s ≡ true → WaitsSo t c → (y : Asked) → Since c y → y.ticket ≡ t → Tracked c e now y
start_tracked c e now t s b there is reading w y k n = by (is_quiet y.stage) refl
  where
    by : (q : Bool) → is_quiet y.stage ≡ q → Tracked c e now y
    by true f = quiet f
    by false f =
        let same : k.before ≡ b = same_ask k.before b (sym k.there ∙ ap (λ (i : ℕ). ask_at i c.asks) n ∙ there) in
        let its = found (Of t Waits waits_class) t c.asks b there w in
        let acquiring : b.stage ≡ stage.Acquiring = its.0 (same_number b.ticket t its.1) (ap is_reading is ∙ reading) in
        still k (sym (k.stage f) ∙ ap (λ (z : Asked). z.stage) same ∙ acquiring)

-- ---- the whole step

hears_of : (c : Core) (now call : ℕ) (a : Answer) (o : OutCall) (x : Answer) → out_at call (clock_work now c).out ≡ Some o → heard (clock_work now c).settings.namespace a ≡ Some x → (o.call == call) ≡ true → Hears c (event.Answer call a) o x
hears_of c now call a o x f g n =
    let same = clock_leaves now c in
    let is = same_number o.call call n in
    record {
      answer = a;
      event = ap (λ (i : ℕ). event.Answer i a) (sym is);
      out = ap (λ (i : ℕ). out_at i c.out) is ∙ sym (ap (λ (os : List OutCall). out_at call os) same.out) ∙ f;
      heard = sym (ap (λ (s : Settings). heard s.namespace a) same.settings) ∙ g;
    }

out_number : (n : ℕ) (out : List OutCall) (o : OutCall) → out_at n out ≡ Some o → (o.call == n) ≡ true
out_number n [] o e = absurd (cc)
out_number n (x ∷ out) o e = by (x.call == n) refl e (out_number n out o)
  where
    same_call : Some x ≡ Some o → x ≡ o
    same_call f = cc

    by : (b : Bool) → (x.call == n) ≡ b → cond b (Some x) (out_at n out) ≡ Some o → (out_at n out ≡ Some o → (o.call == n) ≡ true) → (o.call == n) ≡ true
    by true h f more = ap (λ (y : OutCall). y.call == n) (sym (same_call f)) ∙ h
    by false h f more = more f

answer_asks : (c : Core) (now call : ℕ) (a : Answer) → is_worn c ≡ false → (stepped c (event.Answer call a) now).core.asks ≡ (on_answer now call a (clock_work now c)).core.asks
unfolding stepped
answer_asks c now call a w =
    ap (λ b. (cond b (faults c fault.Worn) (counted (happened now (event.Answer call a) (clock_work now c)))).core.asks) w
    ∙ by (on_answer now call a (clock_work now c)).core (on_answer now call a (clock_work now c)).outcome
  where
    by : (d : Core) (r : Result Outcome StepFault) → (counted_by d r).core.asks ≡ d.asks
    by d (Ok o) = refl
    by d (Err f) = refl

-- of the request of this ticket, which waited so before the step
pub claims_behind : (c : Core) (now call : ℕ) (a : Answer) (t : ℕ) (s : Stage) (b y : Asked) (reply : Reply) → CoreOk c → is_worn c ≡ false → WaitsSo t c → ask_at t c.asks ≡ Some b → b.stage ≡ s → is_reading s ≡ true
    → ask_at t (stepped c (event.Answer call a) now).core.asks ≡ Some y → y.stage ≡ stage.Replied (verdict.Said (Done reply)) → Claims c (event.Answer call a) now y
claims_behind c now call a t s b y reply ok w waits there is reading f r =
    let e = event.Answer call a in
    let d = clock_work now c in
    let whole = clock_whole 0 now c (of_ok c ok).mid in
    let start : All (Of t (Tracked c e now) (tracked_class c e now)) d.asks = all_kept (Since c) (Of t (Tracked c e now) (tracked_class c e now)) (start_tracked c e now t s b there is reading waits) d.asks (clock_since c now ok.agrees.asks.once) in
    let after = answered_so t (Tracked c e now) (tracked_class c e now) now call a d
    (λ o x g h k rep claim j same cl z v u. tells c now call a o x (hears_of c now call a o x g h (out_number call d.out o g)) k rep claim j same cl z v u)
    whole.mid.reads.asks whole.mid.agrees.asks whole.mid.agrees.writes start in
    let its = found (Of t (Tracked c e now) (tracked_class c e now)) t (on_answer now call a d).core.asks y (ap (ask_at t) (sym (answer_asks c now call a w)) ∙ f) after in
    by (its.0 (same_number y.ticket t its.1))
  where
    by : Tracked c (event.Answer call a) now y → Claims c (event.Answer call a) now y
    by (still k w) = not_both (is_reading y.stage) (ap is_reading w) (ap is_reading r)
    by (quiet q) = not_both (is_quiet y.stage) q (ap is_quiet r)
    by (claims k) = k
