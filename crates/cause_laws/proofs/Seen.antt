-- What a proxy has seen by the items: each revision below the greatest that it has seen is below one that it was given in its life; and of a call
-- that is out, below one that it was given before it sent the call.
use Rattle.std.proofs.Common.{◌≡◌, ◌≢◌, ◌⊎◌, inl, inr, ℕ, ◌+◌, ◌-◌, ◌≤◌, ◌==◌, nat_le, nat_lt, Bool, true, false, cond, ◌||◌, List, [], ◌∷◌, ◌++◌, length, slice_get, Option, None, Some, Result, Ok, Err, refl, sym, ◌∙◌, ap, subst, arith}
use Rattle.std.specs.List.{list_any, list_all, Contains}
use Rattle.std.proofs.lemmas.Bool.Decides.{nat_tests}
use Rattle.std.proofs.lemmas.List.Folds.{list_any-append}
use Rattle.etcd_types.proofs.Bools.{and_first, and_second, or_first, or_second}
use Rattle.wait_model.specs.Sent.{JobSent, job_sent}
use Rattle.watch_model.specs.declared.stream.StreamJob.{StreamJob}
use Rattle.watch_model.specs.declared.stream.StreamJob.TheVariants as stream
use Rattle.watch_model.specs.Due.{next_job}
use Rattle.proxy_model.specs.Members.{Members}
use Rattle.core_model.specs.declared.event.CoreEvent.{CoreEvent}
use Rattle.core_model.specs.declared.event.CoreEvent.TheVariants as event
use Rattle.core_model.specs.declared.event.Outcome.{Outcome}
use Rattle.core_model.specs.declared.event.StepFault.{StepFault}
use Rattle.core_model.specs.declared.event.StepFault.TheVariants as fault
use Rattle.core_model.specs.declared.out_call.OutCall.{OutCall}
use Rattle.core_model.specs.ClockWork.{begun, clock_work}
use Rattle.core_model.specs.DueJobs.{DueJob, ForSession, ForWrites, ForAcquire, ForAsk, ForGroup, ToOpen, ForStream, first_job}
use Rattle.core_model.specs.Fits.{CoreOk, numbers_of}
use Rattle.core_model.specs.Sending.{next_call, writes_sent, sent_by, on_work}
use Rattle.core_model.specs.Sessions.{seat_is_over, without_session}
use Rattle.core_model.specs.State.{Core}
use Rattle.core_model.specs.Step.{is_worn, happened, stepped}
use Rattle.core_model.specs.Stepped.{Stepped, faults, counted, counted_by}
use Rattle.core_model.specs.Watching.{with_watches, stream_job}
use Rattle.core_laws.specs.Steps.Kept.{IsHeard}
use Rattle.core_laws.proofs.Steps.Comes.{by_test}
use Rattle.core_laws.proofs.Steps.Lists.{number_itself, same_number}
use Rattle.core_laws.proofs.Steps.Stepping.{steps_keep}
use Rattle.core_fits.specs.Fits.{EachOf, CoreFits}
use Rattle.core_fits.proofs.Eachs.{each_kept, each_pushed}
use Rattle.core_fits.proofs.Fit.{fits_step}
use Rattle.owner_fits.specs.Laws.{OwnersFit}
use Rattle.call_laws.specs.Forms.{Keeps}
use Rattle.out_laws.proofs.Lists.{each_of, of_each}
use Rattle.out_laws.proofs.Outs.{out_stays}
use Rattle.reply_laws.proofs.Before.{clock_leaves}
use Rattle.script_text.specs.declared.item.Item.{Item}
use Rattle.world_model.specs.Lives.{begins, is_call_of, sent_it}
use Rattle.world_model.specs.Places.{nth}
use Rattle.world_model.specs.Reads.{given_by, given_from, given}
use Rattle.truth_laws.proofs.Headers.{TakesIn, revision_of, header_goes}
use Rattle.truth_laws.proofs.Telling.{given-append}
use Rattle.cause_laws.specs.Causes.{before_sent}
use Rattle.cause_laws.proofs.Items.{any_front}

-- ---- revisions

-- each number below this one is below one of these
abbrev pub Reaches : List ℕ → ℕ → Type 0
Reaches revisions seen = (m : ℕ) → nat_lt m seen ≡ true → list_any (λ r. nat_lt m r) revisions ≡ true

first_any : (f : ℕ → Bool) (xs ys : List ℕ) → list_any f xs ≡ true → list_any f (xs ++ ys) ≡ true
first_any f xs ys h = list_any-append f xs ys ∙ ap (λ (b : Bool). b || list_any f ys) h

given_more : (p : ℕ) (f : ℕ → Bool) (before : List Item) (revisions : List ℕ) (more : List Item) → list_any (begins p) more ≡ false → list_any f revisions ≡ true → list_any f (given_from p before revisions more) ≡ true
given_more p f before revisions [] n h = h
given_more p f before revisions (i ∷ more) n h =
    let next : list_any f (cond (begins p i) [] (revisions ++ given_by p before i)) ≡ true =
    ap (λ (b : Bool). list_any f (cond b [] (revisions ++ given_by p before i))) (or_first (begins p i) (list_any (begins p) more) n) ∙ first_any f revisions (given_by p before i) h in
    given_more p f (before ++ i ∷ []) (cond (begins p i) [] (revisions ++ given_by p before i)) more (or_second (begins p i) (list_any (begins p) more) n) next

-- where the proxy isn't started
pub reaches_on : (p : ℕ) (items more : List Item) (seen : ℕ) → list_any (begins p) more ≡ false → Reaches (given p items) seen → Reaches (given p (items ++ more)) seen
reaches_on p items more seen n h m l =
    ap (list_any (λ r. nat_lt m r)) (given-append p [] items more []) ∙ given_more p (λ r. nat_lt m r) items (given p items) more n (h m l)

-- ---- up to the sending of a call

pub before_on : (p call : ℕ) (items more : List Item) → sent_it p call items ≡ true → before_sent p call (items ++ more) ≡ before_sent p call items
before_on p call [] more h = absurd (cc)
before_on p call (i ∷ items) more h = by (is_call_of p call i) h (before_on p call items more)
  where
    by : (b : Bool) → b || sent_it p call items ≡ true → (sent_it p call items ≡ true → before_sent p call (items ++ more) ≡ before_sent p call items) → cond b [] (i ∷ before_sent p call (items ++ more)) ≡ cond b [] (i ∷ before_sent p call items)
    by true h more' = refl
    by false h more' = ap (λ (xs : List Item). i ∷ xs) (more' h)

pub before_new : (p call : ℕ) (items : List Item) (i : Item) → sent_it p call items ≡ false → is_call_of p call i ≡ true → before_sent p call (items ++ i ∷ []) ≡ items
before_new p call [] i h k = ap (λ (b : Bool). cond b [] (i ∷ [])) k
before_new p call (j ∷ items) i h k =
    ap (λ (b : Bool). cond b [] (j ∷ before_sent p call (items ++ i ∷ []))) (or_first (is_call_of p call j) (sent_it p call items) h)
    ∙ ap (λ (xs : List Item). j ∷ xs) (before_new p call items i (or_second (is_call_of p call j) (sent_it p call items) h) k)

-- ---- calls that are out

-- where more calls are sent
abbrev pub Grow : List ℕ → List ℕ → Type 0
Grow numbers more = (n m : ℕ) → nth numbers n ≡ Some m → nth more n ≡ Some m

-- this call was sent behind what it had seen
pub record IsGiven (items : List Item) (p : ℕ) (numbers : List ℕ) (o : OutCall) : Type 0 where
  pub number : ℕ
  pub numbered : nth numbers o.call ≡ Some number
  pub sent : sent_it p number items ≡ true
  pub seen : Reaches (given p (before_sent p number items)) o.seen

pub given_on : (items more : List Item) (p : ℕ) (numbers later : List ℕ) (o : OutCall) → Grow numbers later → IsGiven items p numbers o → IsGiven (items ++ more) p later o
given_on items more p numbers later o g k = record {
  number = k.number;
  numbered = g o.call k.number k.numbered;
  sent = any_front (is_call_of p k.number) items more k.sent;
  seen = subst (λ (xs : List Item). Reaches (given p xs) o.seen) (sym (before_on p k.number items more k.sent)) k.seen;
}

-- ---- what a step takes in

-- the header that an event brings was given with the items
abbrev pub GivesIt : List Item → List Item → ℕ → CoreEvent → Type 0
GivesIt items own p e = (m : ℕ) → TakesIn m e ⊎ (list_any (λ r. nat_lt m r) (given p (items ++ own)) ≡ true)

abbrev pub Fit : Core → Type 0
Fit c = (CoreOk c × OwnersFit c) × CoreFits c

below : (m n : ℕ) → nat_lt m n ≡ false → n ≤ m
below m n h = grind (arith, nat_tests)

not_above : (m n : ℕ) → n ≤ m → nat_lt m n ≡ false
not_above m n l = grind (arith, nat_tests, l)

pub seen_step : (items own : List Item) (p now : ℕ) (c : Core) (e : CoreEvent) → Fit c → list_any (begins p) own ≡ false → GivesIt items own p e → Reaches (given p items) c.members.seen → Reaches (given p (items ++ own)) (stepped c e now).core.members.seen
seen_step items own p now c e fit lives gives h m l = by (nat_lt m c.members.seen) refl
  where
    after : revision_of (stepped c e now).core ≡ (stepped c e now).core.members.seen
    after = (fits_step c e now fit.0.0 fit.1).header

    by_event : c.members.seen ≤ m → TakesIn m e ⊎ (list_any (λ r. nat_lt m r) (given p (items ++ own)) ≡ true) → list_any (λ r. nat_lt m r) (given p (items ++ own)) ≡ true
    by_event most (inr t) = t
    by_event most (inl t) =
        let bounded = (header_goes c e now).bounded m t (subst (λ (n : ℕ). n ≤ m) (sym fit.1.header) most) in
        absurd (let f : true ≡ false = sym l ∙ not_above m (stepped c e now).core.members.seen (subst (λ (n : ℕ). n ≤ m) after bounded) in cc)

    by : (b : Bool) → nat_lt m c.members.seen ≡ b → list_any (λ r. nat_lt m r) (given p (items ++ own)) ≡ true
    by true t = reaches_on p items own c.members.seen lives h m t
    by false t = by_event (below m c.members.seen t) (gives m)

-- ---- what is out behind a step

abbrev Below : ℕ → OutCall → Type 0
Below calls o = nat_le o.call calls ≡ true

all_below : (calls : ℕ) (out : List OutCall) → list_all (λ n. nat_le n calls) (numbers_of out) ≡ true → EachOf (Below calls) out
all_below calls [] h = tt
all_below calls (o ∷ out) h = (and_first (nat_le o.call calls) (list_all (λ n. nat_le n calls) (numbers_of out)) h, all_below calls out (and_second (nat_le o.call calls) (list_all (λ n. nat_le n calls) (numbers_of out)) h))

no_next : {A : Type 0} (n calls : ℕ) → nat_le n calls ≡ true → n ≡ calls + 1 → A
no_next n calls h e = absurd (let f : n ≤ calls = at_most n calls h in omega (arith, f, e))
  where
    at_most : (n m : ℕ) → nat_le n m ≡ true → n ≤ m
    at_most n m h = grind (arith, nat_tests, h)

module _ (items own : List Item) (p now : ℕ) (numbers later : List ℕ) (c : Core) (e : CoreEvent) (fit : Fit c) (heard : IsHeard c e) (g : Grow numbers later) (h : EachOf (IsGiven items p numbers) c.out) where
  -- what isn't new was out before
  old_given : (o : OutCall) → Contains (stepped c e now).core.out o → o.call ≢ next_call c → IsGiven (items ++ own) p later o
  old_given o i n = given_on items own p numbers later o g (of_each (IsGiven items p numbers) c.out o h (out_stays c e now o (Keeps 0) heard fit.0.0 fit.0.1 i n).0)

  -- where no call is sent
  pub out_quiet : (stepped c e now).core.calls ≡ c.calls → EachOf (IsGiven (items ++ own) p later) (stepped c e now).core.out
  out_quiet same =
      let ok = steps_keep c e now heard fit.0.0 in
      each_of (IsGiven (items ++ own) p later) (stepped c e now).core.out
      (λ o i. old_given o i
      (λ f. no_next o.call c.calls (ap (nat_le o.call) (sym same) ∙ of_each (Below (stepped c e now).core.calls) (stepped c e now).core.out o (all_below (stepped c e now).core.calls (stepped c e now).core.out ok.agrees.numbers.given) i) f))

  -- where one is
  pub out_sent : ((o : OutCall) → Contains (stepped c e now).core.out o → o.call ≡ next_call c → IsGiven (items ++ own) p later o) → EachOf (IsGiven (items ++ own) p later) (stepped c e now).core.out
  out_sent new = each_of (IsGiven (items ++ own) p later) (stepped c e now).core.out (λ o i. by o i (o.call == next_call c) refl)
    where
      by : (o : OutCall) → Contains (stepped c e now).core.out o → (b : Bool) → (o.call == next_call c) ≡ b → IsGiven (items ++ own) p later o
      by o i true t = new o i (same_number o.call (next_call c) t)
      by o i false t = old_given o i (λ f. absurd (let n : true ≡ false = sym (number_itself (next_call c)) ∙ ap (λ (m : ℕ). m == next_call c) (sym f) ∙ t in cc))

-- ---- the call that a step sends

-- it has what the proxy has seen
abbrev pub NewSees : Core → ℕ → OutCall → Type 0
NewSees c seen o = o.call ≡ next_call c → o.seen ≡ seen

either : {A : Type 0} (P : A → Type 0) (b : Bool) (x y : A) → P x → P y → P (cond b x y)
either P true x y f g = f
either P false x y f g = g

clock_members : (now : ℕ) (c : Core) → (clock_work now c).members ≡ c.members
unfolding clock_work
clock_members now c =
    either (λ (d : Core). d.members ≡ c.members) (seat_is_over c.seat now) (without_session now (begun c)) (begun c) refl refl

old_sees : (c : Core) (seen : ℕ) → CoreOk c → EachOf (NewSees c seen) c.out
old_sees c seen ok = each_kept (Below c.calls) (NewSees c seen) (λ o t e. no_next o.call c.calls t e) c.out (all_below c.calls c.out ok.agrees.numbers.given)

-- of a core whose calls that are out have other numbers
sent_sees : (now : ℕ) (c : Core) (j : Option DueJob) → EachOf (NewSees c c.members.seen) c.out → EachOf (NewSees c c.members.seen) (sent_by now j c).core.out
sent_sees now c None h = h
sent_sees now c (Some (ForSession s)) h = each_pushed (NewSees c c.members.seen) _ c.out h (λ e. refl)
sent_sees now c (Some ForWrites) h = by (job_sent (next_call c) c.own)
  where
    by : (o : Option JobSent) → EachOf (NewSees c c.members.seen) (writes_sent now o c).core.out
    by None = h
    by (Some x) = each_pushed (NewSees c c.members.seen) _ c.out h (λ e. refl)
sent_sees now c (Some (ForAcquire k x)) h = each_pushed (NewSees c c.members.seen) _ c.out h (λ e. refl)
sent_sees now c (Some (ForAsk a)) h = each_pushed (NewSees c c.members.seen) _ c.out h (λ e. refl)
sent_sees now c (Some (ForGroup lease ticket)) h = each_pushed (NewSees c c.members.seen) _ c.out h (λ e. refl)
sent_sees now c (Some (ToOpen o)) h = h
sent_sees now c (Some (ForStream s)) h = by (next_job c.watches (Some s)).1
  where
    by : (o : Option StreamJob) → EachOf (NewSees c c.members.seen) (stream_job o (with_watches c (next_job c.watches (Some s)).0)).core.out
    by None = h
    by (Some (stream.Close number)) = h
    by (Some (stream.Open number range start)) = h

work_sees : (now : ℕ) (c : Core) → EachOf (NewSees c c.members.seen) c.out → EachOf (NewSees c c.members.seen) (on_work now c).core.out
unfolding on_work
work_sees now c h = sent_sees now c (first_job c) h

counted_sees : (P : OutCall → Type 0) (c : Core) (r : Result Outcome StepFault) → EachOf P c.out → EachOf P (counted_by c r).core.out
counted_sees P c (Ok o) h = h
counted_sees P c (Err f) h = h

clock_calls : (now : ℕ) (c : Core) → (clock_work now c).calls ≡ c.calls
unfolding clock_work
clock_calls now c = either (λ (d : Core). d.calls ≡ c.calls) (seat_is_over c.seat now) (without_session now (begun c)) (begun c) refl refl

pub new_sees : (now : ℕ) (c : Core) → CoreOk c → EachOf (NewSees c c.members.seen) (stepped c event.Work now).core.out
unfolding stepped
new_sees now c ok =
    by_test (λ (s : Stepped). EachOf (NewSees c c.members.seen) s.core.out) (is_worn c) (faults c fault.Worn) (counted (happened now event.Work (clock_work now c))) (λ w. old_sees c c.members.seen ok)
    (λ w. counted_sees (NewSees c c.members.seen) (on_work now (clock_work now c)).core (on_work now (clock_work now c)).outcome clocked)
  where
    d : Core
    d = clock_work now c

    before : EachOf (NewSees (clock_work now c) (clock_work now c).members.seen) (clock_work now c).out
    before =
        subst (λ (xs : List OutCall). EachOf (NewSees (clock_work now c) (clock_work now c).members.seen) xs) (sym (clock_leaves now c).out)
        (subst (λ (n : ℕ). EachOf (λ (o : OutCall). o.call ≡ n + 1 → o.seen ≡ (clock_work now c).members.seen) c.out) (sym (clock_calls now c)) (old_sees c (clock_work now c).members.seen ok))

    clocked : EachOf (NewSees c c.members.seen) (on_work now (clock_work now c)).core.out
    clocked =
        subst (λ (n : ℕ). EachOf (λ (o : OutCall). o.call ≡ n + 1 → o.seen ≡ c.members.seen) (on_work now (clock_work now c)).core.out) (clock_calls now c)
        (subst (λ (m : Members). EachOf (NewSees (clock_work now c) m.seen) (on_work now (clock_work now c)).core.out) (clock_members now c) (work_sees now (clock_work now c) before))

-- ---- numbers that aren't given yet

get_end : {A : Type 0} (xs : List A) → slice_get xs (length xs) ≡ None
get_end [] = refl
get_end (x ∷ xs) = get_end xs

pub nth_end : {A : Type 0} (xs : List A) → nth xs (length xs + 1) ≡ None
nth_end xs = ap (λ (b : Bool). cond b None (slice_get xs (length xs + 1 - 1))) (some (length xs)) ∙ ap (slice_get xs) (less (length xs)) ∙ get_end xs
  where
    some : (n : ℕ) → (n + 1 == 0) ≡ false
    some n = grind (arith, nat_tests)

    less : (n : ℕ) → n + 1 - 1 ≡ n
    less n = omega arith
