-- Clock work leaves the calls that are out, each for what it is out for. It is what a step does whose event is of a call that isn't out.
use Rattle.std.proofs.Common.{◌≡◌, ◌≢◌, ℕ, ◌+◌, ◌==◌, nat_le, Bool, true, false, cond, List, [], ◌∷◌, Option, None, Some, Ok, refl, sym, ◌∙◌, ap, subst, arith}
use Rattle.std.proofs.lemmas.Bool.Decides.{nat_tests}
use Rattle.std.proofs.lemmas.List.Elements.{Contains-append_right}
use Rattle.std.specs.List.{list_all, Contains}
use Rattle.etcd_types.proofs.Bools.{and_first, and_second}
use Rattle.core_model.specs.declared.event.CoreEvent.{CoreEvent}
use Rattle.core_model.specs.declared.event.CoreEvent.TheVariants as event
use Rattle.core_model.specs.declared.event.Outcome.{Outcome}
use Rattle.core_model.specs.declared.event.StepFault.TheVariants as fault
use Rattle.core_model.specs.declared.out_call.OutCall.{OutCall}
use Rattle.core_model.specs.declared.out_call.OutJob.{OutJob}
use Rattle.core_model.specs.ClockWork.{begun, clock_work}
use Rattle.core_model.specs.Ends.{loss_of, on_lost}
use Rattle.core_model.specs.Fits.{CoreOk, job_at, numbers_of}
use Rattle.core_model.specs.Lookups.{out_at}
use Rattle.core_model.specs.Sending.{next_call}
use Rattle.core_model.specs.Sessions.{seat_is_over, without_session}
use Rattle.core_model.specs.State.{Core}
use Rattle.core_model.specs.Step.{happened, is_worn, stepped}
use Rattle.core_model.specs.Stepped.{faults, counted}
use Rattle.core_laws.proofs.Steps.Calls.{found_is, is_new}
use Rattle.core_laws.proofs.Steps.Comes.{by_test}
use Rattle.call_laws.specs.Forms.{Form}
use Rattle.core_moves.specs.Answers.{form_of_job}
use Rattle.owner_fits.specs.Laws.{OwnersFit}
use Rattle.cache_laws.proofs.Guards.Elements.{Each, of_each}
use Rattle.out_laws.proofs.Outs.{out_stays}

pub clock_out : (now : ℕ) (c : Core) → (clock_work now c).out ≡ c.out
unfolding clock_work
clock_out now c = by_test (λ (d : Core). d.out ≡ c.out) (seat_is_over c.seat now) (without_session now (begun c)) (begun c) (λ t. refl) (λ t. refl)

-- ---- a step that gave an outcome isn't that of a worn proxy

worn_gives : {A : Type 0} (c : Core) (o : Outcome) → (faults c fault.Worn).outcome ≡ Ok o → A
worn_gives c o e = absurd (cc)

pub not_worn : (c : Core) (e : CoreEvent) (now : ℕ) (o : Outcome) → (stepped c e now).outcome ≡ Ok o → is_worn c ≡ false
unfolding stepped
not_worn c e now o g = by (is_worn c) refl g
  where
    by : (b : Bool) → is_worn c ≡ b → (cond b (faults c fault.Worn) (counted (happened now e (clock_work now c)))).outcome ≡ Ok o → is_worn c ≡ false
    by true w g = worn_gives c o g
    by false w g = w

-- ---- clock work as a step

not_out : (n : ℕ) (out : List OutCall) → job_at n out ≡ None → out_at n out ≡ None
not_out n out e = by (out_at n out) refl
  where
    none : {A : Type 0} (j : OutJob) → ◌≡◌ {A = Option OutJob} None (Some j) → A
    none j e = absurd (cc)

    by : (o : Option OutCall) → out_at n out ≡ o → o ≡ None
    by None f = refl
    by (Some o) f = none o.job (sym e ∙ (found_is n o out f).job)

next_not_out : (c : Core) → CoreOk c → out_at (next_call c) c.out ≡ None
next_not_out c k = not_out (next_call c) c.out (is_new c.calls c.out c.own.waits.out k.agrees.numbers)

pub clock_steps : (c : Core) (now : ℕ) → CoreOk c → is_worn c ≡ false → (stepped c (event.Lost (next_call c)) now).core ≡ clock_work now c
unfolding stepped on_lost
clock_steps c now k w =
    ap (λ (b : Bool). (cond b (faults c fault.Worn) (counted (on_lost now (next_call c) (clock_work now c)))).core) w
    ∙ ap (λ (o : Option OutCall). (counted (loss_of now (next_call c) o (clock_work now c))).core) (ap (out_at (next_call c)) (clock_out now c) ∙ next_not_out c k)

-- ---- what is out then

contains_out : (n : ℕ) (out : List OutCall) (o : OutCall) → out_at n out ≡ Some o → Contains out o
contains_out n [] o e = absurd (cc)
contains_out n (x ∷ out) o e = by_head (contains_out n out o) (x.call == n) e
  where
    by_head : (out_at n out ≡ Some o → Contains out o) → (b : Bool) → cond b (Some x) (out_at n out) ≡ Some o → Contains (x ∷ out) o
    by_head more true f = let is : x ≡ o = cc in subst (Contains (x ∷ out)) is (0, omega arith, refl)
    by_head more false f = Contains-append_right (x ∷ []) out o (more f)

all_given : (calls : ℕ) (out : List OutCall) → list_all (λ n. nat_le n calls) (numbers_of out) ≡ true → Each (λ (o : OutCall). nat_le o.call calls ≡ true) out
unfolding Each
all_given calls [] h = tt
all_given calls (o ∷ out) h = (and_first (nat_le o.call calls) _ h, all_given calls out (and_second (nat_le o.call calls) _ h))

-- the next number isn't given yet
pub given : (calls : ℕ) (out : List OutCall) (o : OutCall) → list_all (λ n. nat_le n calls) (numbers_of out) ≡ true → Contains out o → o.call ≢ calls + 1
given calls out o h there is = above o.call calls (of_each (λ (x : OutCall). nat_le x.call calls ≡ true) out o (all_given calls out h) there) is
  where
    above : {A : Type 0} (a b : ℕ) → nat_le a b ≡ true → a ≡ b + 1 → A
    above a b l e = absurd (grind (arith, nat_tests))

-- each is still for what it is out for
pub clock_suits : (c : Core) (now call : ℕ) (o : OutCall) (form : Form) → CoreOk c → OwnersFit c → is_worn c ≡ false → out_at call c.out ≡ Some o → form_of_job c o.call form o.job → form_of_job (clock_work now c) o.call form o.job
clock_suits c now call o form k g w f s =
    let same = clock_steps c now k w in
    let there : Contains (stepped c (event.Lost (next_call c)) now).core.out o = subst (λ (d : Core). Contains d.out o) (sym same) (subst (λ (out : List OutCall). Contains out o) (sym (clock_out now c)) (contains_out call c.out o f)) in
    subst (λ (d : Core). form_of_job d o.call form o.job) same ((out_stays c (event.Lost (next_call c)) now o form tt k g there (given c.calls c.out o k.agrees.numbers.given (contains_out call c.out o f))).1 s)

-- ---- what else it leaves

pub clock_leasing : (now : ℕ) (c : Core) → (clock_work now c).leasing ≡ c.leasing
unfolding clock_work
clock_leasing now c = by_test (λ (d : Core). d.leasing ≡ c.leasing) (seat_is_over c.seat now) (without_session now (begun c)) (begun c) (λ t. refl) (λ t. refl)

pub clock_settings : (now : ℕ) (c : Core) → (clock_work now c).settings ≡ c.settings
unfolding clock_work
clock_settings now c = by_test (λ (d : Core). d.settings ≡ c.settings) (seat_is_over c.seat now) (without_session now (begun c)) (begun c) (λ t. refl) (λ t. refl)

pub clock_streams : (now : ℕ) (c : Core) → (clock_work now c).watches.streams ≡ c.watches.streams
unfolding clock_work
clock_streams now c = by_test (λ (d : Core). d.watches.streams ≡ c.watches.streams) (seat_is_over c.seat now) (without_session now (begun c)) (begun c) (λ t. refl) (λ t. refl)
