-- Only where work is asked for, a step gives a job.
use Rattle.std.proofs.Common.{◌≡◌, ℕ, Bool, true, false, Some, Ok, Err, refl, sym, ◌∙◌, ap}
use Rattle.core_model.specs.declared.event.CoreEvent.{CoreEvent}
use Rattle.core_model.specs.declared.event.CoreEvent.TheVariants as event
use Rattle.core_model.specs.declared.event.Job.{Job}
use Rattle.core_model.specs.declared.event.Outcome.TheVariants as outcome
use Rattle.core_model.specs.declared.event.StepFault.TheVariants as fault
use Rattle.core_model.specs.ClockWork.{clock_work}
use Rattle.core_model.specs.State.{Core}
use Rattle.core_model.specs.Step.{is_worn, stepped}
use Rattle.core_model.specs.Stepped.{Stepped}
use Rattle.core_laws.specs.Steps.Outcomes.{may_have, Gives, gave, faulted}
use Rattle.core_laws.proofs.Steps.Outcomes.{worn_does_nothing, steps_give}

is_work : (e : CoreEvent) (j : Job) → may_have e (outcome.Job (Some j)) ≡ true → e ≡ event.Work
is_work event.Work j h = refl
is_work (event.Ask ticket q word) j h = absurd (cc)
is_work (event.Answer call a) j h = absurd (cc)
is_work (event.Lost call) j h = absurd (cc)
is_work (event.Tick word) j h = absurd (cc)
is_work (event.Item number x) j h = absurd (cc)
is_work (event.Cut number) j h = absurd (cc)
is_work (event.Take ticket) j h = absurd (cc)
is_work (event.Leave ticket) j h = absurd (cc)

pub gives_job : (c : Core) (e : CoreEvent) (now : ℕ) (j : Job) → (stepped c e now).outcome ≡ Ok (outcome.Job (Some j)) → e ≡ event.Work
gives_job c e now j is = by_worn (is_worn c) refl
  where
    by_given : Gives (may_have e) (clock_work now c) (stepped c e now) → e ≡ event.Work
    by_given (gave o f fits) = let same : o ≡ outcome.Job (Some j) = cc in is_work e j (ap (may_have e) (sym same) ∙ fits)
    by_given (faulted f g w) = let other : (stepped c e now).outcome ≡ Err f = ap (λ (s : Stepped). s.outcome) g in absurd (cc)

    by_worn : (b : Bool) → is_worn c ≡ b → e ≡ event.Work
    by_worn true w = let other : (stepped c e now).outcome ≡ Err fault.Worn = ap (λ (s : Stepped). s.outcome) (worn_does_nothing c e now w) in absurd (cc)
    by_worn false w = by_given (steps_give c e now w)
