-- What a step gives, and what stands then.
use Rattle.std.specs.Prelude.{◌+◌, Result, Ok, Err}
use Rattle.etcd_types.specs.declared.answer.Answer.{Answer}
use Rattle.core_model.specs.declared.event.Outcome.{Outcome}
use Rattle.core_model.specs.declared.event.Outcome.TheVariants as outcome
use Rattle.core_model.specs.declared.event.StepFault.{StepFault}
use Rattle.core_model.specs.State.{Core}

pub record Stepped : Type 0 where
  pub core : Core
  pub outcome : Result Outcome StepFault

abbrev pub gives : Core → Outcome → Stepped
gives c o = record { core = c; outcome = Ok o }

abbrev pub faults : Core → StepFault → Stepped
faults c f = record { core = c; outcome = Err f }

abbrev pub noted : Core → Stepped
noted c = gives c outcome.Noted

abbrev pub replies : Core → Answer → Stepped
replies c a = gives c (outcome.Replied a)

-- a step that gave an outcome is counted; one that gave a fault counts as one with the step after it
abbrev pub counted_by : Core → Result Outcome StepFault → Stepped
counted_by c (Ok o) = gives (record c { steps = c.steps + 1 }) o
counted_by c (Err f) = faults c f

abbrev pub counted : Stepped → Stepped
counted s = counted_by s.core s.outcome
