-- What the core answers fits what it is asked.
use Rattle.std.proofs.Common.{◌≡◌, ℕ, true, Result, Ok, Err}
use Rattle.core_model.specs.declared.event.CoreEvent.{CoreEvent}
use Rattle.core_model.specs.declared.event.CoreEvent.TheVariants.{Ask, Answer, Lost, Item, Cut, Take, Leave, Work}
use Rattle.core_model.specs.declared.event.Outcome.{Outcome}
use Rattle.core_model.specs.declared.event.Outcome.TheVariants as outcome
use Rattle.core_model.specs.declared.event.StepFault.{StepFault}
use Rattle.core_model.specs.declared.event.StepFault.TheVariants as step
use Rattle.core_model.specs.State.{Core}
use Rattle.core_laws.specs.Steps.Outcomes.{may_have}
use Rattle.proxy_core.specs.Faults.{IsFaultOf, IsAnswerTo, CoreSteps}
use Rattle.proxy_core.proofs.Faults.{answers_fit}
use Rattle.server_model.specs.Steps.{FitsOutcome, FitsFault, FitsAnswer}

outcome_fits : (e : CoreEvent) (o : Outcome) → may_have e o ≡ true → FitsOutcome e o
outcome_fits (Ask ticket request word) (outcome.Replied answer) h = tt
outcome_fits (Ask ticket request word) outcome.Waiting h = tt
outcome_fits (Ask ticket request word) o h = absurd (cc)
outcome_fits (Take ticket) (outcome.Replied answer) h = tt
outcome_fits (Take ticket) outcome.Pending h = tt
outcome_fits (Take ticket) (outcome.Item item) h = tt
outcome_fits (Take ticket) o h = absurd (cc)
outcome_fits Work (outcome.Job job) h = tt
outcome_fits Work o h = absurd (cc)
outcome_fits e outcome.Noted h = tt
outcome_fits e o h = absurd (cc)

fault_fits : (e : CoreEvent) (f : StepFault) → IsFaultOf e f → FitsFault e f
fault_fits e step.Worn h = tt
fault_fits e step.NoMemory h = h
fault_fits (Ask ticket request word) (step.TicketUsed other) h = h
fault_fits e (step.TicketUsed other) h = absurd h
fault_fits (Take ticket) (step.NoSuchTicket other) h = h
fault_fits (Leave ticket) (step.NoSuchTicket other) h = h
fault_fits e (step.NoSuchTicket other) h = absurd h
fault_fits (Answer call answer) (step.NoSuchCall other) h = h
fault_fits (Lost call) (step.NoSuchCall other) h = h
fault_fits e (step.NoSuchCall other) h = absurd h
fault_fits (Item stream item) (step.NoSuchStream other) h = h
fault_fits (Cut stream) (step.NoSuchStream other) h = h
fault_fits e (step.NoSuchStream other) h = absurd h

answer_fits : (e : CoreEvent) (r : Result Outcome StepFault) → IsAnswerTo e r → FitsAnswer e r
answer_fits e (Ok o) h = outcome_fits e o h
answer_fits e (Err f) h = fault_fits e f h

pub step_fits : (old new : Core) (e : CoreEvent) (now : ℕ) (r : Result Outcome StepFault) → CoreSteps old e now r new → FitsAnswer e r
step_fits old new e now r s = answer_fits e r (answers_fit e old new now r s)
