-- Which answers an event may have: outcomes of its kind, and the faults of what it names. Losses, ticks, cuts and leaving take no memory.
use Rattle.std.specs.Prelude.{◌≡◌, ◌≢◌, ℕ, true, false, Option, Result, Ok, Err}
use Rattle.core_model.specs.declared.event.CoreEvent.{CoreEvent}
use Rattle.core_model.specs.declared.event.CoreEvent.TheVariants as event
use Rattle.core_model.specs.declared.event.Job.{Job}
use Rattle.core_model.specs.declared.event.Outcome.{Outcome}
use Rattle.core_model.specs.declared.event.Outcome.TheVariants as outcome
use Rattle.core_model.specs.declared.event.StepFault.{StepFault}
use Rattle.core_model.specs.declared.event.StepFault.TheVariants as fault
use Rattle.core_model.specs.State.{Core}
use Rattle.core_model.specs.Step.{stepped}
use Rattle.core_model.specs.Stepped.{gives}
use Rattle.core_laws.specs.Steps.Outcomes.{may_have}
use Rattle.core_face.specs.Steps.{FaultsSo, Steps, takes_no_memory}

-- a worn proxy is a fault of any event, and want of memory of each that takes memory
abbrev pub IsFaultOf : CoreEvent → StepFault → Type 0
IsFaultOf e fault.Worn = Unit {0}
IsFaultOf e fault.NoMemory = takes_no_memory e ≡ false
IsFaultOf (event.Ask ticket q word) (fault.TicketUsed n) = n ≡ ticket
IsFaultOf (event.Take ticket) (fault.NoSuchTicket n) = n ≡ ticket
IsFaultOf (event.Leave ticket) (fault.NoSuchTicket n) = n ≡ ticket
IsFaultOf (event.Answer call a) (fault.NoSuchCall n) = n ≡ call
IsFaultOf (event.Lost call) (fault.NoSuchCall n) = n ≡ call
IsFaultOf (event.Item stream x) (fault.NoSuchStream n) = n ≡ stream
IsFaultOf (event.Cut stream) (fault.NoSuchStream n) = n ≡ stream
IsFaultOf e _ = ⊥

abbrev pub IsAnswerTo : CoreEvent → Result Outcome StepFault → Type 0
IsAnswerTo e (Ok o) = may_have e o ≡ true
IsAnswerTo e (Err f) = IsFaultOf e f

-- a step of the machine: what the rules say, and want of memory only where memory is taken
abbrev pub CoreSteps : Core → CoreEvent → ℕ → Result Outcome StepFault → Core → Type 0
CoreSteps before e now answer after = Steps before e now after answer × (takes_no_memory e ≡ true → answer ≢ Err fault.NoMemory)

-- each answer of a step is one that its event may have
abbrev pub AnswersFit : Type 0
AnswersFit = (e : CoreEvent) (old new : Core) (now : ℕ) (r : Result Outcome StepFault) → CoreSteps old e now r new → IsAnswerTo e r

-- the step of a worker that asks what is due
abbrev pub GivesJob : Core → ℕ → Core → Result (Option Job) StepFault → Type 0
GivesJob old now new (Ok j) = stepped old event.Work now ≡ gives new (outcome.Job j)
GivesJob old now new (Err f) = FaultsSo old event.Work now new f
