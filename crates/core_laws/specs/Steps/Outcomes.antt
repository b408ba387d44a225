-- What a step gives: which outcomes each event may have, and what a fault leaves.
use Rattle.std.specs.Prelude.{◌≡◌, ℕ, Bool, true, false, Ok}
use Rattle.core_model.specs.declared.event.CoreEvent.{CoreEvent}
use Rattle.core_model.specs.declared.event.CoreEvent.TheVariants as event
use Rattle.core_model.specs.declared.event.Outcome.{Outcome}
use Rattle.core_model.specs.declared.event.Outcome.TheVariants as outcome
use Rattle.core_model.specs.declared.event.StepFault.{StepFault}
use Rattle.core_model.specs.declared.event.StepFault.TheVariants as fault
use Rattle.core_model.specs.ClockWork.{clock_work}
use Rattle.core_model.specs.State.{Core}
use Rattle.core_model.specs.Step.{is_worn, stepped}
use Rattle.core_model.specs.Stepped.{Stepped, faults}

abbrev pub is_reply_or_wait : Outcome → Bool
is_reply_or_wait (outcome.Replied a) = true
is_reply_or_wait outcome.Waiting = true
is_reply_or_wait _ = false

abbrev pub is_taken : Outcome → Bool
is_taken (outcome.Replied a) = true
is_taken outcome.Pending = true
is_taken (outcome.Item x) = true
is_taken _ = false

abbrev pub is_job : Outcome → Bool
is_job (outcome.Job j) = true
is_job _ = false

abbrev pub is_noted : Outcome → Bool
is_noted outcome.Noted = true
is_noted _ = false

-- which outcomes an event may have
abbrev pub may_have : CoreEvent → Outcome → Bool
may_have (event.Ask ticket q word) o = is_reply_or_wait o
may_have (event.Take ticket) o = is_taken o
may_have event.Work o = is_job o
may_have _ o = is_noted o

abbrev pub is_worn_fault : StepFault → Bool
is_worn_fault fault.Worn = true
is_worn_fault _ = false

-- an outcome that passes, or a fault of its own that leaves this state
pub data Gives (fits : Outcome → Bool) (c : Core) (s : Stepped) : Type 0 where
  gave : (o : Outcome) → s.outcome ≡ Ok o → fits o ≡ true → Gives fits c s
  faulted : (f : StepFault) → s ≡ faults c f → is_worn_fault f ≡ false → Gives fits c s

-- of a worn proxy each step is the same fault, and does nothing
abbrev pub WornDoesNothing : Type 0
WornDoesNothing = (c : Core) (e : CoreEvent) (now : ℕ) → is_worn c ≡ true → stepped c e now ≡ faults c fault.Worn

-- else it gives what its event may have; or another fault, and nothing was done but the clock work
abbrev pub StepsGive : Type 0
StepsGive = (c : Core) (e : CoreEvent) (now : ℕ) → is_worn c ≡ false → Gives (may_have e) (clock_work now c) (stepped c e now)
