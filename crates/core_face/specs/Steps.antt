-- What a step of a proxy's machine leaves and gives, by its result.
use Rattle.std.specs.Prelude.{◌≡◌, ℕ, Bool, true, false, Result, Ok, Err, is_some}
use Rattle.core_model.specs.ClockWork.{clock_work}
use Rattle.core_model.specs.declared.event.CoreEvent.{CoreEvent}
use Rattle.core_model.specs.declared.event.CoreEvent.TheVariants as event
use Rattle.core_model.specs.declared.event.Outcome.{Outcome}
use Rattle.core_model.specs.declared.event.StepFault.{StepFault}
use Rattle.core_model.specs.declared.event.StepFault.TheVariants as fault
use Rattle.core_model.specs.State.{Core}
use Rattle.core_model.specs.Step.{stepped}
use Rattle.core_model.specs.Stepped.{gives, faults}
use Rattle.watch_model.specs.Lookups.{watch_at}

-- the fault is the step's own; want of memory is none, and leaves what the clock work left
abbrev pub FaultsSo : Core → CoreEvent → ℕ → Core → StepFault → Type 0
FaultsSo old e now new fault.NoMemory = new ≡ clock_work now old
FaultsSo old e now new fault.Worn = stepped old e now ≡ faults new fault.Worn
FaultsSo old e now new (fault.TicketUsed ticket) = stepped old e now ≡ faults new (fault.TicketUsed ticket)
FaultsSo old e now new (fault.NoSuchTicket ticket) = stepped old e now ≡ faults new (fault.NoSuchTicket ticket)
FaultsSo old e now new (fault.NoSuchCall call) = stepped old e now ≡ faults new (fault.NoSuchCall call)
FaultsSo old e now new (fault.NoSuchStream stream) = stepped old e now ≡ faults new (fault.NoSuchStream stream)

abbrev pub Steps : Core → CoreEvent → ℕ → Core → Result Outcome StepFault → Type 0
Steps old e now new (Ok o) = stepped old e now ≡ gives new o
Steps old e now new (Err why) = FaultsSo old e now new why

abbrev pub takes_no_memory : CoreEvent → Bool
takes_no_memory (event.Lost call) = true
takes_no_memory (event.Tick word) = true
takes_no_memory (event.Cut stream) = true
takes_no_memory (event.Leave ticket) = true
takes_no_memory _ = false

abbrev pub is_watch : ℕ → Core → Bool
is_watch ticket c = is_some (watch_at ticket c.watches.watches)
