-- What the handling of an event gives and leaves, where this is what its definition comes to. Want of memory leaves what stood.
use Rattle.std.specs.Prelude.{◌≡◌, Result, Ok, Err}
use Rattle.core_model.specs.declared.event.Outcome.{Outcome}
use Rattle.core_model.specs.declared.event.StepFault.{StepFault}
use Rattle.core_model.specs.declared.event.StepFault.TheVariants as fault
use Rattle.core_model.specs.State.{Core}
use Rattle.core_model.specs.Stepped.{Stepped, gives, faults}

abbrev pub FaultsBy : Core → Stepped → StepFault → Core → Type 0
FaultsBy old s fault.NoMemory new = new ≡ old
FaultsBy old s fault.Worn new = s ≡ faults new fault.Worn
FaultsBy old s (fault.TicketUsed ticket) new = s ≡ faults new (fault.TicketUsed ticket)
FaultsBy old s (fault.NoSuchTicket ticket) new = s ≡ faults new (fault.NoSuchTicket ticket)
FaultsBy old s (fault.NoSuchCall call) new = s ≡ faults new (fault.NoSuchCall call)
FaultsBy old s (fault.NoSuchStream stream) new = s ≡ faults new (fault.NoSuchStream stream)

abbrev pub Does : Core → Stepped → Result Outcome StepFault → Core → Type 0
Does old s (Ok o) new = s ≡ gives new o
Does old s (Err f) new = FaultsBy old s f new
