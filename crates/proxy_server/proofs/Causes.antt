-- Ends that don't come from where they would need a cause.
use Rattle.std.proofs.Common.{◌≡◌, ℕ, ◌≤◌, subst, arith}
use Rattle.server_model.specs.declared.ends.SessionEnd.{SessionEnd}
use Rattle.server_model.specs.declared.ends.SessionEnd.TheVariants as end
use Rattle.server_model.specs.Dialog.{Breaking}
use Rattle.server_model.specs.Numbers.{IsElse}
use Rattle.outside.specs.Faults.{Rose}
use Rattle.proxy_server.specs.Causes.{IsOfSteps, IsOfTakes, IsOfAsking}

-- a step is no write, and no read
pub steps_write_nothing : (last : SessionEnd) (earlier later : ℕ) → IsOfSteps last → last ≡ end.WriteFault → Rose earlier later
steps_write_nothing last earlier later of e = absurd (subst IsOfSteps e of)

pub steps_read_nothing : (last : SessionEnd) (earlier later : ℕ) → IsOfSteps last → last ≡ end.ReadFault → Rose earlier later
steps_read_nothing last earlier later of e = absurd (subst IsOfSteps e of)

-- a take is no read
pub takes_read_nothing : (last : SessionEnd) (earlier later : ℕ) → IsOfTakes last → last ≡ end.ReadFault → Rose earlier later
takes_read_nothing last earlier later of e = absurd (subst IsOfTakes e of)

pub asking_breaks : (last : SessionEnd) → IsOfAsking last → Breaking last
asking_breaks end.Closed a = a
asking_breaks (end.BadRequest fault) a = a
asking_breaks end.ReadFault a = tt
asking_breaks end.WriteFault a = tt
asking_breaks end.OutOfTickets a = tt
asking_breaks (end.TicketTaken ticket) a = tt
asking_breaks end.Worn a = tt
asking_breaks end.NoMemory a = tt

pub asking_else : (last : SessionEnd) → IsOfAsking last → IsElse last
asking_else end.Closed a = tt
asking_else (end.BadRequest fault) a = tt
asking_else end.ReadFault a = tt
asking_else end.WriteFault a = tt
asking_else end.OutOfTickets a = a
asking_else (end.TicketTaken ticket) a = tt
asking_else end.Worn a = tt
asking_else end.NoMemory a = tt

-- a count that rose had not fallen before
pub rose_before : (first earlier later : ℕ) → first ≤ earlier → Rose earlier later → Rose first later
rose_before first earlier later k r = omega arith
