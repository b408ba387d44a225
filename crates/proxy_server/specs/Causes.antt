-- Which ends of a connection come from where.
use Rattle.std.specs.Prelude.{⊤}
use Rattle.server_model.specs.declared.ends.SessionEnd.{SessionEnd}
use Rattle.server_model.specs.declared.ends.SessionEnd.TheVariants.{TicketTaken, Worn, NoMemory, WriteFault, ReadFault}

-- an end because of a step
abbrev pub IsOfSteps : SessionEnd → Type 0
IsOfSteps (TicketTaken ticket) = ⊤
IsOfSteps Worn = ⊤
IsOfSteps NoMemory = ⊤
IsOfSteps _ = ⊥

-- an end because of a step, or because of what it brought wasn't told
abbrev pub IsOfTakes : SessionEnd → Type 0
IsOfTakes (TicketTaken ticket) = ⊤
IsOfTakes Worn = ⊤
IsOfTakes NoMemory = ⊤
IsOfTakes WriteFault = ⊤
IsOfTakes _ = ⊥

-- an end while a request is asked
abbrev pub IsOfAsking : SessionEnd → Type 0
IsOfAsking (TicketTaken ticket) = ⊤
IsOfAsking Worn = ⊤
IsOfAsking NoMemory = ⊤
IsOfAsking WriteFault = ⊤
IsOfAsking ReadFault = ⊤
IsOfAsking _ = ⊥
