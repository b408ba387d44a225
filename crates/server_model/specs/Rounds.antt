-- A worker's whole life: its turns are made again and again, also where memory was wanting, until no further step is made.
use Rattle.std.specs.Prelude.{ℕ, List, ⊤}
use Rattle.outside.specs.declared.parts.Part.{Part}
use Rattle.core_model.specs.declared.event.CoreEvent.{CoreEvent}
use Rattle.server_model.specs.declared.ends.WorkEnd.{WorkEnd}
use Rattle.server_model.specs.declared.ends.WorkEnd.TheVariants as how
use Rattle.server_model.specs.Working.{Ledger, IsWorked}

-- a worker goes on behind this end
abbrev pub GoesOn : WorkEnd → Type 0
GoesOn how.Worn = ⊥
GoesOn _ = ⊤

-- So many turns were made again and again, each time to an end behind which a worker goes on. `worn` says that the turn makes no more steps.
pub data Rounds {P C : Type 0} (hosts : List (List ℕ)) (homed : P → Type 0) (rests : CoreEvent → Type 0) (worn : Type 0) (turns : ℕ) : Ledger (Part P C) → Ledger (Part P C) → Type 0 where
  none : (at : Ledger (Part P C)) → Rounds hosts homed rests worn turns at at
  more : (a b c : Ledger (Part P C)) (end : WorkEnd) → Rounds hosts homed rests worn turns a b → IsWorked hosts homed rests worn turns b c end → GoesOn end
      → Rounds hosts homed rests worn turns a c

-- and at last until no further step is made
pub record IsSpent {P C : Type 0} (hosts : List (List ℕ)) (homed : P → Type 0) (rests : CoreEvent → Type 0) (worn : Type 0) (turns : ℕ) (before after : Ledger (Part P C)) : Type 0 where
  pub mid : Ledger (Part P C)
  pub rounds : Rounds hosts homed rests worn turns before mid
  pub last : IsWorked hosts homed rests worn turns mid after how.Worn
