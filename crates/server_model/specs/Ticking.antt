-- The ticker: step after step on Tick, each with a word that is drawn for it, until no further step is made. How often it ticks is no
-- matter of what it does: a proxy takes each reading of its clock as it comes. A tick takes no memory, so it never fails for want of it.
use Rattle.std.specs.Prelude.{◌≡◌, ℕ, List, [], ◌∷◌, ◌++◌, Option, Result, Ok, Err}
use Rattle.outside.specs.Draw.{Gives}
use Rattle.turn_hub.specs.History.{entry_of}
use Rattle.core_model.specs.declared.event.CoreEvent.TheVariants.{Tick}
use Rattle.core_model.specs.declared.event.Outcome.TheVariants.{Noted}
use Rattle.core_model.specs.declared.event.StepFault.TheVariants as step
use Rattle.server_model.specs.declared.fault.TurnFault.{TurnFault}
use Rattle.server_model.specs.declared.fault.TurnFault.TheVariants as turn
use Rattle.server_model.specs.Steps.{Step, Adds}

-- a tick that was noted
abbrev pub noted : ℕ → ℕ → Step
noted word now = entry_of (Tick word) now (Ok Noted)

-- A tick that is the last: the core makes no more steps, or the turn makes none, which `worn` says.
pub data LastTick (worn : Type 0) (word : ℕ) : List Step → TurnFault → Type 0 where
  refused : (now : ℕ) → LastTick worn word (entry_of (Tick word) now (Err step.Worn) ∷ []) (turn.Core step.Worn)
  late : worn → LastTick worn word [] turn.Worn

-- what a tick does with this word
abbrev pub TickDoes : Type 0 → ℕ → List Step → Result (Unit {0}) TurnFault → Type 0
TickDoes worn word steps (Ok done) = (now : ℕ) × (steps ≡ noted word now ∷ [])
TickDoes worn word steps (Err why) = LastTick worn word steps why

-- a tick, with the word that was drawn for it
pub record OneTick (worn : Type 0) (made made' : Option (List Step)) (given given' : Option (List ℕ)) (result : Result (Unit {0}) TurnFault) : Type 0 where
  pub word : ℕ
  pub steps : List Step
  pub does : TickDoes worn word steps result
  pub drawn : Gives given given' (word ∷ [])
  pub adds : Adds made made' steps

-- ticks that were noted, one behind the other, with these words
pub data Ticks : List Step → List ℕ → Type 0 where
  none : Ticks [] []
  more : (steps : List Step) (words : List ℕ) (word now : ℕ) → Ticks steps words → Ticks (steps ++ noted word now ∷ []) (words ++ word ∷ [])

-- ticks so far
pub record SoFar (made made' : Option (List Step)) (given given' : Option (List ℕ)) : Type 0 where
  pub steps : List Step
  pub words : List ℕ
  pub ticks : Ticks steps words
  pub drawn : Gives given given' words
  pub adds : Adds made made' steps

-- A ticker's whole life. Its last word may have no step, where the turn makes no more.
pub record Ticking (worn : Type 0) (made made' : Option (List Step)) (given given' : Option (List ℕ)) : Type 0 where
  pub steps : List Step
  pub words : List ℕ
  pub ticks : Ticks steps words
  pub last : List Step
  pub word : ℕ
  pub why : TurnFault
  pub ends : LastTick worn word last why
  pub drawn : Gives given given' (words ++ word ∷ [])
  pub adds : Adds made made' (steps ++ last)
