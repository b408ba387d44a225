-- The steps that a turn makes, and which of them are a connection's own: those on what a client asks, takes and leaves.
use Rattle.std.specs.Prelude.{◌≡◌, ℕ, Bool, true, false, List, [], ◌∷◌, ◌++◌, Option, None, Some, Result, Ok, Err, ⊤}
use Rattle.std.specs.List.{filter}
use Rattle.turn_hub.specs.declared.history.Entry.{Entry}
use Rattle.turn_hub.specs.History.{entry_of}
use Rattle.core_model.specs.declared.event.CoreEvent.{CoreEvent}
use Rattle.core_model.specs.declared.event.CoreEvent.TheVariants.{Ask, Answer, Lost, Item, Cut, Take, Leave, Work}
use Rattle.core_model.specs.declared.event.Outcome.{Outcome}
use Rattle.core_model.specs.declared.event.Outcome.TheVariants.{Replied, Waiting, Pending, Item as Message, Noted, Job}
use Rattle.core_model.specs.declared.event.StepFault.{StepFault}
use Rattle.core_model.specs.declared.event.StepFault.TheVariants as step
use Rattle.core_face.specs.Steps.{takes_no_memory}
use Rattle.server_model.specs.declared.fault.TurnFault.{TurnFault}
use Rattle.server_model.specs.declared.fault.TurnFault.TheVariants as turn

abbrev pub Step : Type 0
Step = Entry CoreEvent Outcome StepFault

-- P holds of each element
abbrev pub Every : {A : Type 0} → (A → Type 0) → List A → Type 0
Every P [] = Unit {0}
Every P (x ∷ xs) = P x × Every P xs

-- a connection steps on these alone
abbrev pub is_own : CoreEvent → Bool
is_own (Ask ticket request word) = true
is_own (Take ticket) = true
is_own (Leave ticket) = true
is_own _ = false

abbrev pub own : List Step → List Step
own steps = filter (λ e. is_own e.event) steps

-- a told list grows by these steps; it may stop being told, for good
abbrev pub Adds : Option (List Step) → Option (List Step) → List Step → Type 0
Adds old None steps = Unit {0}
Adds None (Some after) steps = ⊥
Adds (Some before) (Some after) steps = after ≡ before ++ steps

-- the steps of a call of `turn`
abbrev pub steps_by : CoreEvent → ℕ → Result Outcome TurnFault → List Step
steps_by event now (Ok outcome) = entry_of event now (Ok outcome) ∷ []
steps_by event now (Err turn.Worn) = []
steps_by event now (Err (turn.Core fault)) = entry_of event now (Err fault) ∷ []

abbrev pub MadeBy : Option (List Step) → Option (List Step) → CoreEvent → ℕ → Result Outcome TurnFault → Type 0
MadeBy old new event now result = Adds old new (steps_by event now result)

-- a rest made these steps, none of them a connection's own
pub record Rested (rests : CoreEvent → Type 0) (old new : Option (List Step)) : Type 0 where
  pub steps : List Step
  pub adds : Adds old new steps
  pub others : Every (λ e. rests e.event) steps
  pub none_own : Every (λ e. is_own e.event ≡ false) steps

-- which faults a core may answer to an event: beside those of each, that a ticket is in use to an Ask of it, and that it isn't
-- known to a Take or a Leave of it. Losses, ticks, cuts and leaving take no memory
abbrev pub FitsFault : CoreEvent → StepFault → Type 0
FitsFault event step.Worn = ⊤
FitsFault event step.NoMemory = takes_no_memory event ≡ false
FitsFault (Ask ticket request word) (step.TicketUsed other) = other ≡ ticket
FitsFault (Take ticket) (step.NoSuchTicket other) = other ≡ ticket
FitsFault (Leave ticket) (step.NoSuchTicket other) = other ≡ ticket
FitsFault (Answer call answer) (step.NoSuchCall other) = other ≡ call
FitsFault (Lost call) (step.NoSuchCall other) = other ≡ call
FitsFault (Item stream item) (step.NoSuchStream other) = other ≡ stream
FitsFault (Cut stream) (step.NoSuchStream other) = other ≡ stream
FitsFault event _ = ⊥

-- which outcomes a core may answer to an event
abbrev pub FitsOutcome : CoreEvent → Outcome → Type 0
FitsOutcome (Ask ticket request word) (Replied answer) = ⊤
FitsOutcome (Ask ticket request word) Waiting = ⊤
FitsOutcome (Ask ticket request word) _ = ⊥
FitsOutcome (Take ticket) (Replied answer) = ⊤
FitsOutcome (Take ticket) Pending = ⊤
FitsOutcome (Take ticket) (Message item) = ⊤
FitsOutcome (Take ticket) _ = ⊥
FitsOutcome Work (Job job) = ⊤
FitsOutcome Work _ = ⊥
FitsOutcome event Noted = ⊤
FitsOutcome event _ = ⊥

abbrev pub FitsAnswer : CoreEvent → Result Outcome StepFault → Type 0
FitsAnswer event (Ok outcome) = FitsOutcome event outcome
FitsAnswer event (Err fault) = FitsFault event fault

-- the same of a turn
abbrev pub Fits : CoreEvent → Result Outcome TurnFault → Type 0
Fits event (Ok outcome) = FitsOutcome event outcome
Fits event (Err turn.Worn) = ⊤
Fits event (Err (turn.Core fault)) = FitsFault event fault

-- a fault that a rest may have, which is no fault of a ticket, a call or a stream
abbrev pub IsOfRest : TurnFault → Type 0
IsOfRest turn.Worn = ⊤
IsOfRest (turn.Core step.Worn) = ⊤
IsOfRest (turn.Core step.NoMemory) = ⊤
IsOfRest (turn.Core _) = ⊥

-- no more steps are made, by the turn or by its core
abbrev pub is_late : TurnFault → Bool
is_late turn.Worn = true
is_late (turn.Core step.Worn) = true
is_late _ = false

-- memory was wanting for the step
abbrev pub is_for_memory : TurnFault → Bool
is_for_memory (turn.Core step.NoMemory) = true
is_for_memory _ = false

-- Steps were made of which these are the connection's own; each other one is one that a rest may make.
pub record Did (rests : CoreEvent → Type 0) (old new : Option (List Step)) (mine : List Step) : Type 0 where
  pub steps : List Step
  pub adds : Adds old new steps
  pub mine_are : own steps ≡ mine
  pub others : Every (λ e. is_own e.event ≡ false → rests e.event) steps

-- no event at all
abbrev pub NoEvent : CoreEvent → Type 0
NoEvent event = ⊥
