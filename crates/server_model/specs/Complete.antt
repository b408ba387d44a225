-- A connection whose requests all have their replies: nothing outside failed it, its bytes are whole requests, no step of it failed, and its
-- tickets were enough.
use Rattle.std.specs.Prelude.{◌≡◌, ℕ, ◌+◌, ◌<◌, Bool, true, false, List, [], ◌∷◌, length, Option, None, Some, Result, Err, ◌⊎◌}
use Rattle.outside.specs.Faults.{Rose}
use Rattle.http_talk.specs.Requests.{AreWhole}
use Rattle.core_model.specs.declared.event.Outcome.{Outcome}
use Rattle.core_model.specs.declared.event.StepFault.{StepFault}
use Rattle.core_model.specs.declared.event.StepFault.TheVariants as step
use Rattle.server_model.specs.declared.ends.SessionEnd.{SessionEnd}
use Rattle.server_model.specs.declared.ends.SessionEnd.TheVariants.{Closed, NoMemory}
use Rattle.server_model.specs.Steps.{Step, Every, Adds, own}
use Rattle.server_model.specs.Numbers.{asks}

-- a step that failed since its ticket isn't known, or since the core makes no more steps
abbrev pub is_refused : Result Outcome StepFault → Bool
is_refused (Err (step.NoSuchTicket ticket)) = true
is_refused (Err step.Worn) = true
is_refused _ = false

-- Nothing stood in a connection's way. `worn` says that the turn makes no more steps; the counts are those of the source and of the sink.
pub record IsUnhindered (left : Option (List ℕ)) (made made' : Option (List Step)) (worn : Type 0) (limit from reads reads' writes writes' : ℕ) : Type 0 where
  pub whole : AreWhole left
  pub no_read_failed : Rose reads reads' → ⊥
  pub no_write_failed : Rose writes writes' → ⊥
  pub not_worn : worn → ⊥
  pub none_refused : (steps : List Step) → Adds made made' steps → Every (λ e. is_refused e.answer ≡ false) (own steps)
  pub tickets_left : (steps : List Step) → Adds made made' steps → from + length (asks steps) < limit

-- then each request has its reply, or memory was wanting
abbrev pub Completes : Option (List ℕ) → Option (List Step) → Option (List Step) → Type 0 → ℕ → ℕ → ℕ → ℕ → ℕ → ℕ → SessionEnd → Type 0
Completes left made made' worn limit from reads reads' writes writes' end =
    IsUnhindered left made made' worn limit from reads reads' writes writes' → (end ≡ Closed) ⊎ (end ≡ NoMemory)
