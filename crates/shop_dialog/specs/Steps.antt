-- The steps of the store that connections make: which answers an event may have, and how a list of steps grows.
use Rattle.std.specs.Prelude.{◌≡◌, ℕ, Bool, true, false, ◌==◌, ◌+◌, ◌^◌, List, [], ◌∷◌, length, Result, Ok, Err}
use Rattle.std.specs.List.{list_any}
use Rattle.turn_hub.specs.declared.history.Entry.{Entry}
use Rattle.turn_hub.specs.declared.view.Opening.{Opening}
use Rattle.turn_hub.specs.Known.{Known, base_of}
use Rattle.shop_model.specs.declared.event.StoreEvent.{StoreEvent}
use Rattle.shop_model.specs.declared.event.StoreEvent.TheVariants.{Exec, Open, Push}
use Rattle.shop_model.specs.declared.event.StoreOutcome.{StoreOutcome}
use Rattle.shop_model.specs.declared.event.StoreOutcome.TheVariants as outcome
use Rattle.shop_model.specs.declared.event.StoreStepFault.{StoreStepFault}
use Rattle.shop_model.specs.declared.event.StoreStepFault.TheVariants as step

abbrev pub Step : Type 0
Step = Entry StoreEvent StoreOutcome StoreStepFault

-- P holds of each element
abbrev pub Every : {A : Type 0} → (A → Type 0) → List A → Type 0
Every P [] = Unit {0}
Every P (x ∷ xs) = P x × Every P xs

-- an answer that is of the event's kind
abbrev pub fits : StoreEvent → Result StoreOutcome StoreStepFault → Bool
fits e (Err step.Worn) = true
fits e (Err step.NoMemory) = true
fits (Exec q) (Ok (outcome.Answer a)) = true
fits (Open ask) (Ok (outcome.Opened number)) = true
fits (Push number) (Ok (outcome.Item i)) = true
fits (Push number) (Ok outcome.Nothing) = true
fits (Push number) (Err (step.NoSuchWatch watch)) = watch == number
fits e a = false

-- the step opened the watch of this number
abbrev pub is_opening : ℕ → Result StoreOutcome StoreStepFault → Bool
is_opening number (Ok (outcome.Opened watch)) = watch == number
is_opening number _ = false

-- one of these steps did
abbrev pub has_opened : ℕ → List Step → Bool
has_opened number steps = list_any (λ e. is_opening number e.answer) steps

-- the hub has made all the steps that it counts, as far as the pass has seen
abbrev pub IsFull : {M N : Type 0} → Known (Opening M) N → Type 0
IsFull k = length k.seen + base_of k.hub ≡ 2 ^ 62
