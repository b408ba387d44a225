-- A watch that was opened is known from then on.
use Rattle.std.specs.Prelude.{ℕ, ◌≤◌, length, Result, Ok, Err}
use Rattle.shop_model.specs.declared.event.StoreEvent.{StoreEvent}
use Rattle.shop_model.specs.declared.event.StoreEvent.TheVariants.{Push}
use Rattle.shop_model.specs.declared.event.StoreOutcome.{StoreOutcome}
use Rattle.shop_model.specs.declared.event.StoreOutcome.TheVariants.{Opened}
use Rattle.shop_model.specs.declared.event.StoreStepFault.{StoreStepFault}
use Rattle.shop_model.specs.declared.event.StoreStepFault.TheVariants.{NoSuchWatch}
use Rattle.shop_model.specs.Shop.{Shop}
use Rattle.shop_model.specs.Steps.{StepsTo}

abbrev pub KnowsWatch : ℕ → Shop → Type 0
KnowsWatch number s = (1 ≤ number) × (number ≤ length s.store.watches)

-- the step that opens it knows it
abbrev pub OpensWatch : Type 0
OpensWatch = (s t : Shop) (e : StoreEvent) (now number : ℕ) → StepsTo s e now (Ok (Opened number)) t → KnowsWatch number t

-- each later step does
abbrev pub KeepsWatch : Type 0
KeepsWatch = (s t : Shop) (e : StoreEvent) (now : ℕ) (a : Result StoreOutcome StoreStepFault) (number : ℕ) → StepsTo s e now a t → KnowsWatch number s → KnowsWatch number t

-- and a push of it is never answered that it wasn't opened
abbrev pub FindsWatch : Type 0
FindsWatch = (s t : Shop) (now number watch : ℕ) → KnowsWatch number s → StepsTo s (Push number) now (Err (NoSuchWatch watch)) t → ⊥
