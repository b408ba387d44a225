-- Each lease has its deadline: at the start, and after each step of the machine where it was so before.
use Rattle.std.specs.Prelude.{ℕ, Result}
use Rattle.shop_model.specs.declared.event.StoreEvent.{StoreEvent}
use Rattle.shop_model.specs.declared.event.StoreOutcome.{StoreOutcome}
use Rattle.shop_model.specs.declared.event.StoreStepFault.{StoreStepFault}
use Rattle.shop_model.specs.Shop.{Shop, first_shop}
use Rattle.shop_model.specs.Steps.{StepsTo}
use Rattle.shop_model.specs.Timed.{IsTimed}

abbrev pub StartsTimed : Type 0
StartsTimed = IsTimed first_shop

abbrev pub StaysTimed : Type 0
StaysTimed = (s t : Shop) (e : StoreEvent) (now : ℕ) (a : Result StoreOutcome StoreStepFault) → IsTimed s → StepsTo s e now a t → IsTimed t
