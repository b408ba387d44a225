-- Which shops a machine represents, and what a step does with them.
use Rattle.std.specs.Prelude.{ℕ, Result}
use Rattle.shop_model.specs.declared.event.StoreEvent.{StoreEvent}
use Rattle.shop_model.specs.declared.event.StoreOutcome.{StoreOutcome}
use Rattle.shop_model.specs.declared.event.StoreStepFault.{StoreStepFault}
use Rattle.shop_model.specs.Shop.{Shop}
use Rattle.shop_model.specs.Steps.{StepsTo}
use Rattle.shop_model.specs.Timed.{IsTimed}
use Rattle.store_machine.specs.declared.machine.StoreMachine.{StoreMachine}
use Rattle.store_machine.specs.Holding.{Holds}

-- this machine represents that shop, of which each lease has its deadline
pub record Stands (m : StoreMachine) (s : Shop) : Type 0 where
  pub holds : Holds m.kept.value s
  pub timed : IsTimed s

-- whichever shop it represents, that shop makes the step, and the machine then represents the shop that it leads to
abbrev pub Steps : StoreMachine → StoreEvent → ℕ → Result StoreOutcome StoreStepFault → StoreMachine → Type 0
Steps m e now a n = (s : Shop) → Stands m s → (t : Shop) × StepsTo s e now a t × Stands n t

-- there is a shop that each machine represents
abbrev pub StandForShops : Type 0
StandForShops = (m : StoreMachine) → ∥ ((s : Shop) × Stands m s) ∥₁
