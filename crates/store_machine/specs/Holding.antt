-- Which shops a machine's parts represent, and what its steps do with them.
use Rattle.std.specs.Prelude.{◌≡◌, ℕ, ◌<◌, ◌^◌, ◌++◌, Bool, true, false, List, Result, Ok, Err}
use Rattle.store_model.specs.declared.store_fault.StoreFault.{StoreFault}
use Rattle.store_model.specs.declared.store_fault.StoreFault.TheVariants as fault
use Rattle.store_model.specs.State.{State}
use Rattle.store_world.specs.declared.store.Store.{Store}
use Rattle.store_world.specs.Store.{Stands}
use Rattle.shop_model.specs.declared.event.StoreEvent.{StoreEvent}
use Rattle.shop_model.specs.declared.event.StoreOutcome.{StoreOutcome}
use Rattle.shop_model.specs.declared.event.StoreOutcome.TheVariants as outcome
use Rattle.shop_model.specs.declared.event.StoreStepFault.{StoreStepFault}
use Rattle.shop_model.specs.declared.event.StoreStepFault.TheVariants as step
use Rattle.shop_model.specs.Deadlines.{due}
use Rattle.shop_model.specs.Shop.{Shop, all_ended}
use Rattle.shop_model.specs.Steps.{Stepped, StepsTo, spent}
use Rattle.shop_model.specs.Timed.{AreTimed}
use Rattle.store_machine.specs.declared.kept.Kept.{Kept}
use Rattle.store_machine.specs.Rows.{rows}

-- the store represents the shop's, and the deadlines are the same
pub record Holds (kept : Kept) (s : Shop) : Type 0 where
  pub store : Stands kept.store s.store
  pub deadlines : s.deadlines ≡ rows kept.deadlines

-- each lease has its deadline, whichever state the store represents
abbrev pub Timed : Kept → Type 0
Timed kept = (s : State) → Stands kept.store s → AreTimed s.leases (rows kept.deadlines)

-- revisions and leases aren't used up, whichever state the store represents
abbrev pub HasRoom : Store → Type 0
HasRoom store = (s : State) → Stands store s → spent s < 2 ^ 62

-- some leases have ended of those that were due, the lowest numbers first
abbrev pub EndedSome : ℕ → Shop → Kept → Type 0
EndedSome now s kept = (front : List ℕ) × (back : List ℕ) × (due now s.deadlines ≡ front ++ back) × Holds kept (all_ended front s)

-- what an event does, and what it answers
abbrev pub Acts : Kept → Result StoreOutcome StoreStepFault → Stepped → Type 0
Acts kept a d = Holds kept d.0 × (a ≡ d.1)

-- one step
abbrev pub Steps : Shop → StoreEvent → ℕ → Result StoreOutcome StoreStepFault → Kept → Type 0
Steps s e now a kept = (t : Shop) × StepsTo s e now a t × Holds kept t

-- memory was wanting
abbrev pub is_wanting : StoreFault → Bool
is_wanting fault.NoMemory = true
is_wanting _ = false

-- what is answered to a push of a watch to which the store pushes nothing
abbrev pub answer_to : ℕ → StoreFault → Result StoreOutcome StoreStepFault
answer_to number (fault.NothingToPush watch) = Ok outcome.Nothing
answer_to number _ = Err (step.NoSuchWatch number)
