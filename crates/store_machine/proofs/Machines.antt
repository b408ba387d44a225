-- What the machine represents, by its parts.
use Rattle.std.proofs.Common.{ℕ, refl, Result}
use Rattle.std.proofs.Math.Logic.{∥∥₁_elim, ∥∥₁_map, ∥∥₁_prop}
use Rattle.store_world.proofs.Stores.{stand_for_states}
use Rattle.shop_model.specs.declared.event.StoreEvent.{StoreEvent}
use Rattle.shop_model.specs.declared.event.StoreOutcome.{StoreOutcome}
use Rattle.shop_model.specs.declared.event.StoreStepFault.{StoreStepFault}
use Rattle.shop_model.specs.Shop.{Shop}
use Rattle.shop_model.specs.Timed.{IsTimed}
use Rattle.shop_laws.proofs.TimedSteps.{step_timed}
use Rattle.store_machine.specs.declared.machine.StoreMachine.{StoreMachine}
use Rattle.store_machine.specs.Rows.{rows}
use Rattle.store_machine.specs.Holding.{Holds, Steps as PartsStep}
use Rattle.store_machine.specs.Standing.{Steps, StandForShops}

pub steps_so : (m n : StoreMachine) (e : StoreEvent) (now : ℕ) (a : Result StoreOutcome StoreStepFault) → ((s : Shop) → Holds m.kept.value s → IsTimed s → PartsStep s e now a n.kept.value) → Steps m e now a n
steps_so m n e now a f s stands =
    let x = f s stands.holds stands.timed in (x.0, x.1, record { holds = x.2; timed = step_timed s x.0 e now a stands.timed x.1 })

pub stand_for_shops : StandForShops
stand_for_shops m =
    ∥∥₁_elim m.timed ∥∥₁_prop
    (λ t. ∥∥₁_map (stand_for_states m.kept.value.store)
    (λ x. (record { store = x.0; deadlines = rows m.kept.value.deadlines }, record { holds = record { store = x.1; deadlines = refl }; timed = t x.0 x.1 })))
