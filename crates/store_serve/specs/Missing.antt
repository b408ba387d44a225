-- A call for a step of the store that gave nothing.
use Rattle.std.specs.Prelude.{◌≡◌, ℕ, [], ◌∷◌, ◌++◌, Option, None, Some, Err, ⊤}
use Rattle.etcd_types.specs.declared.watch.WatchItem.{WatchItem}
use Rattle.turn_hub.specs.declared.fault.HubFault.{HubFault}
use Rattle.turn_hub.specs.declared.fault.HubFault.TheVariants as hub
use Rattle.turn_hub.specs.declared.view.Opening.{Opening}
use Rattle.turn_hub.specs.History.{entry_of}
use Rattle.turn_hub.specs.Known.{Known, made}
use Rattle.shop_model.specs.declared.event.StoreEvent.{StoreEvent}
use Rattle.shop_model.specs.declared.event.StoreOutcome.{StoreOutcome}
use Rattle.shop_model.specs.declared.event.StoreOutcome.TheVariants as outcome
use Rattle.shop_model.specs.declared.event.StoreStepFault.{StoreStepFault}
use Rattle.shop_dialog.specs.declared.ends.StoreEnd.{StoreEnd}
use Rattle.shop_dialog.specs.declared.ends.StoreEnd.TheVariants as end
use Rattle.shop_dialog.specs.Steps.{Step, IsFull}
use Rattle.shop_dialog.specs.Watching.{IsOfAny, end_of_step}

-- outcomes of a request, of a watch that is opened, and of a push
abbrev pub IsAnswer : StoreOutcome → Type 0
IsAnswer (outcome.Answer answer) = ⊤
IsAnswer _ = ⊥

abbrev pub IsNumber : StoreOutcome → Type 0
IsNumber (outcome.Opened number) = ⊤
IsNumber _ = ⊥

abbrev pub IsPushed : StoreOutcome → Type 0
IsPushed (outcome.Item item) = ⊤
IsPushed outcome.Nothing = ⊤
IsPushed _ = ⊥

abbrev pub end_of : HubFault StoreStepFault → StoreEnd
end_of hub.Worn = end.Worn
end_of (hub.Machine fault) = end_of_step fault

-- the hub made no step, as it makes no more; or the step had a fault that any may have
abbrev pub Misses : {M : Type 0} → StoreEvent → ℕ → Known (Opening M) Step → Known (Opening M) Step → HubFault StoreStepFault → Type 0
Misses event now before after hub.Worn = (made after ≡ made before) × IsFull after
Misses event now before after (hub.Machine fault) = (made after ≡ made before ++ entry_of event now (Err fault) ∷ []) × IsOfAny fault

-- the outcome of a push that brought this message, or none
abbrev pub brought : Option WatchItem → StoreOutcome
brought None = outcome.Nothing
brought (Some item) = outcome.Item item
