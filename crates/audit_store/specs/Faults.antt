-- What a step that may have a fault tells.
use Rattle.std.specs.Prelude.{◌≡◌, Result, Ok, Err}
use Rattle.etcd_types.specs.declared.watch.WatchItem.{WatchItem}
use Rattle.store_model.specs.declared.store_fault.StoreFault.{StoreFault}
use Rattle.store_model.specs.declared.store_fault.StoreFault.TheVariants as fault
use Rattle.store_model.specs.State.{State}
use Rattle.store_model.specs.Watches.{Pushed}
use Rattle.audit_store.specs.declared.store.Store.{Store}
use Rattle.audit_store.specs.Store.{Stands}

-- the step is taken, and the new store stands for the state that it leads to
abbrev pub StepsTo : Store → Result State StoreFault → Type 0
StepsTo new step = (t : State) × (step ≡ Ok t) × Stands new t

-- the same, with the message that the step gives
abbrev pub Gives : Store → WatchItem → Pushed → Type 0
Gives new item step = (t : State) × (step ≡ Ok (t, item)) × Stands new t

-- the step is refused by this very fault; want of memory says nothing of the step
abbrev pub IsFault : {A : Type 0} → StoreFault → Result A StoreFault → Type 0
IsFault (fault.NoSuchLease lease) step = step ≡ Err (fault.NoSuchLease lease)
IsFault (fault.BadApply applied newest) step = step ≡ Err (fault.BadApply applied newest)
IsFault (fault.NoSuchMember member) step = step ≡ Err (fault.NoSuchMember member)
IsFault (fault.NoSuchWatch watch) step = step ≡ Err (fault.NoSuchWatch watch)
IsFault (fault.NothingToPush watch) step = step ≡ Err (fault.NothingToPush watch)
IsFault (fault.NotAsked watch) step = step ≡ Err (fault.NotAsked watch)
IsFault (fault.NotSynced next newest) step = step ≡ Err (fault.NotSynced next newest)
IsFault fault.NoMemory step = Unit {0}
