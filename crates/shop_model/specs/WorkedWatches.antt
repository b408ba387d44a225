-- Small runs of the machine from its start: watches.
use Rattle.std.specs.Prelude.{◌≡◌, ℕ, false, [], ◌∷◌, None, Ok, Err}
use Rattle.etcd_types.specs.declared.key_range.KeyRange.{KeyRange}
use Rattle.etcd_types.specs.declared.request.Request.TheVariants as request
use Rattle.etcd_types.specs.declared.answer.Body.TheVariants as body
use Rattle.etcd_types.specs.declared.watch.Change.{Change}
use Rattle.etcd_types.specs.declared.watch.Change.TheVariants as change
use Rattle.etcd_types.specs.declared.watch.Event.{Event}
use Rattle.etcd_types.specs.declared.watch.WatchItem.{WatchItem}
use Rattle.etcd_types.specs.declared.watch.WatchItem.TheVariants as item
use Rattle.store_model.specs.State.{header}
use Rattle.store_model.specs.Worked.{key_a, key_b, value_x, value_y, only}
use Rattle.shop_model.specs.declared.event.StoreEvent.{StoreEvent}
use Rattle.shop_model.specs.declared.event.StoreEvent.TheVariants.{Exec, Open, Push}
use Rattle.shop_model.specs.declared.event.StoreOutcome.TheVariants as outcome
use Rattle.shop_model.specs.declared.event.StoreStepFault.TheVariants as step
use Rattle.shop_model.specs.Worked.{Told, told, grants, puts, lists, done, a_under_7}

abbrev pub opens : ℕ → KeyRange → ℕ → ℕ × StoreEvent
opens now range start =
    (now, Open (record { range = range; start = start; no_put = false; no_delete = false; prev_kv = false; progress = false }))

abbrev pub pushes : ℕ → ℕ → ℕ × StoreEvent
pushes now watch = (now, Push watch)

abbrev pub sends : WatchItem → Told
sends i = Ok (outcome.Item i)

abbrev pub tells_of : Change → Event
tells_of c = record { change = c; prev = None }

-- from a up to b, which is in it
abbrev pub a_and_b : KeyRange
a_and_b = record { key = key_a; end = 98 ∷ 0 ∷ [] }

-- leases that are due together end in the order of their numbers, not of their deadlines: 8 before 9
abbrev pub EndsByNumber : Type 0
EndsByNumber =
    told (grants 0 10 9 ∷ grants 0 20 8 ∷ puts 0 key_b value_x 9 ∷ puts 0 key_a value_y 8 ∷ opens 0 a_and_b 0 ∷ pushes 0 1 ∷ pushes 20000 1 ∷ [])
    ≡ done 1 (body.Grant 9 10)
    ∷ done 1 (body.Grant 8 20)
    ∷ done 2 (body.Put None)
    ∷ done 3 (body.Put None)
    ∷ Ok (outcome.Opened 1)
    ∷ sends (item.Created (header 1 3))
    ∷ sends (item.Events (header 1 5) (tells_of (change.Delete key_a 4) ∷ tells_of (change.Delete key_b 5) ∷ []))
    ∷ []

-- a push of a watch that wasn't opened lets a lease expire, and does nothing else
abbrev pub EndsBeforeNoSuchWatch : Type 0
EndsBeforeNoSuchWatch =
    told (grants 0 30 7 ∷ pushes 30000 4 ∷ lists 30000 ∷ []) ≡ done 1 (body.Grant 7 30) ∷ Err (step.NoSuchWatch 4) ∷ done 1 (body.Leases []) ∷ []

abbrev pub TellsWhatCame : Type 0
TellsWhatCame =
    told (opens 0 (only key_a) 0 ∷ pushes 0 1 ∷ pushes 0 1 ∷ puts 0 key_a value_x 0 ∷ pushes 0 1 ∷ pushes 0 1 ∷ [])
    ≡ Ok (outcome.Opened 1)
    ∷ sends (item.Created (header 1 1))
    ∷ Ok outcome.Nothing
    ∷ done 2 (body.Put None)
    ∷ sends (item.Events (header 1 2) (tells_of (change.Put (record a_under_7 { lease = 0 })) ∷ []))
    ∷ Ok outcome.Nothing
    ∷ []

abbrev pub CanceledByCompaction : Type 0
CanceledByCompaction =
    told (puts 0 key_a value_x 0 ∷ puts 0 key_a value_y 0 ∷ opens 0 (only key_a) 1 ∷ pushes 0 1 ∷ (0, Exec (request.Compact 3 false)) ∷ pushes 0 1 ∷ [])
    ≡ done 2 (body.Put None)
    ∷ done 3 (body.Put None)
    ∷ Ok (outcome.Opened 1)
    ∷ sends (item.Created (header 1 3))
    ∷ done 3 body.Compact
    ∷ sends (item.Canceled (header 1 3) 3)
    ∷ []
