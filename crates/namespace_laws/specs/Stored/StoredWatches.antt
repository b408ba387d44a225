-- Watches and their messages with each key under a namespace (etcd's documentation of clientv3's package `namespace`).
use Rattle.std.specs.Prelude.{◌≡◌, ℕ, List, ◌++◌, map, Ok, Err, true, Result}
use Rattle.std.specs.List.{list_all}
use Rattle.etcd_types.specs.declared.watch.Change.{Change}
use Rattle.etcd_types.specs.declared.watch.Change.TheVariants as event
use Rattle.etcd_types.specs.declared.watch.Event.{Event}
use Rattle.etcd_types.specs.declared.watch.WatchItem.{WatchItem}
use Rattle.etcd_types.specs.declared.watch.WatchItem.TheVariants as item
use Rattle.etcd_types.specs.declared.request.WatchAsk.{WatchAsk}
use Rattle.store_model.specs.declared.store_fault.StoreFault.{StoreFault}
use Rattle.store_model.specs.Members.{applied}
use Rattle.store_model.specs.State.{State, starting}
use Rattle.store_model.specs.Watches.{Pushed, pushed, progressed, opened}
use Rattle.proxy_model.specs.Wrapped.{watch_under}
use Rattle.proxy_model.specs.Unwrapped.{item_without}
use Rattle.store_laws.specs.Lives.TestedKeys.{have_keys}
use Rattle.namespace_laws.specs.Stored.Stored.{stored, stored_after, stored_record, stored_prev}

abbrev pub stored_event_change : List ℕ → Change → Change
stored_event_change ns (event.Put kv) = event.Put (stored_record ns kv)
stored_event_change ns (event.Delete key modified) = event.Delete (ns ++ key) modified

abbrev pub stored_event : List ℕ → Event → Event
stored_event ns e = record { change = stored_event_change ns e.change; prev = stored_prev ns e.prev }

abbrev pub stored_events : List ℕ → List Event → List Event
stored_events ns es = map (stored_event ns) es

abbrev pub stored_item : List ℕ → WatchItem → WatchItem
stored_item ns (item.Created header) = item.Created header
stored_item ns (item.Events header es) = item.Events header (stored_events ns es)
stored_item ns (item.Canceled header compact) = item.Canceled header compact

abbrev pub stored_pushed : List ℕ → Pushed → Pushed
stored_pushed ns (Ok p) = Ok (stored ns p.0, stored_item ns p.1)
stored_pushed ns (Err fault) = Err fault

-- a store begins as one under a namespace
abbrev pub StartsAreStored : Type 0
StartsAreStored = (ns : List ℕ) (members : ℕ) → stored ns (starting members) ≡ starting members

-- a watch that is opened, its messages, its progress and what members apply are those of the bare keys
abbrev pub OpeningsAreStored : Type 0
OpeningsAreStored =
    (ns : List ℕ) (s : State) (member : ℕ) (ask : WatchAsk) → opened (stored ns s) member (watch_under ns ask) ≡ (stored ns (opened s member ask).0, (opened s member ask).1)

abbrev pub PushesAreStored : Type 0
PushesAreStored = (ns : List ℕ) (s : State) (number : ℕ) → list_all have_keys s.history ≡ true → pushed (stored ns s) number ≡ stored_pushed ns (pushed s number)

abbrev pub ProgressIsStored : Type 0
ProgressIsStored = (ns : List ℕ) (s : State) (number : ℕ) → list_all have_keys s.history ≡ true → progressed (stored ns s) number ≡ stored_pushed ns (progressed s number)

abbrev pub AppliesAreStored : Type 0
AppliesAreStored = (ns : List ℕ) (s : State) (member revision : ℕ) → applied (stored ns s) member revision ≡ stored_after ns (applied s member revision)

-- a message unwraps, with no foreign key
abbrev pub ItemsUnwrap : Type 0
ItemsUnwrap = (ns : List ℕ) (i : WatchItem) → item_without ns (stored_item ns i) ≡ Ok i
