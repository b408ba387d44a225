-- What is on the way to a proxy is what the store of bare keys tells: each message that was pushed and isn't delivered is the image of
-- one whose events are in the history, of the range that its watch is of (etcd's API reference, Watch).
use Rattle.std.specs.Prelude.{◌≡◌, ℕ, false, List, Some}
use Rattle.std.specs.List.{Contains}
use Rattle.etcd_types.specs.declared.key_range.KeyRange.{KeyRange}
use Rattle.etcd_types.specs.declared.watch.Event.{Event}
use Rattle.etcd_types.specs.declared.watch.WatchItem.{WatchItem}
use Rattle.etcd_types.specs.declared.watch.WatchItem.TheVariants as item
use Rattle.proxy_model.specs.Prefixes.{leasing_range}
use Rattle.store_model.specs.declared.watch.OpenWatch.{OpenWatch}
use Rattle.store_model.specs.Events.{events}
use Rattle.store_model.specs.History.{History}
use Rattle.store_model.specs.State.{State}
use Rattle.store_model.specs.Watches.{watch_of}
use Rattle.namespace_laws.specs.Stored.StoredWatches.{stored_item}
use Rattle.core_fits.specs.Fits.{EachOf}
use Rattle.core_model.specs.State.{Opening}
use Rattle.core_model.specs.Step.{opening_at}
use Rattle.world_model.specs.State.{Place, OpenedStream}

-- a change of the history's events of the range, from a revision on; the record before may be left out
abbrev pub IsTold : History → KeyRange → ℕ → Event → Type 0
IsTold h range from e = (x : Event) × Contains (events h range from) x × (x.change ≡ e.change)

abbrev pub AreEvents : History → KeyRange → WatchItem → Type 0
AreEvents h range (item.Events header es) = (from : ℕ) × EachOf (IsTold h range from) es
AreEvents h range _ = Unit {0}

-- `ns` is the namespace
abbrev pub MessageShown : List ℕ → History → KeyRange → WatchItem → Type 0
MessageShown ns h range i = (b : WatchItem) × (i ≡ stored_item ns b) × AreEvents h range b

-- the store numbers its watches as the world its streams
pub record StreamShown (ns : List ℕ) (bare : State) (number : ℕ) (s : OpenedStream) : Type 0 where
  pub watch : OpenWatch
  pub at : watch_of bare number ≡ Some watch
  pub waiting : EachOf (MessageShown ns bare.history watch.ask.range) s.waiting

-- the leasing stream of a proxy that wasn't started since is a watch of the ownership keys
abbrev pub LeasingWatched : List ℕ → State → ℕ → ℕ → OpenedStream → Place → Type 0
LeasingWatched leasing bare p number s x =
    (o : Opening) (watch : OpenWatch) → s.proxy ≡ p → s.life ≡ x.life → s.ended ≡ false → opening_at s.own x.core.leasing ≡ Some o → watch_of bare number ≡ Some watch → watch.ask.range ≡ leasing_range leasing
