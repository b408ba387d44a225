-- What a watch is told over a run of the store, message by message.
use Rattle.std.specs.Prelude.{◌≡◌, ℕ, ◌-◌, List, [], ◌++◌, map, filter, ◌⊎◌, None, Some, Ok, Err}
use Rattle.etcd_types.specs.declared.record.Header.{Header}
use Rattle.etcd_types.specs.declared.request.Request.{Request}
use Rattle.etcd_types.specs.declared.request.WatchAsk.{WatchAsk}
use Rattle.etcd_types.specs.declared.watch.WatchItem.{WatchItem}
use Rattle.etcd_types.specs.declared.watch.Event.{Event}
use Rattle.etcd_types.specs.declared.watch.WatchItem.TheVariants as item
use Rattle.store_model.specs.declared.watch.OpenWatch.{OpenWatch}
use Rattle.store_model.specs.declared.store_fault.StoreFault.TheVariants as fault
use Rattle.store_model.specs.History.{History, newest, up_to_revision}
use Rattle.store_model.specs.State.{State}
use Rattle.store_model.specs.Events.{events, passes}
use Rattle.store_model.specs.Watches.{watch_of, first_next, opened, pushed, progressed}
use Rattle.store_model.specs.Leases.{expired}
use Rattle.store_model.specs.Members.{applied}
use Rattle.store_model.specs.Step.{exec}

-- the history's events of the watch's range that pass its filters, from a revision on
abbrev pub watched : History → WatchAsk → ℕ → List Event
watched h ask from = filter (passes ask) (events h ask.range from)

-- an event without the record before it: whether that comes depends on the compactions
abbrev pub bare : Event → Event
bare e = record { change = e.change; prev = None }

-- any other step leaves the watch as it is, and the history only grows
pub record LeavesWatch (number : ℕ) (s t : State) : Type 0 where
  pub grown : (more : History) × (t.history ≡ s.history ++ more)
  pub same_watch : watch_of t number ≡ watch_of s number

-- a run of a store up to a state, in which the watch of this number, asked for so and begun at this revision, was told
-- these events, its messages put one behind the other
pub data Told (number : ℕ) (ask : WatchAsk) (from : ℕ) : List Event → State → Type 0 where
  created : (s t : State) (w : OpenWatch) (header : Header) → watch_of s number ≡ Some w → w.ask ≡ ask → from ≡ first_next (newest s.history) ask.start
      → pushed s number ≡ Ok (t, item.Created header) → Told number ask from [] t
  other : (s t : State) (es : List Event) → Told number ask from es s → LeavesWatch number s t → Told number ask from es t
  events_pushed : (s t : State) (es fs : List Event) (header : Header) → Told number ask from es s
      → pushed s number ≡ Ok (t, item.Events header fs) → Told number ask from (es ++ fs) t
  progress_told : (s t : State) (es fs : List Event) (header : Header) → Told number ask from es s
      → progressed s number ≡ Ok (t, item.Events header fs) → Told number ask from (es ++ fs) t

-- so do requests, expiries, what members apply, watches that are opened, and the messages of other watches
abbrev pub RequestsLeaveWatches : Type 0
RequestsLeaveWatches = (s : State) (member : ℕ) (q : Request) (number : ℕ) → LeavesWatch number s (exec s member q).0

abbrev pub ExpiriesLeaveWatches : Type 0
ExpiriesLeaveWatches = (s t : State) (lease number : ℕ) → expired s lease ≡ Ok t → LeavesWatch number s t

abbrev pub AppliesLeaveWatches : Type 0
AppliesLeaveWatches = (s t : State) (member revision number : ℕ) → applied s member revision ≡ Ok t → LeavesWatch number s t

abbrev pub OpeningsLeaveWatches : Type 0
OpeningsLeaveWatches =
    (s : State) (member : ℕ) (ask : WatchAsk) (number : ℕ) (w : OpenWatch) → watch_of s number ≡ Some w → LeavesWatch number s (opened s member ask).0

abbrev pub MessagesLeaveOtherWatches : Type 0
MessagesLeaveOtherWatches =
    (s t : State) (i : WatchItem) (other number : ℕ) → (other ≡ number → ⊥)
    → (pushed s other ≡ Ok (t, i)) ⊎ (progressed s other ≡ Ok (t, i)) → LeavesWatch number s t

-- they are the history's events from the watch's start up to some revision, each once and in order
abbrev pub AreFirst : History → WatchAsk → ℕ → List Event → Type 0
AreFirst h ask from es = (revision : ℕ) × (map bare es ≡ map bare (watched (up_to_revision h revision) ask from))

abbrev pub TellEachOnce : Type 0
TellEachOnce = (number from : ℕ) (ask : WatchAsk) (es : List Event) (t : State) → Told number ask from es t → AreFirst t.history ask from es

-- and they are all of them where there is nothing to push
abbrev pub TellAll : Type 0
TellAll =
    (number from : ℕ) (ask : WatchAsk) (es : List Event) (t : State) → Told number ask from es t
    → pushed t number ≡ Err (fault.NothingToPush number) → map bare es ≡ map bare (watched t.history ask from)

-- those up to the revision before the one that the watch waits for
abbrev pub TellUpToNext : Type 0
TellUpToNext =
    (number from : ℕ) (ask : WatchAsk) (es : List Event) (t : State) (w : OpenWatch) → Told number ask from es t → watch_of t number ≡ Some w
    → map bare es ≡ map bare (watched (up_to_revision t.history (w.next - 1)) ask from)

-- a message on progress has no events, and by then all events up to the revision of its header were told
pub record IsProgress (ask : WatchAsk) (from : ℕ) (es : List Event) (s : State) (header : Header) (fs : List Event) : Type 0 where
  pub empty : fs ≡ []
  pub newest_told : header.revision ≡ newest s.history
  pub all : map bare es ≡ map bare (watched s.history ask from)

abbrev pub ProgressIsTrue : Type 0
ProgressIsTrue =
    (number from : ℕ) (ask : WatchAsk) (es fs : List Event) (s t : State) (header : Header) → Told number ask from es s
    → progressed s number ≡ Ok (t, item.Events header fs) → IsProgress ask from es s header fs
