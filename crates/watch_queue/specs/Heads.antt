-- A queue of items in two lists: a head for each item, and the events of all items but of those that many queues have.
use Rattle.std.specs.Prelude.{slice_get, ℕ, ◌+◌, ◌-◌, ◌≡◌, ◌≤◌, Bool, false, not, ◌&&◌, ◌==◌, List, [], ◌∷◌, take, drop, length, Option, None, Some}
use Rattle.etcd_types.specs.declared.watch.Event.{Event}
use Rattle.etcd_types.specs.declared.watch.WatchItem.{WatchItem}
use Rattle.etcd_types.specs.declared.watch.WatchItem.TheVariants as item
use Rattle.watch_model.specs.Queues.{is_progress, item_events}
use Rattle.watch_queue.specs.declared.head.Head.{Head}
use Rattle.watch_queue.specs.declared.head.Head.TheVariants as head

abbrev pub count_of : Head → ℕ
count_of (head.Created header) = 0
count_of (head.Events header count) = count
count_of (head.Canceled header compact) = 0
count_of (head.Whole told) = 0

abbrev pub counted : List Head → ℕ
counted [] = 0
counted (h ∷ hs) = count_of h + counted hs

abbrev pub item_of : Head → List Event → WatchItem
item_of (head.Created header) es = item.Created header
item_of (head.Events header count) es = item.Events header (take count es)
item_of (head.Canceled header compact) es = item.Canceled header compact
item_of (head.Whole told) es = told

abbrev pub items_of : List Head → List Event → List WatchItem
items_of [] es = []
items_of (h ∷ hs) es = item_of h es ∷ items_of hs (drop (count_of h) es)

-- an item without events
abbrev pub item_of_head : Head → WatchItem
item_of_head h = item_of h []

abbrev pub is_without_events : Head → Bool
is_without_events (head.Events header count) = count == 0
is_without_events (head.Created header) = false
is_without_events (head.Canceled header compact) = false
is_without_events (head.Whole told) = is_progress told

abbrev pub is_without : Option Head → Bool
is_without (Some h) = is_without_events h
is_without None = false

-- the last of so many heads is that of a message without events
abbrev pub ends_in_progress : List Head → ℕ → Bool
ends_in_progress hs shown = not (shown == 0) && is_without (slice_get hs (shown - 1))

-- so many heads are shown, with so many events
pub record Fits (heads : List Head) (events : List Event) (shown within : ℕ) : Type 0 where
  pub all : counted heads ≡ length events
  pub some : shown ≤ length heads
  pub part : within ≡ counted (take shown heads)

-- the events of heads that are messages which many queues have

abbrev pub shared_of : Head → ℕ
shared_of (head.Created header) = 0
shared_of (head.Events header count) = 0
shared_of (head.Canceled header compact) = 0
shared_of (head.Whole told) = length (item_events told)

abbrev pub shared_in : List Head → ℕ
shared_in [] = 0
shared_in (h ∷ hs) = shared_of h + shared_in hs

-- so many of those are shown, and so many are there
pub record Counts (heads : List Head) (shown shared ready : ℕ) : Type 0 where
  pub all : ready ≡ shared_in heads
  pub part : shared ≡ shared_in (take shown heads)
