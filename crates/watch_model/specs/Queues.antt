-- What stands in a watch's queue, and what a watch is given of a batch. By the etcd API reference (`WatchResponse`), a
-- message without events is a progress notification.
use Rattle.std.specs.Prelude.{ℕ, ◌+◌, Bool, true, false, not, ◌&&◌, nat_lt, nat_le, if◌then◌else◌, List, [], ◌∷◌, ◌++◌, length, filter, Option, None, Some}
use Rattle.etcd_types.specs.declared.request.WatchAsk.{WatchAsk}
use Rattle.etcd_types.specs.declared.watch.Event.{Event}
use Rattle.etcd_types.specs.declared.watch.WatchItem.{WatchItem}
use Rattle.etcd_types.specs.declared.watch.WatchItem.TheVariants as item
use Rattle.store_model.specs.Events.{passes, event_revision}

abbrev pub is_nil : {A : Type 0} → List A → Bool
is_nil [] = true
is_nil (x ∷ xs) = false

abbrev pub is_one : {A : Type 0} → List A → Bool
is_one [] = false
is_one (x ∷ xs) = is_nil xs

-- the events of all items
abbrev pub item_events : WatchItem → List Event
item_events (item.Events header events) = events
item_events (item.Created header) = []
item_events (item.Canceled header compact) = []

abbrev pub queued_events : List WatchItem → List Event
queued_events [] = []
queued_events (i ∷ is) = item_events i ++ queued_events is

abbrev pub events_in : List WatchItem → ℕ
events_in is = length (queued_events is)

-- a queue with items takes no batch by which it would have more than 1,024 events
abbrev pub would_pass : List WatchItem → ℕ → Bool
would_pass is more = not (is_nil is) && nat_lt 1024 (events_in is + more)

-- an event that a watch with this next is given
abbrev pub is_for : WatchAsk → ℕ → Event → Bool
is_for ask from e = nat_le from (event_revision e) && passes ask e

abbrev pub chosen : WatchAsk → ℕ → List Event → List Event
chosen ask from es = filter (is_for ask from) es

-- a message without events takes the place of one that is last
abbrev pub is_progress : WatchItem → Bool
is_progress (item.Events header events) = is_nil events
is_progress (item.Created header) = false
is_progress (item.Canceled header compact) = false

abbrev pub with_progress : List WatchItem → WatchItem → List WatchItem
with_progress [] p = p ∷ []
with_progress (i ∷ []) p = if is_progress i then p ∷ [] else i ∷ p ∷ []
with_progress (i ∷ j ∷ is) p = i ∷ with_progress (j ∷ is) p

abbrev pub is_progress_last : List WatchItem → Bool
is_progress_last [] = false
is_progress_last (i ∷ []) = is_progress i
is_progress_last (i ∷ j ∷ is) = is_progress_last (j ∷ is)

abbrev pub first_item : List WatchItem → Option WatchItem
first_item [] = None
first_item (i ∷ is) = Some i
