-- A stream by a transcript's items alone: what it was opened with, the messages of it that were delivered, and its next revision.
use Rattle.std.specs.Prelude.{ℕ, ◌+◌, Bool, true, false, not, ◌==◌, ◌&&◌, ◌||◌, max, if◌then◌else◌, take, List, [], ◌∷◌, length, filter, Option, None, Some, Ok, Err}
use Rattle.etcd_types.specs.declared.key_range.KeyRange.{KeyRange}
use Rattle.etcd_types.specs.declared.request.Request.TheVariants as request
use Rattle.etcd_types.specs.declared.request.WatchAsk.{WatchAsk}
use Rattle.etcd_types.specs.declared.watch.Event.{Event}
use Rattle.etcd_types.specs.declared.watch.WatchItem.{WatchItem}
use Rattle.etcd_types.specs.declared.watch.WatchItem.TheVariants.{Created, Events, Canceled}
use Rattle.proxy_model.specs.Limits.{capped}
use Rattle.proxy_model.specs.Unwrapped.{Unwrapped, events_without}
use Rattle.script_text.specs.declared.item.Item.{Item}
use Rattle.script_text.specs.declared.item.Item.TheVariants as item
use Rattle.watch_model.specs.Delivery.{is_batch, last_revision}
use Rattle.world_model.specs.Lives.{life, pushed_into, delivers}

abbrev pub opened_by : ℕ → ℕ → Item → Option WatchAsk
opened_by p n (item.Opened q m member (request.Watch ask)) = if q == p && m == n then Some ask else None
opened_by p n _ = None

abbrev pub or_later : Option WatchAsk → Option WatchAsk → Option WatchAsk
or_later None o = o
or_later (Some ask) o = Some ask

-- what the proxy opened the stream of this number with
abbrev pub opened_as : ℕ → ℕ → List Item → Option WatchAsk
opened_as p n [] = None
opened_as p n (i ∷ items) = or_later (opened_by p n i) (opened_as p n items)

-- its messages that were delivered, in order: they are delivered in the order in which they were pushed
abbrev pub delivered_of : ℕ → List Item → List WatchItem
delivered_of n items = take (length (filter (delivers n) items)) (pushed_into n items)

abbrev pub start_of : Option WatchAsk → ℕ
start_of None = 0
start_of (Some ask) = ask.start

-- Its next revision: its start, or where that was left open the one behind the created message's, until a batch comes; then the one
-- behind the last event. A message without events tells that there is nothing up to its revision.
abbrev pub next_behind : ℕ → WatchItem → ℕ
next_behind next (Created h) = if next == 0 then capped (h.revision + 1) else next
next_behind next (Events h []) = max next (capped (h.revision + 1))
next_behind next (Events h (e ∷ es)) = max next (capped (last_revision 0 (e ∷ es) + 1))
next_behind next (Canceled h compaction) = next

abbrev pub next_behind_all : ℕ → List WatchItem → ℕ
next_behind_all next [] = next
next_behind_all next (i ∷ is) = next_behind_all (next_behind next i) is

abbrev pub stream_next : ℕ → ℕ → List Item → ℕ
stream_next p n items = next_behind_all (start_of (opened_as p n (life p items))) (delivered_of n items)

-- A message that breaks its stream: of keys that aren't the namespace's or the range's, of revisions that fall or were told, before
-- the next is known, or a cancellation without a compaction. The stream is then opened again from its next.
abbrev pub breaks_batch : KeyRange → ℕ → Unwrapped (List Event) → Bool
breaks_batch range next (Ok es) = not (not (next == 0) && is_batch range next es)
breaks_batch range next (Err key) = true

abbrev pub breaks : List ℕ → KeyRange → ℕ → WatchItem → Bool
breaks namespace range next (Created h) = false
breaks namespace range next (Events h es) = breaks_batch range next (events_without namespace es)
breaks namespace range next (Canceled h compaction) = compaction == 0 || next == 0
