-- Watches. The first message of a watch is that it was created; then come its events, each once, or a cancellation where it
-- fell behind a compaction. It is this store's own that a compaction cancels a watch too that has nothing to push.
use Rattle.std.specs.Prelude.{ℕ, Bool, true, false, not, ◌==◌, ◌+◌, ◌-◌, ◌&&◌, nat_lt, max, if◌then◌else◌, List, [], ◌∷◌, ◌++◌, length, set, slice_get, Option, None, Some, Result, Ok, Err}
use Rattle.etcd_types.specs.declared.request.WatchAsk.{WatchAsk}
use Rattle.etcd_types.specs.declared.record.Header.{Header}
use Rattle.etcd_types.specs.declared.watch.Event.{Event}
use Rattle.etcd_types.specs.declared.watch.WatchItem.{WatchItem}
use Rattle.etcd_types.specs.declared.watch.WatchItem.TheVariants as item
use Rattle.store_model.specs.declared.watch.OpenWatch.{OpenWatch}
use Rattle.store_model.specs.declared.store_fault.StoreFault.{StoreFault}
use Rattle.store_model.specs.declared.store_fault.StoreFault.TheVariants as fault
use Rattle.store_model.specs.History.{newest}
use Rattle.store_model.specs.State.{State, header}
use Rattle.store_model.specs.Events.{event_revision, watch_events}

-- the store with one more watch, and its number
abbrev pub opened : State → ℕ → WatchAsk → State × ℕ
opened s member ask =
    (record s { watches = s.watches ++ record { member = member; ask = ask; next = 0 } ∷ [] }, length s.watches + 1)

-- watches are numbered from 1
abbrev pub watch_of : State → ℕ → Option OpenWatch
watch_of s number = if number == 0 then None else slice_get s.watches (number - 1)

abbrev pub with_next : State → ℕ → OpenWatch → ℕ → State
with_next s number w next = record s { watches = set s.watches (number - 1) (record w { next = next }) }

-- a watch that names no start begins behind the newest revision
abbrev pub first_next : ℕ → ℕ → ℕ
first_next latest start = if start == 0 then latest + 1 else start

-- the revision behind the last of these events
abbrev pub next_after : ℕ → List Event → ℕ
next_after next [] = next
next_after next (e ∷ es) = next_after (event_revision e + 1) es

abbrev pub watch_header : State → OpenWatch → Header
watch_header s w = header w.member (newest s.history)

abbrev pub events_for : State → OpenWatch → List Event
events_for s w = watch_events s.history s.compacted w.ask w.next

-- the store after a push, and the message
abbrev pub Pushed : Type 0
Pushed = Result (State × WatchItem) StoreFault

abbrev pub push_events : State → ℕ → OpenWatch → List Event → Pushed
push_events s number w [] = Err (fault.NothingToPush number)
push_events s number w (e ∷ es) =
    Ok (with_next s number w (next_after w.next (e ∷ es)), item.Events (watch_header s w) (e ∷ es))

abbrev pub push_to : State → ℕ → OpenWatch → Pushed
push_to s number w =
    if w.next == 0 then Ok (with_next s number w (first_next (newest s.history) w.ask.start), item.Created (watch_header s w))
    else if nat_lt w.next s.compacted then Ok (s, item.Canceled (watch_header s w) s.compacted)
    else push_events s number w (events_for s w)

abbrev pub for_watch : ℕ → Option OpenWatch → (OpenWatch → Pushed) → Pushed
for_watch number None step = Err (fault.NoSuchWatch number)
for_watch number (Some w) step = step w

unfoldable pub pushed : State → ℕ → Pushed
pushed s number = for_watch number (watch_of s number) (push_to s number)

abbrev pub is_nil : List Event → Bool
is_nil [] = true
is_nil (e ∷ es) = false

-- the watch was created, is not behind the compaction, and has no event to come
abbrev pub is_synced : State → OpenWatch → Bool
is_synced s w = not (w.next == 0) && not (nat_lt w.next s.compacted) && is_nil (events_for s w)

-- a message without events says that all events up to the newest revision have come
abbrev pub progress_to : State → ℕ → OpenWatch → Pushed
progress_to s number w =
    if not w.ask.progress then Err (fault.NotAsked number)
    else if is_synced s w then Ok (with_next s number w (max w.next (newest s.history + 1)), item.Events (watch_header s w) [])
    else Err (fault.NotSynced w.next (newest s.history))

unfoldable pub progressed : State → ℕ → Pushed
progressed s number = for_watch number (watch_of s number) (progress_to s number)
