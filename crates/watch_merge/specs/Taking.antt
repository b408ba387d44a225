-- A take by its cases: a watch that joins again with its last item, and all others.
use Rattle.std.specs.Prelude.{◌+◌, Bool, true, false, ◌&&◌, if◌then◌else◌, List, [], ◌∷◌, ◌++◌, Option, None, Some}
use Rattle.etcd_types.specs.declared.watch.WatchItem.{WatchItem}
use Rattle.watch_model.specs.declared.place.WatchPlace.{WatchPlace}
use Rattle.watch_model.specs.declared.place.WatchPlace.TheVariants as place
use Rattle.watch_model.specs.State.{Watch, Broadcasts}
use Rattle.watch_model.specs.Lookups.{without_watch}
use Rattle.watch_model.specs.Queues.{is_one}
use Rattle.watch_model.specs.Joining.{new_stream}
use Rattle.watch_model.specs.Takes.{is_last, with_watch}

abbrev pub is_split : WatchPlace → Bool
is_split place.Split = true
is_split (place.In n) = false
is_split place.Ended = false

abbrev pub joins_again : Watch → Bool
joins_again w = is_split w.place && is_one w.queue

abbrev pub ends : Option WatchItem → Bool
ends None = false
ends (Some i) = is_last i

-- `next` is the state after it, where the item isn't the last that there can be
abbrev pub taken_to : Broadcasts → Watch → List WatchItem → Broadcasts → Broadcasts × Option WatchItem
taken_to b w [] next = (b, None)
taken_to b w (i ∷ is) next = (if is_last i then record b { watches = without_watch w.ticket b.watches } else next, Some i)

-- a stream is due for the watch
abbrev pub opened_for : Broadcasts → Watch → Broadcasts
opened_for b w =
    with_watch (record b { streams = b.streams ++ new_stream (b.given + 1) b.step w.ask.range w.next ∷ []; given = b.given + 1 })
    (record w { place = place.In (b.given + 1) })
