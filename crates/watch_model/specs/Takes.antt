-- What a taker takes, and what it brings about; a watch that is left; the splitting off of one watch.
use Rattle.std.specs.Prelude.{Bool, true, false, if◌then◌else◌, List, [], ◌∷◌, map, Option, None, Some}
use Rattle.etcd_types.specs.declared.record.Header.{Header}
use Rattle.etcd_types.specs.declared.watch.WatchItem.{WatchItem}
use Rattle.etcd_types.specs.declared.watch.WatchItem.TheVariants as item
use Rattle.watch_model.specs.declared.place.WatchPlace.{WatchPlace}
use Rattle.watch_model.specs.declared.place.WatchPlace.TheVariants as place
use Rattle.watch_model.specs.State.{Watch, Broadcasts}
use Rattle.watch_model.specs.Lookups.{without_watch, watch_changed}
use Rattle.watch_model.specs.Joining.{Seated, seated}

abbrev pub with_watch : Broadcasts → Watch → Broadcasts
with_watch b w = record b { watches = map (watch_changed w.ticket (λ v. w)) b.watches }

abbrev pub joined_again : Broadcasts → Seated → Broadcasts
joined_again b x = with_watch (record b { streams = x.streams; given = x.given }) x.watch

abbrev pub is_last : WatchItem → Bool
is_last (item.Canceled header compact) = true
is_last (item.Created header) = false
is_last (item.Events header events) = false

-- a watch whose queue is empty joins again where it was split off
abbrev pub after_take : Broadcasts → Header → Watch → List WatchItem → WatchPlace → Broadcasts
after_take b last w [] place.Split = joined_again b (seated b.streams b.given b.step last w)
after_take b last w _ _ = with_watch b w

abbrev pub taken_from : Broadcasts → Header → Watch → List WatchItem → Broadcasts × Option WatchItem
taken_from b last w [] = (b, None)
taken_from b last w (i ∷ is) =
    (if is_last i then record b { watches = without_watch w.ticket b.watches } else after_take b last (record w { queue = is }) is w.place, Some i)

abbrev pub taken : Broadcasts → Header → Option Watch → Option (Broadcasts × Option WatchItem)
taken b last None = None
taken b last (Some w) = Some (taken_from b last w w.queue)
