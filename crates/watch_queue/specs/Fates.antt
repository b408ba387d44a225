-- What becomes of a watch at a batch, told before anything is queued.
use Rattle.std.specs.Prelude.{ℕ, ◌+◌, ◌&&◌, nat_le, Bool, max, if◌then◌else◌, List, [], ◌∷◌, length}
use Rattle.etcd_types.specs.declared.record.Header.{Header}
use Rattle.etcd_types.specs.declared.watch.Event.{Event}
use Rattle.etcd_types.specs.declared.watch.WatchItem.TheVariants as item
use Rattle.watch_model.specs.Queues.{chosen, would_pass}
use Rattle.watch_queue.specs.Queued.{committed, progressed as queue_progressed}
use Rattle.watch_model.specs.declared.place.WatchPlace.TheVariants as place
use Rattle.watch_queue.specs.declared.fate.Fate.{Fate}
use Rattle.watch_queue.specs.declared.fate.Fate.TheVariants as f
use Rattle.watch_queue.specs.declared.watching.Watching.{Watching}
use Rattle.watch_model.specs.State.{Watch}
use Rattle.watch_queue.specs.Watching.{shown}
use Rattle.watch_model.specs.Lookups.{is_in}
use Rattle.watch_model.specs.Delivery.{shown_events}

abbrev pub fate_of : Watch → List Event → Fate
fate_of w [] = f.Stays
fate_of w (e ∷ es) = if would_pass w.queue (length (e ∷ es)) then f.Splits else f.Takes

-- of a watch, at a batch of the stream of this number and next
abbrev pub fate : ℕ → ℕ → List Event → Watch → Fate
fate n next es w = if is_in n w.place then fate_of w (shown_events w.ask (chosen w.ask (max w.next next) es)) else f.Stays

abbrev pub prepared_as : Header → List Event → Watching → Fate → Watching
prepared_as header xs w f.Stays = w
prepared_as header xs w f.Splits = w
prepared_as header xs w f.Takes = record w { queue = record { items = w.queue.items; staged = item.Events header xs ∷ [] } }

abbrev pub prepared : ℕ → ℕ → Header → List Event → Watching → Watching
prepared n next header es w = prepared_as header (shown_events w.ask (chosen w.ask (max w.next next) es)) w (fate n next es (shown w))

abbrev pub delivered_as : ℕ → Watching → Fate → Watching
delivered_as own w f.Stays = w
delivered_as own w f.Splits = record w { next = own; place = place.Split }
delivered_as own w f.Takes = record w { queue = committed w.queue }

abbrev pub delivered_to : ℕ → ℕ → List Event → Watching → Watching
delivered_to n next es w = delivered_as (max w.next next) w (fate n next es (shown w))

-- A message without events.

abbrev pub takes_progress : ℕ → ℕ → Header → Watch → Bool
takes_progress n next header w = is_in n w.place && (w.ask.progress && nat_le (max w.next next) (header.revision + 1))

abbrev pub prepared_progress : ℕ → ℕ → Header → Watching → Watching
prepared_progress n next header w = if takes_progress n next header (shown w) then record w { queue = record { items = w.queue.items; staged = item.Events header [] ∷ [] } } else w

abbrev pub progressed_to : ℕ → ℕ → Header → Watching → Watching
progressed_to n next header w = if takes_progress n next header (shown w) then record w { queue = queue_progressed w.queue header } else w
