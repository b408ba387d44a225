-- A watch that enters a stream: its start is decided, and its created item is queued from what was made ready.
use Rattle.std.specs.Prelude.{ℕ, ◌-◌, Bool, true, ◌==◌, if◌then◌else◌, [], ◌∷◌}
use Rattle.etcd_types.specs.declared.record.Header.{Header}
use Rattle.etcd_types.specs.declared.watch.WatchItem.TheVariants as item
use Rattle.watch_model.specs.declared.place.WatchPlace.TheVariants as place
use Rattle.watch_model.specs.Lookups.{is_in}
use Rattle.watch_model.specs.Joining.{decided, created_header}
use Rattle.watch_queue.specs.Queued.{committed}
use Rattle.watch_queue.specs.Watching.{shown}
use Rattle.watch_queue.specs.declared.watching.Watching.{Watching}

abbrev pub created_header_of : Header → ℕ → ℕ → Header
created_header_of last asked start = if asked == 0 then record last { revision = start - 1 } else last

abbrev pub prepared_created : ℕ → Header → Watching → Watching
prepared_created next last w =
    if w.told then w else record w { queue = record { items = w.queue.items; staged = item.Created (created_header last (decided next (shown w))) ∷ [] } }

abbrev pub decided_to : ℕ → Watching → Watching
decided_to next w = if w.next == 0 then record w { start = next; next = next } else w

abbrev pub told_to : Watching → Watching
told_to w = if w.told then w else record w { told = true; queue = committed w.queue }

abbrev pub created_to : ℕ → Watching → Watching
created_to next w = told_to (decided_to next w)

abbrev pub entered : ℕ → ℕ → Bool → Watching → Watching
entered number next created w = record (if created then created_to next w else decided_to next w) { place = place.In number }

-- the same of the members of a stream

abbrev pub prepared_member : ℕ → ℕ → Header → Watching → Watching
prepared_member n next last w = if is_in n w.place then prepared_created next last w else w

abbrev pub begun_member : ℕ → ℕ → Watching → Watching
begun_member n next w = if is_in n w.place then created_to next w else w
