-- A watch as the definitions see it: without what is made ready for its queue. And what becomes of it when streams are
-- renumbered or merged.
use Rattle.std.specs.Prelude.{ℕ, if◌then◌else◌, List}
use Rattle.etcd_types.specs.declared.key_range.KeyRange.{KeyRange}
use Rattle.watch_model.specs.declared.place.WatchPlace.TheVariants as place
use Rattle.watch_model.specs.State.{Stream, Watch}
use Rattle.watch_model.specs.Lookups.{is_in}
use Rattle.watch_model.specs.Merging.{merged_place}
use Rattle.watch_queue.specs.declared.watching.Watching.{Watching}

abbrev pub shown : Watching → Watch
shown w = record { ticket = w.ticket; ask = w.ask; start = w.start; next = w.next; told = w.told; queue = w.queue.items; place = w.place }

abbrev pub renumbered_as : ℕ → ℕ → Watching → Watching
renumbered_as n m w = if is_in n w.place then record w { place = place.In m } else w

abbrev pub moved_as : KeyRange → List Stream → Watching → Watching
moved_as range ss w = record w { place = merged_place range ss w.place }
