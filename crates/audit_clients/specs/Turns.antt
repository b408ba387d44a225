-- Which message says that a watch was created.
use Rattle.std.specs.Prelude.{Bool, true, false}
use Rattle.etcd_types.specs.declared.watch.WatchItem.{WatchItem}
use Rattle.etcd_types.specs.declared.watch.WatchItem.TheVariants.{Created, Events, Canceled}

abbrev pub is_created : WatchItem → Bool
is_created (Created h) = true
is_created (Events h events) = false
is_created (Canceled h compaction) = false
