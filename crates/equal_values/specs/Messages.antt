-- Whether two messages of a watch are the same.
use Rattle.std.specs.Prelude.{Bool, false, ◌==◌, ◌&&◌}
use Rattle.etcd_types.specs.declared.watch.Change.{Change}
use Rattle.etcd_types.specs.declared.watch.Change.TheVariants as change
use Rattle.etcd_types.specs.declared.watch.Event.{Event}
use Rattle.etcd_types.specs.declared.watch.WatchItem.{WatchItem}
use Rattle.etcd_types.specs.declared.watch.WatchItem.TheVariants.{Created, Events, Canceled}
use Rattle.etcd_types.specs.Keys.{same}
use Rattle.equal_values.specs.Lists.{same_all}
use Rattle.equal_values.specs.Records.{same_header, same_kv, same_prev}

abbrev pub same_change : Change → Change → Bool
same_change (change.Put told) (change.Put due) = same_kv told due
same_change (change.Delete key modified) (change.Delete k m) = same key k && modified == m
same_change told due = false

abbrev pub same_event : Event → Event → Bool
same_event told due = same_change told.change due.change && same_prev told.prev due.prev

abbrev pub same_message : WatchItem → WatchItem → Bool
same_message (Created told) (Created due) = same_header told due
same_message (Events told events) (Events due more) = same_header told due && same_all same_event events more
same_message (Canceled told compaction) (Canceled due c) = same_header told due && compaction == c
same_message told due = false
