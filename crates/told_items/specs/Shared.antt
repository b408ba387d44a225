-- The message in a shared one: where it lies says nothing of it.
use Rattle.std.specs.Arc.{arc_value}
use Rattle.etcd_types.specs.declared.watch.WatchItem.{WatchItem}
use Rattle.told_items.specs.declared.told.Body.{Body}
use Rattle.told_items.specs.declared.told.Body.TheVariants.{Alone, Shared}

abbrev pub item_in : Body → WatchItem
item_in (Alone item) = item
item_in (Shared message) = (arc_value message).item
