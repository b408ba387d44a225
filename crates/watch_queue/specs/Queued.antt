-- A queue: its items, and an item that is made ready and not queued yet.
use Rattle.std.specs.Prelude.{List, [], ◌++◌, if◌then◌else◌}
use Rattle.etcd_types.specs.declared.record.Header.{Header}
use Rattle.etcd_types.specs.declared.watch.WatchItem.{WatchItem}
use Rattle.etcd_types.specs.declared.watch.WatchItem.TheVariants as item
use Rattle.watch_model.specs.Queues.{with_progress, is_progress_last}

pub record Queued : Type 0 where
  pub items : List WatchItem
  pub staged : List WatchItem

abbrev pub no_items : Queued
no_items = record { items = []; staged = [] }

-- what is ready is queued
abbrev pub committed : Queued → Queued
committed q = record { items = q.items ++ q.staged; staged = [] }

-- a message without events takes the place of one that is last; else what is ready is queued
abbrev pub progressed : Queued → Header → Queued
progressed q header = if is_progress_last q.items then record { items = with_progress q.items (item.Events header []); staged = [] } else committed q
