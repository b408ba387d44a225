-- A message of a client stream, as far as its watches have to do with it.
use Rattle.std.specs.Prelude.{ℕ, if◌then◌else◌, List, Option, None, Some, Ok, Err}
use Rattle.etcd_types.specs.declared.record.Header.{Header}
use Rattle.etcd_types.specs.declared.watch.WatchItem.{WatchItem}
use Rattle.etcd_types.specs.declared.watch.WatchItem.TheVariants as item
use Rattle.proxy_model.specs.Unwrapped.{Unwrapped, item_without}
use Rattle.watch_model.specs.Cuts.{cut_stream, cancelled_stream}
use Rattle.watch_model.specs.Delivery.{delivered_stream, stands_created}
use Rattle.watch_model.specs.Lookups.{is_begun}
use Rattle.watch_model.specs.State.{Stream, Broadcasts}

-- `last` is the highest header that was delivered
abbrev pub watches_told : Stream → WatchItem → Header → Broadcasts → Broadcasts
watches_told s (item.Created h) last b = stands_created b s h last
watches_told s (item.Events h events) last b = delivered_stream b s h events
watches_told s (item.Canceled h compaction) last b = cancelled_stream b s h compaction last

abbrev pub watches_unwrapped : Stream → Unwrapped WatchItem → Header → Broadcasts → Broadcasts
watches_unwrapped s (Ok x) last b = watches_told s x last b
watches_unwrapped s (Err foreign) last b = cut_stream b s

-- one of a stream that is to be opened or closed tells its watches nothing
abbrev pub watches_heard : List ℕ → Stream → WatchItem → Header → Broadcasts → Broadcasts
watches_heard namespace s x last b = if is_begun s.phase then watches_unwrapped s (item_without namespace x) last b else b

abbrev pub watches_heard_if : List ℕ → Option Stream → WatchItem → Header → Broadcasts → Broadcasts
watches_heard_if namespace None x last b = b
watches_heard_if namespace (Some s) x last b = watches_heard namespace s x last b

abbrev pub watches_told_if : Option Stream → WatchItem → Header → Broadcasts → Broadcasts
watches_told_if None x last b = b
watches_told_if (Some s) x last b = watches_told s x last b
