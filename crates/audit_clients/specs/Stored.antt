-- What the store is asked for a watch, and which record before an event can't be seen.
use Rattle.std.specs.Prelude.{ℕ, Bool, true, not, is_some, List}
use Rattle.etcd_types.specs.declared.watch.Event.{Event}
use Rattle.etcd_types.specs.declared.request.WatchAsk.{WatchAsk}
use Rattle.proxy_model.specs.Prefixes.{under}
use Rattle.store_model.specs.Events.{event_revision, visible_prev}
use Rattle.watch_model.specs.Joining.{watched_range}

-- what the store's own watch asks for: the same events of the stored keys, each with the record before it
abbrev pub with_prev : List ℕ → WatchAsk → WatchAsk
with_prev namespace ask = record ask { range = under namespace (watched_range ask.range); prev_kv = true }

-- the record before the event can't be seen at the compaction revision, or wasn't there
abbrev pub prev_is_gone : ℕ → Event → Bool
prev_is_gone compacted e = not (is_some (visible_prev compacted (event_revision e) e.prev))
