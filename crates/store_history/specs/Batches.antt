-- What a watch is told of some events, step by step.
use Rattle.std.specs.Prelude.{ℕ, Bool, not, ◌&&◌, ◌+◌, if◌then◌else◌, List, [], ◌∷◌, map, filter, Option, None}
use Rattle.etcd_types.specs.declared.record.Kv.{Kv}
use Rattle.etcd_types.specs.declared.request.WatchAsk.{WatchAsk}
use Rattle.etcd_types.specs.declared.watch.Event.{Event}
use Rattle.etcd_types.specs.Ranges.{contains}
use Rattle.store_model.specs.declared.history.KeyChange.{KeyChange}
use Rattle.store_model.specs.declared.history.KeyChange.TheVariants.{Put, Delete}
use Rattle.store_model.specs.History.{History, newest, with_revision, changed_key}
use Rattle.store_model.specs.Records.{record_now}
use Rattle.store_model.specs.Events.{event_of, passes, visible_prev, told_event}

abbrev pub told : ℕ → WatchAsk → List Event → List Event
told compacted ask es = map (told_event compacted ask) (filter (passes ask) es)

abbrev pub told_prev : ℕ → Bool → ℕ → Option Kv → Option Kv
told_prev compacted asked revision old = if asked then visible_prev compacted revision old else None

abbrev pub kind_passes : WatchAsk → KeyChange → Bool
kind_passes ask (Put key value lease) = not ask.no_put
kind_passes ask (Delete key) = not ask.no_delete

-- the change is in the range, and its kind is not left out
abbrev pub concerns : WatchAsk → KeyChange → Bool
concerns ask c = kind_passes ask c && contains ask.range (changed_key c)

-- what the watch is told of one change, where `made` are the changes of its revision before it
abbrev pub told_of : ℕ → WatchAsk → History → List KeyChange → KeyChange → List Event
told_of compacted ask before made c =
    if concerns ask c then told_event compacted ask (event_of (newest before + 1) (record_now (with_revision before made) (changed_key c)) c) ∷ []
    else []
