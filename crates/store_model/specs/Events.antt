-- The events of a history, by the etcd API reference (`mvccpb.Event`): its changes in order of revision, and within one
-- revision in order of the changes, each with the record before it.
use Rattle.std.specs.Prelude.{ℕ, Bool, not, ◌+◌, ◌-◌, ◌||◌, nat_lt, nat_le, if◌then◌else◌, List, [], ◌∷◌, ◌++◌, take, drop, map, filter, Option, None, Some}
use Rattle.etcd_types.specs.declared.record.Kv.{Kv}
use Rattle.etcd_types.specs.declared.key_range.KeyRange.{KeyRange}
use Rattle.etcd_types.specs.declared.request.WatchAsk.{WatchAsk}
use Rattle.etcd_types.specs.declared.watch.Event.{Event}
use Rattle.etcd_types.specs.declared.watch.Change.{Change}
use Rattle.etcd_types.specs.declared.watch.Change.TheVariants as event
use Rattle.etcd_types.specs.Records.{after_put}
use Rattle.etcd_types.specs.Ranges.{contains}
use Rattle.store_model.specs.declared.history.KeyChange.{KeyChange}
use Rattle.store_model.specs.declared.history.KeyChange.TheVariants.{Put, Delete}
use Rattle.store_model.specs.History.{History, newest, with_revision, changed_key}
use Rattle.store_model.specs.Records.{record_now}

-- the event of a change, where `old` is the key's record before it
abbrev pub event_of : ℕ → Option Kv → KeyChange → Event
event_of revision old (Put key value lease) =
    record { change = event.Put (after_put old key value lease revision); prev = old }
event_of revision old (Delete key) = record { change = event.Delete key revision; prev = old }

-- of the changes of the range in one revision: `before` is the history before it, and `made` its changes before these
abbrev pub events_of_changes : KeyRange → History → List KeyChange → List KeyChange → List Event
events_of_changes range before made [] = []
events_of_changes range before made (c ∷ cs) =
    if contains range (changed_key c) then event_of (newest before + 1) (record_now (with_revision before made) (changed_key c)) c ∷ events_of_changes range before (made ++ c ∷ []) cs
    else events_of_changes range before (made ++ c ∷ []) cs

-- of the revisions behind `before`
abbrev pub events_after : KeyRange → History → History → List Event
events_after range before [] = []
events_after range before (cs ∷ h) = events_of_changes range before [] cs ++ events_after range (before ++ cs ∷ []) h

-- of the keys of the range, from a revision on
abbrev pub events : History → KeyRange → ℕ → List Event
events h range from = events_after range (take (from - 2) h) (drop (from - 2) h)

abbrev pub change_revision : Change → ℕ
change_revision (event.Put kv) = kv.modified
change_revision (event.Delete key modified) = modified

abbrev pub event_revision : Event → ℕ
event_revision e = change_revision e.change

abbrev pub change_passes : WatchAsk → Change → Bool
change_passes ask (event.Put kv) = not ask.no_put
change_passes ask (event.Delete key modified) = not ask.no_delete

-- a watch may leave out puts or deletions
abbrev pub passes : WatchAsk → Event → Bool
passes ask e = change_passes ask e.change

-- a record before a change is visible at or after the compaction revision where it stands there, or was made there or later
abbrev pub visible_prev : ℕ → ℕ → Option Kv → Option Kv
visible_prev compacted revision None = None
visible_prev compacted revision (Some kv) =
    if nat_lt compacted revision || nat_le compacted kv.modified then Some kv else None

-- the record before comes only where it was asked for and was not compacted
abbrev pub told_event : ℕ → WatchAsk → Event → Event
told_event compacted ask e =
    record { change = e.change; prev = if ask.prev_kv then visible_prev compacted (event_revision e) e.prev else None }

-- what a watch is told, from a revision on
abbrev pub watch_events : History → ℕ → WatchAsk → ℕ → List Event
watch_events h compacted ask from = map (told_event compacted ask) (filter (passes ask) (events h ask.range from))
