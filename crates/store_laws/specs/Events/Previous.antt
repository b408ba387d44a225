-- The record before an event (etcd API reference, `Event.prev_kv` and `WatchCreateRequest.prev_kv`).
use Rattle.std.specs.Prelude.{◌≡◌, ◌⊎◌, ℕ, ◌-◌, Bool, true, not, List, map, Some}
use Rattle.std.specs.List.{All, list_all}
use Rattle.etcd_types.specs.declared.record.Kv.{Kv}
use Rattle.etcd_types.specs.declared.request.WatchAsk.{WatchAsk}
use Rattle.etcd_types.specs.declared.watch.Event.{Event}
use Rattle.etcd_types.specs.declared.watch.Change.{Change}
use Rattle.etcd_types.specs.declared.watch.Change.TheVariants as event
use Rattle.store_model.specs.declared.history.KeyChange.{KeyChange}
use Rattle.store_model.specs.History.{History, changed_key}
use Rattle.store_model.specs.Records.{record_at}
use Rattle.store_model.specs.FirstRefusals.{has_twins}
use Rattle.store_model.specs.Events.{event_revision, visible_prev, watch_events}
use Rattle.store_model.specs.Transactions.{asked_prev}

abbrev pub change_key : Change → List ℕ
change_key (event.Put kv) = kv.key
change_key (event.Delete key modified) = key

-- an event has a record before it only where that was asked for: a record of its key, which the history had before the event's
-- revision, or which that revision itself made
pub record HasPrevious (h : History) (ask : WatchAsk) (e : Event) : Type 0 where
  pub asked : (kv : Kv) → e.prev ≡ Some kv → ask.prev_kv ≡ true
  pub keyed : (kv : Kv) → e.prev ≡ Some kv → kv.key ≡ change_key e.change
  pub earlier : (kv : Kv) → e.prev ≡ Some kv → (record_at h (event_revision e - 1) kv.key ≡ Some kv) ⊎ (kv.modified ≡ event_revision e)

abbrev pub PreviousAreEarlier : Type 0
PreviousAreEarlier = (h : History) (compacted : ℕ) (ask : WatchAsk) (from : ℕ) → All (HasPrevious h ask) (watch_events h compacted ask from)

-- a revision changes each key once; only transactions within a transaction can change one twice
abbrev pub changes_once : List KeyChange → Bool
changes_once cs = not (has_twins (map changed_key cs))

-- where each revision changes a key once, the record before an event is the one that the history has just before the event's
-- revision, where that was asked for and is visible
abbrev pub IsPrevious : History → ℕ → WatchAsk → Event → Type 0
IsPrevious h compacted ask e =
    e.prev ≡ asked_prev ask.prev_kv (visible_prev compacted (event_revision e) (record_at h (event_revision e - 1) (change_key e.change)))

abbrev pub PreviousAreExact : Type 0
PreviousAreExact =
    (h : History) (compacted : ℕ) (ask : WatchAsk) (from : ℕ) → list_all changes_once h ≡ true → All (IsPrevious h compacted ask) (watch_events h compacted ask from)
