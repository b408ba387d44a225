-- What a watch is told of a version (etcd API reference, `mvccpb.Event`).
use Rattle.std.specs.Prelude.{ℕ, ◌-◌, Bool, not, if◌then◌else◌, List, [], ◌∷◌, take, drop, get_or, Option, None, Some}
use Rattle.etcd_types.specs.declared.record.Kv.{Kv}
use Rattle.etcd_types.specs.declared.request.WatchAsk.{WatchAsk}
use Rattle.etcd_types.specs.declared.watch.Event.{Event}
use Rattle.etcd_types.specs.declared.watch.Change.{Change}
use Rattle.etcd_types.specs.declared.watch.Change.TheVariants as event
use Rattle.store_model.specs.History.{History}
use Rattle.store_model.specs.Events.{events_of_changes}
use Rattle.store_history.specs.Batches.{told, told_prev}

-- the change that left this
abbrev pub left_change : ℕ → List ℕ → Option Kv → Change
left_change revision k None = event.Delete k revision
left_change revision k (Some kv) = event.Put kv

abbrev pub left_passes : WatchAsk → Option Kv → Bool
left_passes ask None = not ask.no_delete
left_passes ask (Some kv) = not ask.no_put

-- of a version that left this, where `old` was there before
abbrev pub told_left : ℕ → WatchAsk → ℕ → List ℕ → Option Kv → Option Kv → List Event
told_left compacted ask revision k old left =
    if left_passes ask left then record { change = left_change revision k left; prev = told_prev compacted ask.prev_kv revision old } ∷ []
    else []

-- of a revision's changes from the one at this place on
abbrev pub left_to_tell : ℕ → WatchAsk → History → ℕ → ℕ → List Event
left_to_tell compacted ask h revision place =
    told compacted ask
    (events_of_changes ask.range (take (revision - 2) h) (take place (get_or h (revision - 2) [])) (drop place (get_or h (revision - 2) [])))
