-- A message that is found for a watch, before the watch moves on; and the range of a watch.
use Rattle.std.specs.Prelude.{◌≡◌, ◌==◌, ◌-◌, ℕ, if◌then◌else◌, List, slice_get, Option, None, Some, Ok, Err}
use Rattle.etcd_types.specs.declared.key_range.KeyRange.{KeyRange}
use Rattle.store_model.specs.declared.watch.OpenWatch.{OpenWatch}
use Rattle.store_model.specs.State.{State}
use Rattle.store_model.specs.declared.store_fault.StoreFault.TheVariants as fault
use Rattle.store_model.specs.Watches.{Pushed, with_next, watch_of, pushed}
use Rattle.store_world.specs.declared.watches.Push.{Push}

-- the state once the watch has moved on
abbrev pub moved : State → ℕ → OpenWatch → Option ℕ → State
moved s number w None = s
moved s number w (Some next) = with_next s number w next

abbrev pub IsPush : State → ℕ → OpenWatch → Push → Pushed → Type 0
IsPush s number w push step = step ≡ Ok (moved s number w push.next, push.item)

-- the same, for the watch of this number
abbrev pub IsPushOf : State → ℕ → Push → Pushed → Type 0
IsPushOf s number push step = (w : OpenWatch) × (watch_of s number ≡ Some w) × IsPush s number w push step

-- the watch of this number among these
abbrev pub watch_among : List OpenWatch → ℕ → Option OpenWatch
watch_among watches number = if number == 0 then None else slice_get watches (number - 1)

abbrev pub watched_range : OpenWatch → KeyRange
watched_range w = w.ask.range

-- there is nothing to push to the watch of this number
abbrev pub TellsNothing : State → ℕ → Type 0
TellsNothing s number = (n : ℕ) × (pushed s number ≡ Err (fault.NothingToPush n))
