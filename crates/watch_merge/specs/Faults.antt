-- When a call on a stream or a watch is refused.
use Rattle.std.specs.Prelude.{ℕ, ◌≡◌, Option, None}
use Rattle.watch_model.specs.State.{Stream, Watch}
use Rattle.watch_merge.specs.declared.fault.WatchFault.{WatchFault}
use Rattle.watch_merge.specs.declared.fault.WatchFault.TheVariants as fault

-- of a call on the stream of this number
abbrev pub IsStreamFault : ℕ → Option Stream → WatchFault → Type 0
IsStreamFault n o (fault.NoSuchStream m) = (m ≡ n) × (o ≡ None)
IsStreamFault n o (fault.NoSuchWatch t) = ⊥
IsStreamFault n o fault.NoMemory = Unit {0}

-- of a call on the watch of this ticket
abbrev pub IsWatchFault : ℕ → Option Watch → WatchFault → Type 0
IsWatchFault t o (fault.NoSuchWatch u) = (u ≡ t) × (o ≡ None)
IsWatchFault t o (fault.NoSuchStream n) = ⊥
IsWatchFault t o fault.NoMemory = Unit {0}
