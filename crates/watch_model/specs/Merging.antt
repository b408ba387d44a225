-- Streams of one range with equal next become one: the lowest number keeps all members, the others are due to be closed.
use Rattle.std.specs.Prelude.{ℕ, Bool, ◌&&◌, ◌==◌, if◌then◌else◌, List, [], ◌∷◌, map, Option, None, Some}
use Rattle.etcd_types.specs.declared.key_range.KeyRange.{KeyRange}
use Rattle.watch_model.specs.declared.stream.StreamPhase.TheVariants as phase
use Rattle.watch_model.specs.declared.place.WatchPlace.{WatchPlace}
use Rattle.watch_model.specs.declared.place.WatchPlace.TheVariants as place
use Rattle.watch_model.specs.State.{Stream, Watch, Broadcasts}
use Rattle.watch_model.specs.Lookups.{same_range, is_standing, stream_at}

abbrev pub is_of : KeyRange → Stream → Bool
is_of range s = same_range s.stream.range range && is_standing s

-- the number of the first that stands created with this next
abbrev pub keeper : KeyRange → ℕ → ℕ → List Stream → ℕ
keeper range next number [] = number
keeper range next number (s ∷ ss) = if is_of range s && s.stream.next == next then s.number else keeper range next number ss

-- the number of the stream that keeps the members of this one
abbrev pub kept_by : KeyRange → List Stream → Stream → ℕ
kept_by range ss s = if is_of range s then keeper range s.stream.next s.number ss else s.number

abbrev pub merged_number : KeyRange → List Stream → ℕ → Option Stream → ℕ
merged_number range ss n None = n
merged_number range ss n (Some s) = kept_by range ss s

abbrev pub merged_place : KeyRange → List Stream → WatchPlace → WatchPlace
merged_place range ss (place.In n) = place.In (merged_number range ss n (stream_at n ss))
merged_place range ss place.Split = place.Split
merged_place range ss place.Ended = place.Ended

abbrev pub merged_stream : KeyRange → List Stream → ℕ → Stream → Stream
merged_stream range ss step s = if kept_by range ss s == s.number then s else record s { phase = phase.Closing step }

abbrev pub merged_watch : KeyRange → List Stream → Watch → Watch
merged_watch range ss w = record w { place = merged_place range ss w.place }

abbrev pub merged : KeyRange → Broadcasts → Broadcasts
merged range b = record b {
  streams = map (merged_stream range b.streams b.step) b.streams;
  watches = map (merged_watch range b.streams) b.watches;
}
