-- Splitting off: a slow watch leaves its stream with its own next revision, and a stream without members is closed.
use Rattle.std.specs.Prelude.{ℕ, if◌then◌else◌, List, map, Option, None, Some}
use Rattle.watch_model.specs.declared.stream.StreamPhase.TheVariants as phase
use Rattle.watch_model.specs.declared.place.WatchPlace.{WatchPlace}
use Rattle.watch_model.specs.declared.place.WatchPlace.TheVariants as place
use Rattle.watch_model.specs.State.{Stream, Watch, Broadcasts}
use Rattle.watch_model.specs.Lookups.{is_due, stream_at, with_stream, without_stream, has_member, watch_changed}

-- a stream without members is due to be closed, or removed where it is still due
abbrev pub closed : ℕ → Stream → Stream
closed step s = record s { phase = phase.Closing step }

abbrev pub emptied_as : ℕ → ℕ → List Stream → Option Stream → List Stream
emptied_as n step ss None = ss
emptied_as n step ss (Some s) = if is_due s.phase then without_stream n ss else with_stream n (closed step) ss

abbrev pub emptied : ℕ → Broadcasts → Broadcasts
emptied n b = if has_member n b.watches then b else record b { streams = emptied_as n b.step b.streams (stream_at n b.streams) }

-- the stream that a watch left
abbrev pub left_place : WatchPlace → Broadcasts → Broadcasts
left_place (place.In n) b = emptied n b
left_place place.Split b = b
left_place place.Ended b = b

abbrev pub split : ℕ → Watch → Watch
split next w = record w { next = next; place = place.Split }

abbrev pub split_slow : Broadcasts → ℕ → ℕ → Option Watch → Broadcasts
split_slow b ticket next None = b
split_slow b ticket next (Some w) = left_place w.place (record b { watches = map (watch_changed ticket (split next)) b.watches })
