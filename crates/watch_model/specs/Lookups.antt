-- Streams by number, watches by ticket, and the members of a stream: membership stands at the watch.
use Rattle.std.specs.Prelude.{ℕ, Bool, true, false, not, ◌&&◌, ◌==◌, nat_lt, nat_le, max, if◌then◌else◌, List, [], ◌∷◌, map, filter, Option, None, Some, ◌+◌, ◌≡◌}
use Rattle.std.specs.List.{list_any}
use Rattle.etcd_types.specs.declared.key_range.KeyRange.{KeyRange}
use Rattle.etcd_types.specs.Keys.{same}
use Rattle.watch_model.specs.declared.stream.StreamPhase.{StreamPhase}
use Rattle.watch_model.specs.declared.stream.StreamPhase.TheVariants as phase
use Rattle.watch_model.specs.declared.place.WatchPlace.{WatchPlace}
use Rattle.watch_model.specs.declared.place.WatchPlace.TheVariants as place
use Rattle.watch_model.specs.State.{Stream, Watch}

abbrev pub same_range : KeyRange → KeyRange → Bool
same_range r s = same r.key s.key && same r.end s.end

abbrev pub stream_at : ℕ → List Stream → Option Stream
stream_at n [] = None
stream_at n (s ∷ ss) = if s.number == n then Some s else stream_at n ss

-- the stream that the watch is a member of
abbrev pub place_stream : List Stream → WatchPlace → Option Stream
place_stream ss (place.In n) = stream_at n ss
place_stream ss place.Split = None
place_stream ss place.Ended = None

abbrev pub next_of : Option Stream → ℕ
next_of None = 0
next_of (Some s) = s.stream.next

-- the watch's own next revision
abbrev pub own_next : List Stream → Watch → ℕ
own_next ss w = max w.next (next_of (place_stream ss w.place))

abbrev pub changed_stream : ℕ → (Stream → Stream) → Stream → Stream
changed_stream n f s = if s.number == n then f s else s

abbrev pub with_stream : ℕ → (Stream → Stream) → List Stream → List Stream
with_stream n f ss = map (changed_stream n f) ss

abbrev pub is_other : ℕ → Stream → Bool
is_other n s = not (s.number == n)

abbrev pub without_stream : ℕ → List Stream → List Stream
without_stream n ss = filter (is_other n) ss

abbrev pub is_in : ℕ → WatchPlace → Bool
is_in n (place.In m) = m == n
is_in n place.Split = false
is_in n place.Ended = false

abbrev pub has_member : ℕ → List Watch → Bool
has_member n ws = list_any (λ w. is_in n w.place) ws

abbrev pub member_changed : ℕ → (Watch → Watch) → Watch → Watch
member_changed n f w = if is_in n w.place then f w else w

abbrev pub is_closing : StreamPhase → Bool
is_closing (phase.Closing since) = true
is_closing (phase.Due since) = false
is_closing phase.Begun = false

abbrev pub is_due : StreamPhase → Bool
is_due (phase.Due since) = true
is_due (phase.Closing since) = false
is_due phase.Begun = false

-- its opening was sent, and it isn't due to be closed
abbrev pub is_begun : StreamPhase → Bool
is_begun phase.Begun = true
is_begun (phase.Due since) = false
is_begun (phase.Closing since) = false

-- it stands created
abbrev pub is_standing : Stream → Bool
is_standing s = is_begun s.phase && s.stream.created

abbrev pub watch_at : ℕ → List Watch → Option Watch
watch_at t [] = None
watch_at t (w ∷ ws) = if w.ticket == t then Some w else watch_at t ws

abbrev pub without_watch : ℕ → List Watch → List Watch
without_watch t ws = filter (λ w. not (w.ticket == t)) ws

abbrev pub watch_changed : ℕ → (Watch → Watch) → Watch → Watch
watch_changed t f w = if w.ticket == t then f w else w

-- in its place among rising tickets
abbrev pub with_new_watch : Watch → List Watch → List Watch
with_new_watch w [] = w ∷ []
with_new_watch w (v ∷ vs) = if nat_lt v.ticket w.ticket then v ∷ with_new_watch w vs else w ∷ v ∷ vs

-- the numbers rise from above `low` to at most `high`
abbrev pub numbered : ℕ → ℕ → List Stream → Bool
numbered low high [] = true
numbered low high (s ∷ ss) = nat_lt low s.number && nat_le s.number high && numbered s.number high ss

-- the tickets rise, from this one on
abbrev pub tickets_from : ℕ → List Watch → Bool
tickets_from low [] = true
tickets_from low (w ∷ ws) = nat_le low w.ticket && tickets_from (w.ticket + 1) ws

-- streams stand by rising numbers, of those given, and watches by rising tickets
pub record InOrder (given : ℕ) (ss : List Stream) (ws : List Watch) : Type 0 where
  pub numbers : numbered 0 given ss ≡ true
  pub tickets : tickets_from 0 ws ≡ true
