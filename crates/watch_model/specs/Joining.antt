-- Joining a watch: to the stream of its range that is furthest ahead and not past the watch, else to a new one.
use Rattle.std.specs.Prelude.{ℕ, ◌+◌, ◌-◌, Bool, true, false, not, ◌&&◌, ◌==◌, nat_lt, nat_le, if◌then◌else◌, List, [], ◌∷◌, ◌++◌, Option, None, Some}
use Rattle.etcd_types.specs.declared.key_range.KeyRange.{KeyRange}
use Rattle.etcd_types.specs.declared.record.Header.{Header}
use Rattle.etcd_types.specs.declared.request.WatchAsk.{WatchAsk}
use Rattle.etcd_types.specs.declared.watch.WatchItem.TheVariants as item
use Rattle.etcd_types.specs.Keys.{is_empty}
use Rattle.proxy_model.specs.Upstream.{opened}
use Rattle.proxy_model.specs.Limits.{capped}
use Rattle.watch_model.specs.declared.stream.StreamPhase.TheVariants as phase
use Rattle.watch_model.specs.declared.place.WatchPlace.TheVariants as place
use Rattle.watch_model.specs.declared.stream.Joined.{Joined}
use Rattle.watch_model.specs.declared.stream.Joined.TheVariants as stream_joined
use Rattle.watch_model.specs.State.{Stream, Watch, Broadcasts}
use Rattle.watch_model.specs.Lookups.{same_range, is_closing, with_new_watch}

-- an empty key of a watch is read as one zero byte
abbrev pub watched_range : KeyRange → KeyRange
watched_range r = if is_empty r.key then record r { key = 0 ∷ [] } else r

abbrev pub new_watch : ℕ → WatchAsk → Watch
new_watch ticket ask = record { ticket = ticket; ask = record ask { range = watched_range ask.range }; start = ask.start; next = ask.start; told = false; queue = []; place = place.Split }

-- a stream that a watch with this limit may join: its next is known, and not above
abbrev pub is_joinable : KeyRange → ℕ → Stream → Bool
is_joinable range limit s = same_range s.stream.range range && not (is_closing s.phase) && not (s.stream.next == 0) && nat_le s.stream.next limit

abbrev pub better : Stream → Option Stream → Option Stream
better s None = Some s
better s (Some b) = if nat_lt b.stream.next s.stream.next then Some s else Some b

-- the one with the greatest next; of equal ones the first, which has the lowest number
abbrev pub best_of : KeyRange → ℕ → Option Stream → List Stream → Option Stream
best_of range limit best [] = best
best_of range limit best (s ∷ ss) = best_of range limit (if is_joinable range limit s then better s best else best) ss

-- one that is being opened from 0
abbrev pub is_opening_from_now : KeyRange → Stream → Bool
is_opening_from_now range s = same_range s.stream.range range && not (is_closing s.phase) && s.stream.next == 0

abbrev pub opening_from_now : KeyRange → List Stream → Option Stream
opening_from_now range [] = None
opening_from_now range (s ∷ ss) = if is_opening_from_now range s then Some s else opening_from_now range ss

abbrev pub or_else : Option Stream → Option Stream → Option Stream
or_else None o = o
or_else (Some s) o = Some s

-- the stream that a watch of the range joins, where its own next is this, or not decided yet (0), and `seen` the revision seen
abbrev pub stream_to_join : List Stream → KeyRange → ℕ → ℕ → Option Stream
stream_to_join ss range next seen =
    if next == 0 then or_else (best_of range (capped (seen + 1)) None ss) (opening_from_now range ss) else best_of range next None ss

-- a watch whose start isn't decided yet has the stream's next, where that is known, as its start
abbrev pub decided : ℕ → Watch → Watch
decided next w = if w.next == 0 then record w { start = next; next = next } else w

abbrev pub created_header : Header → Watch → Header
created_header last w = if w.ask.start == 0 then record last { revision = w.start - 1 } else last

-- the created item is queued once
abbrev pub told : Header → Watch → Watch
told last w = if w.told then w else record w { told = true; queue = w.queue ++ item.Created (created_header last w) ∷ [] }

abbrev pub told_if : Bool → Header → Watch → Watch
told_if created last w = if created then told last w else w

-- as a member of the stream with this number and next, which stands created or not
abbrev pub seated_as : Header → ℕ → ℕ → Bool → Watch → Watch
seated_as last number next created w = told_if created last (record (decided next w) { place = place.In number })

abbrev pub seated_in : Header → Stream → Watch → Watch
seated_in last s w = seated_as last s.number s.stream.next s.stream.created w

abbrev pub new_stream : ℕ → ℕ → KeyRange → ℕ → Stream
new_stream number step range start = record { number = number; phase = phase.Due step; stream = opened range start }

-- the streams and numbers given, and the watch, after it joined
pub record Seated : Type 0 where
  pub streams : List Stream
  pub given : ℕ
  pub watch : Watch

abbrev pub seated_at : List Stream → ℕ → ℕ → Header → Watch → Option Stream → Seated
seated_at ss given step last w (Some s) = record { streams = ss; given = given; watch = seated_in last s w }
seated_at ss given step last w None = record {
  streams = ss ++ new_stream (given + 1) step w.ask.range w.next ∷ [];
  given = given + 1;
  watch = record w { place = place.In (given + 1) };
}

abbrev pub seated : List Stream → ℕ → ℕ → Header → Watch → Seated
seated ss given step last w = seated_at ss given step last w (stream_to_join ss w.ask.range w.next last.revision)

abbrev pub joined_as : Broadcasts → Seated → Broadcasts
joined_as b x = record b { streams = x.streams; given = x.given; watches = with_new_watch x.watch b.watches }

abbrev pub joined : Broadcasts → ℕ → WatchAsk → Header → Broadcasts
joined b ticket ask last = joined_as b (seated b.streams b.given b.step last (new_watch ticket ask))

-- the stream that it joins, and whether that is a new one
abbrev pub answered : ℕ → Option Stream → Joined
answered given (Some s) = stream_joined.Standing s.number
answered given None = stream_joined.Fresh (given + 1)

abbrev pub join_answer : Broadcasts → WatchAsk → Header → Joined
join_answer b ask last = answered b.given (stream_to_join b.streams (watched_range ask.range) ask.start last.revision)
