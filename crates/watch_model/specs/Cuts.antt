-- Cuts and cancellations.
use Rattle.std.specs.Prelude.{ℕ, ◌+◌, not, ◌||◌, ◌==◌, nat_lt, max, if◌then◌else◌, List, [], ◌∷◌, ◌++◌, map, Option, None, Some}
use Rattle.etcd_types.specs.declared.record.Header.{Header}
use Rattle.etcd_types.specs.declared.watch.WatchItem.TheVariants as item
use Rattle.proxy_model.specs.Upstream.{cut}
use Rattle.watch_model.specs.declared.stream.StreamPhase.TheVariants as phase
use Rattle.watch_model.specs.declared.place.WatchPlace.TheVariants as place
use Rattle.watch_model.specs.State.{Stream, Watch, Broadcasts}
use Rattle.watch_model.specs.Lookups.{without_stream, is_in, is_closing, is_begun}
use Rattle.watch_model.specs.Joining.{Seated, seated}

abbrev pub renumbered : ℕ → ℕ → Watch → Watch
renumbered n m w = if is_in n w.place then record w { place = place.In m } else w

-- the stream under a new number, due from its next
abbrev pub reopened : Broadcasts → Stream → Broadcasts
reopened b s = record b {
  streams = without_stream s.number b.streams ++ record { number = b.given + 1; phase = phase.Due b.step; stream = cut s.stream } ∷ [];
  watches = map (renumbered s.number (b.given + 1)) b.watches;
  given = b.given + 1;
}

-- a cut stream is due again from its next; one that is due to be closed is gone
abbrev pub cut_stream : Broadcasts → Stream → Broadcasts
cut_stream b s = if is_closing s.phase then record b { streams = without_stream s.number b.streams } else reopened b s

abbrev pub cut_at : Broadcasts → Option Stream → Broadcasts
cut_at b None = b
cut_at b (Some s) = cut_stream b s

abbrev pub cut_answer : Broadcasts → Option Stream → Option ℕ
cut_answer b None = None
cut_answer b (Some s) = if is_closing s.phase then None else Some (b.given + 1)

-- The members of a cancelled stream leave it, in rising order of tickets: one behind the compaction is given the
-- cancellation, and any other joins again at its own next.
pub record Left : Type 0 where
  pub streams : List Stream
  pub given : ℕ
  pub watches : List Watch

abbrev pub ended : Header → ℕ → Watch → Watch
ended header compact w = record w { place = place.Ended; queue = w.queue ++ item.Canceled header compact ∷ [] }

-- a member of a stream of this next, which is gone
abbrev pub leaving : ℕ → Watch → Watch
leaving next w = record w { next = max w.next next; place = place.Split }

abbrev pub left_one : Header → ℕ → ℕ → Header → List Stream → ℕ → Watch → Seated
left_one header compact step last ss given w =
    if nat_lt w.next compact then record { streams = ss; given = given; watch = ended header compact w } else seated ss given step last w

-- a watch, where the stream of this number and next was cancelled
abbrev pub left_by : ℕ → ℕ → Header → ℕ → ℕ → Header → List Stream → ℕ → Watch → Seated
left_by n next header compact step last ss given w =
    if is_in n w.place then left_one header compact step last ss given (leaving next w) else record { streams = ss; given = given; watch = w }

-- the watches behind it see the streams as it left them
abbrev pub goes_on : (List Stream → ℕ → Left) → Seated → Left
goes_on rest x = record { streams = (rest x.streams x.given).streams; given = (rest x.streams x.given).given; watches = x.watch ∷ (rest x.streams x.given).watches }

abbrev pub left_over : ℕ → ℕ → Header → ℕ → ℕ → Header → List Stream → ℕ → List Watch → Left
left_over n next header compact step last ss given [] = record { streams = ss; given = given; watches = [] }
left_over n next header compact step last ss given (w ∷ ws) =
    goes_on (λ us m. left_over n next header compact step last us m ws) (left_by n next header compact step last ss given w)

abbrev pub left_as : Broadcasts → Left → Broadcasts
left_as b l = record b { streams = l.streams; given = l.given; watches = l.watches }

abbrev pub cancelled_stream : Broadcasts → Stream → Header → ℕ → Header → Broadcasts
cancelled_stream b s header compact last =
    if not (is_begun s.phase) then b
    else if compact == 0 || s.stream.next == 0 then cut_stream b s
    else left_as b (left_over s.number s.stream.next header compact b.step last (without_stream s.number b.streams) b.given b.watches)
