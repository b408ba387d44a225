-- Each call as a whole holds nothing back.
use Rattle.std.specs.Prelude.{ℕ, ◌≡◌, true, List, [], ◌∷◌, Option, None, Some}
use Rattle.etcd_types.specs.declared.record.Header.{Header}
use Rattle.etcd_types.specs.declared.watch.Event.{Event}
use Rattle.etcd_types.specs.declared.watch.WatchItem.{WatchItem}
use Rattle.watch_model.specs.State.{Stream, Watch, Broadcasts}
use Rattle.watch_model.specs.Lookups.{stream_at, watch_at, own_next, tickets_from}
use Rattle.watch_model.specs.Delivery.{delivered_stream, stands_created}
use Rattle.watch_model.specs.Cuts.{cut_stream, cancelled_stream}
use Rattle.watch_model.specs.Splitting.{split_slow}
use Rattle.watch_model.specs.Leaving.{removed}
use Rattle.watch_model.specs.Takes.{taken_from}
use Rattle.watch_model.specs.Due.{first_due, next_job}
use Rattle.watch_model.specs.Story.{Story, Received, received, Rising, Tells, TellsNone, Holds}
use Rattle.watch_laws.specs.Closings.{ClosingsAreLeft}

-- what a message of a stream tells: a batch, or that there was nothing
abbrev pub TellsMessage : Story → Stream → Header → List Event → Type 0
TellsMessage story s header [] = TellsNone story s header.revision
TellsMessage story s header (e ∷ es) = Tells story s (e ∷ es)

-- what a taker has after a take
abbrev pub received_if : Received → ℕ → Option WatchItem → Received
received_if got ticket None = got
received_if got ticket (Some i) = received got ticket i

abbrev pub DeliveryHoldsNothingBack : Type 0
DeliveryHoldsNothingBack =
    (story : Story) (got : Received) (b : Broadcasts) (s : Stream) (header : Header) (es : List Event)
    → Rising story → stream_at s.number b.streams ≡ Some s → TellsMessage story s header es → Holds story got b → Holds story got (delivered_stream b s header es)

abbrev pub CreationHoldsNothingBack : Type 0
CreationHoldsNothingBack =
    (story : Story) (got : Received) (b : Broadcasts) (s : Stream) (header last : Header) → stream_at s.number b.streams ≡ Some s → Holds story got b → Holds story got (stands_created b s header last)

abbrev pub CutsHoldNothingBack : Type 0
CutsHoldNothingBack = (story : Story) (got : Received) (b : Broadcasts) (s : Stream) → stream_at s.number b.streams ≡ Some s → ClosingsAreLeft b → Holds story got b → Holds story got (cut_stream b s)

abbrev pub CancellationsHoldNothingBack : Type 0
CancellationsHoldNothingBack =
    (story : Story) (got : Received) (b : Broadcasts) (s : Stream) (header : Header) (compact : ℕ) (last : Header) → stream_at s.number b.streams ≡ Some s → Holds story got b
    → Holds story got (cancelled_stream b s header compact last)

abbrev pub JobsHoldNothingBack : Type 0
JobsHoldNothingBack = (story : Story) (got : Received) (b : Broadcasts) → ClosingsAreLeft b → Holds story got b → Holds story got (next_job b (first_due b.streams)).0

-- a take, by which a watch that was split off may join again, and one that is given its cancellation isn't known any more
abbrev pub TakesHoldNothingBack : Type 0
TakesHoldNothingBack =
    (story : Story) (got : Received) (b : Broadcasts) (last : Header) (w : Watch) → watch_at w.ticket b.watches ≡ Some w → Holds story got b
    → Holds story (received_if got w.ticket (taken_from b last w w.queue).1) (taken_from b last w w.queue).0

abbrev pub LeavingHoldsNothingBack : Type 0
LeavingHoldsNothingBack = (story : Story) (got : Received) (b : Broadcasts) (ticket : ℕ) → Holds story got b → Holds story got (removed b ticket (watch_at ticket b.watches))

-- a watch is split off at its own next
abbrev pub SplitHoldsNothingBack : Type 0
SplitHoldsNothingBack =
    (story : Story) (got : Received) (b : Broadcasts) (w : Watch) → tickets_from 0 b.watches ≡ true → watch_at w.ticket b.watches ≡ Some w → Holds story got b → Holds story got (split_slow b w.ticket (own_next b.streams w) (Some w))
