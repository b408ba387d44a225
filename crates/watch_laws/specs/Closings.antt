-- A stream that is due to be closed has no members: the stream of a watch is never one of those.
use Rattle.std.specs.Prelude.{ℕ, ◌≡◌, Bool, true, false, List, Option, None, Some}
use Rattle.etcd_types.specs.declared.key_range.KeyRange.{KeyRange}
use Rattle.etcd_types.specs.declared.record.Header.{Header}
use Rattle.etcd_types.specs.declared.request.WatchAsk.{WatchAsk}
use Rattle.etcd_types.specs.declared.watch.Event.{Event}
use Rattle.watch_model.specs.State.{Stream, Watch, Broadcasts}
use Rattle.watch_model.specs.Lookups.{stream_at, place_stream, watch_at, has_member, is_closing, numbered}
use Rattle.watch_model.specs.Joining.{joined}
use Rattle.watch_model.specs.Merging.{merged}
use Rattle.watch_model.specs.Delivery.{delivered_stream, stands_created}
use Rattle.watch_model.specs.Cuts.{cut_stream, cancelled_stream}
use Rattle.watch_model.specs.Splitting.{split_slow}
use Rattle.watch_model.specs.Leaving.{removed}
use Rattle.watch_model.specs.Takes.{taken_from}
use Rattle.watch_model.specs.Due.{first_due, next_job}
use Rattle.watch_model.specs.Story.{EachWatch}

abbrev pub is_left : Option Stream → Bool
is_left None = false
is_left (Some s) = is_closing s.phase

-- numbers rise, and no watch is a member of a stream that is due to be closed
pub record ClosingsAreLeft (b : Broadcasts) : Type 0 where
  pub numbers : numbered 0 b.given b.streams ≡ true
  pub watches : EachWatch (λ w. is_left (place_stream b.streams w.place) ≡ false) b.watches

abbrev pub ClosingsHaveNone : Type 0
ClosingsHaveNone = (b : Broadcasts) (n : ℕ) (s : Stream) → ClosingsAreLeft b → stream_at n b.streams ≡ Some s → is_closing s.phase ≡ true → has_member n b.watches ≡ false

abbrev pub JoinsLeaveClosings : Type 0
JoinsLeaveClosings = (b : Broadcasts) (ticket : ℕ) (ask : WatchAsk) (last : Header) → ClosingsAreLeft b → ClosingsAreLeft (joined b ticket ask last)

abbrev pub CreationsLeaveClosings : Type 0
CreationsLeaveClosings = (b : Broadcasts) (s : Stream) (header last : Header) → ClosingsAreLeft b → ClosingsAreLeft (stands_created b s header last)

abbrev pub DeliveriesLeaveClosings : Type 0
DeliveriesLeaveClosings = (b : Broadcasts) (s : Stream) (header : Header) (es : List Event) → ClosingsAreLeft b → ClosingsAreLeft (delivered_stream b s header es)

abbrev pub MergesLeaveClosings : Type 0
MergesLeaveClosings = (range : KeyRange) (b : Broadcasts) → ClosingsAreLeft b → ClosingsAreLeft (merged range b)

abbrev pub CutsLeaveClosings : Type 0
CutsLeaveClosings = (b : Broadcasts) (s : Stream) → ClosingsAreLeft b → ClosingsAreLeft (cut_stream b s)

abbrev pub CancellationsLeaveClosings : Type 0
CancellationsLeaveClosings = (b : Broadcasts) (s : Stream) (header : Header) (compact : ℕ) (last : Header) → ClosingsAreLeft b → ClosingsAreLeft (cancelled_stream b s header compact last)

abbrev pub TakesLeaveClosings : Type 0
TakesLeaveClosings = (b : Broadcasts) (last : Header) (w : Watch) → watch_at w.ticket b.watches ≡ Some w → ClosingsAreLeft b → ClosingsAreLeft (taken_from b last w w.queue).0

abbrev pub LeavingLeavesClosings : Type 0
LeavingLeavesClosings = (b : Broadcasts) (ticket : ℕ) → ClosingsAreLeft b → ClosingsAreLeft (removed b ticket (watch_at ticket b.watches))

abbrev pub SplitsLeaveClosings : Type 0
SplitsLeaveClosings = (b : Broadcasts) (ticket next : ℕ) → ClosingsAreLeft b → ClosingsAreLeft (split_slow b ticket next (watch_at ticket b.watches))

abbrev pub JobsLeaveClosings : Type 0
JobsLeaveClosings = (b : Broadcasts) → ClosingsAreLeft b → ClosingsAreLeft (next_job b (first_due b.streams)).0
