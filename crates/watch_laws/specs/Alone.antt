-- Between calls no two streams of one range that stand created have equal next: where two come to it, they are merged at once.
use Rattle.std.specs.Prelude.{ℕ, ◌≡◌, true, false, List, Some}
use Rattle.etcd_types.specs.declared.key_range.KeyRange.{KeyRange}
use Rattle.etcd_types.specs.declared.record.Header.{Header}
use Rattle.etcd_types.specs.declared.request.WatchAsk.{WatchAsk}
use Rattle.etcd_types.specs.declared.watch.Event.{Event}
use Rattle.watch_model.specs.State.{Stream, Watch, Broadcasts}
use Rattle.watch_model.specs.Lookups.{stream_at, watch_at, is_due, numbered}
use Rattle.watch_model.specs.Joining.{joined}
use Rattle.watch_model.specs.Merging.{merged}
use Rattle.watch_model.specs.Delivery.{delivered_stream, stands_created}
use Rattle.watch_model.specs.Cuts.{cut_stream, cancelled_stream}
use Rattle.watch_model.specs.Splitting.{split_slow}
use Rattle.watch_model.specs.Leaving.{removed}
use Rattle.watch_model.specs.Takes.{taken_from}
use Rattle.watch_model.specs.Due.{first_due, next_job}
use Rattle.watch_model.specs.Story.{NoTwins}

pub record StandAlone (ss : List Stream) : Type 0 where
  pub alone : (range : KeyRange) → NoTwins range ss
  -- one whose opening is due doesn't stand created
  pub fresh : (k : ℕ) (s : Stream) → stream_at k ss ≡ Some s → is_due s.phase ≡ true → s.stream.created ≡ false

abbrev pub JoinsLeaveAlone : Type 0
JoinsLeaveAlone = (b : Broadcasts) (ticket : ℕ) (ask : WatchAsk) (last : Header) → StandAlone b.streams → StandAlone (joined b ticket ask last).streams

abbrev pub CreationsLeaveAlone : Type 0
CreationsLeaveAlone = (b : Broadcasts) (s : Stream) (header last : Header) → stream_at s.number b.streams ≡ Some s → StandAlone b.streams → StandAlone (stands_created b s header last).streams

abbrev pub DeliveriesLeaveAlone : Type 0
DeliveriesLeaveAlone = (b : Broadcasts) (s : Stream) (header : Header) (es : List Event) → stream_at s.number b.streams ≡ Some s → StandAlone b.streams → StandAlone (delivered_stream b s header es).streams

abbrev pub MergesLeaveAlone : Type 0
MergesLeaveAlone = (range : KeyRange) (b : Broadcasts) → StandAlone b.streams → StandAlone (merged range b).streams

abbrev pub CutsLeaveAlone : Type 0
CutsLeaveAlone = (b : Broadcasts) (s : Stream) → StandAlone b.streams → StandAlone (cut_stream b s).streams

abbrev pub CancellationsLeaveAlone : Type 0
CancellationsLeaveAlone = (b : Broadcasts) (s : Stream) (header : Header) (compact : ℕ) (last : Header) → StandAlone b.streams → StandAlone (cancelled_stream b s header compact last).streams

abbrev pub TakesLeaveAlone : Type 0
TakesLeaveAlone = (b : Broadcasts) (last : Header) (w : Watch) → StandAlone b.streams → StandAlone (taken_from b last w w.queue).0.streams

abbrev pub LeavingLeavesAlone : Type 0
LeavingLeavesAlone = (b : Broadcasts) (ticket : ℕ) → StandAlone b.streams → StandAlone (removed b ticket (watch_at ticket b.watches)).streams

abbrev pub SplitsLeaveAlone : Type 0
SplitsLeaveAlone = (b : Broadcasts) (ticket next : ℕ) → StandAlone b.streams → StandAlone (split_slow b ticket next (watch_at ticket b.watches)).streams

abbrev pub JobsLeaveAlone : Type 0
JobsLeaveAlone = (b : Broadcasts) → numbered 0 b.given b.streams ≡ true → StandAlone b.streams → StandAlone (next_job b (first_due b.streams)).0.streams
