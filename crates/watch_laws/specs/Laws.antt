-- Nothing is held back: each step keeps that what a watch's taker has and what stands in its queue are all changes of its
-- range, that its filters let through, from its start to below its own next revision, each once and in order.
use Rattle.std.specs.Prelude.{ℕ, ◌≡◌, ◌==◌, false, List, [], ◌∷◌, map, Some, ◌≤◌, max, length}
use Rattle.etcd_types.specs.declared.key_range.KeyRange.{KeyRange}
use Rattle.etcd_types.specs.declared.record.Header.{Header}
use Rattle.etcd_types.specs.declared.request.WatchAsk.{WatchAsk}
use Rattle.etcd_types.specs.declared.watch.Event.{Event}
use Rattle.etcd_types.specs.declared.watch.WatchItem.{WatchItem}
use Rattle.store_model.specs.History.{History}
use Rattle.watch_model.specs.State.{Stream, Watch, Broadcasts}
use Rattle.watch_model.specs.Lookups.{stream_at, place_stream, with_stream, without_stream, member_changed}
use Rattle.watch_model.specs.Joining.{joined}
use Rattle.watch_model.specs.Merging.{merged, merged_stream}
use Rattle.watch_model.specs.Cuts.{reopened, left_over, left_as}
use Rattle.proxy_model.specs.Upstream.{created}
use Rattle.watch_model.specs.Queues.{events_in}
use Rattle.watch_model.specs.Delivery.{created_stream, created_watch, delivered_events, delivered_progress, queued}
use Rattle.watch_model.specs.Takes.{with_watch}
use Rattle.watch_model.specs.Story.{Story, Received, received, Rising, Tells, TellsNone, WatchOk, Holds, NoTwins, story_of}

abbrev pub JoinHoldsNothingBack : Type 0
JoinHoldsNothingBack =
    (story : Story) (got : Received) (b : Broadcasts) (ticket : ℕ) (ask : WatchAsk) (last : Header) → got ticket ≡ [] → Holds story got b → Holds story got (joined b ticket ask last)

abbrev pub BatchHoldsNothingBack : Type 0
BatchHoldsNothingBack =
    (story : Story) (got : Received) (b : Broadcasts) (s : Stream) (header : Header) (es : List Event)
    → Rising story → (s.stream.next == 0) ≡ false → stream_at s.number b.streams ≡ Some s → Tells story s es → Holds story got b → Holds story got (delivered_events b s header es)

abbrev pub ProgressHoldsNothingBack : Type 0
ProgressHoldsNothingBack =
    (story : Story) (got : Received) (b : Broadcasts) (s : Stream) (header : Header)
    → Rising story → (s.stream.next == 0) ≡ false → stream_at s.number b.streams ≡ Some s → TellsNone story s header.revision → Holds story got b → Holds story got (delivered_progress b s header)

abbrev pub MergeHoldsNothingBack : Type 0
MergeHoldsNothingBack = (story : Story) (got : Received) (range : KeyRange) (b : Broadcasts) → Holds story got b → Holds story got (merged range b)

abbrev pub CutHoldsNothingBack : Type 0
CutHoldsNothingBack = (story : Story) (got : Received) (b : Broadcasts) (s : Stream) → stream_at s.number b.streams ≡ Some s → Holds story got b → Holds story got (reopened b s)

abbrev pub CancellationHoldsNothingBack : Type 0
CancellationHoldsNothingBack =
    (story : Story) (got : Received) (b : Broadcasts) (s : Stream) (header : Header) (compact : ℕ) (last : Header) → stream_at s.number b.streams ≡ Some s → Holds story got b
    → Holds story got (left_as b (left_over s.number s.stream.next header compact b.step last (without_stream s.number b.streams) b.given b.watches))

abbrev pub TakeHoldsNothingBack : Type 0
TakeHoldsNothingBack =
    (story : Story) (got : Received) (b : Broadcasts) (w : Watch) (i : WatchItem) (is : List WatchItem) → w.queue ≡ i ∷ is → WatchOk story (got w.ticket) (place_stream b.streams w.place) w → Holds story got b
    → Holds story (received got w.ticket i) (with_watch b (record w { queue = is }))

abbrev pub MergedStandAlone : Type 0
MergedStandAlone = (range : KeyRange) (ss : List Stream) (step : ℕ) → NoTwins range (map (merged_stream range ss step) ss)

abbrev pub HistoriesRise : Type 0
HistoriesRise = (h : History) → Rising (story_of h)

-- a created message decides the starts that it is awaited for, and holds nothing back
abbrev pub CreatedHoldsNothingBack : Type 0
CreatedHoldsNothingBack =
    (story : Story) (got : Received) (b : Broadcasts) (s : Stream) (last : Header) (revision : ℕ) → stream_at s.number b.streams ≡ Some s → Holds story got b
    → Holds story got (record b {
      streams = with_stream s.number (created_stream revision) b.streams;
      watches = map (member_changed s.number (created_watch (created s.stream revision).next last)) b.watches;
    })

-- of messages of at most so many events a queue has no more than 1,024, or than that many
abbrev pub QueuesAreBounded : Type 0
QueuesAreBounded =
    (header : Header) (own most : ℕ) (xs : List Event) (w : Watch) → length xs ≤ most → events_in w.queue ≤ max 1024 most → events_in (queued header own xs w).queue ≤ max 1024 most
