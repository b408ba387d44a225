-- What stands in a watch's queue: a message without events is true where it stands, a record before a change comes only where
-- it was asked for and is the one just before, and a queue is no longer than 1,024 events or one message.
use Rattle.std.specs.Prelude.{ℕ, ◌+◌, ◌≤◌, ◌≡◌, ◌==◌, Bool, true, false, max, List, [], ◌∷◌, ◌++◌, length, None, Some}
use Rattle.std.specs.List.{All, Contains}
use Rattle.etcd_types.specs.declared.key_range.KeyRange.{KeyRange}
use Rattle.etcd_types.specs.declared.record.Header.{Header}
use Rattle.etcd_types.specs.declared.record.Kv.{Kv}
use Rattle.etcd_types.specs.declared.request.WatchAsk.{WatchAsk}
use Rattle.etcd_types.specs.declared.watch.Change.{Change}
use Rattle.etcd_types.specs.declared.watch.Event.{Event}
use Rattle.etcd_types.specs.declared.watch.WatchItem.{WatchItem}
use Rattle.etcd_types.specs.declared.watch.WatchItem.TheVariants as item
use Rattle.store_model.specs.History.{History}
use Rattle.store_model.specs.Events.{events_after, watch_events}
use Rattle.watch_model.specs.State.{Stream, Watch, Broadcasts}
use Rattle.watch_model.specs.Queues.{item_events, queued_events, events_in}
use Rattle.watch_model.specs.Lookups.{stream_at, watch_at, own_next, tickets_from}
use Rattle.watch_model.specs.Joining.{joined}
use Rattle.watch_model.specs.Merging.{merged}
use Rattle.watch_model.specs.Delivery.{delivered_stream, stands_created}
use Rattle.watch_model.specs.Cuts.{cut_stream, cancelled_stream}
use Rattle.watch_model.specs.Splitting.{split_slow}
use Rattle.watch_model.specs.Leaving.{removed}
use Rattle.watch_model.specs.Takes.{taken_from}
use Rattle.watch_model.specs.Due.{first_due, next_job}
use Rattle.watch_model.specs.Story.{Story, Received, between, changes, wanted, EachWatch, Holds, story_of}
use Rattle.watch_laws.specs.Calls.{TellsMessage, received_if}

-- of a watch with this start and next, where `got` is all that its taker has when it takes the item: a message without
-- events tells that these are all changes up to its revision
abbrev pub IsTrue : Story → WatchAsk → ℕ → ℕ → List Event → WatchItem → Type 0
IsTrue story ask start next got (item.Events header []) = ((next == 0) ≡ false) × (changes got ≡ wanted ask (between start (header.revision + 1) (story ask.range)))
IsTrue story ask start next got (item.Events header (e ∷ es)) = Unit {0}
IsTrue story ask start next got (item.Created header) = Unit {0}
IsTrue story ask start next got (item.Canceled header compact) = Unit {0}

abbrev pub AreTrue : Story → WatchAsk → ℕ → ℕ → List Event → List WatchItem → Type 0
AreTrue story ask start next got [] = Unit {0}
AreTrue story ask start next got (i ∷ is) = IsTrue story ask start next got i × AreTrue story ask start next (got ++ item_events i) is

-- in the history the key's record just before the change is this one
abbrev pub IsBefore : History → Change → Kv → Type 0
IsBefore h c kv = (range : KeyRange) × Contains (events_after range [] h) (record { change = c; prev = Some kv })

pub record IsShown (h : History) (wants : Bool) (e : Event) : Type 0 where
  pub before : (kv : Kv) → e.prev ≡ Some kv → IsBefore h e.change kv
  pub asked : wants ≡ false → e.prev ≡ None

-- of a watch, where its taker has `got`, and no message has more than `most` events
pub record ItemsOk (h : History) (most : ℕ) (got : List Event) (w : Watch) : Type 0 where
  pub progress : AreTrue (story_of h) w.ask w.start w.next got w.queue
  pub shown : All (IsShown h w.ask.prev_kv) (got ++ queued_events w.queue)
  pub bounded : events_in w.queue ≤ max 1024 most

abbrev pub ItemsHold : History → ℕ → Received → Broadcasts → Type 0
ItemsHold h most got b = EachWatch (λ w. ItemsOk h most (got w.ticket) w) b.watches

-- a message of a stream, of which any member may be given the records before
pub record IsMessage (h : History) (most : ℕ) (s : Stream) (header : Header) (es : List Event) : Type 0 where
  pub tells : TellsMessage (story_of h) s header es
  pub fits : header.revision + 1 ≤ 0xffff_ffff_ffff_ffff
  pub shown : All (IsShown h true) es
  pub bounded : length es ≤ most

abbrev pub JoinsKeepItems : Type 0
JoinsKeepItems = (h : History) (most : ℕ) (got : Received) (b : Broadcasts) (ticket : ℕ) (ask : WatchAsk) (last : Header) → got ticket ≡ [] → ItemsHold h most got b → ItemsHold h most got (joined b ticket ask last)

abbrev pub CreationsKeepItems : Type 0
CreationsKeepItems = (h : History) (most : ℕ) (got : Received) (b : Broadcasts) (s : Stream) (header last : Header) → ItemsHold h most got b → ItemsHold h most got (stands_created b s header last)

abbrev pub DeliveriesKeepItems : Type 0
DeliveriesKeepItems =
    (h : History) (most : ℕ) (got : Received) (b : Broadcasts) (s : Stream) (header : Header) (es : List Event)
    → stream_at s.number b.streams ≡ Some s → IsMessage h most s header es → Holds (story_of h) got b → ItemsHold h most got b → ItemsHold h most got (delivered_stream b s header es)

abbrev pub MergesKeepItems : Type 0
MergesKeepItems = (h : History) (most : ℕ) (got : Received) (range : KeyRange) (b : Broadcasts) → ItemsHold h most got b → ItemsHold h most got (merged range b)

abbrev pub CutsKeepItems : Type 0
CutsKeepItems = (h : History) (most : ℕ) (got : Received) (b : Broadcasts) (s : Stream) → ItemsHold h most got b → ItemsHold h most got (cut_stream b s)

abbrev pub CancellationsKeepItems : Type 0
CancellationsKeepItems =
    (h : History) (most : ℕ) (got : Received) (b : Broadcasts) (s : Stream) (header : Header) (compact : ℕ) (last : Header) → ItemsHold h most got b → ItemsHold h most got (cancelled_stream b s header compact last)

abbrev pub TakesKeepItems : Type 0
TakesKeepItems =
    (h : History) (most : ℕ) (got : Received) (b : Broadcasts) (last : Header) (w : Watch) → watch_at w.ticket b.watches ≡ Some w → ItemsHold h most got b
    → ItemsHold h most (received_if got w.ticket (taken_from b last w w.queue).1) (taken_from b last w w.queue).0

abbrev pub LeavingKeepsItems : Type 0
LeavingKeepsItems = (h : History) (most : ℕ) (got : Received) (b : Broadcasts) (ticket : ℕ) → ItemsHold h most got b → ItemsHold h most got (removed b ticket (watch_at ticket b.watches))

-- a watch is split off at its own next
abbrev pub SplitsKeepItems : Type 0
SplitsKeepItems =
    (h : History) (most : ℕ) (got : Received) (b : Broadcasts) (w : Watch) → tickets_from 0 b.watches ≡ true → watch_at w.ticket b.watches ≡ Some w → ItemsHold h most got b
    → ItemsHold h most got (split_slow b w.ticket (own_next b.streams w) (Some w))

abbrev pub JobsKeepItems : Type 0
JobsKeepItems = (h : History) (most : ℕ) (got : Received) (b : Broadcasts) → ItemsHold h most got b → ItemsHold h most got (next_job b (first_due b.streams)).0

-- what a store pushes of a history shows records before as they were, in each history that goes on from there
abbrev pub PushesAreShown : Type 0
PushesAreShown = (h more : History) (compacted : ℕ) (ask : WatchAsk) (from : ℕ) → All (IsShown (h ++ more) ask.prev_kv) (watch_events h compacted ask from)
