-- The story of a watch, by a transcript's items alone: of which streams it was a member, what they brought to it, and its next revision.
use Rattle.std.specs.Prelude.{◌≡◌, ◌<◌, ◌≤◌, ℕ, ◌+◌, Bool, true, false, ◌==◌, max, if◌then◌else◌, List, [], ◌∷◌, ◌++◌, Some, Ok}
use Rattle.etcd_types.specs.declared.record.Header.{Header}
use Rattle.etcd_types.specs.declared.request.Request.TheVariants as request
use Rattle.etcd_types.specs.declared.request.WatchAsk.{WatchAsk}
use Rattle.etcd_types.specs.declared.watch.Event.{Event}
use Rattle.etcd_types.specs.declared.watch.WatchItem.{WatchItem}
use Rattle.etcd_types.specs.declared.watch.WatchItem.TheVariants.{Created, Events, Canceled}
use Rattle.proxy_model.specs.Prefixes.{under}
use Rattle.proxy_model.specs.Unwrapped.{events_without}
use Rattle.script_text.specs.declared.item.Item.{Item}
use Rattle.script_text.specs.declared.item.Item.TheVariants as item
use Rattle.store_model.specs.History.{newest}
use Rattle.watch_model.specs.Delivery.{shown_events}
use Rattle.watch_model.specs.Joining.{watched_range}
use Rattle.watch_model.specs.Queues.{is_nil, chosen, queued_events}
use Rattle.world_model.specs.Answers.{seen}
use Rattle.world_model.specs.Lives.{begins, life, namespace_of, asked_as, is_stream_of, next_message}
use Rattle.world_model.specs.Received.{taken_for}
use Rattle.watch_stories.specs.Streams.{opened_as, delivered_of, stream_next, breaks}

-- Where a watch stands.
pub data Spot : Type 0 where
  -- it is to join a stream, in this very step
  joins : Spot
  -- it waits for a stream that is to be opened
  waits : Spot
  -- a member of the stream of this number
  member : ℕ → Spot
  -- it was split off from its stream, until its taker has taken what there is
  apart : Spot
  -- it was given this cancellation
  over : Header → ℕ → Spot

pub record Point : Type 0 where
  -- the revision from which it is to have the events, and its next revision; 0 as long as they aren't decided
  pub start : ℕ
  pub next : ℕ
  -- it was a member of a stream that stood created
  pub told : Bool
  -- all events that its streams gave to it
  pub given : List Event
  pub spot : Spot

abbrev pub first_point : WatchAsk → Point
first_point ask = record { start = ask.start; next = ask.start; told = false; given = []; spot = joins }

abbrev pub at_spot : Spot → Point → Point
at_spot s x = record x { spot = s }

-- Its next revision is the greater of what it was and its stream's next, while it is a member. A start that was left open is its next
-- revision, once there is one.
abbrev pub brought : ℕ → Point → Point
brought next x = record x { start = if x.start == 0 then max x.next next else x.start; next = max x.next next }

-- a start that was left open is decided by this step, at most as the revision behind the newest
abbrev pub MayStart : List Item → Point → ℕ → Type 0
MayStart items x next = (x.next == 0) ≡ true → next ≤ newest (seen items).store.history + 1

-- a stream of this proxy's life, over the watch's range, for all its events with the records before
pub record IsOver (namespace : List ℕ) (p : ℕ) (ask : WatchAsk) (items : List Item) (n : ℕ) : Type 0 where
  pub opened : WatchAsk
  pub by : opened_as p n (life p items) ≡ Some opened
  pub range : opened.range ≡ under namespace (watched_range ask.range)

-- A message is delivered on its stream, which has this next revision behind it.
pub data Hears (namespace : List ℕ) (ask : WatchAsk) (items : List Item) (before behind : ℕ) (x : Point) : WatchItem → Point → Type 0 where
  creates : (h : Header) → MayStart items x behind → Hears namespace ask items before behind x (Created h) (brought behind x)
  -- it is given what it asked for of the batch, from its own next on
  gives : (h : Header) (es us : List Event) → events_without namespace es ≡ Ok us
      → Hears namespace ask items before behind x (Events h es) (record (brought behind x) { given = x.given ++ shown_events ask (chosen ask x.next us) })
  -- a slow watch is split off with its own next from before the batch, where that has anything for it
  splits : (h : Header) (es us : List Event) → events_without namespace es ≡ Ok us → is_nil (chosen ask x.next us) ≡ false → Hears namespace ask items before behind x (Events h es) (at_spot apart x)
  -- a cancellation ends it where its own next is below the compaction, and else it joins again
  ends : (h : Header) (compaction : ℕ) → x.next < compaction → Hears namespace ask items before behind x (Canceled h compaction) (at_spot (over h compaction) x)
  leaves : (h : Header) (compaction : ℕ) → compaction ≤ x.next → Hears namespace ask items before behind x (Canceled h compaction) (at_spot joins x)
  -- the stream is opened again
  breaks_off : (i : WatchItem) → breaks namespace (watched_range ask.range) before i ≡ true → Hears namespace ask items before behind x i (at_spot waits x)

abbrev pub is_joining : Spot → Bool
is_joining joins = true
is_joining s = false

abbrev pub is_member : ℕ → Spot → Bool
is_member n (member m) = n == m
is_member n s = false

-- the item is a message or a cut of the stream that the watch is a member of
abbrev pub concerns : Item → Spot → Bool
concerns (item.Delivered n) s = is_member n s
concerns (item.Cut n) s = is_member n s
concerns i s = false

-- How it goes on with the item `i`, where `now` are the items up to it.
pub data Goes (namespace : List ℕ) (p ticket : ℕ) (ask : WatchAsk) (items now : List Item) (x : Point) : Item → Point → Type 0 where
  rests : (i : Item) → is_joining x.spot ≡ false → concerns i x.spot ≡ false → Goes namespace p ticket ask items now x i x
  hears : (n : ℕ) (message : WatchItem) (y : Point) → x.spot ≡ member n → next_message n items ≡ Some message
      → Hears namespace ask now (stream_next p n items) (stream_next p n now) x message y → Goes namespace p ticket ask items now x (item.Delivered n) y
  cuts : (n : ℕ) → x.spot ≡ member n → Goes namespace p ticket ask items now x (item.Cut n) (at_spot waits x)
  -- the stream for which it waits is opened, from its own next or before
  opens : (i : Item) (n : ℕ) → x.spot ≡ waits → is_stream_of p n i ≡ true → IsOver namespace p ask now n → stream_next p n now ≤ x.next → Goes namespace p ticket ask items now x i (at_spot (member n) x)
  -- a watch that was split off joins again with a take
  takes : (message : WatchItem) → x.spot ≡ apart → Goes namespace p ticket ask items now x (item.Taken p ticket message) (at_spot joins x)

-- its story up to behind these items
pub data Story (namespace : List ℕ) (p ticket : ℕ) (ask : WatchAsk) : List Item → Point → Type 0 where
  asks : (items : List Item) → Story namespace p ticket ask (items ++ item.Asked p ticket (request.Watch ask) ∷ []) (first_point ask)
  goes : (items : List Item) (i : Item) (x y : Point) → Story namespace p ticket ask items x → begins p i ≡ false → Goes namespace p ticket ask items (items ++ i ∷ []) x i y
      → Story namespace p ticket ask (items ++ i ∷ []) y
  -- it joins a stream that isn't ahead of it; that one's next is its start, where none was asked for
  seats : (items : List Item) (n : ℕ) (x : Point) → Story namespace p ticket ask items x → x.spot ≡ joins → IsOver namespace p ask items n
      → ((x.next == 0) ≡ false → stream_next p n items ≤ x.next) → MayStart items x (stream_next p n items)
      → Story namespace p ticket ask items (at_spot (member n) (brought (stream_next p n items) x))
  -- or one that is to be opened, from this revision
  expects : (items : List Item) (next : ℕ) (x : Point) → Story namespace p ticket ask items x → x.spot ≡ joins → ((x.next == 0) ≡ false → next ≤ x.next) → MayStart items x next
      → Story namespace p ticket ask items (at_spot waits (brought next x))
  -- streams of one range with equal next become one
  merges : (items : List Item) (n m : ℕ) (x : Point) → Story namespace p ticket ask items x → x.spot ≡ member n → IsOver namespace p ask items m → stream_next p m items ≡ stream_next p n items
      → Story namespace p ticket ask items (at_spot (member m) x)
  stands : (items : List Item) (n : ℕ) (x : Point) → Story namespace p ticket ask items x → x.spot ≡ member n → is_nil (delivered_of n items) ≡ false
      → Story namespace p ticket ask items (record x { told = true })

-- What a message that is taken tells of it: the created message of a watch whose start was left open shows that, and a cancellation is
-- the one that ended it.
abbrev pub Shows : WatchAsk → Point → WatchItem → Type 0
Shows ask x (Created h) = (ask.start == 0) ≡ true → h.revision + 1 ≡ x.start
Shows ask x (Events h es) = Unit {0}
Shows ask x (Canceled h compaction) = x.spot ≡ over h compaction

-- a message is taken behind these items
pub record IsOfAStory (namespace : List ℕ) (p ticket : ℕ) (items : List Item) (message : WatchItem) : Type 0 where
  pub ask : WatchAsk
  pub asked : asked_as p ticket (life p items) ≡ Some (request.Watch ask)
  pub point : Point
  pub story : Story namespace p ticket ask items point
  pub told : point.told ≡ true
  -- what was taken is a front of what its streams gave to it
  pub rest : List Event
  pub given : point.given ≡ queued_events (taken_for p ticket (life p items) ++ message ∷ []) ++ rest
  pub shows : Shows ask point message

-- each message that is taken
abbrev pub TakenAreOfStories : List Item → Type 0
TakenAreOfStories items =
    (before after : List Item) (p ticket : ℕ) (message : WatchItem) → items ≡ before ++ item.Taken p ticket message ∷ after
    → IsOfAStory (namespace_of items) p ticket before message
