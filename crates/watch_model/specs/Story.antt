-- Nothing is held back: what a watch was given and what stands in its queue, against all changes of its range.
use Rattle.std.specs.Prelude.{ℕ, ◌+◌, ◌≡◌, Bool, true, false, ◌&&◌, ◌==◌, if◌then◌else◌, nat_lt, nat_le, List, [], ◌∷◌, ◌++◌, map, filter, ◌≤◌, Option, Some, is_some, max}
use Rattle.etcd_types.specs.declared.key_range.KeyRange.{KeyRange}
use Rattle.etcd_types.specs.declared.request.WatchAsk.{WatchAsk}
use Rattle.etcd_types.specs.declared.watch.Change.{Change}
use Rattle.etcd_types.specs.declared.watch.Event.{Event}
use Rattle.etcd_types.specs.declared.watch.WatchItem.{WatchItem}
use Rattle.store_model.specs.Events.{change_revision, change_passes, events_after}
use Rattle.store_model.specs.History.{History}
use Rattle.watch_model.specs.Queues.{item_events, queued_events}
use Rattle.proxy_model.specs.Limits.{capped}
use Rattle.watch_model.specs.declared.place.WatchPlace.{WatchPlace}
use Rattle.watch_model.specs.declared.place.WatchPlace.TheVariants as place
use Rattle.watch_model.specs.Delivery.{last_revision}
use Rattle.watch_model.specs.State.{Stream, Watch, Broadcasts}
use Rattle.watch_model.specs.Lookups.{stream_at, next_of, place_stream, numbered}
use Rattle.watch_model.specs.Merging.{is_of}

abbrev pub is_between : ℕ → ℕ → Change → Bool
is_between from below c = nat_le from (change_revision c) && nat_lt (change_revision c) below

abbrev pub between : ℕ → ℕ → List Change → List Change
between from below cs = filter (is_between from below) cs

-- the revisions don't fall, from this on
abbrev pub rises : ℕ → List Change → Bool
rises from [] = true
rises from (c ∷ cs) = nat_le from (change_revision c) && rises (change_revision c) cs

abbrev pub changes : List Event → List Change
changes es = map (λ e. e.change) es

abbrev pub wanted : WatchAsk → List Change → List Change
wanted ask cs = filter (change_passes ask) cs

-- all changes of a range's keys, in order
abbrev pub Story : Type 0
Story = KeyRange → List Change

-- received (`got`) followed by queued is all of the range that its filters let through, from its start to below `next`
abbrev pub Kept : Story → List Event → Watch → ℕ → Type 0
Kept story got w next = changes (got ++ queued_events w.queue) ≡ wanted w.ask (between w.start next (story w.ask.range))

abbrev pub is_member : WatchPlace → Bool
is_member (place.In n) = true
is_member place.Split = false
is_member place.Ended = false

-- what holds of each watch, where `o` is the stream that it is a member of
pub record WatchOk (story : Story) (got : List Event) (o : Option Stream) (w : Watch) : Type 0 where
  pub member : is_some o ≡ is_member w.place
  pub range : (s : Stream) → o ≡ Some s → s.stream.range ≡ w.ask.range
  -- its start is decided exactly where its stream's next is
  pub decided : (s : Stream) → o ≡ Some s → (w.next == 0) ≡ (s.stream.next == 0)
  pub starts : w.start ≤ max w.next (next_of o)
  pub kept : Kept story got w (max w.next (next_of o))

-- what a watch's takers have, by ticket
abbrev pub Received : Type 0
Received = ℕ → List Event

abbrev pub EachWatch : (Watch → Type 0) → List Watch → Type 0
EachWatch P [] = Unit {0}
EachWatch P (w ∷ ws) = P w × EachWatch P ws

pub record Holds (story : Story) (got : Received) (b : Broadcasts) : Type 0 where
  pub numbers : numbered 0 b.given b.streams ≡ true
  pub watches : EachWatch (λ w. WatchOk story (got w.ticket) (place_stream b.streams w.place) w) b.watches

-- the changes of a story don't fall in revision
abbrev pub Rising : Story → Type 0
Rising story = (r : KeyRange) → rises 0 (story r) ≡ true

-- a batch that a stream tells: all changes of its range from its next to behind the last
abbrev pub Tells : Story → Stream → List Event → Type 0
Tells story s es = changes es ≡ between s.stream.next (capped (last_revision 0 es + 1)) (story s.stream.range)

-- a message without events tells that there is no change of its range from its next up to its revision
abbrev pub TellsNone : Story → Stream → ℕ → Type 0
TellsNone story s revision = between s.stream.next (capped (revision + 1)) (story s.stream.range) ≡ []

-- what the takers have after the item was taken
abbrev pub received : Received → ℕ → WatchItem → Received
received got ticket i t = if t == ticket then got t ++ item_events i else got t

-- no two streams of the range that stand created have equal next
abbrev pub NoTwins : KeyRange → List Stream → Type 0
NoTwins range ss = (j k : ℕ) (s t : Stream) → stream_at j ss ≡ Some s → stream_at k ss ≡ Some t → is_of range s ≡ true → is_of range t ≡ true → s.stream.next ≡ t.stream.next → j ≡ k

-- the story of a store's history
abbrev pub story_of : History → Story
story_of h range = changes (events_after range [] h)
