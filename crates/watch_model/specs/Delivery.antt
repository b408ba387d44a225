-- Delivery of a stream's messages to its members, and the splitting off of slow ones.
use Rattle.std.specs.Prelude.{ℕ, ◌+◌, Bool, true, not, ◌&&◌, ◌==◌, nat_le, max, if◌then◌else◌, List, [], ◌∷◌, ◌++◌, map, length, Option, None, Some}
use Rattle.etcd_types.specs.declared.key_range.KeyRange.{KeyRange}
use Rattle.etcd_types.specs.declared.record.Header.{Header}
use Rattle.etcd_types.specs.declared.request.WatchAsk.{WatchAsk}
use Rattle.etcd_types.specs.declared.watch.Change.{Change}
use Rattle.etcd_types.specs.declared.watch.Change.TheVariants as event
use Rattle.etcd_types.specs.declared.watch.Event.{Event}
use Rattle.etcd_types.specs.declared.watch.WatchItem.TheVariants as item
use Rattle.etcd_types.specs.Ranges.{contains}
use Rattle.store_model.specs.Events.{event_revision}
use Rattle.proxy_model.specs.Upstream.{created, advance}
use Rattle.watch_model.specs.Queues.{is_nil, chosen, would_pass, with_progress}
use Rattle.watch_model.specs.declared.place.WatchPlace.TheVariants as place
use Rattle.watch_model.specs.State.{Stream, Watch, Broadcasts}
use Rattle.watch_model.specs.Lookups.{stream_at, with_stream, member_changed, is_begun}
use Rattle.watch_model.specs.Joining.{decided, told}
use Rattle.watch_model.specs.Merging.{merged}
use Rattle.watch_model.specs.Splitting.{emptied}
use Rattle.watch_model.specs.Cuts.{cut_stream}

abbrev pub changed_key : Change → List ℕ
changed_key (event.Put kv) = kv.key
changed_key (event.Delete key modified) = key

-- its revisions don't fall, from this on, and its keys are in the range
abbrev pub is_batch : KeyRange → ℕ → List Event → Bool
is_batch range from [] = true
is_batch range from (e ∷ es) = nat_le from (event_revision e) && contains range (changed_key e.change) && is_batch range (event_revision e) es

abbrev pub last_revision : ℕ → List Event → ℕ
last_revision r [] = r
last_revision r (e ∷ es) = last_revision (event_revision e) es

-- the record before comes only where it was asked for
abbrev pub shown_event : Bool → Event → Event
shown_event asked e = if asked then e else record e { prev = None }

abbrev pub shown_events : WatchAsk → List Event → List Event
shown_events ask es = map (shown_event ask.prev_kv) es

-- what is chosen is queued, or the watch is split off with its own next
abbrev pub queued : Header → ℕ → List Event → Watch → Watch
queued header own [] w = w
queued header own (e ∷ es) w =
    if would_pass w.queue (length (e ∷ es)) then record w { next = own; place = place.Split }
    else record w { queue = w.queue ++ item.Events header (e ∷ es) ∷ [] }

abbrev pub given_batch : ℕ → Header → List Event → Watch → Watch
given_batch next header es w = queued header (max w.next next) (shown_events w.ask (chosen w.ask (max w.next next) es)) w

abbrev pub advanced : ℕ → Stream → Stream
advanced last s = record s { stream = advance s.stream last }

-- the batch of the stream of this number and next
abbrev pub given_events : Broadcasts → ℕ → ℕ → Header → List Event → Broadcasts
given_events b n next header es =
    emptied n (record b {
      streams = with_stream n (advanced (last_revision 0 es)) b.streams;
      watches = map (member_changed n (given_batch next header es)) b.watches;
    })

abbrev pub delivered_events : Broadcasts → Stream → Header → List Event → Broadcasts
delivered_events b s header es = given_events b s.number s.stream.next header es

-- a message without events tells that the watch has come so far
abbrev pub progressed : ℕ → Header → Watch → Watch
progressed next header w =
    if w.ask.progress && nat_le (max w.next next) (header.revision + 1) then record w { queue = with_progress w.queue (item.Events header []) } else w

abbrev pub given_progress : Broadcasts → ℕ → ℕ → Header → Broadcasts
given_progress b n next header =
    if nat_le next (header.revision + 1) then record b {
      streams = with_stream n (advanced header.revision) b.streams;
      watches = map (member_changed n (progressed next header)) b.watches;
    } else b

-- a message without events of a revision before the stream's next does nothing
abbrev pub delivered_progress : Broadcasts → Stream → Header → Broadcasts
delivered_progress b s header = given_progress b s.number s.stream.next header

abbrev pub given_message : Broadcasts → ℕ → ℕ → Header → List Event → Broadcasts
given_message b n next header es = if is_nil es then given_progress b n next header else given_events b n next header es

abbrev pub delivered_message : Broadcasts → Stream → Header → List Event → Broadcasts
delivered_message b s header es = given_message b s.number s.stream.next header es

-- its next is known, and it is a batch behind it
abbrev pub is_told : Stream → List Event → Bool
is_told s es = not (s.stream.next == 0) && is_batch s.stream.range s.stream.next es

abbrev pub delivered_stream : Broadcasts → Stream → Header → List Event → Broadcasts
delivered_stream b s header es =
    if is_begun s.phase then if is_told s es then merged s.stream.range (delivered_message b s header es) else cut_stream b s
    else b

-- the created message
abbrev pub created_stream : ℕ → Stream → Stream
created_stream revision s = record s { stream = created s.stream revision }

abbrev pub created_watch : ℕ → Header → Watch → Watch
created_watch next last w = told last (decided next w)

-- its opening was sent, and its created message hasn't come
abbrev pub is_awaited : Stream → Bool
is_awaited s = is_begun s.phase && not s.stream.created

-- a created message is told to all members once; another on a stream that stands created does nothing
abbrev pub stands_created : Broadcasts → Stream → Header → Header → Broadcasts
stands_created b s header last =
    if is_awaited s then merged s.stream.range (record b {
      streams = with_stream s.number (created_stream header.revision) b.streams;
      watches = map (member_changed s.number (created_watch (created s.stream header.revision).next last)) b.watches;
    })
    else b

abbrev pub found_stream : Option Stream → (Stream → Broadcasts) → Option Broadcasts
found_stream None step = None
found_stream (Some s) step = Some (step s)

-- the step on the stream of this number, where there is one
abbrev pub on_stream : Broadcasts → ℕ → (Stream → Broadcasts) → Option Broadcasts
on_stream b n step = found_stream (stream_at n b.streams) step

unfoldable pub delivered : Broadcasts → ℕ → Header → List Event → Option Broadcasts
delivered b n header es = on_stream b n (λ s. delivered_stream b s header es)
