-- Whatever is done to watches keeps what stands in their queues fit.
use Rattle.std.proofs.Common.{ℕ, ◌+◌, ◌≤◌, Bool, true, false, not, ◌&&◌, ◌||◌, ◌==◌, List, [], ◌∷◌, length, map, max, Option, None, Some, arith}
use Rattle.std.specs.Prelude.{nat_lt, nat_le}
use Rattle.text_model.specs.Words.{max_number}
use Rattle.etcd_types.specs.declared.record.Header.{Header}
use Rattle.etcd_types.specs.declared.request.WatchAsk.{WatchAsk}
use Rattle.etcd_types.specs.declared.watch.Event.{Event}
use Rattle.etcd_types.specs.declared.watch.WatchItem.{WatchItem}
use Rattle.etcd_types.specs.declared.watch.WatchItem.TheVariants as item
use Rattle.proxy_model.specs.Upstream.{created}
use Rattle.watch_model.specs.declared.stream.StreamPhase.{StreamPhase}
use Rattle.watch_model.specs.declared.stream.StreamPhase.TheVariants as phase
use Rattle.watch_model.specs.declared.place.WatchPlace.{WatchPlace}
use Rattle.watch_model.specs.declared.place.WatchPlace.TheVariants as place
use Rattle.watch_model.specs.Cuts.{renumbered, reopened, cut_stream, ended, leaving, left_one, left_by, left_over, cancelled_stream}
use Rattle.watch_model.specs.Delivery.{shown_event, shown_events, queued, given_batch, given_events, progressed, given_progress, delivered_message, is_told, delivered_stream, created_stream, created_watch, is_awaited, stands_created}
use Rattle.watch_model.specs.Due.{sent}
use Rattle.watch_model.specs.Joining.{new_watch, stream_to_join, decided, created_header, told, told_if, seated_in, Seated, seated_at, seated, joined}
use Rattle.watch_model.specs.Leaving.{removed}
use Rattle.watch_model.specs.Lookups.{with_stream, without_stream, is_in, has_member, member_changed, watch_at, watch_changed, with_new_watch, is_closing, is_begun}
use Rattle.watch_model.specs.Merging.{merged_watch, merged}
use Rattle.watch_model.specs.Queues.{is_nil, would_pass, is_for, chosen, is_progress, with_progress}
use Rattle.watch_model.specs.Splitting.{emptied, left_place}
use Rattle.watch_model.specs.State.{Stream, Watch, Broadcasts}
use Rattle.watch_model.specs.Takes.{with_watch, is_last, after_take, taken_from}
use Rattle.text_laws.specs.Values.Fits.{AllOf, If, Number, HeaderFits, EventFits, EventsFit, MessageFits}
use Rattle.text_laws.proofs.Values.Alls.{either, all_push, all_map, all_filter, few_map, most_filter}
use Rattle.text_laws.specs.Sent.Sends.{StreamFits, BroadcastsFit}
use Rattle.text_laws.proofs.Sent.Watching.{Streams, Watches, created_fits, join_fits, left_by_fits, without_stream_fits}
use Rattle.text_laws.specs.Replied.Holds.{WatchHolds}

abbrev pub Queues : List Watch → Type 0
Queues ws = AllOf WatchHolds ws

abbrev pub QueuesIn : Broadcasts → Type 0
QueuesIn b = Queues b.watches

-- a message in a queue
abbrev Waits : WatchItem → Type 0
Waits x = MessageFits max_number x

members_hold : (n : ℕ) (f : Watch → Watch) (ws : List Watch) → ((w : Watch) → WatchHolds w → WatchHolds (f w)) → Queues ws → Queues (map (member_changed n f) ws)
members_hold n f ws g h = all_map WatchHolds WatchHolds (member_changed n f) (λ w k. either WatchHolds (is_in n w.place) (f w) w (g w k) k) ws h

watch_put : (w : Watch) (ws : List Watch) → WatchHolds w → Queues ws → Queues (with_new_watch w ws)
watch_put w [] f h = (f, tt)
watch_put w (v ∷ vs) f h = either Queues (nat_lt v.ticket w.ticket) (v ∷ with_new_watch w vs) (w ∷ v ∷ vs) (h.0, watch_put w vs f h.1) (f, h)

-- ---- joining

decided_holds : (next : ℕ) (w : Watch) → Number next → WatchHolds w → WatchHolds (decided next w)
decided_holds next w n h = either WatchHolds (w.next == 0) (record w { start = next; next = next }) w (record { start = n; queue = h.queue }) h

first_header : (last : Header) (w : Watch) → HeaderFits max_number last → WatchHolds w → HeaderFits max_number (created_header last w)
first_header last w f h =
    let s = h.start in
    either (HeaderFits max_number) (w.ask.start == 0) (record last { revision = _ }) last (record { cluster = f.cluster; member = f.member; revision = omega (arith, s); term = f.term }) f

told_holds : (last : Header) (w : Watch) → HeaderFits max_number last → WatchHolds w → WatchHolds (told last w)
told_holds last w f h = either WatchHolds w.told w _ h (record { start = h.start; queue = all_push Waits w.queue (item.Created (created_header last w)) h.queue (first_header last w f h) })

told_if_holds : (b : Bool) (last : Header) (w : Watch) → HeaderFits max_number last → WatchHolds w → WatchHolds (told_if b last w)
told_if_holds true last w f h = told_holds last w f h
told_if_holds false last w f h = h

seated_in_holds : (last : Header) (s : Stream) (w : Watch) → HeaderFits max_number last → StreamFits s → WatchHolds w → WatchHolds (seated_in last s w)
seated_in_holds last s w f k h =
    let d = decided_holds s.stream.next w k.next h in
    told_if_holds s.stream.created last (record (decided s.stream.next w) { place = place.In s.number }) f (record { start = d.start; queue = d.queue })

seated_at_holds : (ss : List Stream) (given step : ℕ) (last : Header) (w : Watch) (o : Option Stream) → HeaderFits max_number last → If StreamFits o → WatchHolds w → WatchHolds (seated_at ss given step last w o).watch
seated_at_holds ss given step last w (Some s) f k h = seated_in_holds last s w f k h
seated_at_holds ss given step last w None f k h = record { start = h.start; queue = h.queue }

seated_holds : (ss : List Stream) (given step : ℕ) (last : Header) (w : Watch) → HeaderFits max_number last → Streams ss → WatchHolds w → WatchHolds (seated ss given step last w).watch
seated_holds ss given step last w f k h =
    seated_at_holds ss given step last w (stream_to_join ss w.ask.range w.next last.revision) f (join_fits ss w.ask.range w.next last.revision k) h

pub joined_holds : (b : Broadcasts) (ticket : ℕ) (ask : WatchAsk) (last : Header) → HeaderFits max_number last → Number ask.start → BroadcastsFit b → QueuesIn b → QueuesIn (joined b ticket ask last)
joined_holds b ticket ask last f s k h =
    let x = seated b.streams b.given b.step last (new_watch ticket ask) in
    watch_put x.watch b.watches (seated_holds b.streams b.given b.step last (new_watch ticket ask) f k.streams (record { start = s; queue = tt })) h

-- ---- streams are emptied, merged and cut

emptied_holds : (n : ℕ) (b : Broadcasts) → QueuesIn b → QueuesIn (emptied n b)
emptied_holds n b h = either QueuesIn (has_member n b.watches) b _ h h

left_place_holds : (p : WatchPlace) (b : Broadcasts) → QueuesIn b → QueuesIn (left_place p b)
left_place_holds (place.In n) b h = emptied_holds n b h
left_place_holds place.Split b h = h
left_place_holds place.Ended b h = h

merged_holds : (range : _) (b : Broadcasts) → QueuesIn b → QueuesIn (merged range b)
merged_holds range b h = all_map WatchHolds WatchHolds (merged_watch range b.streams) (λ w k. record { start = k.start; queue = k.queue }) b.watches h

reopened_holds : (b : Broadcasts) (s : Stream) → QueuesIn b → QueuesIn (reopened b s)
reopened_holds b s h =
    all_map WatchHolds WatchHolds (renumbered s.number (b.given + 1)) (λ w k. either WatchHolds (is_in s.number w.place) _ w (record { start = k.start; queue = k.queue }) k) b.watches h

pub cut_holds : (b : Broadcasts) (s : Stream) → QueuesIn b → QueuesIn (cut_stream b s)
cut_holds b s h = either QueuesIn (is_closing s.phase) _ (reopened b s) h (reopened_holds b s h)

-- ---- cancellations

abbrev SeatHolds : Seated → Type 0
SeatHolds x = WatchHolds x.watch

left_one_holds : (header : Header) (compact step : ℕ) (last : Header) (ss : List Stream) (given : ℕ) (w : Watch) → HeaderFits max_number header → Number compact → HeaderFits max_number last → Streams ss → WatchHolds w
    → SeatHolds (left_one header compact step last ss given w)
left_one_holds header compact step last ss given w a c f k h =
    either SeatHolds (nat_lt w.next compact) (record { streams = ss; given = given; watch = ended header compact w }) (seated ss given step last w)
    (record { start = h.start; queue = all_push Waits w.queue (item.Canceled header compact) h.queue (a, c) }) (seated_holds ss given step last w f k h)

left_by_holds : (n next : ℕ) (header : Header) (compact step : ℕ) (last : Header) (ss : List Stream) (given : ℕ) (w : Watch) → HeaderFits max_number header → Number compact → HeaderFits max_number last → Streams ss → WatchHolds w
    → SeatHolds (left_by n next header compact step last ss given w)
left_by_holds n next header compact step last ss given w a c f k h =
    either SeatHolds (is_in n w.place) (left_one header compact step last ss given (leaving next w)) (record { streams = ss; given = given; watch = w })
    (left_one_holds header compact step last ss given (leaving next w) a c f k (record { start = h.start; queue = h.queue })) h

left_over_holds : (n next : ℕ) (header : Header) (compact step : ℕ) (last : Header) (ss : List Stream) (given : ℕ) (ws : List Watch) → HeaderFits max_number header → Number compact → HeaderFits max_number last → Number next → Streams ss → Watches ws
    → Queues ws → Queues (left_over n next header compact step last ss given ws).watches
left_over_holds n next header compact step last ss given [] a c f m k g h = tt
left_over_holds n next header compact step last ss given (w ∷ ws) a c f m k g h =
    let x = left_by n next header compact step last ss given w in
    let fit = left_by_fits n next header compact step last ss given w m k g.0 in
    (left_by_holds n next header compact step last ss given w a c f k h.0, left_over_holds n next header compact step last x.streams x.given ws a c f m fit.streams g.1 h.1)

pub cancelled_holds : (b : Broadcasts) (s : Stream) (header : Header) (compact : ℕ) (last : Header) → HeaderFits max_number header → Number compact → HeaderFits max_number last → StreamFits s → BroadcastsFit b → QueuesIn b
    → QueuesIn (cancelled_stream b s header compact last)
cancelled_holds b s header compact last a c f k g h =
    either QueuesIn (not (is_begun s.phase)) b _ h
    (either QueuesIn (compact == 0 || s.stream.next == 0) (cut_stream b s) _ (cut_holds b s h)
    (left_over_holds s.number s.stream.next header compact b.step last (without_stream s.number b.streams) b.given b.watches a c f k.next (without_stream_fits s.number b.streams g.streams) g.watches h))

-- ---- delivery

shown_holds : (ask : WatchAsk) (es : List Event) → EventsFit max_number es → EventsFit max_number (shown_events ask es)
shown_holds ask es h =
    (all_map (EventFits max_number) (EventFits max_number) (shown_event ask.prev_kv) (λ e k. either (EventFits max_number) ask.prev_kv e _ k (k.0, tt)) es h.0, few_map (shown_event ask.prev_kv) es h.1)

chosen_holds : (ask : WatchAsk) (from : ℕ) (es : List Event) → EventsFit max_number es → EventsFit max_number (chosen ask from es)
chosen_holds ask from es h = (all_filter (EventFits max_number) (is_for ask from) es h.0, most_filter max_number (is_for ask from) es h.1)

queued_holds : (header : Header) (own : ℕ) (es : List Event) (w : Watch) → HeaderFits max_number header → EventsFit max_number es → WatchHolds w → WatchHolds (queued header own es w)
queued_holds header own [] w a f h = h
queued_holds header own (e ∷ es) w a f h =
    either WatchHolds (would_pass w.queue (length (e ∷ es))) _ _ (record { start = h.start; queue = h.queue }) (record { start = h.start; queue = all_push Waits w.queue (item.Events header (e ∷ es)) h.queue (a, f) })

given_events_hold : (b : Broadcasts) (n next : ℕ) (header : Header) (es : List Event) → HeaderFits max_number header → EventsFit max_number es → QueuesIn b → QueuesIn (given_events b n next header es)
given_events_hold b n next header es a f h =
    emptied_holds n _
    (members_hold n (given_batch next header es) b.watches
    (λ w k. queued_holds header (max w.next next) (shown_events w.ask (chosen w.ask (max w.next next) es)) w a (shown_holds w.ask (chosen w.ask (max w.next next) es) (chosen_holds w.ask (max w.next next) es f)) k) h)

with_progress_holds : (is : List WatchItem) (p : WatchItem) → Waits p → AllOf Waits is → AllOf Waits (with_progress is p)
with_progress_holds [] p k h = (k, tt)
with_progress_holds (i ∷ []) p k h = either (AllOf Waits) (is_progress i) (p ∷ []) (i ∷ p ∷ []) (k, tt) (h.0, (k, tt))
with_progress_holds (i ∷ j ∷ is) p k h = (h.0, with_progress_holds (j ∷ is) p k h.1)

given_progress_holds : (b : Broadcasts) (n next : ℕ) (header : Header) → HeaderFits max_number header → QueuesIn b → QueuesIn (given_progress b n next header)
given_progress_holds b n next header a h =
    either QueuesIn (nat_le next (header.revision + 1)) _ b
    (members_hold n (progressed next header) b.watches
    (λ w k. either WatchHolds (w.ask.progress && nat_le (max w.next next) (header.revision + 1)) _ w (record { start = k.start; queue = with_progress_holds w.queue (item.Events header []) (a, (tt, omega arith)) k.queue }) k) h) h

message_holds : (b : Broadcasts) (s : Stream) (header : Header) (es : List Event) → HeaderFits max_number header → EventsFit max_number es → QueuesIn b → QueuesIn (delivered_message b s header es)
message_holds b s header es a f h =
    either QueuesIn (is_nil es) (given_progress b s.number s.stream.next header) (given_events b s.number s.stream.next header es)
    (given_progress_holds b s.number s.stream.next header a h) (given_events_hold b s.number s.stream.next header es a f h)

pub delivered_holds : (b : Broadcasts) (s : Stream) (header : Header) (es : List Event) → HeaderFits max_number header → EventsFit max_number es → QueuesIn b → QueuesIn (delivered_stream b s header es)
delivered_holds b s header es a f h =
    either QueuesIn (is_begun s.phase) _ b
    (either QueuesIn (is_told s es) (merged s.stream.range (delivered_message b s header es)) (cut_stream b s)
    (merged_holds s.stream.range (delivered_message b s header es) (message_holds b s header es a f h)) (cut_holds b s h)) h

pub created_holds : (heard : ℕ) (b : Broadcasts) (s : Stream) (header last : Header) → heard + 1 ≤ max_number → header.revision ≤ heard → HeaderFits max_number last → StreamFits s → QueuesIn b → QueuesIn (stands_created b s header last)
created_holds heard b s header last l r f k h =
    let u = created_fits heard s.stream header.revision l r k in
    let d = record b {
      streams = with_stream s.number (created_stream header.revision) b.streams;
      watches = map (member_changed s.number (created_watch (created s.stream header.revision).next last)) b.watches;
    } in
    either QueuesIn (is_awaited s) (merged s.stream.range d) b
    (merged_holds s.stream.range d
    (members_hold s.number (created_watch (created s.stream header.revision).next last) b.watches
    (λ w g. told_holds last (decided (created s.stream header.revision).next w) f (decided_holds (created s.stream header.revision).next w u.next g)) h)) h

-- ---- takes, leaving and due streams

with_watch_holds : (b : Broadcasts) (w : Watch) → WatchHolds w → QueuesIn b → QueuesIn (with_watch b w)
with_watch_holds b w f h = all_map WatchHolds WatchHolds (watch_changed w.ticket (λ v. w)) (λ v k. either WatchHolds (v.ticket == w.ticket) w v f k) b.watches h

after_take_holds : (b : Broadcasts) (last : Header) (w : Watch) (is : List WatchItem) (p : WatchPlace) → HeaderFits max_number last → BroadcastsFit b → WatchHolds w → QueuesIn b → QueuesIn (after_take b last w is p)
after_take_holds b last w [] place.Split f k g h =
    let x = seated b.streams b.given b.step last w in
    with_watch_holds (record b { streams = x.streams; given = x.given }) x.watch (seated_holds b.streams b.given b.step last w f k.streams g) h
after_take_holds b last w [] (place.In n) f k g h = with_watch_holds b w g h
after_take_holds b last w [] place.Ended f k g h = with_watch_holds b w g h
after_take_holds b last w (i ∷ is) p f k g h = with_watch_holds b w g h

pub record TakenHolds (x : Broadcasts × Option WatchItem) : Type 0 where
  pub queues : QueuesIn x.0
  pub item : If (MessageFits max_number) x.1

pub taken_from_holds : (b : Broadcasts) (last : Header) (w : Watch) (queue : List WatchItem) → HeaderFits max_number last → BroadcastsFit b → WatchHolds w → AllOf (MessageFits max_number) queue → QueuesIn b → TakenHolds (taken_from b last w queue)
taken_from_holds b last w [] f k g q h = record { queues = h; item = tt }
taken_from_holds b last w (i ∷ is) f k g q h = record {
  queues =
      either QueuesIn (is_last i) _ (after_take b last (record w { queue = is }) is w.place) (all_filter WatchHolds (λ v. not (v.ticket == w.ticket)) b.watches h)
      (after_take_holds b last (record w { queue = is }) is w.place f k (record { start = g.start; queue = q.1 }) h);
  item = q.0;
}

pub removed_holds : (b : Broadcasts) (ticket : ℕ) (o : Option Watch) → QueuesIn b → QueuesIn (removed b ticket o)
removed_holds b ticket None h = h
removed_holds b ticket (Some w) h = left_place_holds w.place _ (all_filter WatchHolds (λ v. not (v.ticket == ticket)) b.watches h)

pub sent_holds : (b : Broadcasts) (s : Stream) (p : StreamPhase) → QueuesIn b → QueuesIn (sent b s p).0
sent_holds b s (phase.Closing since) h = h
sent_holds b s (phase.Due since) h = h
sent_holds b s phase.Begun h = h

pub queue_found : (t : ℕ) (ws : List Watch) → Queues ws → If WatchHolds (watch_at t ws)
queue_found t [] h = tt
queue_found t (w ∷ ws) h = either (If WatchHolds) (w.ticket == t) (Some w) (watch_at t ws) h.0 (queue_found t ws h.1)
