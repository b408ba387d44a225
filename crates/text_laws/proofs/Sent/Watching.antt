-- Whatever is done to streams and watches keeps their ranges and their next revisions fit.
use Rattle.std.proofs.Common.{ℕ, ◌+◌, ◌≤◌, Bool, true, false, not, cond, ◌&&◌, ◌||◌, ◌==◌, List, [], ◌∷◌, map, max, Option, None, Some, arith}
use Rattle.std.specs.Prelude.{nat_lt, nat_le}
use Rattle.text_model.specs.Words.{max_number}
use Rattle.etcd_types.specs.Keys.{is_empty}
use Rattle.etcd_types.specs.declared.key_range.KeyRange.{KeyRange}
use Rattle.etcd_types.specs.declared.record.Header.{Header}
use Rattle.etcd_types.specs.declared.request.WatchAsk.{WatchAsk}
use Rattle.etcd_types.specs.declared.watch.Event.{Event}
use Rattle.etcd_types.specs.declared.watch.Change.{Change}
use Rattle.etcd_types.specs.declared.watch.Change.TheVariants as change
use Rattle.etcd_types.specs.declared.watch.WatchItem.{WatchItem}
use Rattle.store_model.specs.Events.{change_revision, event_revision}
use Rattle.proxy_model.specs.Limits.{capped}
use Rattle.proxy_model.specs.Upstream.{Upstream, created, advance}
use Rattle.watch_model.specs.declared.stream.StreamPhase.{StreamPhase}
use Rattle.watch_model.specs.declared.stream.StreamPhase.TheVariants as phase
use Rattle.watch_model.specs.declared.place.WatchPlace.{WatchPlace}
use Rattle.watch_model.specs.declared.place.WatchPlace.TheVariants as place
use Rattle.watch_model.specs.Cuts.{renumbered, reopened, cut_stream, Left, ended, leaving, left_one, left_by, goes_on, left_over, cancelled_stream}
use Rattle.watch_model.specs.Delivery.{last_revision, shown_events, queued, given_batch, advanced, given_events, progressed, given_progress, delivered_message, is_told, delivered_stream, created_stream, created_watch, is_awaited, stands_created}
use Rattle.watch_model.specs.Due.{begun, sent}
use Rattle.watch_model.specs.Joining.{watched_range, new_watch, is_joinable, better, best_of, is_opening_from_now, opening_from_now, or_else, stream_to_join, decided, told, told_if, seated_in, new_stream, Seated, seated_at, seated, joined}
use Rattle.watch_model.specs.Leaving.{removed}
use Rattle.watch_model.specs.Lookups.{stream_at, changed_stream, with_stream, is_other, without_stream, is_in, has_member, member_changed, watch_at, watch_changed, with_new_watch, is_closing, is_due, is_begun}
use Rattle.watch_model.specs.Merging.{kept_by, merged_stream, merged_watch, merged}
use Rattle.watch_model.specs.Queues.{is_nil, would_pass, chosen}
use Rattle.watch_model.specs.Splitting.{closed, emptied_as, emptied, left_place}
use Rattle.watch_model.specs.State.{Stream, Watch, Broadcasts}
use Rattle.watch_model.specs.Takes.{with_watch, is_last, after_take, taken_from}
use Rattle.text_laws.specs.Values.Fits.{AllOf, If, Number, RangeFits, HeaderFits, EventFits, ChangeFits}
use Rattle.text_laws.proofs.Values.Alls.{either, all_push, all_map, all_filter}
use Rattle.text_laws.specs.Sent.Sends.{UpstreamFits, StreamFits, WatchFits, BroadcastsFit}

-- ---- lists of streams and watches

abbrev pub Streams : List Stream → Type 0
Streams ss = AllOf StreamFits ss

abbrev pub Watches : List Watch → Type 0
Watches ws = AllOf WatchFits ws

with_stream_fits : (n : ℕ) (f : Stream → Stream) (ss : List Stream) → ((s : Stream) → StreamFits s → StreamFits (f s)) → Streams ss → Streams (with_stream n f ss)
with_stream_fits n f ss g h = all_map StreamFits StreamFits (changed_stream n f) (λ s k. either StreamFits (s.number == n) (f s) s (g s k) k) ss h

members_fit : (n : ℕ) (f : Watch → Watch) (ws : List Watch) → ((w : Watch) → WatchFits w → WatchFits (f w)) → Watches ws → Watches (map (member_changed n f) ws)
members_fit n f ws g h = all_map WatchFits WatchFits (member_changed n f) (λ w k. either WatchFits (is_in n w.place) (f w) w (g w k) k) ws h

watch_put : (w : Watch) (ws : List Watch) → WatchFits w → Watches ws → Watches (with_new_watch w ws)
watch_put w [] f h = (f, tt)
watch_put w (v ∷ vs) f h = either Watches (nat_lt v.ticket w.ticket) (v ∷ with_new_watch w vs) (w ∷ v ∷ vs) (h.0, watch_put w vs f h.1) (f, h)

-- ---- next revisions

most_of : (a b : ℕ) → Number a → Number b → Number (max a b)
most_of a b h k = omega (arith, h, k)

capped_fits : (n : ℕ) → Number n → Number (capped n)
capped_fits n h = omega (arith, h)

pub created_fits : (most : ℕ) (u : Upstream) (revision : ℕ) → most + 1 ≤ max_number → revision ≤ most → UpstreamFits u → UpstreamFits (created u revision)
created_fits most u revision l r h = record { range = h.range; next = either Number (u.next == 0) (capped (revision + 1)) u.next (capped_fits (revision + 1) (omega (arith, l, r))) h.next }

pub advance_fits : (most : ℕ) (u : Upstream) (last : ℕ) → most + 1 ≤ max_number → last ≤ most → UpstreamFits u → UpstreamFits (advance u last)
advance_fits most u last l r h = record { range = h.range; next = most_of u.next (capped (last + 1)) h.next (capped_fits (last + 1) (omega (arith, l, r))) }

event_at_most : (most : ℕ) (e : Event) → EventFits most e → event_revision e ≤ most
event_at_most most e f = by_change e.change f.0
  where
    by_change : (c : Change) → ChangeFits most c → change_revision c ≤ most
    by_change (change.Put kv) k = k.modified
    by_change (change.Delete key modified) k = k.1

pub last_fits : (most r : ℕ) (es : List Event) → r ≤ most → AllOf (EventFits most) es → last_revision r es ≤ most
last_fits most r [] l h = l
last_fits most r (e ∷ es) l h = last_fits most (event_revision e) es (event_at_most most e h.0) h.1

-- ---- joining

watched_fits : (r : KeyRange) → RangeFits r → RangeFits (watched_range r)
watched_fits r h = either RangeFits (is_empty r.key) (record r { key = 0 ∷ [] }) r ((omega arith, tt), h.1) h

pub new_watch_fits : (ticket : ℕ) (ask : WatchAsk) → RangeFits ask.range → Number ask.start → WatchFits (new_watch ticket ask)
new_watch_fits ticket ask r s = record { range = watched_fits ask.range r; next = s }

decided_fits : (next : ℕ) (w : Watch) → Number next → WatchFits w → WatchFits (decided next w)
decided_fits next w n h = either WatchFits (w.next == 0) (record w { start = next; next = next }) w (record { range = h.range; next = n }) h

told_fits : (last : Header) (w : Watch) → WatchFits w → WatchFits (told last w)
told_fits last w h = either WatchFits w.told w _ h (record { range = h.range; next = h.next })

told_if_fits : (b : Bool) (last : Header) (w : Watch) → WatchFits w → WatchFits (told_if b last w)
told_if_fits true last w h = told_fits last w h
told_if_fits false last w h = h

seated_in_fits : (last : Header) (s : Stream) (w : Watch) → StreamFits s → WatchFits w → WatchFits (seated_in last s w)
seated_in_fits last s w f h =
    let d = decided_fits s.stream.next w f.next h in
    told_if_fits s.stream.created last (record (decided s.stream.next w) { place = place.In s.number }) (record { range = d.range; next = d.next })

pub record SeatedFits (x : Seated) : Type 0 where
  pub streams : Streams x.streams
  pub watch : WatchFits x.watch

seated_at_fits : (ss : List Stream) (given step : ℕ) (last : Header) (w : Watch) (o : Option Stream) → If StreamFits o → Streams ss → WatchFits w → SeatedFits (seated_at ss given step last w o)
seated_at_fits ss given step last w (Some s) f g h = record { streams = g; watch = seated_in_fits last s w f h }
seated_at_fits ss given step last w None f g h = record {
  streams = all_push StreamFits ss (new_stream (given + 1) step w.ask.range w.next) g (record { range = h.range; next = h.next });
  watch = record { range = h.range; next = h.next };
}

best_fits : (range : KeyRange) (limit : ℕ) (best : Option Stream) (ss : List Stream) → If StreamFits best → Streams ss → If StreamFits (best_of range limit best ss)
best_fits range limit best [] f h = f
best_fits range limit best (s ∷ ss) f h =
    best_fits range limit (cond (is_joinable range limit s) (better s best) best) ss (either (If StreamFits) (is_joinable range limit s) (better s best) best (one best f) f) h.1
  where
    one : (b : Option Stream) → If StreamFits b → If StreamFits (better s b)
    one None g = h.0
    one (Some t) g = either (If StreamFits) (nat_lt t.stream.next s.stream.next) (Some s) (Some t) h.0 g

opening_found : (range : KeyRange) (ss : List Stream) → Streams ss → If StreamFits (opening_from_now range ss)
opening_found range [] h = tt
opening_found range (s ∷ ss) h = either (If StreamFits) (is_opening_from_now range s) (Some s) (opening_from_now range ss) h.0 (opening_found range ss h.1)

or_fits : (a b : Option Stream) → If StreamFits a → If StreamFits b → If StreamFits (or_else a b)
or_fits None b f g = g
or_fits (Some s) b f g = f

pub join_fits : (ss : List Stream) (range : KeyRange) (next seen : ℕ) → Streams ss → If StreamFits (stream_to_join ss range next seen)
join_fits ss range next seen h =
    either (If StreamFits) (next == 0) (or_else (best_of range (capped (seen + 1)) None ss) (opening_from_now range ss)) (best_of range next None ss)
    (or_fits (best_of range (capped (seen + 1)) None ss) (opening_from_now range ss) (best_fits range (capped (seen + 1)) None ss tt h) (opening_found range ss h)) (best_fits range next None ss tt h)

seated_fits : (ss : List Stream) (given step : ℕ) (last : Header) (w : Watch) → Streams ss → WatchFits w → SeatedFits (seated ss given step last w)
seated_fits ss given step last w f h = seated_at_fits ss given step last w (stream_to_join ss w.ask.range w.next last.revision) (join_fits ss w.ask.range w.next last.revision f) f h

pub joined_fits : (b : Broadcasts) (ticket : ℕ) (ask : WatchAsk) (last : Header) → RangeFits ask.range → Number ask.start → BroadcastsFit b → BroadcastsFit (joined b ticket ask last)
joined_fits b ticket ask last r s h =
    let x = seated_fits b.streams b.given b.step last (new_watch ticket ask) h.streams (new_watch_fits ticket ask r s) in
    record { streams = x.streams; watches = watch_put _ b.watches x.watch h.watches }

-- ---- streams are emptied, merged and cut

pub without_stream_fits : (n : ℕ) (ss : List Stream) → Streams ss → Streams (without_stream n ss)
without_stream_fits n ss h = all_filter StreamFits (is_other n) ss h

emptied_as_fits : (n step : ℕ) (ss : List Stream) (o : Option Stream) → Streams ss → Streams (emptied_as n step ss o)
emptied_as_fits n step ss None h = h
emptied_as_fits n step ss (Some s) h =
    either Streams (is_due s.phase) (without_stream n ss) (with_stream n (closed step) ss) (without_stream_fits n ss h) (with_stream_fits n (closed step) ss (λ t k. k) h)

emptied_fits : (n : ℕ) (b : Broadcasts) → BroadcastsFit b → BroadcastsFit (emptied n b)
emptied_fits n b h =
    either BroadcastsFit (has_member n b.watches) b _ h (record { streams = emptied_as_fits n b.step b.streams (stream_at n b.streams) h.streams; watches = h.watches })

left_place_fits : (p : WatchPlace) (b : Broadcasts) → BroadcastsFit b → BroadcastsFit (left_place p b)
left_place_fits (place.In n) b h = emptied_fits n b h
left_place_fits place.Split b h = h
left_place_fits place.Ended b h = h

merged_fits : (range : KeyRange) (b : Broadcasts) → BroadcastsFit b → BroadcastsFit (merged range b)
merged_fits range b h = record {
  streams = all_map StreamFits StreamFits (merged_stream range b.streams b.step) (λ s k. either StreamFits (kept_by range b.streams s == s.number) s _ k k) b.streams h.streams;
  watches = all_map WatchFits WatchFits (merged_watch range b.streams) (λ w k. record { range = k.range; next = k.next }) b.watches h.watches;
}

reopened_fits : (b : Broadcasts) (s : Stream) → StreamFits s → BroadcastsFit b → BroadcastsFit (reopened b s)
reopened_fits b s f h = record {
  streams = all_push StreamFits (without_stream s.number b.streams) _ (without_stream_fits s.number b.streams h.streams) (record { range = f.range; next = f.next });
  watches = all_map WatchFits WatchFits (renumbered s.number (b.given + 1)) (λ w k. either WatchFits (is_in s.number w.place) _ w (record { range = k.range; next = k.next }) k) b.watches h.watches;
}

pub cut_fits : (b : Broadcasts) (s : Stream) → StreamFits s → BroadcastsFit b → BroadcastsFit (cut_stream b s)
cut_fits b s f h =
    either BroadcastsFit (is_closing s.phase) _ (reopened b s) (record { streams = without_stream_fits s.number b.streams h.streams; watches = h.watches }) (reopened_fits b s f h)

-- ---- cancellations

left_one_fits : (header : Header) (compact step : ℕ) (last : Header) (ss : List Stream) (given : ℕ) (w : Watch) → Streams ss → WatchFits w → SeatedFits (left_one header compact step last ss given w)
left_one_fits header compact step last ss given w f h =
    either SeatedFits (nat_lt w.next compact) (record { streams = ss; given = given; watch = ended header compact w }) (seated ss given step last w)
    (record { streams = f; watch = record { range = h.range; next = h.next } }) (seated_fits ss given step last w f h)

pub left_by_fits : (n next : ℕ) (header : Header) (compact step : ℕ) (last : Header) (ss : List Stream) (given : ℕ) (w : Watch) → Number next → Streams ss → WatchFits w → SeatedFits (left_by n next header compact step last ss given w)
left_by_fits n next header compact step last ss given w m f h =
    either SeatedFits (is_in n w.place) (left_one header compact step last ss given (leaving next w)) (record { streams = ss; given = given; watch = w })
    (left_one_fits header compact step last ss given (leaving next w) f (record { range = h.range; next = most_of w.next next h.next m })) (record { streams = f; watch = h })

record LeftFits (l : Left) : Type 0 where
  streams : Streams l.streams
  watches : Watches l.watches

goes_on_fits : (rest : List Stream → ℕ → Left) (x : Seated) → SeatedFits x → LeftFits (rest x.streams x.given) → LeftFits (goes_on rest x)
goes_on_fits rest x f h = record { streams = h.streams; watches = (f.watch, h.watches) }

left_over_fits : (n next : ℕ) (header : Header) (compact step : ℕ) (last : Header) (ss : List Stream) (given : ℕ) (ws : List Watch) → Number next → Streams ss → Watches ws → LeftFits (left_over n next header compact step last ss given ws)
left_over_fits n next header compact step last ss given [] m f h = record { streams = f; watches = tt }
left_over_fits n next header compact step last ss given (w ∷ ws) m f h =
    let x = left_by n next header compact step last ss given w in
    let k = left_by_fits n next header compact step last ss given w m f h.0 in
    goes_on_fits (λ us g. left_over n next header compact step last us g ws) x k (left_over_fits n next header compact step last x.streams x.given ws m k.streams h.1)

pub cancelled_fits : (b : Broadcasts) (s : Stream) (header : Header) (compact : ℕ) (last : Header) → StreamFits s → BroadcastsFit b → BroadcastsFit (cancelled_stream b s header compact last)
cancelled_fits b s header compact last f h =
    let l = left_over_fits s.number s.stream.next header compact b.step last (without_stream s.number b.streams) b.given b.watches f.next (without_stream_fits s.number b.streams h.streams) h.watches in
    either BroadcastsFit (not (is_begun s.phase)) b _ h
    (either BroadcastsFit (compact == 0 || s.stream.next == 0) (cut_stream b s) _ (cut_fits b s f h) (record { streams = l.streams; watches = l.watches }))

-- ---- delivery

queued_fits : (header : Header) (own : ℕ) (es : List Event) (w : Watch) → Number own → WatchFits w → WatchFits (queued header own es w)
queued_fits header own [] w n h = h
queued_fits header own (e ∷ es) w n h = either WatchFits (would_pass w.queue _) _ _ (record { range = h.range; next = n }) (record { range = h.range; next = h.next })

given_events_fit : (most : ℕ) (b : Broadcasts) (n next : ℕ) (header : Header) (es : List Event) → most + 1 ≤ max_number → Number next → AllOf (EventFits most) es → BroadcastsFit b → BroadcastsFit (given_events b n next header es)
given_events_fit most b n next header es l m f h =
    let last = last_revision 0 es in
    let a = last_fits most 0 es (omega arith) f in
    emptied_fits n _ (record {
      streams = with_stream_fits n (advanced last) b.streams (λ s k. advance_fits most s.stream last l a k) h.streams;
      watches = members_fit n (given_batch next header es) b.watches (λ w k. queued_fits header (max w.next next) (shown_events w.ask (chosen w.ask (max w.next next) es)) w (most_of w.next next k.next m) k) h.watches;
    })

given_progress_fits : (most : ℕ) (b : Broadcasts) (n next : ℕ) (header : Header) → most + 1 ≤ max_number → HeaderFits most header → BroadcastsFit b → BroadcastsFit (given_progress b n next header)
given_progress_fits most b n next header l f h =
    either BroadcastsFit (nat_le next (header.revision + 1)) _ b
    (record {
      streams = with_stream_fits n (advanced header.revision) b.streams (λ s k. advance_fits most s.stream header.revision l f.revision k) h.streams;
      watches = members_fit n (progressed next header) b.watches (λ w k. either WatchFits (w.ask.progress && nat_le (max w.next next) (header.revision + 1)) _ w (record { range = k.range; next = k.next }) k) h.watches;
    }) h

message_given : (most : ℕ) (b : Broadcasts) (s : Stream) (header : Header) (es : List Event) → most + 1 ≤ max_number → HeaderFits most header → AllOf (EventFits most) es → StreamFits s → BroadcastsFit b → BroadcastsFit (delivered_message b s header es)
message_given most b s header es l f g k h =
    either BroadcastsFit (is_nil es) (given_progress b s.number s.stream.next header) (given_events b s.number s.stream.next header es)
    (given_progress_fits most b s.number s.stream.next header l f h) (given_events_fit most b s.number s.stream.next header es l k.next g h)

pub delivered_fits : (most : ℕ) (b : Broadcasts) (s : Stream) (header : Header) (es : List Event) → most + 1 ≤ max_number → HeaderFits most header → AllOf (EventFits most) es → StreamFits s → BroadcastsFit b
    → BroadcastsFit (delivered_stream b s header es)
delivered_fits most b s header es l f g k h =
    either BroadcastsFit (is_begun s.phase) _ b
    (either BroadcastsFit (is_told s es) (merged s.stream.range (delivered_message b s header es)) (cut_stream b s)
    (merged_fits s.stream.range (delivered_message b s header es) (message_given most b s header es l f g k h)) (cut_fits b s k h)) h

pub created_stands : (most : ℕ) (b : Broadcasts) (s : Stream) (header last : Header) → most + 1 ≤ max_number → HeaderFits most header → StreamFits s → BroadcastsFit b → BroadcastsFit (stands_created b s header last)
created_stands most b s header last l f k h =
    let u = created_fits most s.stream header.revision l f.revision k in
    either BroadcastsFit (is_awaited s) _ b
    (merged_fits s.stream.range _ (record {
      streams = with_stream_fits s.number (created_stream header.revision) b.streams (λ t g. created_fits most t.stream header.revision l f.revision g) h.streams;
      watches = members_fit s.number (created_watch (created s.stream header.revision).next last) b.watches (λ w g. told_fits last (decided (created s.stream header.revision).next w) (decided_fits (created s.stream header.revision).next w u.next g)) h.watches;
    })) h

-- ---- takes, leaving and due streams

with_watch_fits : (b : Broadcasts) (w : Watch) → WatchFits w → BroadcastsFit b → BroadcastsFit (with_watch b w)
with_watch_fits b w f h = record { streams = h.streams; watches = all_map WatchFits WatchFits (watch_changed w.ticket (λ v. w)) (λ v k. either WatchFits (v.ticket == w.ticket) w v f k) b.watches h.watches }

after_take_fits : (b : Broadcasts) (last : Header) (w : Watch) (is : List WatchItem) (p : WatchPlace) → WatchFits w → BroadcastsFit b → BroadcastsFit (after_take b last w is p)
after_take_fits b last w [] place.Split f h =
    let x = seated_fits b.streams b.given b.step last w h.streams f in
    with_watch_fits _ _ x.watch (record { streams = x.streams; watches = h.watches })
after_take_fits b last w [] (place.In n) f h = with_watch_fits b w f h
after_take_fits b last w [] place.Ended f h = with_watch_fits b w f h
after_take_fits b last w (i ∷ is) p f h = with_watch_fits b w f h

pub taken_from_fits : (b : Broadcasts) (last : Header) (w : Watch) (queue : List WatchItem) → WatchFits w → BroadcastsFit b → BroadcastsFit (taken_from b last w queue).0
taken_from_fits b last w [] f h = h
taken_from_fits b last w (i ∷ is) f h =
    either BroadcastsFit (is_last i) _ (after_take b last (record w { queue = is }) is w.place)
    (record { streams = h.streams; watches = all_filter WatchFits (λ v. not (v.ticket == w.ticket)) b.watches h.watches })
    (after_take_fits b last (record w { queue = is }) is w.place (record { range = f.range; next = f.next }) h)

pub removed_fits : (b : Broadcasts) (ticket : ℕ) (o : Option Watch) → BroadcastsFit b → BroadcastsFit (removed b ticket o)
removed_fits b ticket None h = h
removed_fits b ticket (Some w) h =
    left_place_fits w.place _ (record { streams = h.streams; watches = all_filter WatchFits (λ v. not (v.ticket == ticket)) b.watches h.watches })

pub sent_fits : (b : Broadcasts) (s : Stream) (p : StreamPhase) → BroadcastsFit b → BroadcastsFit (sent b s p).0
sent_fits b s (phase.Closing since) h = record { streams = without_stream_fits s.number b.streams h.streams; watches = h.watches }
sent_fits b s (phase.Due since) h = record { streams = with_stream_fits s.number begun b.streams (λ t k. record { range = k.range; next = k.next }) h.streams; watches = h.watches }
sent_fits b s phase.Begun h = h

pub stream_found : (n : ℕ) (ss : List Stream) → Streams ss → If StreamFits (stream_at n ss)
stream_found n [] h = tt
stream_found n (s ∷ ss) h = either (If StreamFits) (s.number == n) (Some s) (stream_at n ss) h.0 (stream_found n ss h.1)

pub watch_found : (t : ℕ) (ws : List Watch) → Watches ws → If WatchFits (watch_at t ws)
watch_found t [] h = tt
watch_found t (w ∷ ws) h = either (If WatchFits) (w.ticket == t) (Some w) (watch_at t ws) h.0 (watch_found t ws h.1)
