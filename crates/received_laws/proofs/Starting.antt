-- Of the watches of a proxy: a start that was left open is at most the revision behind one that its store has, where no header that it
-- heard is above that.
use Rattle.std.proofs.Common.{◌≡◌, ℕ, ◌+◌, ◌≤◌, max, Bool, true, false, not, cond, ◌&&◌, ◌||◌, ◌==◌, nat_le, nat_lt, List, [], ◌∷◌, ◌++◌, map, length, Option, None, Some, Result, Ok, Err, refl, ap, sym, subst, ◌∙◌, arith}
use Rattle.std.proofs.lemmas.Bool.Decides.{nat_tests}
use Rattle.etcd_types.specs.declared.answer.Answer.{Answer}
use Rattle.etcd_types.specs.declared.answer.Answer.TheVariants as answer
use Rattle.etcd_types.specs.declared.key_range.KeyRange.{KeyRange}
use Rattle.etcd_types.specs.declared.record.Header.{Header}
use Rattle.etcd_types.specs.declared.watch.Event.{Event}
use Rattle.etcd_types.specs.declared.watch.WatchItem.{WatchItem}
use Rattle.etcd_types.specs.declared.watch.WatchItem.TheVariants as item
use Rattle.proxy_model.specs.Limits.{capped}
use Rattle.proxy_model.specs.Unwrapped.{Unwrapped, ◌>>=◌, events_without, item_without}
use Rattle.proxy_model.specs.Upstream.{created}
use Rattle.watch_model.specs.declared.place.WatchPlace.{WatchPlace}
use Rattle.watch_model.specs.declared.place.WatchPlace.TheVariants as place
use Rattle.watch_model.specs.State.{Stream, Watch, Broadcasts}
use Rattle.watch_model.specs.Queues.{chosen, would_pass, is_progress, with_progress}
use Rattle.watch_model.specs.Lookups.{same_range, stream_at, place_stream, with_stream, without_stream, is_in, is_begun, is_closing, member_changed, without_watch, watch_changed}
use Rattle.watch_model.specs.Joining.{created_header, told as told_watch, told_if, decided, new_watch, best_of, opening_from_now, or_else, stream_to_join, Seated, seated_at, seated}
use Rattle.watch_model.specs.Merging.{merged_watch, merged}
use Rattle.watch_model.specs.Cuts.{renumbered, reopened, cut_stream, ended, leaving, left_one, left_by, left_over, left_as, cancelled_stream}
use Rattle.watch_model.specs.Delivery.{shown_events, queued, given_batch, progressed, advanced, last_revision, delivered_message, is_told, is_awaited, delivered_stream, created_stream, created_watch, stands_created}
use Rattle.watch_model.specs.Takes.{is_last, after_take, taken_from}
use Rattle.watch_model.specs.Story.{Story, Received, WatchOk, EachWatch, Holds}
use Rattle.watch_model.proofs.Streams.{at_number, each_mapped}
use Rattle.watch_laws.proofs.Seating.{EachStream, AllSome, best_is, opening_is, each_inserted, each_other, found}
use Rattle.watch_laws.proofs.Steady.{emptied_steady, removed_steady}
use Rattle.watch_laws.proofs.Steps.{in_place}
use Rattle.core_model.specs.Heard.{later_header}
use Rattle.core_model.specs.LeasingStream.{item_header}
use Rattle.core_model.specs.declared.event.CoreEvent.{CoreEvent}
use Rattle.core_model.specs.declared.event.CoreEvent.TheVariants as event
use Rattle.core_model.specs.declared.event.Outcome.{Outcome}
use Rattle.core_model.specs.declared.event.StepFault.{StepFault}
use Rattle.held_laws.proofs.Firm.{sent_firm}
use Rattle.held_laws.proofs.Knowing.{either_some}
use Rattle.held_laws.proofs.Told.{both}
use Rattle.core_laws.proofs.Watches.Touches.{Side, told_unwrapped, told_stream, Touch, leaves, hears, ticks, joins, heard_leasing, broke_leasing, cut_leasing, told, cut, took, left_it, opens_leasing, sends}

-- a message without events tells no newer revision
abbrev pub ProgressOk : ℕ → WatchItem → Type 0
ProgressOk high (item.Created g) = Unit {0}
ProgressOk high (item.Events g []) = g.revision ≤ high
ProgressOk high (item.Events g (e ∷ es)) = Unit {0}
ProgressOk high (item.Canceled g compaction) = Unit {0}

abbrev pub QueueOk : ℕ → List WatchItem → Type 0
QueueOk high [] = Unit {0}
QueueOk high (i ∷ is) = ProgressOk high i × QueueOk high is

-- a start that was left open, and the messages in its queue
abbrev pub StartOk : ℕ → Watch → Type 0
StartOk high w = ((w.ask.start == 0) ≡ true → w.start ≤ high + 1) × QueueOk high w.queue

pub record StartsOk (high : ℕ) (a : Side) : Type 0 where
  pub header : a.header.revision ≤ high
  pub watches : EachWatch (StartOk high) a.broadcasts.watches

-- what an event tells is at most the newest revision
abbrev pub AnswerWithin : ℕ → Answer → Type 0
AnswerWithin high (answer.Done reply) = reply.header.revision ≤ high
AnswerWithin high (answer.Refused r) = Unit {0}

abbrev pub IsWithin : ℕ → CoreEvent → Type 0
IsWithin high (event.Answer call a) = AnswerWithin high a
IsWithin high (event.Item number x) = (item_header x).revision ≤ high
IsWithin high _ = Unit {0}

-- ---- a greater newest revision

progress_later : (low high : ℕ) (i : WatchItem) → low ≤ high → ProgressOk low i → ProgressOk high i
progress_later low high (item.Created g) l h = tt
progress_later low high (item.Events g []) l h = omega (arith, l, h)
progress_later low high (item.Events g (e ∷ es)) l h = tt
progress_later low high (item.Canceled g compaction) l h = tt

pub queue_later : (low high : ℕ) (is : List WatchItem) → low ≤ high → QueueOk low is → QueueOk high is
queue_later low high [] l h = tt
queue_later low high (i ∷ is) l h = (progress_later low high i l h.0, queue_later low high is l h.1)

pub queue_push : (high : ℕ) (is : List WatchItem) (i : WatchItem) → QueueOk high is → ProgressOk high i → QueueOk high (is ++ i ∷ [])
queue_push high [] i h k = (k, tt)
queue_push high (j ∷ is) i h k = (h.0, queue_push high is i h.1 k)

queue_progress : (high : ℕ) (is : List WatchItem) (i : WatchItem) → QueueOk high is → ProgressOk high i → QueueOk high (with_progress is i)
queue_progress high [] i h k = (k, tt)
queue_progress high (j ∷ []) i h k = elim (is_progress j) as (λ b. QueueOk high (cond b (i ∷ []) (j ∷ i ∷ []))) [ true ↦ (k, tt) | false ↦ (h.0, (k, tt)) ]
queue_progress high (j ∷ m ∷ is) i h k = (h.0, queue_progress high (m ∷ is) i h.1 k)

each_later : (low high : ℕ) (ws : List Watch) → low ≤ high → EachWatch (StartOk low) ws → EachWatch (StartOk high) ws
each_later low high [] l h = tt
each_later low high (w ∷ ws) l h = (((λ e. let k = h.0.0 e in omega (arith, l, k)), queue_later low high w.queue l h.0.1), each_later low high ws l h.1)

pub starts_later : (low high : ℕ) (a : Side) → low ≤ high → StartsOk low a → StartsOk high a
starts_later low high a l h = record { header = (let k = h.header in omega (arith, l, k)); watches = each_later low high a.broadcasts.watches l h.watches }

-- ---- changes that leave the start

abbrev Leaves : (Watch → Watch) → Type 0
Leaves f = (high : ℕ) (w : Watch) → StartOk high w → StartOk high (f w)

queued_leaves : (g : Header) (own : ℕ) (es : List Event) → Leaves (queued g own es)
queued_leaves g own [] high w h = h
queued_leaves g own (e ∷ es) high w h =
    elim (would_pass w.queue (length (e ∷ es))) as (λ b. StartOk high (cond b (record w { next = own; place = place.Split }) (record w { queue = w.queue ++ item.Events g (e ∷ es) ∷ [] }))) [ true ↦ h | false ↦ (h.0, queue_push high w.queue (item.Events g (e ∷ es)) h.1 tt) ]

progressed_leaves : (high next : ℕ) (g : Header) → g.revision ≤ high → (w : Watch) → StartOk high w → StartOk high (progressed next g w)
progressed_leaves high next g l w h = elim (w.ask.progress && nat_le (max w.next next) (g.revision + 1)) as (λ b. StartOk high (cond b (record w { queue = with_progress w.queue (item.Events g []) }) w)) [ true ↦ (h.0, queue_progress high w.queue (item.Events g []) h.1 l) | false ↦ h ]

told_leaves : (last : Header) → Leaves (told_watch last)
told_leaves last high w h = elim w.told as (λ b. StartOk high (cond b w (record w { told = true; queue = w.queue ++ item.Created (created_header last w) ∷ [] }))) [ true ↦ h | false ↦ (h.0, queue_push high w.queue (item.Created (created_header last w)) h.1 tt) ]

told_if_leaves : (b : Bool) (last : Header) → Leaves (told_if b last)
told_if_leaves true last high w h = told_leaves last high w h
told_if_leaves false last high w h = h

each_member : (high n : ℕ) (f : Watch → Watch) (ws : List Watch) → ((w : Watch) → StartOk high w → StartOk high (f w)) → EachWatch (StartOk high) ws → EachWatch (StartOk high) (map (member_changed n f) ws)
each_member high n f ws k h = each_mapped (StartOk high) (StartOk high) (member_changed n f) (λ w p. elim (is_in n w.place) as (λ c. StartOk high (cond c (f w) w)) [ true ↦ k w p | false ↦ p ]) ws h

merged_starts : (high : ℕ) (range : KeyRange) (b : Broadcasts) → EachWatch (StartOk high) b.watches → EachWatch (StartOk high) (merged range b).watches
merged_starts high range b h = each_mapped (StartOk high) (StartOk high) (merged_watch range b.streams) (λ w p. p) b.watches h

cut_starts : (high : ℕ) (b : Broadcasts) (s : Stream) → EachWatch (StartOk high) b.watches → EachWatch (StartOk high) (cut_stream b s).watches
cut_starts high b s h =
    elim (is_closing s.phase) as (λ c. EachWatch (StartOk high) (cond c (record b { streams = without_stream s.number b.streams }) (reopened b s)).watches) [
      | true ↦ h
      | false ↦ each_mapped (StartOk high) (StartOk high) (renumbered s.number (b.given + 1)) (λ w p. elim (is_in s.number w.place) as (λ c. StartOk high (cond c (record w { place = place.In (b.given + 1) }) w)) [ true ↦ p | false ↦ p ]) b.watches h
    ]

message_starts : (high : ℕ) (b : Broadcasts) (s : Stream) (g : Header) (es : List Event) → g.revision ≤ high → EachWatch (StartOk high) b.watches → EachWatch (StartOk high) (delivered_message b s g es).watches
message_starts high b s g [] l h =
    let f = progressed s.stream.next g in
    elim (nat_le s.stream.next (g.revision + 1)) as (λ c. EachWatch (StartOk high) (cond c (record b { streams = with_stream s.number (advanced g.revision) b.streams; watches = map (member_changed s.number f) b.watches }) b).watches) [
      | true ↦ each_member high s.number f b.watches (progressed_leaves high s.stream.next g l) h
      | false ↦ h
    ]
message_starts high b s g (e ∷ es) l h =
    let f = given_batch s.stream.next g (e ∷ es) in
    emptied_steady (StartOk high) s.number (record b { streams = with_stream s.number (advanced (last_revision 0 (e ∷ es))) b.streams; watches = map (member_changed s.number f) b.watches })
    (each_member high s.number f b.watches (λ w p. queued_leaves g (max w.next s.stream.next) (shown_events w.ask (chosen w.ask (max w.next s.stream.next) (e ∷ es))) high w p) h)

delivered_starts : (high : ℕ) (b : Broadcasts) (s : Stream) (g : Header) (es : List Event) → g.revision ≤ high → EachWatch (StartOk high) b.watches → EachWatch (StartOk high) (delivered_stream b s g es).watches
delivered_starts high b s g es l h =
    let d = delivered_message b s g es in
    elim (is_begun s.phase) as (λ c. EachWatch (StartOk high) (cond c (cond (is_told s es) (merged s.stream.range d) (cut_stream b s)) b).watches) [
      | true ↦ elim (is_told s es) as (λ c. EachWatch (StartOk high) (cond c (merged s.stream.range d) (cut_stream b s)).watches) [
        | true ↦ merged_starts high s.stream.range d (message_starts high b s g es l h)
        | false ↦ cut_starts high b s h
      ]
      | false ↦ h
    ]

-- ---- changes that decide it

decided_starts : (high n : ℕ) (w : Watch) → ((w.next == 0) ≡ true → n ≤ high + 1) → StartOk high w → StartOk high (decided n w)
decided_starts high n w l h = elim (w.next == 0) as (λ b. (w.next == 0) ≡ b → StartOk high (cond b (record w { start = n; next = n }) w)) [ true ↦ λ e. ((λ q. l e), h.1) | false ↦ λ e. h ] refl

capped_most : (n : ℕ) → capped n ≤ n
capped_most n = omega arith

most : (a b c : Bool) (n limit : ℕ) → (a && b && c && nat_le n limit) ≡ true → n ≤ limit
most a b c n limit e = grind (arith, nat_tests)

none_most : (a b : Bool) (n limit : ℕ) → (a && b && n == 0) ≡ true → n ≤ limit
none_most a b n limit e = grind (arith, nat_tests)

any_streams : (ss : List Stream) → EachStream (λ s. Unit {0}) ss
any_streams [] = tt
any_streams (s ∷ ss) = (tt, any_streams ss)

-- the stream that a watch whose start isn't decided joins
pub join_most : (ss : List Stream) (range : KeyRange) (next seen : ℕ) → (next == 0) ≡ true → AllSome (λ s. s.stream.next ≤ seen + 1) (stream_to_join ss range next seen)
join_most ss range next seen z =
    let Q : Stream → Type 0 = λ s. s.stream.next ≤ seen + 1 in
    let P : Stream → Type 0 = λ s. Unit {0} in
    let limit = capped (seen + 1) in
    let within = capped_most (seen + 1) in
    subst (λ b. AllSome Q (cond b (or_else (best_of range limit None ss) (opening_from_now range ss)) (best_of range next None ss))) (sym z)
    (either_some Q (best_of range limit None ss) (opening_from_now range ss)
    (best_is P Q range limit (λ s p e. let l = most (same_range s.stream.range range) (not (is_closing s.phase)) (not (s.stream.next == 0)) s.stream.next limit e in omega (arith, l, within)) ss None (any_streams ss) tt)
    (opening_is P Q range (λ s p e. none_most (same_range s.stream.range range) (not (is_closing s.phase)) s.stream.next (seen + 1) e) ss (any_streams ss)))

seat_starts : (high : ℕ) (ss : List Stream) (given step : ℕ) (last : Header) (w : Watch) → last.revision ≤ high → StartOk high w → StartOk high (seated ss given step last w).watch
seat_starts high ss given step last w l h = by (stream_to_join ss w.ask.range w.next last.revision) (join_most ss w.ask.range w.next last.revision)
  where
    by : (o : Option Stream) → ((w.next == 0) ≡ true → AllSome (λ s. s.stream.next ≤ last.revision + 1) o) → StartOk high (seated_at ss given step last w o).watch
    by (Some s) j = told_if_leaves s.stream.created last high (record (decided s.stream.next w) { place = place.In s.number }) (decided_starts high s.stream.next w (λ z. let k = j z in omega (arith, k, l)) h)
    by None j = h

created_starts : (high n : ℕ) (last : Header) (w : Watch) → ((w.next == 0) ≡ true → n ≤ high + 1) → StartOk high w → StartOk high (created_watch n last w)
created_starts high n last w l h = told_leaves last high (decided n w) (decided_starts high n w l h)

-- a created message tells a start behind its revision
pub created_most : (high : ℕ) (s : Stream) (g : Header) → g.revision ≤ high → (s.stream.next == 0) ≡ true → (created s.stream g.revision).next ≤ high + 1
created_most high s g l z =
    let k = capped_most (g.revision + 1) in
    let here : (created s.stream g.revision).next ≡ capped (g.revision + 1) = ap (λ b. cond b (capped (g.revision + 1)) s.stream.next) z in
    omega (arith, k, l, here)

created_all : (story : Story) (have : Received) (high : ℕ) (b : Broadcasts) (s : Stream) (g last : Header) → stream_at s.number b.streams ≡ Some s → g.revision ≤ high → Holds story have b → EachWatch (StartOk high) b.watches
    → EachWatch (StartOk high) (stands_created b s g last).watches
created_all story have high b s g last at l o h =
    let n = (created s.stream g.revision).next in
    let f = created_watch n last in
    let d : Broadcasts = record b { streams = with_stream s.number (created_stream g.revision) b.streams; watches = map (member_changed s.number f) b.watches } in
    let O : Watch → Type 0 = λ w. WatchOk story (have w.ticket) (place_stream b.streams w.place) w in
    elim (is_awaited s) as (λ c. EachWatch (StartOk high) (cond c (merged s.stream.range d) b).watches) [
      | true ↦
          merged_starts high s.stream.range d
          (each_mapped (λ w. O w × StartOk high w) (StartOk high) (member_changed s.number f) (λ w p. elim (is_in s.number w.place) as (λ c. is_in s.number w.place ≡ c → StartOk high (cond c (f w) w)) [
            | true ↦ λ q.
                let same = p.0.decided s (ap (place_stream b.streams) (in_place s.number w.place q) ∙ at) in
                created_starts high n last w (λ z. created_most high s g l (sym same ∙ z)) p.1
            | false ↦ λ q. p.1
          ] refl) b.watches (both O (StartOk high) b.watches o.watches h))
      | false ↦ h
    ]

-- ---- a cancellation

left_starts : (high n next : ℕ) (g : Header) (compact step : ℕ) (last : Header) (ss : List Stream) (given : ℕ) (w : Watch) → last.revision ≤ high → StartOk high w → StartOk high (left_by n next g compact step last ss given w).watch
left_starts high n next g compact step last ss given w l h =
    let v = leaving next w in
    let out : Seated = record { streams = ss; given = given; watch = w } in
    let gone : Seated = record { streams = ss; given = given; watch = ended g compact v } in
    elim (is_in n w.place) as (λ b. StartOk high (cond b (left_one g compact step last ss given v) out).watch) [
      | true ↦ elim (nat_lt v.next compact) as (λ c. StartOk high (cond c gone (seated ss given step last v)).watch) [ true ↦ (h.0, queue_push high v.queue (item.Canceled g compact) h.1 tt) | false ↦ seat_starts high ss given step last v l h ]
      | false ↦ h
    ]

over_starts : (high n next : ℕ) (g : Header) (compact step : ℕ) (last : Header) (ss : List Stream) (given : ℕ) (ws : List Watch) → last.revision ≤ high → EachWatch (StartOk high) ws
    → EachWatch (StartOk high) (left_over n next g compact step last ss given ws).watches
over_starts high n next g compact step last ss given [] l h = tt
over_starts high n next g compact step last ss given (w ∷ ws) l h =
    let x = left_by n next g compact step last ss given w in (left_starts high n next g compact step last ss given w l h.0, over_starts high n next g compact step last x.streams x.given ws l h.1)

cancelled_starts : (high : ℕ) (b : Broadcasts) (s : Stream) (g : Header) (compact : ℕ) (last : Header) → last.revision ≤ high → EachWatch (StartOk high) b.watches → EachWatch (StartOk high) (cancelled_stream b s g compact last).watches
cancelled_starts high b s g compact last l h =
    let rest = without_stream s.number b.streams in
    let d = left_as b (left_over s.number s.stream.next g compact b.step last rest b.given b.watches) in
    elim (not (is_begun s.phase)) as (λ c. EachWatch (StartOk high) (cond c b (cond (compact == 0 || s.stream.next == 0) (cut_stream b s) d)).watches) [
      | true ↦ h
      | false ↦ elim (compact == 0 || s.stream.next == 0) as (λ c. EachWatch (StartOk high) (cond c (cut_stream b s) d).watches) [
        | true ↦ cut_starts high b s h
        | false ↦ over_starts high s.number s.stream.next g compact b.step last rest b.given b.watches l h
      ]
    ]

-- ---- each step of a proxy

later_most : (high : ℕ) (old new : Header) → old.revision ≤ high → new.revision ≤ high → (later_header old new).revision ≤ high
later_most high old new a b = elim (nat_le old.revision new.revision) as (λ c. (cond c new old).revision ≤ high) [ true ↦ b | false ↦ a ]

told_starts : (story : Story) (have : Received) (high : ℕ) (b : Broadcasts) (s : Stream) (last : Header) (namespace : List ℕ) (x : WatchItem) → stream_at s.number b.streams ≡ Some s → (item_header x).revision ≤ high → last.revision ≤ high
    → Holds story have b → EachWatch (StartOk high) b.watches → EachWatch (StartOk high) (told_stream b s last namespace x).watches
told_starts story have high b s last namespace x at l m o h =
    elim (is_begun s.phase) as (λ c. EachWatch (StartOk high) (cond c (told_unwrapped b s last (item_without namespace x)) b).watches) [ true ↦ by x l | false ↦ h ]
  where
    by : (x : WatchItem) → (item_header x).revision ≤ high → EachWatch (StartOk high) (told_unwrapped b s last (item_without namespace x)).watches
    by (item.Created g) l = created_all story have high b s g last at l o h
    by (item.Canceled g compact) l = cancelled_starts high b s g compact last m h
    by (item.Events g es) l = events (events_without namespace es)
      where
        events : (r : Unwrapped (List Event)) → EachWatch (StartOk high) (told_unwrapped b s last (r >>= λ us. Ok (item.Events g us))).watches
        events (Ok us) = delivered_starts high b s g us l h
        events (Err foreign) = cut_starts high b s h

replaced_starts : (high ticket : ℕ) (v : Watch) (ws : List Watch) → StartOk high v → EachWatch (StartOk high) ws → EachWatch (StartOk high) (map (watch_changed ticket (λ u. v)) ws)
replaced_starts high ticket v ws p h = each_mapped (StartOk high) (StartOk high) (watch_changed ticket (λ u. v)) (λ w q. elim (w.ticket == ticket) as (λ c. StartOk high (cond c v w)) [ true ↦ p | false ↦ q ]) ws h

taken_starts : (high : ℕ) (b : Broadcasts) (last : Header) (w : Watch) → last.revision ≤ high → StartOk high w → EachWatch (StartOk high) b.watches → EachWatch (StartOk high) (taken_from b last w w.queue).0.watches
taken_starts high b last w l p h = by w.queue p.1
  where
    after : (v : Watch) (is : List WatchItem) (q : WatchPlace) → StartOk high v → EachWatch (StartOk high) (after_take b last v is q).watches
    after v [] place.Split p = let x = seated b.streams b.given b.step last v in replaced_starts high x.watch.ticket x.watch b.watches (seat_starts high b.streams b.given b.step last v l p) h
    after v [] (place.In n) p = replaced_starts high v.ticket v b.watches p h
    after v [] place.Ended p = replaced_starts high v.ticket v b.watches p h
    after v (i ∷ is) place.Split p = replaced_starts high v.ticket v b.watches p h
    after v (i ∷ is) (place.In n) p = replaced_starts high v.ticket v b.watches p h
    after v (i ∷ is) place.Ended p = replaced_starts high v.ticket v b.watches p h

    by : (q : List WatchItem) → QueueOk high q → EachWatch (StartOk high) (taken_from b last w q).0.watches
    by [] k = h
    by (i ∷ is) k =
        let v : Watch = record w { queue = is } in
        elim (is_last i) as (λ c. EachWatch (StartOk high) (cond c (record b { watches = without_watch w.ticket b.watches }) (after_take b last v is w.place)).watches) [
          | true ↦ each_other (StartOk high) w.ticket b.watches h
          | false ↦ after v is w.place (p.0, k.1)
        ]

pub touch_starts : (story : Story) (have : Received) (high : ℕ) (namespace : List ℕ) (a d : Side) (e : CoreEvent) (o : Result Outcome StepFault) → IsWithin high e → Holds story have a.broadcasts → Touch namespace a e d o → StartsOk high a → StartsOk high d
touch_starts story have high namespace a _ _ _ t k (leaves e o p) h = h
touch_starts story have high namespace a _ _ _ t k (hears call reply o p) h = record { header = later_most high a.header reply.header h.header t; watches = h.watches }
touch_starts story have high namespace a _ _ _ t k (ticks word) h = record { header = h.header; watches = h.watches }
touch_starts story have high namespace a _ _ _ t k (joins ticket ask word f) h =
    let b = a.broadcasts in
    let x = seated b.streams b.given b.step a.header (new_watch ticket ask) in
    record { header = h.header; watches = each_inserted (StartOk high) x.watch b.watches (seat_starts high b.streams b.given b.step a.header (new_watch ticket ask) h.header ((λ z. open_start ask.start high z), tt)) h.watches }
  where
    open_start : (n high : ℕ) → (n == 0) ≡ true → n ≤ high + 1
    open_start n high z = grind (arith, nat_tests)
touch_starts story have high namespace a _ _ _ t k (heard_leasing number x l) h = record { header = later_most high a.header (item_header x) h.header t; watches = h.watches }
touch_starts story have high namespace a _ _ _ t k (broke_leasing number x l) h = record { header = later_most high a.header (item_header x) h.header t; watches = h.watches }
touch_starts story have high namespace a _ _ _ t k (cut_leasing number l) h = record { header = h.header; watches = h.watches }
touch_starts story have high namespace a _ _ _ t k (told number x s f) h =
    let last = later_most high a.header (item_header x) h.header t in
    record {
      header = last;
      watches = told_starts story have high a.broadcasts s (later_header a.header (item_header x)) namespace x (ap (λ (j : ℕ). stream_at j a.broadcasts.streams) (at_number number a.broadcasts.streams s f) ∙ f) t last k h.watches;
    }
touch_starts story have high namespace a _ _ _ t k (cut number s f) h = record { header = h.header; watches = cut_starts high a.broadcasts s h.watches }
touch_starts story have high namespace a _ _ _ t k (took ticket w i is f q) h =
    record { header = h.header; watches = taken_starts high a.broadcasts a.header w h.header (found (StartOk high) ticket a.broadcasts.watches w f h.watches) h.watches }
touch_starts story have high namespace a _ _ _ t k (left_it ticket) h = record { header = h.header; watches = removed_steady (StartOk high) a.broadcasts ticket h.watches }
touch_starts story have high namespace a _ _ _ t k (opens_leasing number member q l) h = h
touch_starts story have high namespace a _ _ _ t k (sends c s m is f) h = record { header = h.header; watches = sent_firm (StartOk high) a.broadcasts s h.watches }
