-- Of each watch: what stays whatever stands in its queue, and what the small changes keep, each step of a proxy keeps.
use Rattle.std.proofs.Common.{◌≡◌, ℕ, ◌+◌, ◌≤◌, max, true, false, cond, ◌&&◌, ◌==◌, nat_le, List, [], ◌∷◌, ◌++◌, map, length, Some, Result, Ok, Err, refl, arith}
use Rattle.etcd_types.specs.declared.record.Header.{Header}
use Rattle.etcd_types.specs.declared.request.Request.TheVariants as request
use Rattle.etcd_types.specs.declared.request.WatchAsk.{WatchAsk}
use Rattle.etcd_types.specs.declared.watch.Event.{Event}
use Rattle.etcd_types.specs.declared.watch.WatchItem.{WatchItem}
use Rattle.etcd_types.specs.declared.watch.WatchItem.TheVariants as item
use Rattle.proxy_model.specs.Unwrapped.{Unwrapped, item_without}
use Rattle.watch_model.specs.declared.place.WatchPlace.{WatchPlace}
use Rattle.watch_model.specs.declared.place.WatchPlace.TheVariants as place
use Rattle.watch_model.specs.declared.stream.StreamPhase.{StreamPhase}
use Rattle.watch_model.specs.declared.stream.StreamPhase.TheVariants as phase
use Rattle.watch_model.specs.State.{Stream, Watch, Broadcasts}
use Rattle.watch_model.specs.Queues.{chosen, would_pass, with_progress}
use Rattle.watch_model.specs.Lookups.{with_stream, is_in, is_begun, member_changed, without_watch, watch_changed}
use Rattle.watch_model.specs.Joining.{new_watch, seated}
use Rattle.watch_model.specs.Merging.{merged}
use Rattle.watch_model.specs.Cuts.{cut_stream}
use Rattle.watch_model.specs.Delivery.{shown_events, queued, given_batch, advanced, last_revision, delivered_message, is_told, delivered_stream, progressed}
use Rattle.watch_model.specs.Takes.{is_last, after_take, taken_from}
use Rattle.watch_model.specs.Due.{sent, next_job}
use Rattle.watch_model.specs.Story.{EachWatch}
use Rattle.watch_model.proofs.Streams.{each_mapped}
use Rattle.watch_laws.proofs.Seating.{each_inserted, each_other, found}
use Rattle.watch_laws.proofs.Steady.{Steady, seat_steady, merged_steady, cut_steady, emptied_steady, removed_steady, created_steady, cancelled_steady}
use Rattle.core_model.specs.declared.event.CoreEvent.{CoreEvent}
use Rattle.core_model.specs.declared.event.CoreEvent.TheVariants as event
use Rattle.core_model.specs.declared.event.Outcome.{Outcome}
use Rattle.core_model.specs.declared.event.StepFault.{StepFault}
use Rattle.core_laws.proofs.Watches.Touches.{Side, told_unwrapped, told_stream, Touch, leaves, hears, ticks, joins, heard_leasing, broke_leasing, cut_leasing, told, cut, took, left_it, opens_leasing, sends}

pub record Firm (P : Watch → Type 0) : Type 0 where
  pub steady : Steady P
  pub queued : (w : Watch) (q : List WatchItem) → P w → P (record w { queue = q })

at_most : (a n : ℕ) → a ≤ max a n
at_most a n = omega arith

queued_firm : (P : Watch → Type 0) → Firm P → (h : Header) (own : ℕ) (es : List Event) (w : Watch) → w.next ≤ own → P w → P (queued h own es w)
queued_firm P k h own [] w l p = p
queued_firm P k h own (e ∷ es) w l p =
    elim (would_pass w.queue (length (e ∷ es))) as (λ b. P (cond b (record w { next = own; place = place.Split }) (record w { queue = w.queue ++ item.Events h (e ∷ es) ∷ [] }))) [
      | true ↦ k.steady.placed (record w { next = own }) place.Split (k.steady.ahead w own l p)
      | false ↦ k.queued w (w.queue ++ item.Events h (e ∷ es) ∷ []) p
    ]

given_firm : (P : Watch → Type 0) → Firm P → (next : ℕ) (h : Header) (es : List Event) (w : Watch) → P w → P (given_batch next h es w)
given_firm P k next h es w p = queued_firm P k h (max w.next next) (shown_events w.ask (chosen w.ask (max w.next next) es)) w (at_most w.next next) p

progressed_firm : (P : Watch → Type 0) → Firm P → (next : ℕ) (h : Header) (w : Watch) → P w → P (progressed next h w)
progressed_firm P k next h w p =
    elim (w.ask.progress && nat_le (max w.next next) (h.revision + 1)) as (λ b. P (cond b (record w { queue = with_progress w.queue (item.Events h []) }) w)) [
      | true ↦ k.queued w (with_progress w.queue (item.Events h [])) p
      | false ↦ p
    ]

member_firm : (P : Watch → Type 0) (n : ℕ) (f : Watch → Watch) → ((w : Watch) → P w → P (f w)) → (w : Watch) → P w → P (member_changed n f w)
member_firm P n f k w p = elim (is_in n w.place) as (λ c. P (cond c (f w) w)) [ true ↦ k w p | false ↦ p ]

message_firm : (P : Watch → Type 0) → Firm P → (b : Broadcasts) (s : Stream) (h : Header) (es : List Event) → EachWatch P b.watches → EachWatch P (delivered_message b s h es).watches
message_firm P k b s h [] ps =
    let g = progressed s.stream.next h in
    elim (nat_le s.stream.next (h.revision + 1)) as (λ c. EachWatch P (cond c (record b { streams = with_stream s.number (advanced h.revision) b.streams; watches = map (member_changed s.number g) b.watches }) b).watches) [
      | true ↦ each_mapped P P (member_changed s.number g) (member_firm P s.number g (progressed_firm P k s.stream.next h)) b.watches ps
      | false ↦ ps
    ]
message_firm P k b s h (e ∷ es) ps =
    let g = given_batch s.stream.next h (e ∷ es) in
    emptied_steady P s.number (record b { streams = with_stream s.number (advanced (last_revision 0 (e ∷ es))) b.streams; watches = map (member_changed s.number g) b.watches })
    (each_mapped P P (member_changed s.number g) (member_firm P s.number g (given_firm P k s.stream.next h (e ∷ es))) b.watches ps)

delivered_firm : (P : Watch → Type 0) → Firm P → (b : Broadcasts) (s : Stream) (h : Header) (es : List Event) → EachWatch P b.watches → EachWatch P (delivered_stream b s h es).watches
delivered_firm P k b s h es ps =
    let d = delivered_message b s h es in
    elim (is_begun s.phase) as (λ c. EachWatch P (cond c (cond (is_told s es) (merged s.stream.range d) (cut_stream b s)) b).watches) [
      | true ↦ elim (is_told s es) as (λ c. EachWatch P (cond c (merged s.stream.range d) (cut_stream b s)).watches) [
        | true ↦ merged_steady P k.steady s.stream.range d (message_firm P k b s h es ps)
        | false ↦ cut_steady P k.steady b s ps
      ]
      | false ↦ ps
    ]

unwrapped_firm : (P : Watch → Type 0) → Firm P → (b : Broadcasts) (s : Stream) (last : Header) (u : Unwrapped WatchItem) → EachWatch P b.watches → EachWatch P (told_unwrapped b s last u).watches
unwrapped_firm P k b s last (Ok (item.Created h)) ps = created_steady P k.steady b s h last ps
unwrapped_firm P k b s last (Ok (item.Events h es)) ps = delivered_firm P k b s h es ps
unwrapped_firm P k b s last (Ok (item.Canceled h compact)) ps = cancelled_steady P k.steady b s h compact last ps
unwrapped_firm P k b s last (Err foreign) ps = cut_steady P k.steady b s ps

told_firm : (P : Watch → Type 0) → Firm P → (b : Broadcasts) (s : Stream) (last : Header) (namespace : List ℕ) (x : WatchItem) → EachWatch P b.watches → EachWatch P (told_stream b s last namespace x).watches
told_firm P k b s last namespace x ps =
    elim (is_begun s.phase) as (λ c. EachWatch P (cond c (told_unwrapped b s last (item_without namespace x)) b).watches) [
      | true ↦ unwrapped_firm P k b s last (item_without namespace x) ps
      | false ↦ ps
    ]

replaced_firm : (P : Watch → Type 0) (t : ℕ) (v : Watch) (ws : List Watch) → P v → EachWatch P ws → EachWatch P (map (watch_changed t (λ u. v)) ws)
replaced_firm P t v ws p ps = each_mapped P P (watch_changed t (λ u. v)) (λ w q. elim (w.ticket == t) as (λ c. P (cond c v w)) [ true ↦ p | false ↦ q ]) ws ps

after_firm : (P : Watch → Type 0) → Firm P → (b : Broadcasts) (last : Header) (v : Watch) (is : List WatchItem) (p : WatchPlace) → P v → EachWatch P b.watches → EachWatch P (after_take b last v is p).watches
after_firm P k b last v [] place.Split pv ps =
    let x = seated b.streams b.given b.step last v in
    replaced_firm P x.watch.ticket x.watch b.watches (seat_steady P k.steady b.streams b.given b.step last v pv) ps
after_firm P k b last v [] (place.In n) pv ps = replaced_firm P v.ticket v b.watches pv ps
after_firm P k b last v [] place.Ended pv ps = replaced_firm P v.ticket v b.watches pv ps
after_firm P k b last v (i ∷ is) place.Split pv ps = replaced_firm P v.ticket v b.watches pv ps
after_firm P k b last v (i ∷ is) (place.In n) pv ps = replaced_firm P v.ticket v b.watches pv ps
after_firm P k b last v (i ∷ is) place.Ended pv ps = replaced_firm P v.ticket v b.watches pv ps

taken_firm : (P : Watch → Type 0) → Firm P → (b : Broadcasts) (last : Header) (w : Watch) → P w → EachWatch P b.watches → EachWatch P (taken_from b last w w.queue).0.watches
taken_firm P k b last w pw ps = by w.queue
  where
    by : (q : List WatchItem) → EachWatch P (taken_from b last w q).0.watches
    by [] = ps
    by (i ∷ is) =
        let v : Watch = record w { queue = is } in
        elim (is_last i) as (λ c. EachWatch P (cond c (record b { watches = without_watch w.ticket b.watches }) (after_take b last v is w.place)).watches) [
          | true ↦ each_other P w.ticket b.watches ps
          | false ↦ after_firm P k b last v is w.place (k.queued w is pw) ps
        ]

pub sent_firm : (P : Watch → Type 0) (b : Broadcasts) (s : Stream) → EachWatch P b.watches → EachWatch P (next_job b (Some s)).0.watches
sent_firm P b s ps = by s.phase
  where
    by : (p : StreamPhase) → EachWatch P (sent b s p).0.watches
    by (phase.Closing since) = ps
    by (phase.Due since) = ps
    by phase.Begun = ps

-- a watch that is asked has it
abbrev pub NewHas : (Watch → Type 0) → CoreEvent → Type 0
NewHas P (event.Ask ticket q word) = (ask : WatchAsk) → q ≡ request.Watch ask → P (new_watch ticket ask)
NewHas P _ = Unit {0}

pub touch_firm : (P : Watch → Type 0) → Firm P → (namespace : List ℕ) (a d : Side) (e : CoreEvent) (o : Result Outcome StepFault) → NewHas P e → Touch namespace a e d o → EachWatch P a.broadcasts.watches → EachWatch P d.broadcasts.watches
touch_firm P k namespace a _ _ _ n (leaves e o p) ps = ps
touch_firm P k namespace a _ _ _ n (hears call reply o p) ps = ps
touch_firm P k namespace a _ _ _ n (ticks word) ps = ps
touch_firm P k namespace a _ _ _ n (joins ticket ask word f) ps =
    let x = seated a.broadcasts.streams a.broadcasts.given a.broadcasts.step a.header (new_watch ticket ask) in
    each_inserted P x.watch a.broadcasts.watches (seat_steady P k.steady a.broadcasts.streams a.broadcasts.given a.broadcasts.step a.header (new_watch ticket ask) (n ask refl)) ps
touch_firm P k namespace a _ _ _ n (heard_leasing number x l) ps = ps
touch_firm P k namespace a _ _ _ n (broke_leasing number x l) ps = ps
touch_firm P k namespace a _ _ _ n (cut_leasing number l) ps = ps
touch_firm P k namespace a _ _ _ n (told number x s f) ps = told_firm P k a.broadcasts s _ namespace x ps
touch_firm P k namespace a _ _ _ n (cut number s f) ps = cut_steady P k.steady a.broadcasts s ps
touch_firm P k namespace a _ _ _ n (took ticket w i is f q) ps = taken_firm P k a.broadcasts a.header w (found P ticket a.broadcasts.watches w f ps) ps
touch_firm P k namespace a _ _ _ n (left_it ticket) ps = removed_steady P a.broadcasts ticket ps
touch_firm P k namespace a _ _ _ n (opens_leasing number member q l) ps = ps
touch_firm P k namespace a _ _ _ n (sends c s m is f) ps = sent_firm P a.broadcasts s ps
