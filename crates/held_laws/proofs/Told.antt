-- Of each watch: every item with events tells the history's events between two revisions, each with the record before it.
use Rattle.std.proofs.Common.{◌≡◌, ℕ, ◌+◌, ◌≤◌, max, true, false, cond, ◌&&◌, ◌==◌, nat_le, List, [], ◌∷◌, ◌++◌, map, filter, length, Option, None, Some, Result, Ok, Err, refl, ap, sym, subst, ◌∙◌, arith}
use Rattle.etcd_types.specs.declared.answer.Answer.TheVariants as answer
use Rattle.etcd_types.specs.declared.key_range.KeyRange.{KeyRange}
use Rattle.etcd_types.specs.declared.record.Header.{Header}
use Rattle.etcd_types.specs.declared.request.WatchAsk.{WatchAsk}
use Rattle.etcd_types.specs.declared.watch.Event.{Event}
use Rattle.etcd_types.specs.declared.watch.WatchItem.{WatchItem}
use Rattle.etcd_types.specs.declared.watch.WatchItem.TheVariants as item
use Rattle.proxy_model.specs.Prefixes.{under}
use Rattle.proxy_model.specs.Unwrapped.{Unwrapped, item_without}
use Rattle.store_model.specs.Events.{events_after, passes}
use Rattle.watch_model.specs.declared.place.WatchPlace.{WatchPlace}
use Rattle.watch_model.specs.declared.place.WatchPlace.TheVariants as place
use Rattle.watch_model.specs.State.{Stream, Watch, Broadcasts}
use Rattle.watch_model.specs.Queues.{chosen, would_pass, with_progress, is_progress}
use Rattle.watch_model.specs.Lookups.{stream_at, place_stream, with_stream, is_in, is_begun, member_changed, without_watch, watch_changed}
use Rattle.watch_model.specs.Joining.{new_watch, seated}
use Rattle.watch_model.specs.Merging.{merged}
use Rattle.watch_model.specs.Cuts.{cut_stream}
use Rattle.watch_model.specs.Delivery.{shown_events, queued, given_batch, advanced, last_revision, is_batch, delivered_message, is_told, delivered_stream, progressed}
use Rattle.watch_model.specs.Takes.{is_last, after_take, taken_from}
use Rattle.watch_model.specs.Due.{next_job}
use Rattle.watch_model.specs.Story.{Story, Received, WatchOk, EachWatch, Holds}
use Rattle.watch_model.proofs.Streams.{at_number, each_mapped, number_itself}
use Rattle.watch_model.proofs.StepTickets.{joined-keeps}
use Rattle.watch_laws.proofs.Calls.{known, others_ok}
use Rattle.watch_laws.proofs.Seating.{each_inserted, found}
use Rattle.watch_laws.proofs.Steady.{Steady, seat_steady, merged_steady, cut_steady, emptied_steady, removed_steady, created_steady, cancelled_steady}
use Rattle.watch_laws.proofs.Steps.{in_place}
use Rattle.core_model.specs.declared.event.CoreEvent.{CoreEvent}
use Rattle.core_model.specs.declared.event.CoreEvent.TheVariants as event
use Rattle.core_model.specs.declared.event.Outcome.{Outcome}
use Rattle.core_model.specs.declared.event.Outcome.TheVariants as outcome
use Rattle.core_model.specs.declared.event.StepFault.{StepFault}
use Rattle.core_model.specs.State.{Core}
use Rattle.core_model.specs.Watching.{stream_job, with_watches}
use Rattle.watch_model.specs.declared.stream.StreamJob.{StreamJob}
use Rattle.watch_model.specs.declared.stream.StreamJob.TheVariants as stream
use Rattle.held_laws.proofs.Firm.{sent_firm}
use Rattle.core_laws.specs.Watches.Streams.{ticket_of}
use Rattle.core_laws.proofs.Watches.Holding.{watch_itself}
use Rattle.held_laws.proofs.Pushes.{Whole}
use Rattle.held_laws.proofs.Records.{TellsEach, in_span, given_tells, chosen_span}
use Rattle.core_laws.proofs.Watches.Touches.{Side, is_plain, told_unwrapped, told_stream, Touch, leaves, hears, ticks, joins, heard_leasing, broke_leasing, cut_leasing, told, cut, took, left_it, opens_leasing, sends}

-- what an item tells a watch that was asked for so
abbrev pub EventsTold : Whole → List ℕ → WatchAsk → List Event → Type 0
EventsTold whole namespace ask [] = Unit {0}
EventsTold whole namespace ask (e ∷ es) =
    (a : ℕ) × (b : ℕ) × TellsEach whole.items ask.prev_kv namespace (e ∷ es) (filter (passes ask) (filter (in_span a b) (events_after (under namespace ask.range) [] whole.history)))

abbrev pub ItemTold : Whole → List ℕ → WatchAsk → WatchItem → Type 0
ItemTold whole namespace ask (item.Events h es) = EventsTold whole namespace ask es
ItemTold whole namespace ask (item.Created h) = Unit {0}
ItemTold whole namespace ask (item.Canceled h compaction) = Unit {0}

abbrev pub AllTold : Whole → List ℕ → WatchAsk → List WatchItem → Type 0
AllTold whole namespace ask [] = Unit {0}
AllTold whole namespace ask (i ∷ is) = ItemTold whole namespace ask i × AllTold whole namespace ask is

pub told-append : (whole : Whole) (namespace : List ℕ) (ask : WatchAsk) (xs ys : List WatchItem) → AllTold whole namespace ask xs → AllTold whole namespace ask ys → AllTold whole namespace ask (xs ++ ys)
told-append whole namespace ask [] ys h k = k
told-append whole namespace ask (x ∷ xs) ys h k = (h.0, told-append whole namespace ask xs ys h.1 k)

pub told-split : (whole : Whole) (namespace : List ℕ) (ask : WatchAsk) (xs ys : List WatchItem) → AllTold whole namespace ask (xs ++ ys) → AllTold whole namespace ask xs × AllTold whole namespace ask ys
told-split whole namespace ask [] ys h = (tt, h)
told-split whole namespace ask (x ∷ xs) ys h = let k = told-split whole namespace ask xs ys h.1 in ((h.0, k.0), k.1)

-- a watch's items: those that were taken, by ticket, and those in its queue
abbrev pub HasTold : Whole → List ℕ → (ℕ → List WatchItem) → Watch → Type 0
HasTold whole namespace got w = AllTold whole namespace w.ask (got w.ticket) × AllTold whole namespace w.ask w.queue

told_steady : (whole : Whole) (namespace : List ℕ) (got : ℕ → List WatchItem) → Steady (HasTold whole namespace got)
told_steady whole namespace got = record {
  placed = λ w p h. h;
  told = λ w header h. (h.0, told-append whole namespace w.ask w.queue (item.Created header ∷ []) h.1 (tt, tt));
  decided = λ w n e h. h;
  ahead = λ w n l h. h;
  ended = λ w header compact h. (h.0, told-append whole namespace w.ask w.queue (item.Canceled header compact ∷ []) h.1 (tt, tt));
}

-- ---- a batch

-- a batch of a stream of this range and next
abbrev pub BatchTold : Whole → List ℕ → Stream → List Event → Type 0
BatchTold whole namespace s [] = Unit {0}
BatchTold whole namespace s (e ∷ es) =
    (b : ℕ) × TellsEach whole.items true namespace (e ∷ es) (filter (in_span s.stream.next b) (events_after (under namespace s.stream.range) [] whole.history))

queued_told : (whole : Whole) (namespace : List ℕ) (got : ℕ → List WatchItem) (h : Header) (own : ℕ) (es : List Event) (w : Watch) → EventsTold whole namespace w.ask es → HasTold whole namespace got w → HasTold whole namespace got (queued h own es w)
queued_told whole namespace got h own [] w t k = k
queued_told whole namespace got h own (e ∷ es) w t k =
    elim (would_pass w.queue (length (e ∷ es))) as (λ b. HasTold whole namespace got (cond b (record w { next = own; place = place.Split }) (record w { queue = w.queue ++ item.Events h (e ∷ es) ∷ [] }))) [
      | true ↦ k
      | false ↦ (k.0, told-append whole namespace w.ask w.queue (item.Events h (e ∷ es) ∷ []) k.1 (t, tt))
    ]

any_told : (whole : Whole) (namespace : List ℕ) (ask : WatchAsk) (a b : ℕ) (es : List Event) → TellsEach whole.items ask.prev_kv namespace es (filter (passes ask) (filter (in_span a b) (events_after (under namespace ask.range) [] whole.history)))
    → EventsTold whole namespace ask es
any_told whole namespace ask a b [] t = tt
any_told whole namespace ask a b (e ∷ es) t = (a, b, t)

behind : (a n : ℕ) → n ≤ max a n
behind a n = omega arith

given_told : (whole : Whole) (namespace : List ℕ) (got : ℕ → List WatchItem) (s : Stream) (h : Header) (e : Event) (es : List Event) (w : Watch) → s.stream.range ≡ w.ask.range → BatchTold whole namespace s (e ∷ es) → HasTold whole namespace got w
    → HasTold whole namespace got (given_batch s.stream.next h (e ∷ es) w)
given_told whole namespace got s h e es w range t k =
    let own = max w.next s.stream.next in
    let all = events_after (under namespace s.stream.range) [] whole.history in
    let given = given_tells whole.items namespace w.ask own (e ∷ es) (filter (in_span s.stream.next t.0) all) t.1 in
    let span = chosen_span w.ask own s.stream.next t.0 (behind w.next s.stream.next) all in
    let there = subst (TellsEach whole.items w.ask.prev_kv namespace (shown_events w.ask (chosen w.ask own (e ∷ es)))) span given in
    queued_told whole namespace got h own (shown_events w.ask (chosen w.ask own (e ∷ es))) w
    (any_told whole namespace w.ask own t.0 (shown_events w.ask (chosen w.ask own (e ∷ es)))
    (subst (λ (r : KeyRange). TellsEach whole.items w.ask.prev_kv namespace (shown_events w.ask (chosen w.ask own (e ∷ es))) (filter (passes w.ask) (filter (in_span own t.0) (events_after (under namespace r) [] whole.history)))) range there)) k

progress_queue : (whole : Whole) (namespace : List ℕ) (ask : WatchAsk) (h : Header) (q : List WatchItem) → AllTold whole namespace ask q → AllTold whole namespace ask (with_progress q (item.Events h []))
progress_queue whole namespace ask h [] k = (tt, tt)
progress_queue whole namespace ask h (i ∷ []) k = elim (is_progress i) as (λ b. AllTold whole namespace ask (cond b (item.Events h [] ∷ []) (i ∷ item.Events h [] ∷ []))) [ true ↦ (tt, tt) | false ↦ (k.0, (tt, tt)) ]
progress_queue whole namespace ask h (i ∷ j ∷ q) k = (k.0, progress_queue whole namespace ask h (j ∷ q) k.1)

progressed_told : (whole : Whole) (namespace : List ℕ) (got : ℕ → List WatchItem) (next : ℕ) (h : Header) (w : Watch) → HasTold whole namespace got w → HasTold whole namespace got (progressed next h w)
progressed_told whole namespace got next h w k =
    elim (w.ask.progress && nat_le (max w.next next) (h.revision + 1)) as (λ b. HasTold whole namespace got (cond b (record w { queue = with_progress w.queue (item.Events h []) }) w)) [
      | true ↦ (k.0, progress_queue whole namespace w.ask h w.queue k.1)
      | false ↦ k
    ]

pub both : (P Q : Watch → Type 0) (ws : List Watch) → EachWatch P ws → EachWatch Q ws → EachWatch (λ w. P w × Q w) ws
both P Q [] p q = tt
both P Q (w ∷ ws) p q = ((p.0, q.0), both P Q ws p.1 q.1)

message_told : (whole : Whole) (namespace : List ℕ) (got : ℕ → List WatchItem) (story : Story) (have : Received) (b : Broadcasts) (s : Stream) (h : Header) (es : List Event) → stream_at s.number b.streams ≡ Some s → BatchTold whole namespace s es → Holds story have b
    → EachWatch (HasTold whole namespace got) b.watches → EachWatch (HasTold whole namespace got) (delivered_message b s h es).watches
message_told whole namespace got story have b s h [] at t o k =
    let P : Watch → Type 0 = HasTold whole namespace got in
    let g = progressed s.stream.next h in
    elim (nat_le s.stream.next (h.revision + 1)) as (λ c. EachWatch P (cond c (record b { streams = with_stream s.number (advanced h.revision) b.streams; watches = map (member_changed s.number g) b.watches }) b).watches) [
      | true ↦ each_mapped P P (member_changed s.number g) (λ w p. elim (is_in s.number w.place) as (λ c. P (cond c (g w) w)) [ true ↦ progressed_told whole namespace got s.stream.next h w p | false ↦ p ]) b.watches k
      | false ↦ k
    ]
message_told whole namespace got story have b s h (e ∷ es) at t o k =
    let P : Watch → Type 0 = HasTold whole namespace got in
    let O : Watch → Type 0 = λ w. WatchOk story (have w.ticket) (place_stream b.streams w.place) w in
    let g = given_batch s.stream.next h (e ∷ es) in
    emptied_steady P s.number (record b { streams = with_stream s.number (advanced (last_revision 0 (e ∷ es))) b.streams; watches = map (member_changed s.number g) b.watches })
    (each_mapped (λ w. O w × P w) P (member_changed s.number g)
    (λ w p. elim (is_in s.number w.place) as (λ c. is_in s.number w.place ≡ c → P (cond c (g w) w)) [
      | true ↦ λ q. given_told whole namespace got s h e es w (p.0.range s (ap (place_stream b.streams) (in_place s.number w.place q) ∙ at)) t p.1
      | false ↦ λ q. p.1
    ] refl) b.watches (both O P b.watches o.watches k))

-- a batch of a begun stream whose next is known
abbrev pub IsBatchTold : Whole → List ℕ → Side → CoreEvent → Type 0
IsBatchTold whole namespace a (event.Item number x) =
    (s : Stream) (h : Header) (es : List Event) → stream_at number a.broadcasts.streams ≡ Some s → is_begun s.phase ≡ true → (s.stream.next == 0) ≡ false → item_without namespace x ≡ Ok (item.Events h es) → BatchTold whole namespace s es
IsBatchTold whole namespace a _ = Unit {0}

delivered_told : (whole : Whole) (namespace : List ℕ) (got : ℕ → List WatchItem) (story : Story) (have : Received) (b : Broadcasts) (s : Stream) (h : Header) (es : List Event) → stream_at s.number b.streams ≡ Some s
    → (is_begun s.phase ≡ true → (s.stream.next == 0) ≡ false → BatchTold whole namespace s es) → Holds story have b → EachWatch (HasTold whole namespace got) b.watches → EachWatch (HasTold whole namespace got) (delivered_stream b s h es).watches
delivered_told whole namespace got story have b s h es at t o k =
    let P : Watch → Type 0 = HasTold whole namespace got in
    let d = delivered_message b s h es in
    elim (is_begun s.phase) as (λ c. is_begun s.phase ≡ c → EachWatch P (cond c (cond (is_told s es) (merged s.stream.range d) (cut_stream b s)) b).watches) [
      | true ↦ λ q. elim (is_told s es) as (λ c. is_told s es ≡ c → EachWatch P (cond c (merged s.stream.range d) (cut_stream b s)).watches) [
        | true ↦ λ r. merged_steady P (told_steady whole namespace got) s.stream.range d (message_told whole namespace got story have b s h es at (t q (known s.stream.next (is_batch s.stream.range s.stream.next es) r)) o k)
        | false ↦ λ r. cut_steady P (told_steady whole namespace got) b s k
      ] refl
      | false ↦ λ q. k
    ] refl

unwrapped_told : (whole : Whole) (namespace : List ℕ) (got : ℕ → List WatchItem) (story : Story) (have : Received) (b : Broadcasts) (s : Stream) (last : Header) (u : Unwrapped WatchItem) → stream_at s.number b.streams ≡ Some s
    → ((h : Header) (es : List Event) → u ≡ Ok (item.Events h es) → is_begun s.phase ≡ true → (s.stream.next == 0) ≡ false → BatchTold whole namespace s es) → Holds story have b → EachWatch (HasTold whole namespace got) b.watches
    → EachWatch (HasTold whole namespace got) (told_unwrapped b s last u).watches
unwrapped_told whole namespace got story have b s last (Ok (item.Created h)) at t o k = created_steady (HasTold whole namespace got) (told_steady whole namespace got) b s h last k
unwrapped_told whole namespace got story have b s last (Ok (item.Events h es)) at t o k = delivered_told whole namespace got story have b s h es at (t h es refl) o k
unwrapped_told whole namespace got story have b s last (Ok (item.Canceled h compact)) at t o k = cancelled_steady (HasTold whole namespace got) (told_steady whole namespace got) b s h compact last k
unwrapped_told whole namespace got story have b s last (Err foreign) at t o k = cut_steady (HasTold whole namespace got) (told_steady whole namespace got) b s k

stream_told : (whole : Whole) (namespace : List ℕ) (got : ℕ → List WatchItem) (story : Story) (have : Received) (b : Broadcasts) (s : Stream) (last : Header) (x : WatchItem) → stream_at s.number b.streams ≡ Some s
    → ((h : Header) (es : List Event) → item_without namespace x ≡ Ok (item.Events h es) → is_begun s.phase ≡ true → (s.stream.next == 0) ≡ false → BatchTold whole namespace s es) → Holds story have b → EachWatch (HasTold whole namespace got) b.watches
    → EachWatch (HasTold whole namespace got) (told_stream b s last namespace x).watches
stream_told whole namespace got story have b s last x at t o k =
    elim (is_begun s.phase) as (λ c. EachWatch (HasTold whole namespace got) (cond c (told_unwrapped b s last (item_without namespace x)) b).watches) [
      | true ↦ unwrapped_told whole namespace got story have b s last (item_without namespace x) at t o k
      | false ↦ k
    ]

-- ---- a take

-- one item more was taken for this ticket
abbrev pub taken_more : (ℕ → List WatchItem) → ℕ → WatchItem → ℕ → List WatchItem
taken_more got ticket i t = cond (t == ticket) (got t ++ i ∷ []) (got t)

other_told : (whole : Whole) (namespace : List ℕ) (got : ℕ → List WatchItem) (ticket : ℕ) (i : WatchItem) (w : Watch) → (w.ticket == ticket) ≡ false → HasTold whole namespace got w → HasTold whole namespace (taken_more got ticket i) w
other_told whole namespace got ticket i w n h = (subst (AllTold whole namespace w.ask) (sym (ap (λ c. cond c (got w.ticket ++ i ∷ []) (got w.ticket)) n)) h.0, h.1)

replaced_told : (whole : Whole) (namespace : List ℕ) (got : ℕ → List WatchItem) (ticket : ℕ) (i : WatchItem) (v : Watch) (ws : List Watch) → HasTold whole namespace (taken_more got ticket i) v → EachWatch (HasTold whole namespace got) ws
    → EachWatch (HasTold whole namespace (taken_more got ticket i)) (map (watch_changed ticket (λ u. v)) ws)
replaced_told whole namespace got ticket i v ws hv h =
    each_mapped (HasTold whole namespace got) (HasTold whole namespace (taken_more got ticket i)) (watch_changed ticket (λ u. v))
    (λ u p. elim (u.ticket == ticket) as (λ c. (u.ticket == ticket) ≡ c → HasTold whole namespace (taken_more got ticket i) (cond c v u)) [
      | true ↦ λ q. hv
      | false ↦ λ q. other_told whole namespace got ticket i u q p
    ] refl) ws h

after_told : (whole : Whole) (namespace : List ℕ) (got : ℕ → List WatchItem) (b : Broadcasts) (last : Header) (v : Watch) (i : WatchItem) (is : List WatchItem) (p : WatchPlace) → HasTold whole namespace (taken_more got v.ticket i) v
    → EachWatch (HasTold whole namespace got) b.watches → EachWatch (HasTold whole namespace (taken_more got v.ticket i)) (after_take b last v is p).watches
after_told whole namespace got b last v i [] place.Split hv h =
    let got' = taken_more got v.ticket i in
    let x = seated b.streams b.given b.step last v in
    let sat : HasTold whole namespace got' x.watch = seat_steady (HasTold whole namespace got') (told_steady whole namespace got') b.streams b.given b.step last v hv in
    subst (λ (n : ℕ). EachWatch (HasTold whole namespace got') (map (watch_changed n (λ u. x.watch)) b.watches)) (sym (joined-keeps b.streams b.given b.step last v)) (replaced_told whole namespace got v.ticket i x.watch b.watches sat h)
after_told whole namespace got b last v i [] (place.In n) hv h = replaced_told whole namespace got v.ticket i v b.watches hv h
after_told whole namespace got b last v i [] place.Ended hv h = replaced_told whole namespace got v.ticket i v b.watches hv h
after_told whole namespace got b last v i (j ∷ is) place.Split hv h = replaced_told whole namespace got v.ticket i v b.watches hv h
after_told whole namespace got b last v i (j ∷ is) (place.In n) hv h = replaced_told whole namespace got v.ticket i v b.watches hv h
after_told whole namespace got b last v i (j ∷ is) place.Ended hv h = replaced_told whole namespace got v.ticket i v b.watches hv h

taken_told : (whole : Whole) (namespace : List ℕ) (got : ℕ → List WatchItem) (b : Broadcasts) (last : Header) (w : Watch) (i : WatchItem) (is : List WatchItem) → w.queue ≡ i ∷ is → HasTold whole namespace got w → EachWatch (HasTold whole namespace got) b.watches
    → EachWatch (HasTold whole namespace (taken_more got w.ticket i)) (taken_from b last w w.queue).0.watches
taken_told whole namespace got b last w i is e hw h =
    subst (λ (q : List WatchItem). EachWatch (HasTold whole namespace (taken_more got w.ticket i)) (taken_from b last w q).0.watches) (sym e)
    (elim (is_last i) as (λ c. EachWatch (HasTold whole namespace (taken_more got w.ticket i)) (cond c (record b { watches = without_watch w.ticket b.watches }) (after_take b last v is w.place)).watches) [
      | true ↦ others_ok (HasTold whole namespace got) (HasTold whole namespace (taken_more got w.ticket i)) w.ticket (λ u n p. other_told whole namespace got w.ticket i u n p) b.watches h
      | false ↦ after_told whole namespace got b last v i is w.place (mine, all.1) h
    ])
  where
    v : Watch
    v = record w { queue = is }

    all : ItemTold whole namespace w.ask i × AllTold whole namespace w.ask is
    all = subst (AllTold whole namespace w.ask) e hw.1

    mine : AllTold whole namespace w.ask (taken_more got w.ticket i w.ticket)
    mine = subst (AllTold whole namespace w.ask) (sym (ap (λ c. cond c (got w.ticket ++ i ∷ []) (got w.ticket)) (number_itself w.ticket))) (told-append whole namespace w.ask (got w.ticket) (i ∷ []) hw.0 (all.0, tt))

-- ---- all that touches them

-- what was taken behind an event
abbrev pub taken_by : (ℕ → List WatchItem) → CoreEvent → Result Outcome StepFault → ℕ → List WatchItem
taken_by got e (Ok (outcome.Item i)) = taken_more got (ticket_of e) i
taken_by got e _ = got

abbrev pub IsUntaken : (ℕ → List WatchItem) → CoreEvent → Type 0
IsUntaken got (event.Ask ticket q word) = got ticket ≡ []
IsUntaken got _ = Unit {0}

pub plain_taken : (got : ℕ → List WatchItem) (e : CoreEvent) (o : Result Outcome StepFault) → is_plain e o ≡ true → taken_by got e o ≡ got
plain_taken got e (Ok (outcome.Item i)) p = absurd (cc)
plain_taken got e (Ok (outcome.Replied a)) p = refl
plain_taken got e (Ok outcome.Waiting) p = refl
plain_taken got e (Ok outcome.Pending) p = refl
plain_taken got e (Ok (outcome.Job j)) p = refl
plain_taken got e (Ok outcome.Noted) p = refl
plain_taken got e (Err f) p = refl

pub job_taken : (got : ℕ → List WatchItem) (o : Option StreamJob) (c : Core) → taken_by got event.Work (stream_job o c).outcome ≡ got
job_taken got None c = refl
job_taken got (Some (stream.Close number)) c = refl
job_taken got (Some (stream.Open number range start)) c = refl

pub touch_told : (whole : Whole) (namespace : List ℕ) (got : ℕ → List WatchItem) (story : Story) (have : Received) (a d : Side) (e : CoreEvent) (o : Result Outcome StepFault) → IsBatchTold whole namespace a e → IsUntaken got e → Holds story have a.broadcasts
    → Touch namespace a e d o → EachWatch (HasTold whole namespace got) a.broadcasts.watches → EachWatch (HasTold whole namespace (taken_by got e o)) d.broadcasts.watches
touch_told whole namespace got story have a _ _ _ t n k (leaves e o p) h = subst (λ (g : ℕ → List WatchItem). EachWatch (HasTold whole namespace g) a.broadcasts.watches) (sym (plain_taken got e o p)) h
touch_told whole namespace got story have a _ _ _ t n k (hears call reply o p) h =
    subst (λ (g : ℕ → List WatchItem). EachWatch (HasTold whole namespace g) a.broadcasts.watches) (sym (plain_taken got (event.Answer call (answer.Done reply)) o p)) h
touch_told whole namespace got story have a _ _ _ t n k (ticks word) h = h
touch_told whole namespace got story have a _ _ _ t n k (joins ticket ask word f) h =
    let P : Watch → Type 0 = HasTold whole namespace got in
    let x = seated a.broadcasts.streams a.broadcasts.given a.broadcasts.step a.header (new_watch ticket ask) in
    let v = new_watch ticket ask in
    each_inserted P x.watch a.broadcasts.watches
    (seat_steady P (told_steady whole namespace got) a.broadcasts.streams a.broadcasts.given a.broadcasts.step a.header v (subst (AllTold whole namespace v.ask) (sym n) tt, tt)) h
touch_told whole namespace got story have a _ _ _ t n k (heard_leasing number x l) h = h
touch_told whole namespace got story have a _ _ _ t n k (broke_leasing number x l) h = h
touch_told whole namespace got story have a _ _ _ t n k (cut_leasing number l) h = h
touch_told whole namespace got story have a _ _ _ t n k (told number x s f) h =
    stream_told whole namespace got story have a.broadcasts s _ x (ap (λ (j : ℕ). stream_at j a.broadcasts.streams) (at_number number a.broadcasts.streams s f) ∙ f) (λ g es u q z. t s g es f q z u) k h
touch_told whole namespace got story have a _ _ _ t n k (cut number s f) h = cut_steady (HasTold whole namespace got) (told_steady whole namespace got) a.broadcasts s h
touch_told whole namespace got story have a _ _ _ t n k (took ticket w i is f q) h =
    subst (λ (j : ℕ). EachWatch (HasTold whole namespace (taken_more got j i)) (taken_from a.broadcasts a.header w w.queue).0.watches) (watch_itself ticket a.broadcasts.watches w f)
    (taken_told whole namespace got a.broadcasts a.header w i is q (found (HasTold whole namespace got) ticket a.broadcasts.watches w f h) h)
touch_told whole namespace got story have a _ _ _ t n k (left_it ticket) h = removed_steady (HasTold whole namespace got) a.broadcasts ticket h
touch_told whole namespace got story have a _ _ _ t n k (opens_leasing number member q l) h = h
touch_told whole namespace got story have a _ _ _ t n k (sends c s m is f) h =
    subst (λ (g : ℕ → List WatchItem). EachWatch (HasTold whole namespace g) (next_job a.broadcasts (Some s)).0.watches) (sym (job_taken got (next_job c.watches (Some s)).1 (with_watches c (next_job c.watches (Some s)).0)))
    (sent_firm (HasTold whole namespace got) a.broadcasts s h)
