-- Of each watch: what the small changes keep, and what a batch, a message without events and a take keep, each step of a proxy keeps.
use Rattle.std.proofs.Common.{◌≡◌, inl, inr, ℕ, ◌+◌, max, true, false, cond, ◌&&◌, ◌==◌, nat_le, List, [], ◌∷◌, map, Some, Result, Ok, Err, refl, sym, subst}
use Rattle.etcd_types.specs.declared.record.Header.{Header}
use Rattle.etcd_types.specs.declared.request.Request.TheVariants as request
use Rattle.etcd_types.specs.declared.request.WatchAsk.{WatchAsk}
use Rattle.etcd_types.specs.declared.watch.Event.{Event}
use Rattle.etcd_types.specs.declared.watch.WatchItem.{WatchItem}
use Rattle.etcd_types.specs.declared.watch.WatchItem.TheVariants as item
use Rattle.proxy_model.specs.Unwrapped.{Unwrapped, item_without}
use Rattle.watch_model.specs.declared.place.WatchPlace.{WatchPlace}
use Rattle.watch_model.specs.declared.place.WatchPlace.TheVariants as place
use Rattle.watch_model.specs.declared.stream.StreamPhase.{StreamPhase}
use Rattle.watch_model.specs.declared.stream.StreamPhase.TheVariants as phase
use Rattle.watch_model.specs.State.{Stream, Watch, Broadcasts}
use Rattle.watch_model.specs.Queues.{with_progress}
use Rattle.watch_model.specs.Lookups.{with_stream, is_in, is_begun, member_changed, without_watch, watch_changed}
use Rattle.watch_model.specs.Joining.{new_watch, seated}
use Rattle.watch_model.specs.Merging.{merged}
use Rattle.watch_model.specs.Cuts.{cut_stream}
use Rattle.watch_model.specs.Delivery.{given_batch, advanced, last_revision, delivered_message, is_told, delivered_stream, progressed}
use Rattle.watch_model.specs.Takes.{is_last, after_take, taken_from}
use Rattle.watch_model.specs.Due.{sent, next_job}
use Rattle.watch_model.specs.Story.{EachWatch}
use Rattle.watch_model.proofs.Streams.{each_mapped}
use Rattle.watch_laws.proofs.Seating.{each_inserted, each_other, found}
use Rattle.watch_laws.proofs.Steady.{Steady, seat_steady, merged_steady, cut_steady, emptied_steady, removed_steady, created_steady, cancelled_steady}
use Rattle.core_model.specs.declared.event.CoreEvent.{CoreEvent}
use Rattle.core_model.specs.declared.event.CoreEvent.TheVariants as event
use Rattle.core_model.specs.declared.event.Outcome.{Outcome}
use Rattle.core_model.specs.declared.event.StepFault.{StepFault}
use Rattle.core_model.specs.State.{Core}
use Rattle.core_model.specs.Step.{stepped}
use Rattle.core_model.specs.Stepped.{Stepped}
use Rattle.core_laws.proofs.Watches.Touches.{Side, told_unwrapped, told_stream, Touch, leaves, hears, ticks, joins, heard_leasing, broke_leasing, cut_leasing, told, cut, took, left_it, opens_leasing, sends, step_touches}

-- where the events of a message are so
pub record Lasts (P : Watch → Type 0) (So : List Event → Type 0) : Type 0 where
  pub steady : Steady P
  pub batch : (next : ℕ) (h : Header) (es : List Event) (w : Watch) → So es → P w → P (given_batch next h es w)
  pub progress : (h : Header) (w : Watch) → P w → P (record w { queue = with_progress w.queue (item.Events h []) })
  pub took : (w : Watch) (i : WatchItem) (is : List WatchItem) → w.queue ≡ i ∷ is → P w → P (record w { queue = is })

progressed_lasts : (P : Watch → Type 0) (So : List Event → Type 0) → Lasts P So → (next : ℕ) (h : Header) (w : Watch) → P w → P (progressed next h w)
progressed_lasts P So k next h w p =
    elim (w.ask.progress && nat_le (max w.next next) (h.revision + 1)) as (λ b. P (cond b (record w { queue = with_progress w.queue (item.Events h []) }) w)) [
      | true ↦ k.progress h w p
      | false ↦ p
    ]

member_lasts : (P : Watch → Type 0) (n : ℕ) (f : Watch → Watch) → ((w : Watch) → P w → P (f w)) → (w : Watch) → P w → P (member_changed n f w)
member_lasts P n f k w p = elim (is_in n w.place) as (λ c. P (cond c (f w) w)) [ true ↦ k w p | false ↦ p ]

message_lasts : (P : Watch → Type 0) (So : List Event → Type 0) → Lasts P So → (b : Broadcasts) (s : Stream) (h : Header) (es : List Event) → So es → EachWatch P b.watches → EachWatch P (delivered_message b s h es).watches
message_lasts P So k b s h [] so ps =
    let g = progressed s.stream.next h in
    elim (nat_le s.stream.next (h.revision + 1)) as (λ c. EachWatch P (cond c (record b { streams = with_stream s.number (advanced h.revision) b.streams; watches = map (member_changed s.number g) b.watches }) b).watches) [
      | true ↦ each_mapped P P (member_changed s.number g) (member_lasts P s.number g (progressed_lasts P So k s.stream.next h)) b.watches ps
      | false ↦ ps
    ]
message_lasts P So k b s h (e ∷ es) so ps =
    let g = given_batch s.stream.next h (e ∷ es) in
    emptied_steady P s.number (record b { streams = with_stream s.number (advanced (last_revision 0 (e ∷ es))) b.streams; watches = map (member_changed s.number g) b.watches })
    (each_mapped P P (member_changed s.number g) (member_lasts P s.number g (λ w p. k.batch s.stream.next h (e ∷ es) w so p)) b.watches ps)

delivered_lasts : (P : Watch → Type 0) (So : List Event → Type 0) → Lasts P So → (b : Broadcasts) (s : Stream) (h : Header) (es : List Event) → So es → EachWatch P b.watches → EachWatch P (delivered_stream b s h es).watches
delivered_lasts P So k b s h es so ps =
    let d = delivered_message b s h es in
    elim (is_begun s.phase) as (λ c. EachWatch P (cond c (cond (is_told s es) (merged s.stream.range d) (cut_stream b s)) b).watches) [
      | true ↦ elim (is_told s es) as (λ c. EachWatch P (cond c (merged s.stream.range d) (cut_stream b s)).watches) [
        | true ↦ merged_steady P k.steady s.stream.range d (message_lasts P So k b s h es so ps)
        | false ↦ cut_steady P k.steady b s ps
      ]
      | false ↦ ps
    ]

-- its events are so, where it has some
abbrev pub SoOf : (List Event → Type 0) → Unwrapped WatchItem → Type 0
SoOf So (Ok (item.Events h es)) = So es
SoOf So (Ok (item.Created h)) = Unit {0}
SoOf So (Ok (item.Canceled h compact)) = Unit {0}
SoOf So (Err foreign) = Unit {0}

unwrapped_lasts : (P : Watch → Type 0) (So : List Event → Type 0) → Lasts P So → (b : Broadcasts) (s : Stream) (last : Header) (u : Unwrapped WatchItem) → SoOf So u → EachWatch P b.watches → EachWatch P (told_unwrapped b s last u).watches
unwrapped_lasts P So k b s last (Ok (item.Created h)) so ps = created_steady P k.steady b s h last ps
unwrapped_lasts P So k b s last (Ok (item.Events h es)) so ps = delivered_lasts P So k b s h es so ps
unwrapped_lasts P So k b s last (Ok (item.Canceled h compact)) so ps = cancelled_steady P k.steady b s h compact last ps
unwrapped_lasts P So k b s last (Err foreign) so ps = cut_steady P k.steady b s ps

told_lasts : (P : Watch → Type 0) (So : List Event → Type 0) → Lasts P So → (b : Broadcasts) (s : Stream) (last : Header) (namespace : List ℕ) (x : WatchItem) → SoOf So (item_without namespace x) → EachWatch P b.watches
    → EachWatch P (told_stream b s last namespace x).watches
told_lasts P So k b s last namespace x so ps =
    elim (is_begun s.phase) as (λ c. EachWatch P (cond c (told_unwrapped b s last (item_without namespace x)) b).watches) [
      | true ↦ unwrapped_lasts P So k b s last (item_without namespace x) so ps
      | false ↦ ps
    ]

replaced_lasts : (P : Watch → Type 0) (t : ℕ) (v : Watch) (ws : List Watch) → P v → EachWatch P ws → EachWatch P (map (watch_changed t (λ u. v)) ws)
replaced_lasts P t v ws p ps = each_mapped P P (watch_changed t (λ u. v)) (λ w q. elim (w.ticket == t) as (λ c. P (cond c v w)) [ true ↦ p | false ↦ q ]) ws ps

after_lasts : (P : Watch → Type 0) → Steady P → (b : Broadcasts) (last : Header) (v : Watch) (is : List WatchItem) (p : WatchPlace) → P v → EachWatch P b.watches → EachWatch P (after_take b last v is p).watches
after_lasts P k b last v [] place.Split pv ps =
    let x = seated b.streams b.given b.step last v in
    replaced_lasts P x.watch.ticket x.watch b.watches (seat_steady P k b.streams b.given b.step last v pv) ps
after_lasts P k b last v [] (place.In n) pv ps = replaced_lasts P v.ticket v b.watches pv ps
after_lasts P k b last v [] place.Ended pv ps = replaced_lasts P v.ticket v b.watches pv ps
after_lasts P k b last v (i ∷ is) place.Split pv ps = replaced_lasts P v.ticket v b.watches pv ps
after_lasts P k b last v (i ∷ is) (place.In n) pv ps = replaced_lasts P v.ticket v b.watches pv ps
after_lasts P k b last v (i ∷ is) place.Ended pv ps = replaced_lasts P v.ticket v b.watches pv ps

taken_lasts : (P : Watch → Type 0) (So : List Event → Type 0) → Lasts P So → (b : Broadcasts) (last : Header) (w : Watch) → P w → EachWatch P b.watches → EachWatch P (taken_from b last w w.queue).0.watches
taken_lasts P So k b last w pw ps = by w.queue refl
  where
    by : (q : List WatchItem) → w.queue ≡ q → EachWatch P (taken_from b last w q).0.watches
    by [] e = ps
    by (i ∷ is) e =
        let v : Watch = record w { queue = is } in
        elim (is_last i) as (λ c. EachWatch P (cond c (record b { watches = without_watch w.ticket b.watches }) (after_take b last v is w.place)).watches) [
          | true ↦ each_other P w.ticket b.watches ps
          | false ↦ after_lasts P k.steady b last v is w.place (k.took w i is e pw) ps
        ]

pub sent_lasts : (P : Watch → Type 0) (b : Broadcasts) (s : Stream) → EachWatch P b.watches → EachWatch P (next_job b (Some s)).0.watches
sent_lasts P b s ps = by s.phase
  where
    by : (p : StreamPhase) → EachWatch P (sent b s p).0.watches
    by (phase.Closing since) = ps
    by (phase.Due since) = ps
    by phase.Begun = ps

-- a watch that is asked has it
abbrev pub NewHas : (Watch → Type 0) → CoreEvent → Type 0
NewHas P (event.Ask ticket q word) = (ask : WatchAsk) → q ≡ request.Watch ask → P (new_watch ticket ask)
NewHas P _ = Unit {0}

-- the events of a message are so
abbrev pub MessageIs : (List Event → Type 0) → List ℕ → CoreEvent → Type 0
MessageIs So namespace (event.Item number x) = SoOf So (item_without namespace x)
MessageIs So namespace _ = Unit {0}

pub touch_lasts : (P : Watch → Type 0) (So : List Event → Type 0) → Lasts P So → (namespace : List ℕ) (a d : Side) (e : CoreEvent) (o : Result Outcome StepFault) → NewHas P e → MessageIs So namespace e → Touch namespace a e d o
    → EachWatch P a.broadcasts.watches → EachWatch P d.broadcasts.watches
touch_lasts P So k namespace a _ _ _ n m (leaves e o p) ps = ps
touch_lasts P So k namespace a _ _ _ n m (hears call reply o p) ps = ps
touch_lasts P So k namespace a _ _ _ n m (ticks word) ps = ps
touch_lasts P So k namespace a _ _ _ n m (joins ticket ask word f) ps =
    let x = seated a.broadcasts.streams a.broadcasts.given a.broadcasts.step a.header (new_watch ticket ask) in
    each_inserted P x.watch a.broadcasts.watches (seat_steady P k.steady a.broadcasts.streams a.broadcasts.given a.broadcasts.step a.header (new_watch ticket ask) (n ask refl)) ps
touch_lasts P So k namespace a _ _ _ n m (heard_leasing number x l) ps = ps
touch_lasts P So k namespace a _ _ _ n m (broke_leasing number x l) ps = ps
touch_lasts P So k namespace a _ _ _ n m (cut_leasing number l) ps = ps
touch_lasts P So k namespace a _ _ _ n m (told number x s f) ps = told_lasts P So k a.broadcasts s _ namespace x m ps
touch_lasts P So k namespace a _ _ _ n m (cut number s f) ps = cut_steady P k.steady a.broadcasts s ps
touch_lasts P So k namespace a _ _ _ n m (took ticket w i is f q) ps = taken_lasts P So k a.broadcasts a.header w (found P ticket a.broadcasts.watches w f ps) ps
touch_lasts P So k namespace a _ _ _ n m (left_it ticket) ps = removed_steady P a.broadcasts ticket ps
touch_lasts P So k namespace a _ _ _ n m (opens_leasing number member q l) ps = ps
touch_lasts P So k namespace a _ _ _ n m (sends c s l is f) ps = sent_lasts P a.broadcasts s ps

pub step_lasts : (P : Watch → Type 0) (So : List Event → Type 0) → Lasts P So → (c : Core) (e : CoreEvent) (now : ℕ) → NewHas P e → MessageIs So c.settings.namespace e → EachWatch P c.watches.watches → EachWatch P (stepped c e now).core.watches.watches
step_lasts P So k c e now n m ps =
    elim (step_touches c e now) [
      | inl worn ↦ subst (λ (s : Stepped). EachWatch P s.core.watches.watches) (sym worn) ps
      | inr t ↦ touch_lasts P So k c.settings.namespace _ _ e _ n m t ps
    ]
