-- Each step of a proxy keeps of its watches: what was taken of each and what stands in its queue are its messages in order.
use Rattle.std.proofs.Common.{◌≡◌, ℕ, ◌+◌, ◌≤◌, ◌<◌, max, Bool, true, false, not, cond, ◌&&◌, ◌||◌, ◌==◌, nat_le, nat_lt, List, [], ◌∷◌, ◌++◌, append_assoc, map, filter, Option, None, Some, Result, Ok, Err, refl, ap, sym, subst, ◌∙◌, arith}
use Rattle.std.proofs.lemmas.Bool.Decides.{nat_tests}
use Rattle.etcd_types.specs.declared.answer.Answer.TheVariants as answer
use Rattle.etcd_types.specs.declared.key_range.KeyRange.{KeyRange}
use Rattle.etcd_types.specs.declared.record.Header.{Header}
use Rattle.etcd_types.specs.declared.watch.Change.{Change}
use Rattle.etcd_types.specs.declared.watch.Event.{Event}
use Rattle.etcd_types.specs.declared.watch.WatchItem.{WatchItem}
use Rattle.etcd_types.specs.declared.watch.WatchItem.TheVariants as item
use Rattle.proxy_model.specs.Unwrapped.{Unwrapped, item_without}
use Rattle.proxy_model.specs.Upstream.{created}
use Rattle.store_model.specs.Events.{event_revision, change_revision, change_passes}
use Rattle.watch_model.specs.declared.place.WatchPlace.{WatchPlace}
use Rattle.watch_model.specs.declared.place.WatchPlace.TheVariants as place
use Rattle.watch_model.specs.State.{Stream, Watch, Broadcasts}
use Rattle.watch_model.specs.Queues.{is_nil, queued_events}
use Rattle.watch_model.specs.Lookups.{stream_at, place_stream, with_stream, without_stream, is_in, is_begun, is_closing, member_changed, watch_at, without_watch, watch_changed}
use Rattle.watch_model.specs.Joining.{decided, new_watch, stream_to_join, Seated, seated_at, seated}
use Rattle.watch_model.specs.Merging.{merged_place, merged_watch, merged}
use Rattle.watch_model.specs.Cuts.{renumbered, reopened, cut_stream, ended, leaving, left_one, left_by, left_over, left_as, cancelled_stream}
use Rattle.watch_model.specs.Delivery.{given_batch, progressed, advanced, last_revision, is_batch, delivered_message, is_told, is_awaited, delivered_stream, created_stream, created_watch, stands_created}
use Rattle.watch_model.specs.Takes.{is_last, after_take, taken_from}
use Rattle.watch_model.specs.Due.{next_job}
use Rattle.watch_model.specs.Story.{Story, Rising, is_between, between, changes, wanted, WatchOk, EachWatch, Holds}
use Rattle.watch_model.proofs.StepTickets.{joined-keeps}
use Rattle.watch_model.proofs.Streams.{at_number, each_mapped, number_itself}
use Rattle.watch_laws.specs.Calls.{TellsMessage}
use Rattle.watch_laws.proofs.Calls.{known, others_ok}
use Rattle.watch_laws.proofs.Seating.{AllSome, each_inserted, found}
use Rattle.watch_laws.proofs.Steady.{emptied_steady, removed_steady}
use Rattle.watch_laws.proofs.Steps.{in_place}
use Rattle.watch_laws.proofs.Telling.{member_told}
use Rattle.world_model.specs.Received.{last_from, WasPushed}
use Rattle.core_model.specs.declared.event.CoreEvent.{CoreEvent}
use Rattle.core_model.specs.declared.event.CoreEvent.TheVariants as event
use Rattle.core_model.specs.declared.event.Outcome.{Outcome}
use Rattle.core_model.specs.declared.event.StepFault.{StepFault}
use Rattle.core_model.specs.Watching.{with_watches}
use Rattle.held_laws.proofs.Firm.{sent_firm}
use Rattle.held_laws.proofs.Holding.{IsTold as IsStoryTold}
use Rattle.core_laws.proofs.Watches.Holding.{watch_itself}
use Rattle.held_laws.proofs.Items.{queued-append}
use Rattle.held_laws.proofs.Knowing.{AreKnown, IsKnown, known_without, created_next, join_known, left_known, joined_known, cut_known, told_known, taken_known, removed_known, sent_known}
use Rattle.held_laws.proofs.Messages.{AreMessages, is_over}
use Rattle.held_laws.proofs.Members.{AreTold, touch_members}
use Rattle.held_laws.proofs.Pushes.{Whole}
use Rattle.held_laws.proofs.Told.{both, taken_more, taken_by, IsUntaken, plain_taken, job_taken}
use Rattle.held_laws.proofs.Written.{is_ended, HasMessages, placed_has, new_has, decided_has, decided_known, decided_place, told_if_has, created_has, given_has, progressed_has, leaving_has, ended_has}
use Rattle.core_laws.proofs.Watches.Touches.{Side, told_unwrapped, told_stream, Touch, leaves, hears, ticks, joins, heard_leasing, broke_leasing, cut_leasing, told, cut, took, left_it, opens_leasing, sends}

pub record MessagesOk (story : Story) (whole : Whole) (got : ℕ → List WatchItem) (b : Broadcasts) : Type 0 where
  pub members : AreTold b.streams b.watches
  pub known : AreKnown b.streams
  pub watches : EachWatch (HasMessages story whole got) b.watches

pub stepped_messages : (story : Story) (whole : Whole) (got : ℕ → List WatchItem) (b d : Broadcasts) → d.streams ≡ b.streams → d.watches ≡ b.watches → MessagesOk story whole got b → MessagesOk story whole got d
stepped_messages story whole got b d s w h = record {
  members = subst (λ (ss : List Stream). AreTold ss d.watches) (sym s) (subst (AreTold b.streams) (sym w) h.members);
  known = subst AreKnown (sym s) h.known;
  watches = subst (EachWatch (HasMessages story whole got)) (sym w) h.watches;
}

-- ---- what a message of a stream says

abbrev pub Fits : Header → List Event → Type 0
Fits g [] = g.revision + 1 ≤ 0xffff_ffff_ffff_ffff
Fits g (e ∷ es) = Unit {0}

-- events come only to a stream that stands created, and so does a cancellation, which names a compaction of the store
abbrev pub SaidOk : Whole → Stream → Unwrapped WatchItem → Type 0
SaidOk whole s (Ok (item.Created g)) = Unit {0}
SaidOk whole s (Ok (item.Events g es)) = (s.stream.next == 0) ≡ false → (s.stream.created ≡ true) × Fits g es
SaidOk whole s (Ok (item.Canceled g compaction)) = (s.stream.created ≡ true) × WasPushed whole.items compaction
SaidOk whole s (Err foreign) = Unit {0}

abbrev pub IsSaid : Whole → List ℕ → Side → CoreEvent → Type 0
IsSaid whole namespace a (event.Item number x) = (s : Stream) → stream_at number a.broadcasts.streams ≡ Some s → is_begun s.phase ≡ true → SaidOk whole s (item_without namespace x)
IsSaid whole namespace a _ = Unit {0}

-- ---- a merge, a cut

merged_has : (story : Story) (whole : Whole) (got : ℕ → List WatchItem) (range : KeyRange) (b : Broadcasts) → EachWatch (HasMessages story whole got) b.watches → EachWatch (HasMessages story whole got) (merged range b).watches
merged_has story whole got range b h =
    each_mapped (HasMessages story whole got) (HasMessages story whole got) (merged_watch range b.streams) (λ w p. placed_has story whole got w (merged_place range b.streams w.place) (same w.place) p) b.watches h
  where
    same : (p : WatchPlace) → is_ended (merged_place range b.streams p) ≡ false → is_ended p ≡ false
    same (place.In n) e = refl
    same place.Split e = refl
    same place.Ended e = e

not_ended : (n : ℕ) (p : WatchPlace) → is_in n p ≡ true → is_ended p ≡ false
not_ended n (place.In m) e = refl
not_ended n place.Split e = refl
not_ended n place.Ended e = absurd (cc)

cut_has : (story : Story) (whole : Whole) (got : ℕ → List WatchItem) (b : Broadcasts) (s : Stream) → EachWatch (HasMessages story whole got) b.watches → EachWatch (HasMessages story whole got) (cut_stream b s).watches
cut_has story whole got b s h =
    elim (is_closing s.phase) as (λ c. EachWatch (HasMessages story whole got) (cond c (record b { streams = without_stream s.number b.streams }) (reopened b s)).watches) [
      | true ↦ h
      | false ↦ each_mapped (HasMessages story whole got) (HasMessages story whole got) (renumbered s.number (b.given + 1)) moves b.watches h
    ]
  where
    moves : (w : Watch) → HasMessages story whole got w → HasMessages story whole got (renumbered s.number (b.given + 1) w)
    moves w p = elim (is_in s.number w.place) as (λ c. is_in s.number w.place ≡ c → HasMessages story whole got (cond c (record w { place = place.In (b.given + 1) }) w)) [
      | true ↦ λ q. placed_has story whole got w (place.In (b.given + 1)) (λ e. not_ended s.number w.place q) p
      | false ↦ λ q. p
    ] refl

-- ---- a message of a stream

-- what holds of a member of the stream
record Member (story : Story) (got : ℕ → List WatchItem) (s : Stream) (w : Watch) : Type 0 where
  pub told : w.told ≡ true
  pub ok : WatchOk story (queued_events (got w.ticket)) (Some s) w

abbrev IfMember : Story → (ℕ → List WatchItem) → Stream → Watch → Type 0
IfMember story got s w = is_in s.number w.place ≡ true → Member story got s w

-- of each watch of a list, in these streams
each_member : (story : Story) (got : ℕ → List WatchItem) (ss : List Stream) (s : Stream) → stream_at s.number ss ≡ Some s → s.stream.created ≡ true → (ws : List Watch)
    → EachWatch (λ w. WatchOk story (queued_events (got w.ticket)) (place_stream ss w.place) w) ws → AreTold ss ws → EachWatch (IfMember story got s) ws
each_member story got ss s at c [] o m = tt
each_member story got ss s at c (w ∷ ws) o m =
    let there : is_in s.number w.place ≡ true → place_stream ss w.place ≡ Some s = λ q. ap (place_stream ss) (in_place s.number w.place q) ∙ at in (
      (λ q. record { told = m.0 s (there q) c; ok = subst (λ (o : Option Stream). WatchOk story (queued_events (got w.ticket)) o w) (there q) o.0 }),
      each_member story got ss s at c ws o.1 m.1,
    )

are_members : (story : Story) (got : ℕ → List WatchItem) (b : Broadcasts) (s : Stream) → stream_at s.number b.streams ≡ Some s → s.stream.created ≡ true → Holds story (λ t. queued_events (got t)) b → AreTold b.streams b.watches
    → EachWatch (IfMember story got s) b.watches
are_members story got b s at c o m = each_member story got b.streams s at c b.watches o.watches m

message_has : (story : Story) (whole : Whole) (got : ℕ → List WatchItem) (b : Broadcasts) (s : Stream) (g : Header) (es : List Event) → Rising story → Fits g es → TellsMessage story s g es → EachWatch (IfMember story got s) b.watches
    → EachWatch (HasMessages story whole got) b.watches → EachWatch (HasMessages story whole got) (delivered_message b s g es).watches
message_has story whole got b s g [] r fits t m h =
    let P : Watch → Type 0 = HasMessages story whole got in
    let f = progressed s.stream.next g in
    elim (nat_le s.stream.next (g.revision + 1)) as (λ c. EachWatch P (cond c (record b { streams = with_stream s.number (advanced g.revision) b.streams; watches = map (member_changed s.number f) b.watches }) b).watches) [
      | true ↦
          each_mapped (λ w. IfMember story got s w × P w) P (member_changed s.number f)
          (λ w p. elim (is_in s.number w.place) as (λ c. is_in s.number w.place ≡ c → P (cond c (f w) w)) [
            | true ↦ λ q.
                let k = p.0 q in
                progressed_has story whole got s.stream.next g w k.told (not_ended s.number w.place q)
                (λ l. ap changes (queued-append (got w.ticket) w.queue) ∙ member_told story (queued_events (got w.ticket)) s g w r fits t k.ok l) p.1
            | false ↦ λ q. p.1
          ] refl) b.watches (both (IfMember story got s) P b.watches m h)
      | false ↦ h
    ]
message_has story whole got b s g (e ∷ es) r fits t m h =
    let P : Watch → Type 0 = HasMessages story whole got in
    let f = given_batch s.stream.next g (e ∷ es) in
    emptied_steady P s.number (record b { streams = with_stream s.number (advanced (last_revision 0 (e ∷ es))) b.streams; watches = map (member_changed s.number f) b.watches })
    (each_mapped (λ w. IfMember story got s w × P w) P (member_changed s.number f)
    (λ w p. elim (is_in s.number w.place) as (λ c. is_in s.number w.place ≡ c → P (cond c (f w) w)) [
      | true ↦ λ q. given_has story whole got s.stream.next g (e ∷ es) w (p.0 q).told (not_ended s.number w.place q) p.1
      | false ↦ λ q. p.1
    ] refl) b.watches (both (IfMember story got s) P b.watches m h))

delivered_has : (story : Story) (whole : Whole) (got : ℕ → List WatchItem) (b : Broadcasts) (s : Stream) (g : Header) (es : List Event) → Rising story → stream_at s.number b.streams ≡ Some s
    → (is_begun s.phase ≡ true → (s.stream.next == 0) ≡ false → (s.stream.created ≡ true) × Fits g es × TellsMessage story s g es) → Holds story (λ t. queued_events (got t)) b → MessagesOk story whole got b
    → EachWatch (HasMessages story whole got) (delivered_stream b s g es).watches
delivered_has story whole got b s g es r at t o h =
    let P : Watch → Type 0 = HasMessages story whole got in
    let d = delivered_message b s g es in
    elim (is_begun s.phase) as (λ c. is_begun s.phase ≡ c → EachWatch P (cond c (cond (is_told s es) (merged s.stream.range d) (cut_stream b s)) b).watches) [
      | true ↦ λ q. elim (is_told s es) as (λ c. is_told s es ≡ c → EachWatch P (cond c (merged s.stream.range d) (cut_stream b s)).watches) [
        | true ↦ λ z.
            let k = t q (known s.stream.next (is_batch s.stream.range s.stream.next es) z) in
            merged_has story whole got s.stream.range d (message_has story whole got b s g es r k.1 k.2 (are_members story got b s at k.0 o h.members) h.watches)
        | false ↦ λ z. cut_has story whole got b s h.watches
      ] refl
      | false ↦ λ q. h.watches
    ] refl

created_watches : (story : Story) (whole : Whole) (got : ℕ → List WatchItem) (b : Broadcasts) (s : Stream) (g last : Header) → EachWatch (HasMessages story whole got) b.watches → EachWatch (HasMessages story whole got) (stands_created b s g last).watches
created_watches story whole got b s g last h =
    let P : Watch → Type 0 = HasMessages story whole got in
    let n = (created s.stream g.revision).next in
    let f = created_watch n last in
    let d : Broadcasts = record b { streams = with_stream s.number (created_stream g.revision) b.streams; watches = map (member_changed s.number f) b.watches } in
    elim (is_awaited s) as (λ c. EachWatch P (cond c (merged s.stream.range d) b).watches) [
      | true ↦
          merged_has story whole got s.stream.range d
          (each_mapped P P (member_changed s.number f) (λ w p. elim (is_in s.number w.place) as (λ c. is_in s.number w.place ≡ c → P (cond c (f w) w)) [
            | true ↦ λ q. created_has story whole got n last w (created_next s g.revision) (not_ended s.number w.place q) p
            | false ↦ λ q. p
          ] refl) b.watches h)
      | false ↦ h
    ]

-- ---- a watch joins

pub seat_has : (story : Story) (whole : Whole) (got : ℕ → List WatchItem) (ss : List Stream) (given step : ℕ) (last : Header) (w : Watch) → AreKnown ss → is_ended w.place ≡ false → HasMessages story whole got w
    → HasMessages story whole got (seated ss given step last w).watch
seat_has story whole got ss given step last w k l h = by (stream_to_join ss w.ask.range w.next last.revision) (join_known ss w.ask.range w.next last.revision k)
  where
    by : (o : Option Stream) → AllSome IsKnown o → HasMessages story whole got (seated_at ss given step last w o).watch
    by (Some s) j =
        let v = decided s.stream.next w in
        told_if_has story whole got s.stream.created last (record v { place = place.In s.number }) (λ c. decided_known s.stream.next w (j c)) refl
        (placed_has story whole got v (place.In s.number) (λ e. ap is_ended (decided_place s.stream.next w) ∙ l) (decided_has story whole got s.stream.next w h))
    by None j = placed_has story whole got w (place.In (given + 1)) (λ e. l) h

-- ---- a cancellation

-- changes below a revision
abbrev AllBelow : ℕ → List Change → Type 0
AllBelow n [] = Unit {0}
AllBelow n (c ∷ cs) = (change_revision c < n) × AllBelow n cs

filter_below : (p : Change → Bool) (n : ℕ) (cs : List Change) → AllBelow n cs → AllBelow n (filter p cs)
filter_below p n [] h = tt
filter_below p n (c ∷ cs) h = elim (p c) as (λ b. AllBelow n (cond b (c ∷ filter p cs) (filter p cs))) [ true ↦ (h.0, filter_below p n cs h.1) | false ↦ filter_below p n cs h.1 ]

between_below : (start n : ℕ) (cs : List Change) → AllBelow n (between start n cs)
between_below start n [] = tt
between_below start n (c ∷ cs) = by (is_between start n c) refl (between_below start n cs)
  where
    less : (a b n : ℕ) → (nat_le a b && nat_lt b n) ≡ true → b < n
    less a b n e = grind (arith, nat_tests)

    by : (b : Bool) → is_between start n c ≡ b → AllBelow n (between start n cs) → AllBelow n (cond b (c ∷ between start n cs) (between start n cs))
    by true e ih = (less start (change_revision c) n e, ih)
    by false e ih = ih

below_last : (n start : ℕ) (es : List Event) → start ≤ n → AllBelow n (changes es) → last_from start es ≤ n
below_last n start [] l h = l
below_last n start (e ∷ es) l h = below_last n (max start (event_revision e + 1)) es (let k = h.0 in omega (arith, l, k)) h.1

-- a member is behind all that it was told
member_last : (story : Story) (got : ℕ → List WatchItem) (s : Stream) (w : Watch) → WatchOk story (queued_events (got w.ticket)) (Some s) w → last_from w.start (queued_events (got w.ticket ++ w.queue)) ≤ max w.next s.stream.next
member_last story got s w o =
    let n = max w.next s.stream.next in
    let all : changes (queued_events (got w.ticket ++ w.queue)) ≡ wanted w.ask (between w.start n (story w.ask.range)) = ap changes (queued-append (got w.ticket) w.queue) ∙ o.kept in
    below_last n w.start (queued_events (got w.ticket ++ w.queue)) o.starts
    (subst (AllBelow n) (sym all) (filter_below (change_passes w.ask) n (between w.start n (story w.ask.range)) (between_below w.start n (story w.ask.range))))

left_has : (story : Story) (whole : Whole) (got : ℕ → List WatchItem) (s : Stream) (g : Header) (compact step : ℕ) (last : Header) (ss : List Stream) (given : ℕ) (w : Watch) → AreKnown ss → WasPushed whole.items compact → IfMember story got s w
    → HasMessages story whole got w → HasMessages story whole got (left_by s.number s.stream.next g compact step last ss given w).watch
left_has story whole got s g compact step last ss given w k pushed m h =
    let P : Watch → Type 0 = HasMessages story whole got in
    let v = leaving s.stream.next w in
    let out : Seated = record { streams = ss; given = given; watch = w } in
    let gone : Seated = record { streams = ss; given = given; watch = ended g compact v } in
    elim (is_in s.number w.place) as (λ b. is_in s.number w.place ≡ b → P (cond b (left_one g compact step last ss given v) out).watch) [
      | true ↦ λ q.
          let i = m q in
          let left = leaving_has story whole got s.stream.next w i.told (not_ended s.number w.place q) h in
          elim (nat_lt v.next compact) as (λ c. nat_lt v.next compact ≡ c → P (cond c gone (seated ss given step last v)).watch) [
            | true ↦ λ e.
                let behind : last_from w.start (queued_events (got w.ticket ++ w.queue)) ≤ max w.next s.stream.next = member_last story got s w i.ok in
                ended_has story whole got g compact v i.told refl pushed (less (last_from w.start (queued_events (got w.ticket ++ w.queue))) (max w.next s.stream.next) compact behind e) left
            | false ↦ λ e. seat_has story whole got ss given step last v k refl left
          ] refl
      | false ↦ λ q. h
    ] refl
  where
    less : (a b c : ℕ) → a ≤ b → nat_lt b c ≡ true → a < c
    less a b c l e = grind (arith, nat_tests)

over_has : (story : Story) (whole : Whole) (got : ℕ → List WatchItem) (s : Stream) (g : Header) (compact step : ℕ) (last : Header) (ss : List Stream) (given : ℕ) (ws : List Watch) → AreKnown ss → WasPushed whole.items compact
    → EachWatch (IfMember story got s) ws → EachWatch (HasMessages story whole got) ws → EachWatch (HasMessages story whole got) (left_over s.number s.stream.next g compact step last ss given ws).watches
over_has story whole got s g compact step last ss given [] k pushed m h = tt
over_has story whole got s g compact step last ss given (w ∷ ws) k pushed m h =
    let x = left_by s.number s.stream.next g compact step last ss given w in (
      left_has story whole got s g compact step last ss given w k pushed m.0 h.0,
      over_has story whole got s g compact step last x.streams x.given ws (left_known s.number s.stream.next g compact step last ss given w k) pushed m.1 h.1,
    )

cancelled_has : (story : Story) (whole : Whole) (got : ℕ → List WatchItem) (b : Broadcasts) (s : Stream) (g : Header) (compact : ℕ) (last : Header) → stream_at s.number b.streams ≡ Some s
    → (is_begun s.phase ≡ true → (s.stream.created ≡ true) × WasPushed whole.items compact) → Holds story (λ t. queued_events (got t)) b → MessagesOk story whole got b
    → EachWatch (HasMessages story whole got) (cancelled_stream b s g compact last).watches
cancelled_has story whole got b s g compact last at t o h =
    let P : Watch → Type 0 = HasMessages story whole got in
    let rest = without_stream s.number b.streams in
    let d = left_as b (left_over s.number s.stream.next g compact b.step last rest b.given b.watches) in
    elim (is_begun s.phase) as (λ c. is_begun s.phase ≡ c → EachWatch P (cond (not c) b (cond (compact == 0 || s.stream.next == 0) (cut_stream b s) d)).watches) [
      | true ↦ λ q.
          let k = t q in
          elim (compact == 0 || s.stream.next == 0) as (λ c. EachWatch P (cond c (cut_stream b s) d).watches) [
            | true ↦ cut_has story whole got b s h.watches
            | false ↦ over_has story whole got s g compact b.step last rest b.given b.watches (known_without s.number b.streams h.known) k.1 (are_members story got b s at k.0 o h.members) h.watches
          ]
      | false ↦ λ q. h.watches
    ] refl

-- ---- all messages of a stream

told_has_unwrapped : (story : Story) (whole : Whole) (got : ℕ → List WatchItem) (b : Broadcasts) (s : Stream) (last : Header) (u : Unwrapped WatchItem) → Rising story → stream_at s.number b.streams ≡ Some s
    → (is_begun s.phase ≡ true → SaidOk whole s u) → ((g : Header) (es : List Event) → u ≡ Ok (item.Events g es) → is_begun s.phase ≡ true → (s.stream.next == 0) ≡ false → TellsMessage story s g es)
    → Holds story (λ t. queued_events (got t)) b → MessagesOk story whole got b → EachWatch (HasMessages story whole got) (told_unwrapped b s last u).watches
told_has_unwrapped story whole got b s last (Ok (item.Created g)) r at said t o h = created_watches story whole got b s g last h.watches
told_has_unwrapped story whole got b s last (Ok (item.Events g es)) r at said t o h =
    delivered_has story whole got b s g es r at (λ q z. let k = said q z in (k.0, k.1, t g es refl q z)) o h
told_has_unwrapped story whole got b s last (Ok (item.Canceled g compact)) r at said t o h = cancelled_has story whole got b s g compact last at said o h
told_has_unwrapped story whole got b s last (Err foreign) r at said t o h = cut_has story whole got b s h.watches

told_has_stream : (story : Story) (whole : Whole) (got : ℕ → List WatchItem) (b : Broadcasts) (s : Stream) (last : Header) (namespace : List ℕ) (x : WatchItem) → Rising story → stream_at s.number b.streams ≡ Some s
    → (is_begun s.phase ≡ true → SaidOk whole s (item_without namespace x))
    → ((g : Header) (es : List Event) → item_without namespace x ≡ Ok (item.Events g es) → is_begun s.phase ≡ true → (s.stream.next == 0) ≡ false → TellsMessage story s g es)
    → Holds story (λ t. queued_events (got t)) b → MessagesOk story whole got b → EachWatch (HasMessages story whole got) (told_stream b s last namespace x).watches
told_has_stream story whole got b s last namespace x r at said t o h =
    elim (is_begun s.phase) as (λ c. EachWatch (HasMessages story whole got) (cond c (told_unwrapped b s last (item_without namespace x)) b).watches) [
      | true ↦ told_has_unwrapped story whole got b s last (item_without namespace x) r at said t o h
      | false ↦ h.watches
    ]

-- ---- a take

-- of a watch, whose messages stay the same together
moved_one : (story : Story) (whole : Whole) (got : ℕ → List WatchItem) (i : WatchItem) (is : List WatchItem) (w : Watch) → w.queue ≡ i ∷ is → HasMessages story whole got w
    → HasMessages story whole (taken_more got w.ticket i) (record w { queue = is })
moved_one story whole got i is w e h =
    let got' = taken_more got w.ticket i in
    let here : got' w.ticket ≡ got w.ticket ++ i ∷ [] = ap (λ c. cond c (got w.ticket ++ i ∷ []) (got w.ticket)) (number_itself w.ticket) in
    let same : got w.ticket ++ w.queue ≡ got' w.ticket ++ is =
    ap (λ (q : List WatchItem). got w.ticket ++ q) e ∙ sym (append_assoc (got w.ticket) (i ∷ []) is) ∙ ap (λ (l : List WatchItem). l ++ is) (sym here) in
    record {
      messages = subst (AreMessages story whole w.ask w.start) same h.messages;
      untold = λ q. sym same ∙ h.untold q;
      told = λ q. (ap is_nil (sym same) ∙ (h.told q).0, (h.told q).1);
      live = λ q. ap is_over (sym same) ∙ h.live q;
      starts = h.starts;
    }

other_has : (story : Story) (whole : Whole) (got : ℕ → List WatchItem) (ticket : ℕ) (i : WatchItem) (w : Watch) → (w.ticket == ticket) ≡ false → HasMessages story whole got w → HasMessages story whole (taken_more got ticket i) w
other_has story whole got ticket i w n h =
    let same : got w.ticket ++ w.queue ≡ taken_more got ticket i w.ticket ++ w.queue = ap (λ (l : List WatchItem). l ++ w.queue) (sym (ap (λ c. cond c (got w.ticket ++ i ∷ []) (got w.ticket)) n)) in
    record {
      messages = subst (AreMessages story whole w.ask w.start) same h.messages;
      untold = λ q. sym same ∙ h.untold q;
      told = λ q. (ap is_nil (sym same) ∙ (h.told q).0, (h.told q).1);
      live = λ q. ap is_over (sym same) ∙ h.live q;
      starts = h.starts;
    }

replaced_has : (story : Story) (whole : Whole) (got : ℕ → List WatchItem) (ticket : ℕ) (i : WatchItem) (v : Watch) (ws : List Watch) → HasMessages story whole (taken_more got ticket i) v → EachWatch (HasMessages story whole got) ws
    → EachWatch (HasMessages story whole (taken_more got ticket i)) (map (watch_changed ticket (λ u. v)) ws)
replaced_has story whole got ticket i v ws hv h =
    each_mapped (HasMessages story whole got) (HasMessages story whole (taken_more got ticket i)) (watch_changed ticket (λ u. v))
    (λ u p. elim (u.ticket == ticket) as (λ c. (u.ticket == ticket) ≡ c → HasMessages story whole (taken_more got ticket i) (cond c v u)) [
      | true ↦ λ q. hv
      | false ↦ λ q. other_has story whole got ticket i u q p
    ] refl) ws h

after_has : (story : Story) (whole : Whole) (got : ℕ → List WatchItem) (b : Broadcasts) (last : Header) (v : Watch) (i : WatchItem) (is : List WatchItem) (p : WatchPlace) → v.place ≡ p → AreKnown b.streams → HasMessages story whole (taken_more got v.ticket i) v
    → EachWatch (HasMessages story whole got) b.watches → EachWatch (HasMessages story whole (taken_more got v.ticket i)) (after_take b last v is p).watches
after_has story whole got b last v i [] place.Split e k hv h =
    let got' = taken_more got v.ticket i in
    let x = seated b.streams b.given b.step last v in
    let sat : HasMessages story whole got' x.watch = seat_has story whole got' b.streams b.given b.step last v k (ap is_ended e) hv in
    subst (λ (n : ℕ). EachWatch (HasMessages story whole got') (map (watch_changed n (λ u. x.watch)) b.watches)) (sym (joined-keeps b.streams b.given b.step last v)) (replaced_has story whole got v.ticket i x.watch b.watches sat h)
after_has story whole got b last v i [] (place.In n) e k hv h = replaced_has story whole got v.ticket i v b.watches hv h
after_has story whole got b last v i [] place.Ended e k hv h = replaced_has story whole got v.ticket i v b.watches hv h
after_has story whole got b last v i (j ∷ is) place.Split e k hv h = replaced_has story whole got v.ticket i v b.watches hv h
after_has story whole got b last v i (j ∷ is) (place.In n) e k hv h = replaced_has story whole got v.ticket i v b.watches hv h
after_has story whole got b last v i (j ∷ is) place.Ended e k hv h = replaced_has story whole got v.ticket i v b.watches hv h

taken_has : (story : Story) (whole : Whole) (got : ℕ → List WatchItem) (b : Broadcasts) (last : Header) (w : Watch) (i : WatchItem) (is : List WatchItem) → w.queue ≡ i ∷ is → AreKnown b.streams → HasMessages story whole got w
    → EachWatch (HasMessages story whole got) b.watches → EachWatch (HasMessages story whole (taken_more got w.ticket i)) (taken_from b last w w.queue).0.watches
taken_has story whole got b last w i is e k hw h =
    let P : List Watch → Type 0 = EachWatch (HasMessages story whole (taken_more got w.ticket i)) in
    let v : Watch = record w { queue = is } in
    subst (λ (q : List WatchItem). P (taken_from b last w q).0.watches) (sym e)
    (elim (is_last i) as (λ c. P (cond c (record b { watches = without_watch w.ticket b.watches }) (after_take b last v is w.place)).watches) [
      | true ↦ others_ok (HasMessages story whole got) (HasMessages story whole (taken_more got w.ticket i)) w.ticket (λ u n p. other_has story whole got w.ticket i u n p) b.watches h
      | false ↦ after_has story whole got b last v i is w.place refl k (moved_one story whole got i is w e hw) h
    ])

-- ---- each step of a proxy

stepped_watches : (story : Story) (whole : Whole) (namespace : List ℕ) (got : ℕ → List WatchItem) (a d : Side) (e : CoreEvent) (o : Result Outcome StepFault) → Rising story → IsStoryTold story namespace a e → IsSaid whole namespace a e → IsUntaken got e
    → Holds story (λ t. queued_events (got t)) a.broadcasts → Touch namespace a e d o → MessagesOk story whole got a.broadcasts → EachWatch (HasMessages story whole (taken_by got e o)) d.broadcasts.watches
stepped_watches story whole namespace got a _ _ _ r t said n k (leaves e o p) h = subst (λ (g : ℕ → List WatchItem). EachWatch (HasMessages story whole g) a.broadcasts.watches) (sym (plain_taken got e o p)) h.watches
stepped_watches story whole namespace got a _ _ _ r t said n k (hears call reply o p) h =
    subst (λ (g : ℕ → List WatchItem). EachWatch (HasMessages story whole g) a.broadcasts.watches) (sym (plain_taken got (event.Answer call (answer.Done reply)) o p)) h.watches
stepped_watches story whole namespace got a _ _ _ r t said n k (ticks word) h = h.watches
stepped_watches story whole namespace got a _ _ _ r t said n k (joins ticket ask word f) h =
    let b = a.broadcasts in
    let x = seated b.streams b.given b.step a.header (new_watch ticket ask) in
    each_inserted (HasMessages story whole got) x.watch b.watches (seat_has story whole got b.streams b.given b.step a.header (new_watch ticket ask) h.known refl (new_has story whole got ticket ask n)) h.watches
stepped_watches story whole namespace got a _ _ _ r t said n k (heard_leasing number x l) h = h.watches
stepped_watches story whole namespace got a _ _ _ r t said n k (broke_leasing number x l) h = h.watches
stepped_watches story whole namespace got a _ _ _ r t said n k (cut_leasing number l) h = h.watches
stepped_watches story whole namespace got a _ _ _ r t said n k (told number x s f) h =
    told_has_stream story whole got a.broadcasts s _ namespace x r (ap (λ (j : ℕ). stream_at j a.broadcasts.streams) (at_number number a.broadcasts.streams s f) ∙ f) (said s f) (λ g es u q z. t s g es f q z u) k h
stepped_watches story whole namespace got a _ _ _ r t said n k (cut number s f) h = cut_has story whole got a.broadcasts s h.watches
stepped_watches story whole namespace got a _ _ _ r t said n k (took ticket w i is f q) h =
    subst (λ (j : ℕ). EachWatch (HasMessages story whole (taken_more got j i)) (taken_from a.broadcasts a.header w w.queue).0.watches) (watch_itself ticket a.broadcasts.watches w f)
    (taken_has story whole got a.broadcasts a.header w i is q h.known (found (HasMessages story whole got) ticket a.broadcasts.watches w f h.watches) h.watches)
stepped_watches story whole namespace got a _ _ _ r t said n k (left_it ticket) h = removed_steady (HasMessages story whole got) a.broadcasts ticket h.watches
stepped_watches story whole namespace got a _ _ _ r t said n k (opens_leasing number member q l) h = h.watches
stepped_watches story whole namespace got a _ _ _ r t said n k (sends c s m is f) h =
    subst (λ (g : ℕ → List WatchItem). EachWatch (HasMessages story whole g) (next_job a.broadcasts (Some s)).0.watches) (sym (job_taken got (next_job c.watches (Some s)).1 (with_watches c (next_job c.watches (Some s)).0)))
    (sent_firm (HasMessages story whole got) a.broadcasts s h.watches)

stepped_known : (namespace : List ℕ) (a d : Side) (e : CoreEvent) (o : Result Outcome StepFault) → Touch namespace a e d o → AreKnown a.broadcasts.streams → AreKnown d.broadcasts.streams
stepped_known namespace a _ _ _ (leaves e o p) h = h
stepped_known namespace a _ _ _ (hears call reply o p) h = h
stepped_known namespace a _ _ _ (ticks word) h = h
stepped_known namespace a _ _ _ (joins ticket ask word f) h = joined_known a.broadcasts ticket ask a.header h
stepped_known namespace a _ _ _ (heard_leasing number x l) h = h
stepped_known namespace a _ _ _ (broke_leasing number x l) h = h
stepped_known namespace a _ _ _ (cut_leasing number l) h = h
stepped_known namespace a _ _ _ (told number x s f) h = told_known a.broadcasts s _ namespace x h
stepped_known namespace a _ _ _ (cut number s f) h = cut_known a.broadcasts s h
stepped_known namespace a _ _ _ (took ticket w i is f q) h = taken_known a.broadcasts a.header w h
stepped_known namespace a _ _ _ (left_it ticket) h = removed_known a.broadcasts ticket (watch_at ticket a.broadcasts.watches) h
stepped_known namespace a _ _ _ (opens_leasing number member q l) h = h
stepped_known namespace a _ _ _ (sends c s m is f) h = sent_known a.broadcasts s h

pub touch_messages : (story : Story) (whole : Whole) (namespace : List ℕ) (got : ℕ → List WatchItem) (a d : Side) (e : CoreEvent) (o : Result Outcome StepFault) → Rising story → IsStoryTold story namespace a e → IsSaid whole namespace a e → IsUntaken got e
    → Holds story (λ t. queued_events (got t)) a.broadcasts → Touch namespace a e d o → MessagesOk story whole got a.broadcasts → MessagesOk story whole (taken_by got e o) d.broadcasts
touch_messages story whole namespace got a d e o r t said n k touch h = record {
  members = touch_members namespace a d e o k.numbers touch h.members;
  known = stepped_known namespace a d e o touch h.known;
  watches = stepped_watches story whole namespace got a d e o r t said n k touch h;
}
