-- Each call as a whole holds nothing back.
use Rattle.std.proofs.Common.{◌≡◌, ℕ, ◌+◌, ◌≤◌, max, Bool, true, false, not, cond, ◌&&◌, ◌||◌, ◌==◌, List, [], ◌∷◌, ◌++◌, map, Option, None, Some, refl, ap, sym, subst, ◌∙◌, arith}
use Rattle.std.proofs.lemmas.Bool.Decides.{nat_tests}
use Rattle.std.specs.Option.{option_map}
use Rattle.etcd_types.specs.declared.record.Header.{Header}
use Rattle.etcd_types.specs.declared.watch.Event.{Event}
use Rattle.etcd_types.specs.declared.watch.WatchItem.{WatchItem}
use Rattle.proxy_model.specs.Upstream.{Upstream, created}
use Rattle.watch_model.specs.Queues.{item_events}
use Rattle.watch_model.specs.declared.stream.StreamPhase.{StreamPhase}
use Rattle.watch_model.specs.declared.stream.StreamPhase.TheVariants as phase
use Rattle.watch_model.specs.declared.place.WatchPlace.{WatchPlace}
use Rattle.watch_model.specs.declared.place.WatchPlace.TheVariants as place
use Rattle.watch_model.specs.State.{Stream, Watch, Broadcasts}
use Rattle.watch_model.specs.Lookups.{stream_at, watch_at, place_stream, own_next, changed_stream, with_stream, without_stream, without_watch, watch_changed, has_member, member_changed, is_begun, is_closing, tickets_from}
use Rattle.watch_model.specs.Merging.{merged}
use Rattle.watch_model.specs.Delivery.{delivered_stream, delivered_message, is_told, is_batch, is_awaited, created_stream, created_watch, stands_created}
use Rattle.watch_model.specs.Cuts.{reopened, cut_stream, left_over, left_as, cancelled_stream}
use Rattle.watch_model.specs.Splitting.{left_place, split, split_slow}
use Rattle.watch_model.specs.Leaving.{removed}
use Rattle.watch_model.specs.Takes.{is_last, after_take, taken_from}
use Rattle.watch_model.specs.Due.{begun, sent, first_due, next_job}
use Rattle.watch_model.specs.Story.{Story, Received, received, between, wanted, EachWatch, WatchOk, Holds, Rising}
use Rattle.watch_laws.specs.Calls.{TellsMessage, received_if}
use Rattle.watch_laws.specs.Closings.{ClosingsAreLeft}
use Rattle.watch_model.proofs.Streams.{at-map, others-without_stream, numbered-map, numbered-without, changed-keeps, each_outside}
use Rattle.watch_model.proofs.Tickets.{rest_from, unchanged}
use Rattle.watch_laws.proofs.Steps.{two_tests, emptied_holds, delivered_holds, progress_holds, merged_holds, reopened_holds}
use Rattle.watch_laws.proofs.Joining.{created_holds}
use Rattle.watch_laws.proofs.Seating.{AllSome, each_found, each_along, each_other, found, cancelled_holds, taken_holds, rejoined_holds, leaves_ok}
use Rattle.watch_laws.proofs.Standing.{not_closing, first_is}
use Rattle.watch_laws.proofs.Closings.{closings_have_none}

-- A stream without members is gone.

gone_holds : (story : Story) (got : Received) (b : Broadcasts) (n : ℕ) → has_member n b.watches ≡ false → Holds story got b → Holds story got (record b { streams = without_stream n b.streams })
gone_holds story got b n e h = record {
  numbers = numbered-without n 0 b.given b.streams h.numbers;
  watches =
      each_outside (λ w. WatchOk story (got w.ticket) (place_stream b.streams w.place) w) (λ w. WatchOk story (got w.ticket) (place_stream (without_stream n b.streams) w.place) w) n
      (λ w d k. subst (λ (o : Option Stream). WatchOk story (got w.ticket) o w) (sym (others-without_stream n b.streams w.place d)) k) b.watches e h.watches;
}

-- where it is due to be closed it has no members
abbrev IsLeft : Broadcasts → Stream → Type 0
IsLeft b s = is_closing s.phase ≡ true → has_member s.number b.watches ≡ false

cut_holds : (story : Story) (got : Received) (b : Broadcasts) (s : Stream) → stream_at s.number b.streams ≡ Some s → IsLeft b s → Holds story got b → Holds story got (cut_stream b s)
cut_holds story got b s e l h =
    elim (is_closing s.phase) as (λ c. is_closing s.phase ≡ c → Holds story got (cond c (record b { streams = without_stream s.number b.streams }) (reopened b s))) [
      | true ↦ λ q. gone_holds story got b s.number (l q) h
      | false ↦ λ q. reopened_holds story got b s e h
    ] refl

pub cuts_hold : (story : Story) (got : Received) (b : Broadcasts) (s : Stream) → stream_at s.number b.streams ≡ Some s → ClosingsAreLeft b → Holds story got b → Holds story got (cut_stream b s)
cuts_hold story got b s e c h = cut_holds story got b s e (closings_have_none b s.number s c e) h

begun_cuts : (story : Story) (got : Received) (b : Broadcasts) (s : Stream) → is_begun s.phase ≡ true → stream_at s.number b.streams ≡ Some s → Holds story got b → Holds story got (cut_stream b s)
begun_cuts story got b s q e h = cut_holds story got b s e (λ c. absurd (let n = not_closing s.phase q in cc)) h

-- Messages.

pub known : (n : ℕ) (c : Bool) → (not (n == 0) && c) ≡ true → (n == 0) ≡ false
known n c e = let p = two_tests (not (n == 0)) c e in let q = p.0 in turned (n == 0) q
  where
    turned : (a : Bool) → not a ≡ true → a ≡ false
    turned true e = absurd (cc)
    turned false e = refl

message_holds : (story : Story) (got : Received) (b : Broadcasts) (s : Stream) (header : Header) (es : List Event)
    → Rising story → (s.stream.next == 0) ≡ false → stream_at s.number b.streams ≡ Some s → TellsMessage story s header es → Holds story got b → Holds story got (delivered_message b s header es)
message_holds story got b s header [] r z e t h = progress_holds story got b s header r z e t h
message_holds story got b s header (x ∷ es) r z e t h = delivered_holds story got b s header (x ∷ es) r z e t h

pub deliveries_hold : (story : Story) (got : Received) (b : Broadcasts) (s : Stream) (header : Header) (es : List Event)
    → Rising story → stream_at s.number b.streams ≡ Some s → TellsMessage story s header es → Holds story got b → Holds story got (delivered_stream b s header es)
deliveries_hold story got b s header es r e t h =
    elim (is_begun s.phase) as (λ c. is_begun s.phase ≡ c → Holds story got (cond c (cond (is_told s es) (merged s.stream.range (delivered_message b s header es)) (cut_stream b s)) b)) [
      | true ↦ λ q. elim (is_told s es) as (λ d. is_told s es ≡ d → Holds story got (cond d (merged s.stream.range (delivered_message b s header es)) (cut_stream b s))) [
        | true ↦ λ f.
            merged_holds story got s.stream.range (delivered_message b s header es)
            (message_holds story got b s header es r (known s.stream.next (is_batch s.stream.range s.stream.next es) f) e t h)
        | false ↦ λ f. begun_cuts story got b s q e h
      ] refl
      | false ↦ λ q. h
    ] refl

pub creations_hold : (story : Story) (got : Received) (b : Broadcasts) (s : Stream) (header last : Header) → stream_at s.number b.streams ≡ Some s → Holds story got b → Holds story got (stands_created b s header last)
creations_hold story got b s header last e h =
    let told : Broadcasts = record b {
      streams = with_stream s.number (created_stream header.revision) b.streams;
      watches = map (member_changed s.number (created_watch (created s.stream header.revision).next last)) b.watches;
    } in
    elim (is_awaited s) as (λ c. Holds story got (cond c (merged s.stream.range told) b)) [
      | true ↦ merged_holds story got s.stream.range told (created_holds story got b s last header.revision e h)
      | false ↦ h
    ]

pub cancellations_hold : (story : Story) (got : Received) (b : Broadcasts) (s : Stream) (header : Header) (compact : ℕ) (last : Header) → stream_at s.number b.streams ≡ Some s → Holds story got b
    → Holds story got (cancelled_stream b s header compact last)
cancellations_hold story got b s header compact last e h =
    let leaves : Broadcasts = left_as b (left_over s.number s.stream.next header compact b.step last (without_stream s.number b.streams) b.given b.watches) in
    elim (is_begun s.phase) as (λ c. is_begun s.phase ≡ c → Holds story got (cond (not c) b (cond (compact == 0 || s.stream.next == 0) (cut_stream b s) leaves))) [
      | true ↦ λ q. elim (compact == 0 || s.stream.next == 0) as (λ d. Holds story got (cond d (cut_stream b s) leaves)) [
        | true ↦ begun_cuts story got b s q e h
        | false ↦ cancelled_holds story got b s header compact last e h
      ]
      | false ↦ λ q. h
    ] refl

-- Jobs.

-- the streams with other phases alone
same_upstreams : (story : Story) (got : List Event) (f : Stream → Stream) (o : Option Stream) (w : Watch) → ((s : Stream) → (f s).stream ≡ s.stream) → WatchOk story got o w → WatchOk story got (option_map f o) w
same_upstreams story got f None w k h = h
same_upstreams story got f (Some s) w k h =
    let next : (f s).stream.next ≡ s.stream.next = ap (λ (u : Upstream). u.next) (k s) in
    record {
      member = h.member;
      range = λ t e. let one : f s ≡ t = cc in ap (λ (x : Stream). x.stream.range) (sym one) ∙ ap (λ (u : Upstream). u.range) (k s) ∙ h.range s refl;
      decided = λ t e. let one : f s ≡ t = cc in h.decided s refl ∙ ap (λ (n : ℕ). n == 0) (sym next) ∙ ap (λ (x : Stream). x.stream.next == 0) one;
      starts = subst (λ (n : ℕ). w.start ≤ max w.next n) (sym next) h.starts;
      kept = h.kept ∙ ap (λ (n : ℕ). wanted w.ask (between w.start (max w.next n) (story w.ask.range))) (sym next);
    }

begun_upstream : (n : ℕ) (s : Stream) → (changed_stream n begun s).stream ≡ s.stream
begun_upstream n s = elim (s.number == n) as (λ b. (cond b (begun s) s).stream ≡ s.stream) [ true ↦ refl | false ↦ refl ]

begun_place : (n : ℕ) (ss : List Stream) (p : WatchPlace) → place_stream (with_stream n begun ss) p ≡ option_map (changed_stream n begun) (place_stream ss p)
begun_place n ss (place.In k) = at-map (changed_stream n begun) (changed-keeps n begun (λ s. refl)) k ss
begun_place n ss place.Split = refl
begun_place n ss place.Ended = refl

begun_holds : (story : Story) (got : Received) (b : Broadcasts) (n : ℕ) → Holds story got b → Holds story got (record b { streams = with_stream n begun b.streams })
begun_holds story got b n h = record {
  numbers = numbered-map _ (changed-keeps n begun (λ s. refl)) 0 b.given b.streams h.numbers;
  watches = each_along (λ w. WatchOk story (got w.ticket) (place_stream b.streams w.place) w) (λ w. WatchOk story (got w.ticket) (place_stream (with_stream n begun b.streams) w.place) w) still b.watches h.watches;
}
  where
    still : (w : Watch) → WatchOk story (got w.ticket) (place_stream b.streams w.place) w → WatchOk story (got w.ticket) (place_stream (with_stream n begun b.streams) w.place) w
    still w k =
        subst (λ (o : Option Stream). WatchOk story (got w.ticket) o w) (sym (begun_place n b.streams w.place))
        (same_upstreams story (got w.ticket) (changed_stream n begun) (place_stream b.streams w.place) w (begun_upstream n) k)

sent_holds : (story : Story) (got : Received) (b : Broadcasts) (s : Stream) (p : StreamPhase) → s.phase ≡ p → IsLeft b s → Holds story got b → Holds story got (sent b s p).0
sent_holds story got b s (phase.Closing since) e l h = gone_holds story got b s.number (l (ap is_closing e)) h
sent_holds story got b s (phase.Due since) e l h = begun_holds story got b s.number h
sent_holds story got b s phase.Begun e l h = h

pub jobs_hold : (story : Story) (got : Received) (b : Broadcasts) → ClosingsAreLeft b → Holds story got b → Holds story got (next_job b (first_due b.streams)).0
jobs_hold story got b c h = go (first_due b.streams) (first_is (λ t. stream_at t.number b.streams ≡ Some t) b.streams None (each_found b.given b.streams h.numbers) tt)
  where
    go : (o : Option Stream) → AllSome (λ t. stream_at t.number b.streams ≡ Some t) o → Holds story got (next_job b o).0
    go None e = h
    go (Some s) e = sent_holds story got b s s.phase refl (closings_have_none b s.number s c e) h

-- Leaving.

left_holds : (story : Story) (got : Received) (p : WatchPlace) (b : Broadcasts) → Holds story got b → Holds story got (left_place p b)
left_holds story got (place.In n) b h = emptied_holds story got n b h
left_holds story got place.Split b h = h
left_holds story got place.Ended b h = h

pub leaving_holds : (story : Story) (got : Received) (b : Broadcasts) (ticket : ℕ) → Holds story got b → Holds story got (removed b ticket (watch_at ticket b.watches))
leaving_holds story got b ticket h = go (watch_at ticket b.watches)
  where
    go : (o : Option Watch) → Holds story got (removed b ticket o)
    go None = h
    go (Some w) =
        left_holds story got w.place (record b { watches = without_watch ticket b.watches })
        (record { numbers = h.numbers; watches = each_other (λ w. WatchOk story (got w.ticket) (place_stream b.streams w.place) w) ticket b.watches h.watches })

-- A take.

pub others_ok : (P Q : Watch → Type 0) (t : ℕ) → ((w : Watch) → (w.ticket == t) ≡ false → P w → Q w) → (ws : List Watch) → EachWatch P ws → EachWatch Q (without_watch t ws)
others_ok P Q t k [] h = tt
others_ok P Q t k (w ∷ ws) h =
    elim (w.ticket == t) as (λ b. (w.ticket == t) ≡ b → EachWatch Q (cond (not b) (w ∷ without_watch t ws) (without_watch t ws))) [
      | true ↦ λ e. others_ok P Q t k ws h.1
      | false ↦ λ e. (k w e h.0, others_ok P Q t k ws h.1)
    ] refl

ended_holds : (story : Story) (got : Received) (b : Broadcasts) (t : ℕ) (i : WatchItem) → Holds story got b → Holds story (received got t i) (record b { watches = without_watch t b.watches })
ended_holds story got b t i h = record {
  numbers = h.numbers;
  watches =
      others_ok (λ u. WatchOk story (got u.ticket) (place_stream b.streams u.place) u) (λ u. WatchOk story (received got t i u.ticket) (place_stream b.streams u.place) u) t
      (λ u d k. subst (λ (es : List Event). WatchOk story es (place_stream b.streams u.place) u) (sym (ap (λ c. cond c (got u.ticket ++ item_events i) (got u.ticket)) d)) k)
      b.watches h.watches;
}

after_holds : (story : Story) (got : Received) (b : Broadcasts) (last : Header) (w : Watch) (i : WatchItem) (is : List WatchItem) (p : WatchPlace) → w.queue ≡ i ∷ is → w.place ≡ p → WatchOk story (got w.ticket) (place_stream b.streams w.place) w → Holds story got b
    → Holds story (received got w.ticket i) (after_take b last (record w { queue = is }) is p)
after_holds story got b last w i [] place.Split e q k h = rejoined_holds story got b last w i e q (subst (λ (p : WatchPlace). WatchOk story (got w.ticket) (place_stream b.streams p) w) q k) h
after_holds story got b last w i (j ∷ is) place.Split e q k h = taken_holds story got b w i (j ∷ is) e k h
after_holds story got b last w i [] (place.In n) e q k h = taken_holds story got b w i [] e k h
after_holds story got b last w i (j ∷ is) (place.In n) e q k h = taken_holds story got b w i (j ∷ is) e k h
after_holds story got b last w i [] place.Ended e q k h = taken_holds story got b w i [] e k h
after_holds story got b last w i (j ∷ is) place.Ended e q k h = taken_holds story got b w i (j ∷ is) e k h

pub takes_hold : (story : Story) (got : Received) (b : Broadcasts) (last : Header) (w : Watch) → watch_at w.ticket b.watches ≡ Some w → Holds story got b
    → Holds story (received_if got w.ticket (taken_from b last w w.queue).1) (taken_from b last w w.queue).0
takes_hold story got b last w e h = go w.queue refl
  where
    go : (q : List WatchItem) → w.queue ≡ q → Holds story (received_if got w.ticket (taken_from b last w q).1) (taken_from b last w q).0
    go [] f = h
    go (i ∷ is) f =
        elim (is_last i) as (λ c. Holds story (received got w.ticket i) (cond c (record b { watches = without_watch w.ticket b.watches }) (after_take b last (record w { queue = is }) is w.place))) [
          | true ↦ ended_holds story got b w.ticket i h
          | false ↦ after_holds story got b last w i is w.place f refl (found (λ u. WatchOk story (got u.ticket) (place_stream b.streams u.place) u) w.ticket b.watches w e h.watches) h
        ]

-- A watch is split off.

pub changed_ok : (P Q : Watch → Type 0) (t low : ℕ) (f : Watch → Watch) (w : Watch) → (P w → Q (f w)) → ((u : Watch) → P u → Q u) → (ws : List Watch)
    → tickets_from low ws ≡ true → watch_at t ws ≡ Some w → EachWatch P ws → EachWatch Q (map (watch_changed t f) ws)
changed_ok P Q t low f w j k [] r e h = absurd (cc)
changed_ok P Q t low f w j k (v ∷ ws) r e h =
    let p = rest_from low v ws r in
    elim (v.ticket == t) as (λ b. (v.ticket == t) ≡ b → cond b (Some v) (watch_at t ws) ≡ Some w → EachWatch Q (cond b (f v) v ∷ map (watch_changed t f) ws)) [
      | true ↦ λ q g.
          let one : v ≡ w = cc in
          let same : map (watch_changed t f) ws ≡ ws = unchanged t (v.ticket + 1) f ws (at_most v.ticket t q) p.1 in
          (subst (λ (x : Watch). Q (f x)) (sym one) (j (subst P one h.0)), subst (EachWatch Q) (sym same) (each_along P Q k ws h.1))
      | false ↦ λ q g. (k v h.0, changed_ok P Q t (v.ticket + 1) f w j k ws p.1 g h.1)
    ] refl e
  where
    at_most : (a t : ℕ) → (a == t) ≡ true → t + 1 ≤ a + 1
    at_most a t e = grind (arith, nat_tests)

pub splits_hold : (story : Story) (got : Received) (b : Broadcasts) (w : Watch) → tickets_from 0 b.watches ≡ true → watch_at w.ticket b.watches ≡ Some w → Holds story got b → Holds story got (split_slow b w.ticket (own_next b.streams w) (Some w))
splits_hold story got b w r e h =
    let P : Watch → Type 0 = λ u. WatchOk story (got u.ticket) (place_stream b.streams u.place) u in
    left_holds story got w.place (record b { watches = map (watch_changed w.ticket (split (own_next b.streams w))) b.watches }) (record {
      numbers = h.numbers;
      watches = changed_ok P P w.ticket 0 (split (own_next b.streams w)) w (λ k. leaves_ok story (got w.ticket) (place_stream b.streams w.place) w k) (λ u k. k) b.watches r e h.watches;
    })
