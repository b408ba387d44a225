-- What each step of a proxy does to the stories of its watches.
use Rattle.std.proofs.Common.{◌≡◌, ℕ, ◌+◌, ◌-◌, ◌≤◌, Bool, true, false, cond, ◌==◌, List, [], ◌∷◌, map, Option, None, Some, is_some, Ok, Err, refl, ap, sym, subst, ◌∙◌, arith}
use Rattle.std.proofs.lemmas.Bool.Decides.{nat_tests}
use Rattle.etcd_types.specs.declared.record.Header.{Header}
use Rattle.etcd_types.specs.declared.request.WatchAsk.{WatchAsk}
use Rattle.etcd_types.specs.declared.watch.Event.{Event}
use Rattle.etcd_types.specs.declared.watch.WatchItem.{WatchItem}
use Rattle.etcd_types.specs.declared.watch.WatchItem.TheVariants as message
use Rattle.proxy_model.specs.Unwrapped.{Unwrapped, ◌>>=◌, events_without, item_without}
use Rattle.proxy_model.specs.Upstream.{created, cut}
use Rattle.script_text.specs.declared.item.Item.{Item}
use Rattle.script_text.specs.declared.item.Item.TheVariants as item
use Rattle.store_model.specs.History.{newest}
use Rattle.watch_model.specs.declared.place.WatchPlace.{WatchPlace}
use Rattle.watch_model.specs.declared.place.WatchPlace.TheVariants as place
use Rattle.watch_model.specs.declared.stream.StreamPhase.{StreamPhase}
use Rattle.watch_model.specs.declared.stream.StreamPhase.TheVariants as phase
use Rattle.watch_model.specs.Cuts.{reopened, cut_stream}
use Rattle.watch_model.specs.Delivery.{delivered_stream}
use Rattle.watch_model.specs.Due.{begun}
use Rattle.watch_model.specs.Joining.{new_watch, seated, joined}
use Rattle.watch_model.specs.Leaving.{removed}
use Rattle.watch_model.specs.Lookups.{stream_at, place_stream, with_stream, without_stream, is_in, is_begun, is_closing, without_watch, watch_changed, numbered}
use Rattle.watch_model.specs.Splitting.{emptied, left_place}
use Rattle.watch_model.specs.State.{Stream, Watch, Broadcasts}
use Rattle.watch_model.specs.Story.{is_member as stays_in}
use Rattle.watch_model.specs.Takes.{is_last, after_take, taken_from}
use Rattle.watch_model.proofs.StepTickets.{joined-keeps}
use Rattle.watch_model.proofs.Streams.{at-with_stream, others-with_stream, others-without_stream, each_mapped}
use Rattle.watch_laws.proofs.Seating.{each_along, each_inserted}
use Rattle.watch_laws.proofs.Calls.{others_ok}
use Rattle.watch_laws.proofs.Steps.{in_place}
use Rattle.world_model.specs.Answers.{seen}
use Rattle.world_model.specs.Lives.{begins, is_stream_of}
use Rattle.world_model.specs.Places.{kept_at, with_kept}
use Rattle.world_model.specs.State.{OpenedStream, Numbered}
use Rattle.held_laws.proofs.Items.{IsSilent, life-append}
use Rattle.held_laws.proofs.Kept.{kept_other}
use Rattle.core_laws.proofs.Watches.Touches.{told_unwrapped, told_stream}
use Rattle.watch_stories.specs.Stories.{Spot, member, concerns}
use Rattle.watch_stories.proofs.Facts.{View, later, IsOpen, AreOpen, mute_open, fewer_open, without_fewer}
use Rattle.watch_stories.proofs.Items.{IsMute}
use Rattle.watch_stories.specs.Streams.{breaks_batch}
use Rattle.watch_stories.proofs.Points.{AtPhase, StandsAt, Has, Joins, rest_has, heard, cut_has, rekept, rekept_has, opened_has, taking, untaken_has, took_has, took_joins}
use Rattle.watch_stories.proofs.Watches.{Sees, same_has, member_spot, emptied_fewer, emptied_sees, seat_sees}
use Rattle.watch_stories.proofs.Told.{IsOf, its_of, not_member, on_members, less, Hearing, MayDecide, creation_sees, breaks_sees, batch_sees, cancellation_sees, stands_in, reopened_at, reopened_fewer, reopened_other}

none_here : {A : Type 0} (t : Stream) → ◌≡◌ {A = Option Stream} None (Some t) → A
none_here t e = absurd (cc)

-- the streams and the watches of a proxy
pub record Both (v : View) (streams : List OpenedStream) (ss : List Stream) (ws : List Watch) : Type 0 where
  pub known : AreOpen v streams ss
  pub watches : Sees v ss ws

-- ---- a message of a stream

pub told_sees : (v : View) (streams : List OpenedStream) (b : Broadcasts) (n : ℕ) (world : OpenedStream) (s : Stream) (last : Header) (x : WatchItem) (rest : List WatchItem) → Hearing v streams b n world s x rest
    → (s.stream.created ≡ true → (s.stream.next == 0) ≡ false) → ((g : Header) → x ≡ message.Created g → MayDecide v n s (created s.stream g.revision).next) → last.revision ≤ newest (seen (heard v n).items).store.history
    → let d = told_stream b s last v.namespace x in Both (heard v n) (less streams n world rest) d.streams d.watches
told_sees v streams b n world s last x rest a known may high =
    subst (λ (c : Bool). let d = cond c (told_unwrapped b s last (item_without v.namespace x)) b in Both (heard v n) (less streams n world rest) d.streams d.watches) (sym a.begun) (by x a may)
  where
    both : (d : Broadcasts) → AreOpen (heard v n) (less streams n world rest) d.streams × Sees (heard v n) d.streams d.watches → Both (heard v n) (less streams n world rest) d.streams d.watches
    both d k = record { known = k.0; watches = k.1 }

    by : (x : WatchItem) → Hearing v streams b n world s x rest → ((g : Header) → x ≡ message.Created g → MayDecide v n s (created s.stream g.revision).next)
        → let d = told_unwrapped b s last (item_without v.namespace x) in Both (heard v n) (less streams n world rest) d.streams d.watches
    by (message.Created g) a may = both (told_unwrapped b s last (Ok (message.Created g))) (creation_sees v streams b n world s g last rest a known (may g refl))
    by (message.Canceled g compact) a may = both (told_unwrapped b s last (Ok (message.Canceled g compact))) (cancellation_sees v streams b n world s g compact last rest a high)
    by (message.Events g es) a may = events (events_without v.namespace es) refl
      where
        events : (r : Unwrapped (List Event)) → events_without v.namespace es ≡ r → let d = told_unwrapped b s last (r >>= λ us. Ok (message.Events g us)) in Both (heard v n) (less streams n world rest) d.streams d.watches
        events (Ok us) e = both (delivered_stream b s g us) (batch_sees v streams b n world s g es us rest a e)
        events (Err key) e = both (cut_stream b s) (breaks_sees v streams b n world s (message.Events g es) rest a (λ i. breaks_batch s.stream.range s.stream.next (e i)))

-- ---- a cut

pub cut_sees : (v : View) (streams after : List OpenedStream) (b : Broadcasts) (n : ℕ) (world : OpenedStream) (s : Stream) → numbered 0 b.given b.streams ≡ true → AreOpen v streams b.streams → stream_at s.number b.streams ≡ Some s → IsOf v streams n world s
    → is_begun s.phase ≡ true → AreOpen (later v (item.Cut n ∷ [])) after (without_stream s.number b.streams) → Sees v b.streams b.watches
    → Both (later v (item.Cut n ∷ [])) after (cut_stream b s).streams (cut_stream b s).watches
cut_sees v streams after b n world s numbers known at is begun left h =
    subst (λ (c : Bool). let d : Broadcasts = cond c (record b { streams = without_stream s.number b.streams }) (reopened b s) in Both u after d.streams d.watches) (sym (closing s.phase begun)) (record {
      known = fewer_open u after (without_stream s.number b.streams) (reopened b s).streams (reopened_fewer b s) left;
      watches =
          on_members v u s.number s (λ w. record w { place = place.In (b.given + 1) }) b.streams (reopened b s).streams at
          (λ w at' k.
          let its = its_of v streams b.streams n world s known at begun is in
          let spot = member_spot v s w s.number its.its begun at' k ∙ ap (λ (m : ℕ). member m) its.number in
          same_has u (Some again) (stream_at (b.given + 1) (reopened b s).streams) (record w { place = place.In (b.given + 1) }) (reopened_at b s numbers) (cut_has v n (b.given + 1) b.step s again w refl refl refl k spot))
          (λ w d k.
          same_has u (place_stream b.streams w.place) (place_stream (reopened b s).streams w.place) w (reopened_other v b s w d k)
          (rest_has v (item.Cut n) (place_stream b.streams w.place) w (record { takes = λ t. refl; lives = λ l. refl }) refl k (not_member v streams b.streams n s.number world w known is.there is.own d k)))
          b.watches h;
    })
  where
    u : View
    u = later v (item.Cut n ∷ [])

    again : Stream
    again = record { number = b.given + 1; phase = phase.Due b.step; stream = cut s.stream }

    closing : (p : StreamPhase) → is_begun p ≡ true → is_closing p ≡ false
    closing (phase.Due since) e = refl
    closing (phase.Closing since) e = absurd (cc)
    closing phase.Begun e = refl

-- ---- a watch is asked

pub joined_sees : (v : View) (streams : List OpenedStream) (b : Broadcasts) (ticket : ℕ) (ask : WatchAsk) (last : Header) → numbered 0 b.given b.streams ≡ true → AreOpen v streams b.streams → last.revision ≤ newest (seen v.items).store.history
    → Joins v (new_watch ticket ask) → Sees v b.streams b.watches → Both v streams (joined b ticket ask last).streams (joined b ticket ask last).watches
joined_sees v streams b ticket ask last numbers known high new h =
    let x = seated b.streams b.given b.step last (new_watch ticket ask) in
    let k = seat_sees v streams b.streams b.given b.step last (new_watch ticket ask) numbers known high new in
    record {
      known = k.known;
      watches =
          each_inserted (λ w. Has v (place_stream x.streams w.place) w) x.watch b.watches k.watch
          (each_along (λ w. Has v (place_stream b.streams w.place) w) (λ w. Has v (place_stream x.streams w.place) w)
          (λ w h. same_has v (place_stream b.streams w.place) (place_stream x.streams w.place) w (k.others w.place (stands_in v (place_stream b.streams w.place) w h w.place refl)) h) b.watches h);
    }

-- ---- a message is taken

equal : (a b : ℕ) → (a == b) ≡ true → a ≡ b
equal a b e = grind (arith, nat_tests)

-- the watch of this ticket is another value, and the others rest
replaced : (v : View) (ss us : List Stream) (ticket : ℕ) (i : WatchItem) (x : Watch) → ((p : WatchPlace) → is_some (place_stream ss p) ≡ stays_in p → place_stream us p ≡ place_stream ss p)
    → Has (taking v ticket i) (place_stream us x.place) x → (ws : List Watch) → Sees v ss ws → Sees (taking v ticket i) us (map (watch_changed ticket (λ u. x)) ws)
replaced v ss us ticket i x same k ws h =
    each_mapped (λ w. Has v (place_stream ss w.place) w) (λ w. Has (taking v ticket i) (place_stream us w.place) w) (watch_changed ticket (λ u. x))
    (λ w h. elim (w.ticket == ticket) as (λ c. (w.ticket == ticket) ≡ c → Has (taking v ticket i) (place_stream us (cond c x w).place) (cond c x w)) [
      | true ↦ λ q. k
      | false ↦ λ q.
          same_has (taking v ticket i) (place_stream ss w.place) (place_stream us w.place) w (same w.place (stands_in v (place_stream ss w.place) w h w.place refl)) (untaken_has v ticket i (place_stream ss w.place) w q h)
    ] refl) ws h

taken_mute : (v : View) (ticket : ℕ) (i : WatchItem) → IsMute (item.Taken v.proxy ticket i ∷ [])
taken_mute v ticket i = record { pushes = λ n. refl; delivers_none = λ n. refl }

pub took_sees : (v : View) (streams : List OpenedStream) (b : Broadcasts) (last : Header) (w : Watch) (i : WatchItem) (is : List WatchItem) → numbered 0 b.given b.streams ≡ true → AreOpen v streams b.streams
    → last.revision ≤ newest (seen (taking v w.ticket i).items).store.history → w.queue ≡ i ∷ is → Has v (place_stream b.streams w.place) w → Sees v b.streams b.watches
    → let d = (taken_from b last w w.queue).0 in Both (taking v w.ticket i) streams d.streams d.watches
took_sees v streams b last w i is numbers known high q mine h = subst (λ (l : List WatchItem). let d = (taken_from b last w l).0 in Both u streams d.streams d.watches) (sym q) (elim (is_last i) as (λ c. let d : Broadcasts = cond c (record b { watches = without_watch w.ticket b.watches }) (after_take b last (record w { queue = is }) is w.place) in Both u streams d.streams d.watches) [
  | true ↦ record {
    known = behind;
    watches =
        others_ok (λ x. Has v (place_stream b.streams x.place) x) (λ x. Has u (place_stream b.streams x.place) x) w.ticket (λ x d k. untaken_has v w.ticket i (place_stream b.streams x.place) x d k) b.watches h;
  }
  | false ↦ after is w.place refl q
])
  where
    u : View
    u = taking v w.ticket i

    behind : AreOpen u streams b.streams
    behind = mute_open v streams (item.Taken v.proxy w.ticket i ∷ []) b.streams (life-append v.proxy [] v.items (item.Taken v.proxy w.ticket i ∷ [])) (taken_mute v w.ticket i) known

    stays : (js : List WatchItem) → w.queue ≡ i ∷ js → let x : Watch = record w { queue = js } in Both u streams b.streams (map (watch_changed x.ticket (λ y. x)) b.watches)
    stays js e = record { known = behind; watches = replaced v b.streams b.streams w.ticket i (record w { queue = js }) (λ p e. refl) (took_has v i js (place_stream b.streams w.place) w e mine) b.watches h }

    after : (js : List WatchItem) (p : WatchPlace) → w.place ≡ p → w.queue ≡ i ∷ js → let d = after_take b last (record w { queue = js }) js p in Both u streams d.streams d.watches
    after [] place.Split at e =
        let y : Watch = record w { queue = [] } in
        let x = seated b.streams b.given b.step last y in
        let j = took_joins v i [] w e at (subst (λ (o : Option Stream). Has v o w) (ap (place_stream b.streams) at) mine) in
        let k = seat_sees u streams b.streams b.given b.step last y numbers behind high j in
        let t = joined-keeps b.streams b.given b.step last y in
        record {
          known = k.known;
          watches = subst (λ (m : ℕ). Sees u x.streams (map (watch_changed m (λ z. x.watch)) b.watches)) (sym t) (replaced v b.streams x.streams w.ticket i x.watch k.others k.watch b.watches h);
        }
    after [] (place.In m) at e = stays [] e
    after [] place.Ended at e = stays [] e
    after (j ∷ js) place.Split at e = stays (j ∷ js) e
    after (j ∷ js) (place.In m) at e = stays (j ∷ js) e
    after (j ∷ js) place.Ended at e = stays (j ∷ js) e

-- ---- a watch that is left

pub removed_sees : (v : View) (streams : List OpenedStream) (b : Broadcasts) (ticket : ℕ) (o : Option Watch) → AreOpen v streams b.streams → Sees v b.streams b.watches → Both v streams (removed b ticket o).streams (removed b ticket o).watches
removed_sees v streams b ticket None known h = record { known = known; watches = h }
removed_sees v streams b ticket (Some w) known h = by w.place
  where
    d : Broadcasts
    d = record b { watches = without_watch ticket b.watches }

    fewer : Sees v b.streams (without_watch ticket b.watches)
    fewer = others_ok (λ x. Has v (place_stream b.streams x.place) x) (λ x. Has v (place_stream b.streams x.place) x) ticket (λ x d k. k) b.watches h

    by : (p : WatchPlace) → Both v streams (left_place p d).streams (left_place p d).watches
    by (place.In n) = record { known = fewer_open v streams b.streams (emptied n d).streams (emptied_fewer n d) known; watches = emptied_sees v n d fewer }
    by place.Split = record { known = known; watches = fewer }
    by place.Ended = record { known = known; watches = fewer }

-- ---- a stream is closed: it had no members

pub closed_sees : (v : View) (streams : List OpenedStream) (b : Broadcasts) (s : Stream) → stream_at s.number b.streams ≡ Some s → is_closing s.phase ≡ true → AreOpen v streams b.streams → Sees v b.streams b.watches
    → Both v streams (without_stream s.number b.streams) b.watches
closed_sees v streams b s at closing known h = record {
  known = fewer_open v streams b.streams (without_stream s.number b.streams) (without_fewer s.number b.streams) known;
  watches =
      each_along (λ w. Has v (place_stream b.streams w.place) w) (λ w. Has v (place_stream (without_stream s.number b.streams) w.place) w)
      (λ w k. elim (is_in s.number w.place) as (λ c. is_in s.number w.place ≡ c → Has v (place_stream (without_stream s.number b.streams) w.place) w) [
        | true ↦ λ q. nobody w (in_place s.number w.place q) k
        | false ↦ λ q. same_has v (place_stream b.streams w.place) (place_stream (without_stream s.number b.streams) w.place) w (others-without_stream s.number b.streams w.place q) k
      ] refl) b.watches h;
}
  where
    nobody : {A : Type 0} (w : Watch) → w.place ≡ place.In s.number → Has v (place_stream b.streams w.place) w → A
    nobody w at' k =
        let mine = subst (λ (o : Option Stream). Has v o w) (ap (place_stream b.streams) at' ∙ at) k in
        by w mine s.phase closing (subst (λ (p : WatchPlace). StandsAt v.kept (Some s) p mine.point.spot) at' mine.spot)
      where
        by : {A : Type 0} (w : Watch) (k : Has v (Some s) w) (p : StreamPhase) → is_closing p ≡ true → AtPhase v.kept s.number p k.point.spot → A
        by w k phase.Begun e x = absurd (cc)
        by w k (phase.Due since) e x = absurd (cc)
        by w k (phase.Closing since) e x = absurd x

-- ---- a stream is opened

pub opened_sees : (v : View) (streams : List OpenedStream) (b : Broadcasts) (s : Stream) (since : ℕ) (n : ℕ) (i : Item) → stream_at s.number b.streams ≡ Some s → s.phase ≡ phase.Due since
    → let u = rekept (later v (i ∷ [])) (with_kept v.kept s.number n) in AreOpen u streams (with_stream s.number begun b.streams) → (o : IsOpen u s.number (begun s)) → o.number ≡ n → is_stream_of v.proxy n i ≡ true
    → IsSilent v.proxy (i ∷ []) → begins v.proxy i ≡ false → ((t : Spot) → concerns i t ≡ false) → Sees v b.streams b.watches → Both u streams (with_stream s.number begun b.streams) b.watches
opened_sees v streams b s since n i at due known o number is silent b' quiet h = record {
  known = known;
  watches =
      each_along (λ w. Has v (place_stream b.streams w.place) w) (λ w. Has u (place_stream us w.place) w)
      (λ w k. elim (is_in s.number w.place) as (λ c. is_in s.number w.place ≡ c → Has u (place_stream us w.place) w) [
        | true ↦ λ q.
            let p = in_place s.number w.place q in
            let mine = subst (λ (x : Option Stream). Has v x w) (ap (place_stream b.streams) p ∙ at) k in
            same_has u (Some (begun s)) (place_stream us w.place) w (ap (place_stream us) p ∙ at-with_stream s.number begun (λ t. refl) b.streams s at)
            (opened_has v i kept s.number since s (begun s) w o silent b' (ap (λ (m : ℕ). is_stream_of v.proxy m i) number ∙ is) p due refl refl mine)
        | false ↦ λ q.
            same_has u (place_stream b.streams w.place) (place_stream us w.place) w (others-with_stream s.number begun (λ t. refl) b.streams w.place q)
            (rekept_has (later v (i ∷ [])) kept (place_stream b.streams w.place) w (λ own t p e g. other own p q) (rest_has v i (place_stream b.streams w.place) w silent b' k (quiet k.point.spot)))
      ] refl) b.watches h;
}
  where
    kept : Numbered ℕ
    kept = with_kept v.kept s.number n

    u : View
    u = rekept (later v (i ∷ [])) kept

    us : List Stream
    us = with_stream s.number begun b.streams

    other : (own : ℕ) → {p : WatchPlace} → p ≡ place.In own → is_in s.number p ≡ false → kept_at kept own ≡ kept_at v.kept own
    other own e q = kept_other v.kept own s.number n (ap (is_in s.number) (sym e) ∙ q)
