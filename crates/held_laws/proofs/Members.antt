-- Of each watch and the stream that it is a member of: what the small changes keep, each step of a proxy keeps.
use Rattle.std.proofs.Common.{◌≡◌, ◌⊎◌, inl, inr, ℕ, ◌+◌, max, Bool, true, false, not, cond, ◌&&◌, ◌||◌, ◌==◌, nat_le, nat_lt, List, [], ◌∷◌, ◌++◌, map, length, Option, None, Some, Result, Ok, Err, refl, ap, sym, ◌∙◌, arith}
use Rattle.etcd_types.specs.declared.key_range.KeyRange.{KeyRange}
use Rattle.etcd_types.specs.declared.record.Header.{Header}
use Rattle.etcd_types.specs.declared.request.WatchAsk.{WatchAsk}
use Rattle.etcd_types.specs.declared.watch.Event.{Event}
use Rattle.etcd_types.specs.declared.watch.WatchItem.{WatchItem}
use Rattle.etcd_types.specs.declared.watch.WatchItem.TheVariants as item
use Rattle.proxy_model.specs.Unwrapped.{Unwrapped, item_without}
use Rattle.proxy_model.specs.Upstream.{created}
use Rattle.watch_model.specs.declared.place.WatchPlace.{WatchPlace}
use Rattle.watch_model.specs.declared.place.WatchPlace.TheVariants as place
use Rattle.watch_model.specs.declared.stream.StreamPhase.{StreamPhase}
use Rattle.watch_model.specs.declared.stream.StreamPhase.TheVariants as phase
use Rattle.watch_model.specs.Queues.{chosen, would_pass, with_progress}
use Rattle.watch_model.specs.State.{Stream, Watch, Broadcasts}
use Rattle.watch_model.specs.Lookups.{stream_at, place_stream, with_stream, without_stream, changed_stream, is_in, has_member, is_begun, is_closing, is_due, is_standing, member_changed, watch_at, without_watch, watch_changed, numbered}
use Rattle.watch_model.specs.Joining.{created_header, told, told_if, decided, seated_in, stream_to_join, new_stream, new_watch, Seated, seated_at, seated, joined}
use Rattle.watch_model.specs.Merging.{is_of, keeper, kept_by, merged_number, merged_place, merged_stream, merged_watch, merged}
use Rattle.watch_model.specs.Splitting.{closed, emptied_as, emptied, left_place}
use Rattle.watch_model.specs.Cuts.{renumbered, reopened, cut_stream, ended, leaving, left_one, left_by, left_over, cancelled_stream}
use Rattle.watch_model.specs.Delivery.{shown_events, queued, given_batch, advanced, last_revision, delivered_message, is_told, is_awaited, delivered_stream, created_stream, created_watch, stands_created, progressed}
use Rattle.watch_model.specs.Leaving.{removed}
use Rattle.watch_model.specs.Takes.{is_last, after_take, taken_from}
use Rattle.watch_model.specs.Due.{begun, sent, next_job}
use Rattle.watch_model.specs.Story.{EachWatch}
use Rattle.watch_model.proofs.Numbers.{merged-keeps}
use Rattle.watch_model.proofs.Streams.{at-map, at_number, changed-keeps, others-with_stream, or_stream, at-push, none_above, numbered-without, numbered-push, each_mapped}
use Rattle.watch_laws.proofs.Bounds.{back}
use Rattle.watch_laws.proofs.Seating.{AllSome, MayJoin, join_is, seated_place, each_along, each_inserted, each_other, found}
use Rattle.watch_laws.proofs.Steps.{two_tests}
use Rattle.held_laws.proofs.StreamSteps.{without_at}
use Rattle.core_model.specs.declared.event.CoreEvent.{CoreEvent}
use Rattle.core_model.specs.declared.event.Outcome.{Outcome}
use Rattle.core_model.specs.declared.event.StepFault.{StepFault}
use Rattle.core_laws.proofs.Watches.Touches.{Side, told_unwrapped, told_stream, Touch, leaves, hears, ticks, joins, heard_leasing, broke_leasing, cut_leasing, told as told_it, cut, took, left_it, opens_leasing, sends}

-- A created stream's members were told so: of a watch, where `o` is its stream.
abbrev pub IsTold : Option Stream → Watch → Type 0
IsTold o w = (s : Stream) → o ≡ Some s → s.stream.created ≡ true → w.told ≡ true

abbrev pub AreTold : List Stream → List Watch → Type 0
AreTold ss ws = EachWatch (λ w. IsTold (place_stream ss w.place) w) ws

-- ---- lists of streams of which each that stands created did so before

abbrev pub Fewer : List Stream → List Stream → Type 0
Fewer ss us = (p : WatchPlace) (t : Stream) → place_stream us p ≡ Some t → t.stream.created ≡ true → (s : Stream) × (place_stream ss p ≡ Some s) × (s.stream.created ≡ true)

fewer_at : (ss us : List Stream) → ((k : ℕ) (t : Stream) → stream_at k us ≡ Some t → t.stream.created ≡ true → (s : Stream) × (stream_at k ss ≡ Some s) × (s.stream.created ≡ true)) → Fewer ss us
fewer_at ss us h (place.In k) t e c = h k t e c
fewer_at ss us h place.Split t e c = absurd (cc)
fewer_at ss us h place.Ended t e c = absurd (cc)

fewer_on : (ss us vs : List Stream) → Fewer ss us → Fewer us vs → Fewer ss vs
fewer_on ss us vs f g p t e c = let k = g p t e c in f p k.0 k.1 k.2

told_fewer : (ss us : List Stream) (ws : List Watch) → Fewer ss us → AreTold ss ws → AreTold us ws
told_fewer ss us ws f h =
    each_along (λ w. IsTold (place_stream ss w.place) w) (λ w. IsTold (place_stream us w.place) w) (λ w k t e c. let x = f w.place t e c in k x.0 x.1 x.2) ws h

some_is : (s t : Stream) → Some s ≡ Some t → s ≡ t
some_is s t e = cc

none_here : {A : Type 0} (t : Stream) → ◌≡◌ {A = Option Stream} None (Some t) → A
none_here t e = absurd (cc)

-- a change that keeps whether it stands created
mapped_fewer : (f : Stream → Stream) → ((s : Stream) → (f s).number ≡ s.number) → ((s : Stream) → (f s).stream.created ≡ s.stream.created) → (ss : List Stream) → Fewer ss (map f ss)
mapped_fewer f k m ss =
    fewer_at ss (map f ss) (λ n t e c.
    let b = back f (stream_at n ss) t (sym (at-map f k n ss) ∙ e) in
    (b.0, b.1, sym (m b.0) ∙ ap (λ (x : Stream). x.stream.created) b.2 ∙ c))

changed_created : (n : ℕ) (f : Stream → Stream) → ((s : Stream) → (f s).stream.created ≡ s.stream.created) → (s : Stream) → (changed_stream n f s).stream.created ≡ s.stream.created
changed_created n f m s = elim (s.number == n) as (λ b. (cond b (f s) s).stream.created ≡ s.stream.created) [ true ↦ m s | false ↦ refl ]

with_fewer : (n : ℕ) (f : Stream → Stream) → ((s : Stream) → (f s).number ≡ s.number) → ((s : Stream) → (f s).stream.created ≡ s.stream.created) → (ss : List Stream) → Fewer ss (with_stream n f ss)
with_fewer n f k m ss = mapped_fewer (changed_stream n f) (changed-keeps n f k) (changed_created n f m) ss

without_fewer : (n : ℕ) (ss : List Stream) → Fewer ss (without_stream n ss)
without_fewer n ss = fewer_at ss (without_stream n ss) (λ k t e c. (t, without_at n k ss t e, c))

push_fewer : (ss : List Stream) (t : Stream) → t.stream.created ≡ false → Fewer ss (ss ++ t ∷ [])
push_fewer ss t n = fewer_at ss (ss ++ t ∷ []) (λ k u e c. by k (stream_at k ss) refl u (sym (at-push k ss t) ∙ e) c)
  where
    by : (k : ℕ) (o : Option Stream) → stream_at k ss ≡ o → (u : Stream) → or_stream o (cond (t.number == k) (Some t) None) ≡ Some u → u.stream.created ≡ true → (s : Stream) × (stream_at k ss ≡ Some s) × (s.stream.created ≡ true)
    by k (Some s) f u e c = (s, f, ap (λ (x : Stream). x.stream.created) (some_is s u e) ∙ c)
    by k None f u e c = last (t.number == k) u e c
      where
        last : (b : Bool) (u : Stream) → cond b (Some t) None ≡ Some u → u.stream.created ≡ true → (s : Stream) × (stream_at k ss ≡ Some s) × (s.stream.created ≡ true)
        last true u e c = absurd (let no' : true ≡ false = sym c ∙ ap (λ (x : Stream). x.stream.created) (sym (some_is t u e)) ∙ n in cc)
        last false u e c = none_here u e

merged_created : (range : KeyRange) (ss : List Stream) (step : ℕ) (s : Stream) → (merged_stream range ss step s).stream.created ≡ s.stream.created
merged_created range ss step s = elim (kept_by range ss s == s.number) as (λ b. (cond b s (record s { phase = phase.Closing step })).stream.created ≡ s.stream.created) [ true ↦ refl | false ↦ refl ]

emptied_as_fewer : (n step : ℕ) (ss : List Stream) (o : Option Stream) → Fewer ss (emptied_as n step ss o)
emptied_as_fewer n step ss None = λ p t e c. (t, e, c)
emptied_as_fewer n step ss (Some s) = elim (is_due s.phase) as (λ b. Fewer ss (cond b (without_stream n ss) (with_stream n (closed step) ss))) [ true ↦ without_fewer n ss | false ↦ with_fewer n (closed step) (λ s. refl) (λ s. refl) ss ]

-- ---- the changes of streams and watches

emptied_told : (n : ℕ) (b : Broadcasts) → AreTold b.streams b.watches → AreTold (emptied n b).streams (emptied n b).watches
emptied_told n b h =
    elim (has_member n b.watches) as (λ c. let d : Broadcasts = cond c b (record b { streams = emptied_as n b.step b.streams (stream_at n b.streams) }) in AreTold d.streams d.watches) [
      | true ↦ h
      | false ↦ told_fewer b.streams (emptied_as n b.step b.streams (stream_at n b.streams)) b.watches (emptied_as_fewer n b.step b.streams (stream_at n b.streams)) h
    ]

-- a member of a stream that is merged was told, as that stands created
merged_told : (range : KeyRange) (b : Broadcasts) → AreTold b.streams b.watches → AreTold (merged range b).streams (merged range b).watches
merged_told range b h =
    each_mapped (λ w. IsTold (place_stream b.streams w.place) w) (λ w. IsTold (place_stream us w.place) w) (merged_watch range b.streams) (λ w k. one w w.place refl k) b.watches h
  where
    us : List Stream
    us = map (merged_stream range b.streams b.step) b.streams

    same : Fewer b.streams (map (merged_stream range b.streams b.step) b.streams)
    same = mapped_fewer (merged_stream range b.streams b.step) (merged-keeps range b.streams b.step) (merged_created range b.streams b.step) b.streams

    one : (w : Watch) (p : WatchPlace) → w.place ≡ p → IsTold (place_stream b.streams w.place) w → IsTold (place_stream us (merged_place range b.streams p)) (record w { place = merged_place range b.streams p })
    one w place.Split e k s f c = absurd (cc)
    one w place.Ended e k s f c = absurd (cc)
    one w (place.In n) e k s f c = by (stream_at n b.streams) refl s f c
      where
        here : stream_at n b.streams ≡ place_stream b.streams w.place
        here = ap (place_stream b.streams) (sym e)

        by : (o : Option Stream) → stream_at n b.streams ≡ o → (t : Stream) → stream_at (merged_number range b.streams n o) us ≡ Some t → t.stream.created ≡ true → w.told ≡ true
        by None f t g c = let x = same (place.In n) t g c in none_here x.0 (sym f ∙ x.1)
        by (Some s) f t g c =
            elim (is_of range s) as (λ d. is_of range s ≡ d → stream_at (cond d (keeper range s.stream.next s.number b.streams) s.number) us ≡ Some t → w.told ≡ true) [
              | true ↦ λ q r. k s (sym here ∙ f) (two_tests (is_begun s.phase) s.stream.created (two_tests _ (is_standing s) q).1).1
              | false ↦ λ q r.
                  let number : s.number ≡ n = at_number n b.streams s f in
                  let x = same (place.In n) t (ap (λ (j : ℕ). stream_at j us) (sym number) ∙ r) c in
                  k s (sym here ∙ f) (ap (λ (y : Stream). y.stream.created) (some_is s x.0 (sym f ∙ x.1)) ∙ x.2)
            ] refl g

-- watches that stay where they are, or aren't members any more, and were told where they had been
abbrev StaysTold : (Watch → Watch) → Type 0
StaysTold f = (w : Watch) → (w.told ≡ true → (f w).told ≡ true) × (((f w).place ≡ w.place) ⊎ ((f w).place ≡ place.Split))

members_told : (ss : List Stream) (n : ℕ) (f : Watch → Watch) (ws : List Watch) → StaysTold f → AreTold ss ws → AreTold ss (map (member_changed n f) ws)
members_told ss n f ws k h =
    each_mapped (λ w. IsTold (place_stream ss w.place) w) (λ w. IsTold (place_stream ss w.place) w) (member_changed n f)
    (λ w p. elim (is_in n w.place) as (λ c. IsTold (place_stream ss (cond c (f w) w).place) (cond c (f w) w)) [
      | true ↦ by w (k w).0 (k w).1 p
      | false ↦ p
    ]) ws h
  where
    by : (w : Watch) → (w.told ≡ true → (f w).told ≡ true) → ((f w).place ≡ w.place) ⊎ ((f w).place ≡ place.Split) → IsTold (place_stream ss w.place) w → IsTold (place_stream ss (f w).place) (f w)
    by w t (inl e) p s g c = t (p s (ap (place_stream ss) (sym e) ∙ g) c)
    by w t (inr e) p s g c = none_here s (sym (ap (place_stream ss) e) ∙ g)

queued_stays : (h : Header) (own : ℕ) (es : List Event) (w : Watch) → (w.told ≡ true → (queued h own es w).told ≡ true) × (((queued h own es w).place ≡ w.place) ⊎ ((queued h own es w).place ≡ place.Split))
queued_stays h own [] w = (λ t. t, inl refl)
queued_stays h own (e ∷ es) w =
    elim (would_pass w.queue (length (e ∷ es))) as (λ b. let v : Watch = cond b (record w { next = own; place = place.Split }) (record w { queue = w.queue ++ item.Events h (e ∷ es) ∷ [] }) in (w.told ≡ true → v.told ≡ true) × ((v.place ≡ w.place) ⊎ (v.place ≡ place.Split))) [
      | true ↦ (λ t. t, inr refl)
      | false ↦ (λ t. t, inl refl)
    ]

progressed_stays : (next : ℕ) (h : Header) → StaysTold (progressed next h)
progressed_stays next h w =
    elim (w.ask.progress && nat_le (max w.next next) (h.revision + 1)) as (λ b. let v : Watch = cond b (record w { queue = with_progress w.queue (item.Events h []) }) w in (w.told ≡ true → v.told ≡ true) × ((v.place ≡ w.place) ⊎ (v.place ≡ place.Split))) [
      | true ↦ (λ t. t, inl refl)
      | false ↦ (λ t. t, inl refl)
    ]

message_told : (b : Broadcasts) (s : Stream) (h : Header) (es : List Event) → AreTold b.streams b.watches → AreTold (delivered_message b s h es).streams (delivered_message b s h es).watches
message_told b s h [] k =
    let us = with_stream s.number (advanced h.revision) b.streams in
    let g = progressed s.stream.next h in
    elim (nat_le s.stream.next (h.revision + 1)) as (λ c. let d : Broadcasts = cond c (record b { streams = us; watches = map (member_changed s.number g) b.watches }) b in AreTold d.streams d.watches) [
      | true ↦ members_told us s.number g b.watches (progressed_stays s.stream.next h) (told_fewer b.streams us b.watches (with_fewer s.number (advanced h.revision) (λ s. refl) (λ s. refl) b.streams) k)
      | false ↦ k
    ]
message_told b s h (e ∷ es) k =
    let us = with_stream s.number (advanced (last_revision 0 (e ∷ es))) b.streams in
    let g = given_batch s.stream.next h (e ∷ es) in
    emptied_told s.number (record b { streams = us; watches = map (member_changed s.number g) b.watches })
    (members_told us s.number g b.watches (λ w. queued_stays h (max w.next s.stream.next) (shown_events w.ask (chosen w.ask (max w.next s.stream.next) (e ∷ es))) w)
    (told_fewer b.streams us b.watches (with_fewer s.number (advanced (last_revision 0 (e ∷ es))) (λ s. refl) (λ s. refl) b.streams) k))

-- a cut stream's new one doesn't stand created
cut_told : (b : Broadcasts) (s : Stream) → numbered 0 b.given b.streams ≡ true → AreTold b.streams b.watches → AreTold (cut_stream b s).streams (cut_stream b s).watches
cut_told b s n k =
    elim (is_closing s.phase) as (λ c. let d : Broadcasts = cond c (record b { streams = without_stream s.number b.streams }) (reopened b s) in AreTold d.streams d.watches) [
      | true ↦ told_fewer b.streams (without_stream s.number b.streams) b.watches (without_fewer s.number b.streams) k
      | false ↦
          each_mapped (λ w. IsTold (place_stream b.streams w.place) w) (λ w. IsTold (place_stream us w.place) w) (renumbered s.number (b.given + 1))
          (λ w p. elim (is_in s.number w.place) as (λ c. IsTold (place_stream us (cond c (record w { place = place.In (b.given + 1) }) w).place) (cond c (record w { place = place.In (b.given + 1) }) w)) [
            | true ↦ λ t e c. let x = less (place.In (b.given + 1)) t e c in none_here x.0 (sym (none_above 0 b.given (b.given + 1) b.streams n (omega arith)) ∙ x.1)
            | false ↦ λ t e c. let x = less w.place t e c in p x.0 x.1 x.2
          ]) b.watches k
    ]
  where
    us : List Stream
    us = (reopened b s).streams

    less : Fewer b.streams (reopened b s).streams
    less = fewer_on b.streams (without_stream s.number b.streams) (reopened b s).streams (without_fewer s.number b.streams) (push_fewer (without_stream s.number b.streams) _ refl)

delivered_told : (b : Broadcasts) (s : Stream) (h : Header) (es : List Event) → numbered 0 b.given b.streams ≡ true → AreTold b.streams b.watches → AreTold (delivered_stream b s h es).streams (delivered_stream b s h es).watches
delivered_told b s h es n k =
    let m = delivered_message b s h es in
    elim (is_begun s.phase) as (λ c. let d : Broadcasts = cond c (cond (is_told s es) (merged s.stream.range m) (cut_stream b s)) b in AreTold d.streams d.watches) [
      | true ↦ elim (is_told s es) as (λ c. let d : Broadcasts = cond c (merged s.stream.range m) (cut_stream b s) in AreTold d.streams d.watches) [
        | true ↦ merged_told s.stream.range m (message_told b s h es k)
        | false ↦ cut_told b s n k
      ]
      | false ↦ k
    ]

-- the created message is told to all members
told_is : (last : Header) (w : Watch) → (told last w).told ≡ true
told_is last w = elim w.told as (λ c. w.told ≡ c → (cond c w (record w { told = true; queue = w.queue ++ item.Created (created_header last w) ∷ [] })).told ≡ true) [ true ↦ λ e. e | false ↦ λ e. refl ] refl

created_told : (b : Broadcasts) (s : Stream) (h last : Header) → AreTold b.streams b.watches → AreTold (stands_created b s h last).streams (stands_created b s h last).watches
created_told b s h last k =
    let f = created_stream h.revision in
    let g = created_watch (created s.stream h.revision).next last in
    let d : Broadcasts = record b { streams = with_stream s.number f b.streams; watches = map (member_changed s.number g) b.watches } in
    elim (is_awaited s) as (λ c. let d : Broadcasts = cond c (merged s.stream.range d) b in AreTold d.streams d.watches) [
      | true ↦ merged_told s.stream.range d
          (each_mapped (λ w. IsTold (place_stream b.streams w.place) w) (λ w. IsTold (place_stream (with_stream s.number f b.streams) w.place) w) (member_changed s.number g)
          (λ w p. elim (is_in s.number w.place) as (λ c. is_in s.number w.place ≡ c → IsTold (place_stream (with_stream s.number f b.streams) (cond c (g w) w).place) (cond c (g w) w)) [
            | true ↦ λ q t e c. told_is last (decided (created s.stream h.revision).next w)
            | false ↦ λ q t e c. p t (sym (others-with_stream s.number f (λ s. refl) b.streams w.place q) ∙ e) c
          ] refl) b.watches k)
      | false ↦ k
    ]

-- ---- a watch joins

-- of a watch that was seated: no other stream stands created that didn't, and it was told where its stream stands created
pub record SeatTold (ss : List Stream) (x : Seated) : Type 0 where
  pub fewer : Fewer ss x.streams
  pub told : IsTold (place_stream x.streams x.watch.place) x.watch
  pub numbers : numbered 0 x.given x.streams ≡ true

same_fewer : (ss : List Stream) → Fewer ss ss
same_fewer ss p t e c = (t, e, c)

told_if_so : (b : Bool) (last : Header) (w : Watch) → b ≡ true → (told_if b last w).told ≡ true
told_if_so true last w e = told_is last w
told_if_so false last w e = absurd (cc)

seat_told : (ss : List Stream) (given step : ℕ) (last : Header) (w : Watch) → numbered 0 given ss ≡ true → SeatTold ss (seated ss given step last w)
seat_told ss given step last w n = by (stream_to_join ss w.ask.range w.next last.revision) (join_is given ss w.ask.range w.next last.revision n)
  where
    by : (o : Option Stream) → AllSome (MayJoin ss w.ask.range w.next) o → SeatTold ss (seated_at ss given step last w o)
    by (Some s) j = record {
      fewer = same_fewer ss;
      told = λ t e c.
          let there : place_stream ss (seated_in last s w).place ≡ Some s = ap (place_stream ss) (seated_place last s w) ∙ j.found in
          let one : s ≡ t = some_is s t (sym there ∙ e) in
          told_if_so s.stream.created last (record (decided s.stream.next w) { place = place.In s.number }) (ap (λ (x : Stream). x.stream.created) one ∙ c);
      numbers = n;
    }
    by None j =
        let new = new_stream (given + 1) step w.ask.range w.next in
        let less = push_fewer ss new refl in
        record {
          fewer = less;
          told = λ t e c. let x = less (place.In (given + 1)) t e c in none_here x.0 (sym (none_above 0 given (given + 1) ss n (omega arith)) ∙ x.1);
          numbers = numbered-push 0 given ss new (omega arith) refl n;
        }

joined_told : (b : Broadcasts) (ticket : ℕ) (ask : WatchAsk) (last : Header) → numbered 0 b.given b.streams ≡ true → AreTold b.streams b.watches → AreTold (joined b ticket ask last).streams (joined b ticket ask last).watches
joined_told b ticket ask last n k =
    let x = seated b.streams b.given b.step last (new_watch ticket ask) in
    let s = seat_told b.streams b.given b.step last (new_watch ticket ask) n in
    each_inserted (λ w. IsTold (place_stream x.streams w.place) w) x.watch b.watches s.told (told_fewer b.streams x.streams b.watches s.fewer k)

-- ---- a cancellation

left_told : (n next : ℕ) (header : Header) (compact step : ℕ) (last : Header) (ss : List Stream) (given : ℕ) (w : Watch) → numbered 0 given ss ≡ true → IsTold (place_stream ss w.place) w → SeatTold ss (left_by n next header compact step last ss given w)
left_told n next header compact step last ss given w m k =
    let v = leaving next w in
    let out : Seated = record { streams = ss; given = given; watch = w } in
    let gone : Seated = record { streams = ss; given = given; watch = ended header compact v } in
    elim (is_in n w.place) as (λ b. SeatTold ss (cond b (left_one header compact step last ss given v) out)) [
      | true ↦ elim (nat_lt v.next compact) as (λ c. SeatTold ss (cond c gone (seated ss given step last v))) [
        | true ↦ record { fewer = same_fewer ss; told = λ t e c. none_here t e; numbers = m }
        | false ↦ seat_told ss given step last v m
      ]
      | false ↦ record { fewer = same_fewer ss; told = k; numbers = m }
    ]

over_told : (n next : ℕ) (header : Header) (compact step : ℕ) (last : Header) (ss : List Stream) (given : ℕ) (ws : List Watch) → numbered 0 given ss ≡ true → AreTold ss ws
    → Fewer ss (left_over n next header compact step last ss given ws).streams × AreTold (left_over n next header compact step last ss given ws).streams (left_over n next header compact step last ss given ws).watches
over_told n next header compact step last ss given [] m k = (same_fewer ss, tt)
over_told n next header compact step last ss given (w ∷ ws) m k =
    let x = left_by n next header compact step last ss given w in
    let s = left_told n next header compact step last ss given w m k.0 in
    let rest = over_told n next header compact step last x.streams x.given ws s.numbers (told_fewer ss x.streams ws s.fewer k.1) in (
      fewer_on ss x.streams _ s.fewer rest.0,
      ((λ t e c. let y = rest.0 x.watch.place t e c in s.told y.0 y.1 y.2), rest.1),
    )

cancelled_told : (b : Broadcasts) (s : Stream) (header : Header) (compact : ℕ) (last : Header) → numbered 0 b.given b.streams ≡ true → AreTold b.streams b.watches → AreTold (cancelled_stream b s header compact last).streams (cancelled_stream b s header compact last).watches
cancelled_told b s header compact last n k =
    let rest = without_stream s.number b.streams in
    let l = left_over s.number s.stream.next header compact b.step last rest b.given b.watches in
    elim (not (is_begun s.phase)) as (λ c. let d : Broadcasts = cond c b (cond (compact == 0 || s.stream.next == 0) (cut_stream b s) (record b { streams = l.streams; given = l.given; watches = l.watches })) in AreTold d.streams d.watches) [
      | true ↦ k
      | false ↦ elim (compact == 0 || s.stream.next == 0) as (λ c. let d : Broadcasts = cond c (cut_stream b s) (record b { streams = l.streams; given = l.given; watches = l.watches }) in AreTold d.streams d.watches) [
        | true ↦ cut_told b s n k
        | false ↦
            (over_told s.number s.stream.next header compact b.step last rest b.given b.watches (numbered-without s.number 0 b.given b.streams n) (told_fewer b.streams rest b.watches (without_fewer s.number b.streams) k)).1
      ]
    ]

-- ---- takes, leaving, jobs

replaced_told : (ss : List Stream) (ticket : ℕ) (v : Watch) (ws : List Watch) → IsTold (place_stream ss v.place) v → AreTold ss ws → AreTold ss (map (watch_changed ticket (λ u. v)) ws)
replaced_told ss ticket v ws t k =
    each_mapped (λ w. IsTold (place_stream ss w.place) w) (λ w. IsTold (place_stream ss w.place) w) (watch_changed ticket (λ u. v))
    (λ w p. elim (w.ticket == ticket) as (λ c. IsTold (place_stream ss (cond c v w).place) (cond c v w)) [ true ↦ t | false ↦ p ]) ws k

after_told : (b : Broadcasts) (last : Header) (v : Watch) (is : List WatchItem) (p : WatchPlace) → numbered 0 b.given b.streams ≡ true → IsTold (place_stream b.streams v.place) v → AreTold b.streams b.watches
    → AreTold (after_take b last v is p).streams (after_take b last v is p).watches
after_told b last v [] place.Split n t k =
    let x = seated b.streams b.given b.step last v in
    let s = seat_told b.streams b.given b.step last v n in
    replaced_told x.streams x.watch.ticket x.watch b.watches s.told (told_fewer b.streams x.streams b.watches s.fewer k)
after_told b last v [] (place.In j) n t k = replaced_told b.streams v.ticket v b.watches t k
after_told b last v [] place.Ended n t k = replaced_told b.streams v.ticket v b.watches t k
after_told b last v (i ∷ is) place.Split n t k = replaced_told b.streams v.ticket v b.watches t k
after_told b last v (i ∷ is) (place.In j) n t k = replaced_told b.streams v.ticket v b.watches t k
after_told b last v (i ∷ is) place.Ended n t k = replaced_told b.streams v.ticket v b.watches t k

taken_told : (b : Broadcasts) (last : Header) (w : Watch) → numbered 0 b.given b.streams ≡ true → IsTold (place_stream b.streams w.place) w → AreTold b.streams b.watches → AreTold (taken_from b last w w.queue).0.streams (taken_from b last w w.queue).0.watches
taken_told b last w n t k = by w.queue
  where
    by : (q : List WatchItem) → AreTold (taken_from b last w q).0.streams (taken_from b last w q).0.watches
    by [] = k
    by (i ∷ is) =
        let v : Watch = record w { queue = is } in
        elim (is_last i) as (λ c. let d : Broadcasts = cond c (record b { watches = without_watch w.ticket b.watches }) (after_take b last v is w.place) in AreTold d.streams d.watches) [
          | true ↦ each_other (λ u. IsTold (place_stream b.streams u.place) u) w.ticket b.watches k
          | false ↦ after_told b last v is w.place n t k
        ]

removed_told : (b : Broadcasts) (ticket : ℕ) (o : Option Watch) → AreTold b.streams b.watches → AreTold (removed b ticket o).streams (removed b ticket o).watches
removed_told b ticket None k = k
removed_told b ticket (Some w) k = by w.place
  where
    d : Broadcasts
    d = record b { watches = without_watch ticket b.watches }

    less : AreTold b.streams (without_watch ticket b.watches)
    less = each_other (λ u. IsTold (place_stream b.streams u.place) u) ticket b.watches k

    by : (p : WatchPlace) → AreTold (left_place p d).streams (left_place p d).watches
    by (place.In n) = emptied_told n d less
    by place.Split = less
    by place.Ended = less

sent_told : (b : Broadcasts) (s : Stream) → AreTold b.streams b.watches → AreTold (next_job b (Some s)).0.streams (next_job b (Some s)).0.watches
sent_told b s k = by s.phase
  where
    by : (p : StreamPhase) → AreTold (sent b s p).0.streams (sent b s p).0.watches
    by (phase.Closing since) = told_fewer b.streams (without_stream s.number b.streams) b.watches (without_fewer s.number b.streams) k
    by (phase.Due since) = told_fewer b.streams (with_stream s.number begun b.streams) b.watches (with_fewer s.number begun (λ s. refl) (λ s. refl) b.streams) k
    by phase.Begun = k

unwrapped_told : (b : Broadcasts) (s : Stream) (last : Header) (u : Unwrapped WatchItem) → numbered 0 b.given b.streams ≡ true → AreTold b.streams b.watches → AreTold (told_unwrapped b s last u).streams (told_unwrapped b s last u).watches
unwrapped_told b s last (Ok (item.Created h)) n k = created_told b s h last k
unwrapped_told b s last (Ok (item.Events h es)) n k = delivered_told b s h es n k
unwrapped_told b s last (Ok (item.Canceled h compact)) n k = cancelled_told b s h compact last n k
unwrapped_told b s last (Err foreign) n k = cut_told b s n k

stream_told : (b : Broadcasts) (s : Stream) (last : Header) (namespace : List ℕ) (x : WatchItem) → numbered 0 b.given b.streams ≡ true → AreTold b.streams b.watches → AreTold (told_stream b s last namespace x).streams (told_stream b s last namespace x).watches
stream_told b s last namespace x n k =
    elim (is_begun s.phase) as (λ c. let d : Broadcasts = cond c (told_unwrapped b s last (item_without namespace x)) b in AreTold d.streams d.watches) [
      | true ↦ unwrapped_told b s last (item_without namespace x) n k
      | false ↦ k
    ]

-- ---- each step of a proxy

pub touch_members : (namespace : List ℕ) (a d : Side) (e : CoreEvent) (o : Result Outcome StepFault) → numbered 0 a.broadcasts.given a.broadcasts.streams ≡ true → Touch namespace a e d o → AreTold a.broadcasts.streams a.broadcasts.watches
    → AreTold d.broadcasts.streams d.broadcasts.watches
touch_members namespace a _ _ _ n (leaves e o p) k = k
touch_members namespace a _ _ _ n (hears call reply o p) k = k
touch_members namespace a _ _ _ n (ticks word) k = k
touch_members namespace a _ _ _ n (joins ticket ask word f) k = joined_told a.broadcasts ticket ask a.header n k
touch_members namespace a _ _ _ n (heard_leasing number x l) k = k
touch_members namespace a _ _ _ n (broke_leasing number x l) k = k
touch_members namespace a _ _ _ n (cut_leasing number l) k = k
touch_members namespace a _ _ _ n (told_it number x s f) k = stream_told a.broadcasts s _ namespace x n k
touch_members namespace a _ _ _ n (cut number s f) k = cut_told a.broadcasts s n k
touch_members namespace a _ _ _ n (took ticket w i is f q) k =
    taken_told a.broadcasts a.header w n (found (λ u. IsTold (place_stream a.broadcasts.streams u.place) u) ticket a.broadcasts.watches w f k) k
touch_members namespace a _ _ _ n (left_it ticket) k = removed_told a.broadcasts ticket (watch_at ticket a.broadcasts.watches) k
touch_members namespace a _ _ _ n (opens_leasing number member q l) k = k
touch_members namespace a _ _ _ n (sends c s m is f) k = sent_told a.broadcasts s k
