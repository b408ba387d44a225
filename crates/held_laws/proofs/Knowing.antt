-- Of each stream of a proxy: where it stands created its next is known.
use Rattle.std.proofs.Common.{◌≡◌, ℕ, ◌+◌, ◌≤◌, max, min, Bool, true, false, not, cond, ◌||◌, ◌==◌, nat_le, nat_lt, List, [], ◌∷◌, ◌++◌, map, Option, None, Some, Ok, Err, refl, ap, ◌∙◌, arith}
use Rattle.std.proofs.lemmas.Bool.Decides.{nat_tests}
use Rattle.etcd_types.specs.declared.key_range.KeyRange.{KeyRange}
use Rattle.etcd_types.specs.declared.record.Header.{Header}
use Rattle.etcd_types.specs.declared.request.WatchAsk.{WatchAsk}
use Rattle.etcd_types.specs.declared.watch.Event.{Event}
use Rattle.etcd_types.specs.declared.watch.WatchItem.{WatchItem}
use Rattle.etcd_types.specs.declared.watch.WatchItem.TheVariants as item
use Rattle.proxy_model.specs.Limits.{capped}
use Rattle.proxy_model.specs.Unwrapped.{Unwrapped, item_without}
use Rattle.watch_model.specs.declared.place.WatchPlace.{WatchPlace}
use Rattle.watch_model.specs.declared.place.WatchPlace.TheVariants as place
use Rattle.watch_model.specs.declared.stream.StreamPhase.{StreamPhase}
use Rattle.watch_model.specs.declared.stream.StreamPhase.TheVariants as phase
use Rattle.watch_model.specs.State.{Stream, Watch, Broadcasts}
use Rattle.watch_model.specs.Lookups.{stream_at, with_stream, without_stream, changed_stream, has_member, is_in, is_begun, is_closing, is_due, member_changed, without_watch}
use Rattle.watch_model.specs.Joining.{best_of, opening_from_now, or_else, stream_to_join, new_stream, new_watch, Seated, seated_at, seated, joined}
use Rattle.watch_model.specs.Merging.{merged_stream, kept_by, merged}
use Rattle.watch_model.specs.Splitting.{closed, emptied_as, emptied, left_place}
use Rattle.watch_model.specs.Cuts.{reopened, cut_stream, ended, leaving, left_one, left_by, left_over, cancelled_stream}
use Rattle.watch_model.specs.Delivery.{given_batch, progressed, advanced, last_revision, delivered_message, is_told, is_awaited, delivered_stream, created_stream, created_watch, stands_created}
use Rattle.proxy_model.specs.Upstream.{created, cut}
use Rattle.watch_model.specs.Leaving.{removed}
use Rattle.watch_model.specs.Takes.{is_last, after_take, taken_from}
use Rattle.watch_model.specs.Due.{begun, sent, next_job}
use Rattle.watch_laws.proofs.Seating.{EachStream, AllSome, best_is, opening_is}
use Rattle.core_laws.proofs.Watches.Touches.{told_unwrapped, told_stream}

abbrev pub IsKnown : Stream → Type 0
IsKnown s = s.stream.created ≡ true → (s.stream.next == 0) ≡ false

abbrev pub AreKnown : List Stream → Type 0
AreKnown ss = EachStream IsKnown ss

-- ---- lists

known_map : (f : Stream → Stream) → ((s : Stream) → IsKnown s → IsKnown (f s)) → (ss : List Stream) → AreKnown ss → AreKnown (map f ss)
known_map f k [] h = tt
known_map f k (s ∷ ss) h = (k s h.0, known_map f k ss h.1)

known_with : (n : ℕ) (f : Stream → Stream) → ((s : Stream) → IsKnown s → IsKnown (f s)) → (ss : List Stream) → AreKnown ss → AreKnown (with_stream n f ss)
known_with n f k ss h = known_map (changed_stream n f) (λ s p. elim (s.number == n) as (λ b. IsKnown (cond b (f s) s)) [ true ↦ k s p | false ↦ p ]) ss h

pub known_without : (n : ℕ) (ss : List Stream) → AreKnown ss → AreKnown (without_stream n ss)
known_without n [] h = tt
known_without n (s ∷ ss) h = elim (s.number == n) as (λ b. AreKnown (cond (not b) (s ∷ without_stream n ss) (without_stream n ss))) [ true ↦ known_without n ss h.1 | false ↦ (h.0, known_without n ss h.1) ]

known_push : (ss : List Stream) (t : Stream) → IsKnown t → AreKnown ss → AreKnown (ss ++ t ∷ [])
known_push [] t k h = (k, tt)
known_push (s ∷ ss) t k h = (h.0, known_push ss t k h.1)

later : (n m : ℕ) → (n == 0) ≡ false → (max n m == 0) ≡ false
later n m e = let l : n ≤ max n m = omega arith in above n (max n m) e l
  where
    above : (n m : ℕ) → (n == 0) ≡ false → n ≤ m → (m == 0) ≡ false
    above n m e l = grind (arith, nat_tests)

known_advanced : (last : ℕ) (s : Stream) → IsKnown s → IsKnown (advanced last s)
known_advanced last s k c = later s.stream.next (capped (last + 1)) (k c)

pub created_next : (s : Stream) (revision : ℕ) → ((created s.stream revision).next == 0) ≡ false
created_next s revision = by (s.stream.next == 0) refl
  where
    some : (r : ℕ) → (min (r + 1) 0xffff_ffff_ffff_ffff == 0) ≡ false
    some r = let l : 1 ≤ min (r + 1) 0xffff_ffff_ffff_ffff = omega arith in high (min (r + 1) 0xffff_ffff_ffff_ffff) l
      where
        high : (n : ℕ) → 1 ≤ n → (n == 0) ≡ false
        high n l = grind (arith, nat_tests)

    by : (b : Bool) → (s.stream.next == 0) ≡ b → ((cond (s.stream.next == 0) (capped (revision + 1)) s.stream.next) == 0) ≡ false
    by true e = ap (λ b. cond b (capped (revision + 1)) s.stream.next == 0) e ∙ some revision
    by false e = ap (λ b. cond b (capped (revision + 1)) s.stream.next == 0) e ∙ e

known_merged : (range : KeyRange) (all : List Stream) (step : ℕ) (ss : List Stream) → AreKnown ss → AreKnown (map (merged_stream range all step) ss)
known_merged range all step ss h = known_map (merged_stream range all step) (λ s p. elim (kept_by range all s == s.number) as (λ b. IsKnown (cond b s (record s { phase = phase.Closing step }))) [ true ↦ p | false ↦ p ]) ss h

-- ---- the changes of the streams

known_emptied : (n : ℕ) (b : Broadcasts) → AreKnown b.streams → AreKnown (emptied n b).streams
known_emptied n b h =
    elim (has_member n b.watches) as (λ c. AreKnown (cond c b (record b { streams = emptied_as n b.step b.streams (stream_at n b.streams) })).streams) [
      | true ↦ h
      | false ↦ by (stream_at n b.streams)
    ]
  where
    by : (o : Option Stream) → AreKnown (emptied_as n b.step b.streams o)
    by None = h
    by (Some s) = elim (is_due s.phase) as (λ c. AreKnown (cond c (without_stream n b.streams) (with_stream n (closed b.step) b.streams))) [ true ↦ known_without n b.streams h | false ↦ known_with n (closed b.step) (λ s p. p) b.streams h ]

known_cut : (b : Broadcasts) (s : Stream) → AreKnown b.streams → AreKnown (cut_stream b s).streams
known_cut b s h =
    elim (is_closing s.phase) as (λ c. AreKnown (cond c (record b { streams = without_stream s.number b.streams }) (reopened b s)).streams) [
      | true ↦ known_without s.number b.streams h
      | false ↦ known_push (without_stream s.number b.streams) (record { number = b.given + 1; phase = phase.Due b.step; stream = cut s.stream }) (λ c. absurd (cc)) (known_without s.number b.streams h)
    ]

known_message : (b : Broadcasts) (s : Stream) (g : Header) (es : List Event) → AreKnown b.streams → AreKnown (delivered_message b s g es).streams
known_message b s g [] h =
    elim (nat_le s.stream.next (g.revision + 1)) as (λ c. AreKnown (cond c (record b { streams = with_stream s.number (advanced g.revision) b.streams; watches = map (member_changed s.number (progressed s.stream.next g)) b.watches }) b).streams) [
      | true ↦ known_with s.number (advanced g.revision) (known_advanced g.revision) b.streams h
      | false ↦ h
    ]
known_message b s g (e ∷ es) h =
    known_emptied s.number (record b { streams = with_stream s.number (advanced (last_revision 0 (e ∷ es))) b.streams; watches = map (member_changed s.number (given_batch s.stream.next g (e ∷ es))) b.watches })
    (known_with s.number (advanced (last_revision 0 (e ∷ es))) (known_advanced (last_revision 0 (e ∷ es))) b.streams h)

known_delivered : (b : Broadcasts) (s : Stream) (g : Header) (es : List Event) → AreKnown b.streams → AreKnown (delivered_stream b s g es).streams
known_delivered b s g es h =
    let m = delivered_message b s g es in
    elim (is_begun s.phase) as (λ c. AreKnown (cond c (cond (is_told s es) (merged s.stream.range m) (cut_stream b s)) b).streams) [
      | true ↦ elim (is_told s es) as (λ c. AreKnown (cond c (merged s.stream.range m) (cut_stream b s)).streams) [
        | true ↦ known_merged s.stream.range m.streams m.step m.streams (known_message b s g es h)
        | false ↦ known_cut b s h
      ]
      | false ↦ h
    ]

known_created : (b : Broadcasts) (s : Stream) (g last : Header) → AreKnown b.streams → AreKnown (stands_created b s g last).streams
known_created b s g last h =
    let f = created_stream g.revision in
    let us = with_stream s.number f b.streams in
    let d : Broadcasts = record b { streams = us; watches = map (member_changed s.number (created_watch (created s.stream g.revision).next last)) b.watches } in
    elim (is_awaited s) as (λ c. AreKnown (cond c (merged s.stream.range d) b).streams) [
      | true ↦ known_merged s.stream.range us b.step us (known_with s.number f (λ t p c. created_next t g.revision) b.streams h)
      | false ↦ h
    ]

-- ---- a watch joins

pub either_some : (Q : Stream → Type 0) (o x : Option Stream) → AllSome Q o → AllSome Q x → AllSome Q (or_else o x)
either_some Q None x a b = b
either_some Q (Some s) x a b = a

pub join_known : (ss : List Stream) (range : KeyRange) (next seen : ℕ) → AreKnown ss → AllSome IsKnown (stream_to_join ss range next seen)
join_known ss range next seen h =
    elim (next == 0) as (λ b. AllSome IsKnown (cond b (or_else (best_of range (capped (seen + 1)) None ss) (opening_from_now range ss)) (best_of range next None ss))) [
      | true ↦
          either_some IsKnown (best_of range (capped (seen + 1)) None ss) (opening_from_now range ss) (best_is IsKnown IsKnown range (capped (seen + 1)) (λ s p e. p) ss None h tt)
          (opening_is IsKnown IsKnown range (λ s p e. p) ss h)
      | false ↦ best_is IsKnown IsKnown range next (λ s p e. p) ss None h tt
    ]

pub seat_known : (ss : List Stream) (given step : ℕ) (last : Header) (w : Watch) → AreKnown ss → AreKnown (seated ss given step last w).streams
seat_known ss given step last w h = by (stream_to_join ss w.ask.range w.next last.revision)
  where
    by : (o : Option Stream) → AreKnown (seated_at ss given step last w o).streams
    by (Some s) = h
    by None = known_push ss (new_stream (given + 1) step w.ask.range w.next) (λ c. absurd (cc)) h

pub left_known : (n next : ℕ) (header : Header) (compact step : ℕ) (last : Header) (ss : List Stream) (given : ℕ) (w : Watch) → AreKnown ss → AreKnown (left_by n next header compact step last ss given w).streams
left_known n next header compact step last ss given w h =
    let v = leaving next w in
    let out : Seated = record { streams = ss; given = given; watch = w } in
    let gone : Seated = record { streams = ss; given = given; watch = ended header compact v } in
    elim (is_in n w.place) as (λ b. AreKnown (cond b (left_one header compact step last ss given v) out).streams) [
      | true ↦ elim (nat_lt v.next compact) as (λ c. AreKnown (cond c gone (seated ss given step last v)).streams) [ true ↦ h | false ↦ seat_known ss given step last v h ]
      | false ↦ h
    ]

over_known : (n next : ℕ) (header : Header) (compact step : ℕ) (last : Header) (ss : List Stream) (given : ℕ) (ws : List Watch) → AreKnown ss → AreKnown (left_over n next header compact step last ss given ws).streams
over_known n next header compact step last ss given [] h = h
over_known n next header compact step last ss given (w ∷ ws) h =
    let x = left_by n next header compact step last ss given w in
    over_known n next header compact step last x.streams x.given ws (left_known n next header compact step last ss given w h)

known_cancelled : (b : Broadcasts) (s : Stream) (header : Header) (compact : ℕ) (last : Header) → AreKnown b.streams → AreKnown (cancelled_stream b s header compact last).streams
known_cancelled b s header compact last h =
    let rest = without_stream s.number b.streams in
    let l = left_over s.number s.stream.next header compact b.step last rest b.given b.watches in
    let d : Broadcasts = record b { streams = l.streams; given = l.given; watches = l.watches } in
    elim (not (is_begun s.phase)) as (λ c. AreKnown (cond c b (cond (compact == 0 || s.stream.next == 0) (cut_stream b s) d)).streams) [
      | true ↦ h
      | false ↦ elim (compact == 0 || s.stream.next == 0) as (λ c. AreKnown (cond c (cut_stream b s) d).streams) [
        | true ↦ known_cut b s h
        | false ↦ over_known s.number s.stream.next header compact b.step last rest b.given b.watches (known_without s.number b.streams h)
      ]
    ]

-- ---- each step of a proxy

pub joined_known : (b : Broadcasts) (ticket : ℕ) (ask : WatchAsk) (last : Header) → AreKnown b.streams → AreKnown (joined b ticket ask last).streams
joined_known b ticket ask last h = seat_known b.streams b.given b.step last (new_watch ticket ask) h

pub cut_known : (b : Broadcasts) (s : Stream) → AreKnown b.streams → AreKnown (cut_stream b s).streams
cut_known b s h = known_cut b s h

pub told_known : (b : Broadcasts) (s : Stream) (last : Header) (namespace : List ℕ) (x : WatchItem) → AreKnown b.streams → AreKnown (told_stream b s last namespace x).streams
told_known b s last namespace x h = elim (is_begun s.phase) as (λ c. AreKnown (cond c (told_unwrapped b s last (item_without namespace x)) b).streams) [ true ↦ by (item_without namespace x) | false ↦ h ]
  where
    by : (u : Unwrapped WatchItem) → AreKnown (told_unwrapped b s last u).streams
    by (Ok (item.Created g)) = known_created b s g last h
    by (Ok (item.Events g es)) = known_delivered b s g es h
    by (Ok (item.Canceled g compact)) = known_cancelled b s g compact last h
    by (Err foreign) = known_cut b s h

pub taken_known : (b : Broadcasts) (last : Header) (w : Watch) → AreKnown b.streams → AreKnown (taken_from b last w w.queue).0.streams
taken_known b last w h = by w.queue
  where
    after : (v : Watch) (is : List WatchItem) (p : WatchPlace) → AreKnown (after_take b last v is p).streams
    after v [] place.Split = seat_known b.streams b.given b.step last v h
    after v [] (place.In n) = h
    after v [] place.Ended = h
    after v (i ∷ is) place.Split = h
    after v (i ∷ is) (place.In n) = h
    after v (i ∷ is) place.Ended = h

    by : (q : List WatchItem) → AreKnown (taken_from b last w q).0.streams
    by [] = h
    by (i ∷ is) =
        let v : Watch = record w { queue = is } in
        elim (is_last i) as (λ c. AreKnown (cond c (record b { watches = without_watch w.ticket b.watches }) (after_take b last v is w.place)).streams) [ true ↦ h | false ↦ after v is w.place ]

pub removed_known : (b : Broadcasts) (ticket : ℕ) (o : Option Watch) → AreKnown b.streams → AreKnown (removed b ticket o).streams
removed_known b ticket None h = h
removed_known b ticket (Some w) h = by w.place
  where
    d : Broadcasts
    d = record b { watches = without_watch ticket b.watches }

    by : (p : WatchPlace) → AreKnown (left_place p d).streams
    by (place.In n) = known_emptied n d h
    by place.Split = h
    by place.Ended = h

pub sent_known : (b : Broadcasts) (s : Stream) → AreKnown b.streams → AreKnown (next_job b (Some s)).0.streams
sent_known b s h = by s.phase
  where
    by : (p : StreamPhase) → AreKnown (sent b s p).0.streams
    by (phase.Closing since) = known_without s.number b.streams h
    by (phase.Due since) = known_with s.number begun (λ t k. k) b.streams h
    by phase.Begun = h
