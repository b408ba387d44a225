-- Each call on the watches keeps that each of them waits for its stream, or for its queue to be taken.
use Rattle.std.proofs.Common.{◌≡◌, ℕ, ◌+◌, max, true, false, not, cond, ◌&&◌, ◌||◌, ◌==◌, nat_le, nat_lt, List, [], ◌∷◌, ◌++◌, map, length, Option, None, Some, refl, ap, sym, subst, ◌∙◌, arith}
use Rattle.std.proofs.lemmas.Bool.Decides.{nat_tests}
use Rattle.std.specs.Option.{option_map}
use Rattle.etcd_types.specs.declared.key_range.KeyRange.{KeyRange}
use Rattle.etcd_types.specs.declared.record.Header.{Header}
use Rattle.etcd_types.specs.declared.request.WatchAsk.{WatchAsk}
use Rattle.etcd_types.specs.declared.watch.Event.{Event}
use Rattle.etcd_types.specs.declared.watch.WatchItem.{WatchItem}
use Rattle.etcd_types.specs.declared.watch.WatchItem.TheVariants as item
use Rattle.proxy_model.specs.Upstream.{created, cut}
use Rattle.watch_model.specs.declared.stream.StreamPhase.{StreamPhase}
use Rattle.watch_model.specs.declared.stream.StreamPhase.TheVariants as phase
use Rattle.watch_model.specs.declared.place.WatchPlace.{WatchPlace}
use Rattle.watch_model.specs.declared.place.WatchPlace.TheVariants as place
use Rattle.watch_model.specs.State.{Stream, Watch, Broadcasts}
use Rattle.watch_model.specs.Lookups.{stream_at, place_stream, watch_at, changed_stream, with_stream, without_stream, without_watch, watch_changed, has_member, member_changed, is_in, is_begun, is_closing, numbered}
use Rattle.watch_model.specs.Joining.{decided, told, created_header, new_watch, new_stream, Seated, seated_at, seated, seated_in, stream_to_join, joined}
use Rattle.watch_model.specs.Queues.{is_nil, is_progress, would_pass, with_progress, chosen}
use Rattle.watch_model.specs.Merging.{kept_by, merged_number, merged_place, merged_stream, merged_watch, merged}
use Rattle.watch_model.specs.Delivery.{shown_events, queued, given_batch, progressed, advanced, created_stream, created_watch, delivered_stream, delivered_message, is_told, is_awaited, stands_created, last_revision}
use Rattle.watch_model.specs.Cuts.{renumbered, reopened, cut_stream, Left, ended, leaving, left_one, left_by, left_over, left_as, cancelled_stream}
use Rattle.watch_model.specs.Splitting.{emptied_as, emptied, left_place}
use Rattle.watch_model.specs.Leaving.{removed}
use Rattle.watch_model.specs.Takes.{is_last, with_watch, after_take, taken_from}
use Rattle.watch_model.specs.Due.{begun, sent, next_job}
use Rattle.watch_model.specs.Story.{EachWatch}
use Rattle.watch_model.proofs.Streams.{KeepsNumber, at-map, number_itself, at-without, others-without_stream, changed-keeps, or_stream, at-push, none_above, numbered-map, numbered-without, numbered-push, each_mapped, each_outside}
use Rattle.watch_model.proofs.Numbers.{merged-keeps, emptied-numbered}
use Rattle.watch_laws.specs.Closings.{is_left}
use Rattle.watch_laws.proofs.Closings.{merges_leave}
use Rattle.watch_laws.proofs.Steps.{emptied-other, kept_by_is}
use Rattle.watch_laws.proofs.Seating.{AllSome, MayJoin, join_is, seated_place, each_inserted, each_along, each_other, found}
use Rattle.core_model.specs.WaitsFor.{is_kept, WatchWaits}
use Rattle.core_laws.specs.Watches.Laws.{AreWaiting}

abbrev IsWaiting : List Stream → Watch → Type 0
IsWaiting ss w = WatchWaits ss w.place w.queue

-- The stream at a place, after each change of the list.

-- what is kept in ss is so in us
abbrev StaysKept : List Stream → List Stream → Type 0
StaysKept ss us = (k : ℕ) → is_kept (stream_at k ss) ≡ true → is_kept (stream_at k us) ≡ true

along : (ss us : List Stream) → StaysKept ss us → (p : WatchPlace) (q : List WatchItem) → WatchWaits ss p q → WatchWaits us p q
along ss us h (place.In k) q e = h k e
along ss us h place.Split q e = e
along ss us h place.Ended q e = tt

-- the stream at this place is the same in both
in_both : (ss us : List Stream) (p : WatchPlace) (q : List WatchItem) → place_stream us p ≡ place_stream ss p → WatchWaits ss p q → WatchWaits us p q
in_both ss us (place.In k) q e h = ap is_kept e ∙ h
in_both ss us place.Split q e h = h
in_both ss us place.Ended q e h = tt

abbrev ClosesNone : (Stream → Stream) → Type 0
ClosesNone f = (s : Stream) → not (is_closing s.phase) ≡ true → not (is_closing (f s).phase) ≡ true

mapped_kept : (f : Stream → Stream) → KeepsNumber f → ClosesNone f → (ss : List Stream) → StaysKept ss (map f ss)
mapped_kept f h c ss k e = ap is_kept (at-map f h k ss) ∙ go (stream_at k ss) e
  where
    go : (o : Option Stream) → is_kept o ≡ true → is_kept (option_map f o) ≡ true
    go None e = absurd (cc)
    go (Some s) e = c s e

with_kept : (n : ℕ) (f : Stream → Stream) → KeepsNumber f → ClosesNone f → (ss : List Stream) → StaysKept ss (with_stream n f ss)
with_kept n f h c ss = mapped_kept (changed_stream n f) (changed-keeps n f h) changes ss
  where
    changes : (s : Stream) → not (is_closing s.phase) ≡ true → not (is_closing (changed_stream n f s).phase) ≡ true
    changes s e = elim (s.number == n) as (λ b. not (is_closing (cond b (f s) s).phase) ≡ true) [ true ↦ c s e | false ↦ e ]

pushed_kept : (ss : List Stream) (t : Stream) → StaysKept ss (ss ++ t ∷ [])
pushed_kept ss t k e = ap is_kept (at-push k ss t) ∙ go (stream_at k ss) e
  where
    go : (o : Option Stream) → is_kept o ≡ true → is_kept (or_stream o (cond (t.number == k) (Some t) None)) ≡ true
    go (Some s) e = e
    go None e = absurd (cc)

-- the one that was pushed last, under a new number
last_kept : (high : ℕ) (ss : List Stream) (t : Stream) → numbered 0 high ss ≡ true → t.number ≡ high + 1 → not (is_closing t.phase) ≡ true → is_kept (stream_at (high + 1) (ss ++ t ∷ [])) ≡ true
last_kept high ss t h n c =
    ap is_kept (at-push (high + 1) ss t)
    ∙ ap (λ o. is_kept (or_stream o (cond (t.number == high + 1) (Some t) None))) (none_above 0 high (high + 1) ss h (omega arith))
    ∙ ap (λ (m : ℕ). is_kept (cond (m == high + 1) (Some t) None)) n
    ∙ ap (λ b. is_kept (cond b (Some t) None)) (number_itself (high + 1))
    ∙ c

-- a watch without the stream of this number, where that is to be closed
gone_kept : (n : ℕ) (ss : List Stream) → is_kept (stream_at n ss) ≡ false → StaysKept ss (without_stream n ss)
gone_kept n ss g k e =
    elim (k == n) as (λ b. (k == n) ≡ b → is_kept (stream_at k (without_stream n ss)) ≡ true) [
      | true ↦ λ q. absurd (let one : k ≡ n = same k n q in let t : is_kept (stream_at k ss) ≡ false = ap (λ (j : ℕ). is_kept (stream_at j ss)) one ∙ g in cc)
      | false ↦ λ q. ap is_kept (at-without n k ss q) ∙ e
    ] refl
  where
    same : (a b : ℕ) → (a == b) ≡ true → a ≡ b
    same a b e = grind (arith, nat_tests)

-- Queues that are longer.

not_nil : {A : Type 0} (xs ys : List A) → is_nil xs ≡ false → is_nil (xs ++ ys) ≡ false
not_nil [] ys e = absurd (cc)
not_nil (x ∷ xs) ys e = refl

longer : (ss : List Stream) (p : WatchPlace) (q more : List WatchItem) → WatchWaits ss p q → WatchWaits ss p (q ++ more)
longer ss (place.In k) q more h = h
longer ss place.Split q more h = not_nil q more h
longer ss place.Ended q more h = tt

progress_stands : (q : List WatchItem) (i : WatchItem) → is_nil (with_progress q i) ≡ false
progress_stands [] i = refl
progress_stands (j ∷ []) i = elim (is_progress j) as (λ b. is_nil (cond b (i ∷ []) (j ∷ i ∷ [])) ≡ false) [ true ↦ refl | false ↦ refl ]
progress_stands (j ∷ k ∷ q) i = refl

told_progress : (ss : List Stream) (p : WatchPlace) (q : List WatchItem) (i : WatchItem) → WatchWaits ss p q → WatchWaits ss p (with_progress q i)
told_progress ss (place.In k) q i h = h
told_progress ss place.Split q i h = progress_stands q i
told_progress ss place.Ended q i h = tt

-- The state after each change.

changed : (b : Broadcasts) (us : List Stream) (f : Watch → Watch) → numbered 0 b.given us ≡ true → ((w : Watch) → IsWaiting b.streams w → IsWaiting us (f w)) → AreWaiting b → AreWaiting (record b { streams = us; watches = map f b.watches })
changed b us f n k h = record { numbers = n; watches = each_mapped (IsWaiting b.streams) (IsWaiting us) f k b.watches h.watches }

restreamed : (b : Broadcasts) (us : List Stream) → numbered 0 b.given us ≡ true → StaysKept b.streams us → AreWaiting b → AreWaiting (record b { streams = us })
restreamed b us n k h = record { numbers = n; watches = each_along (IsWaiting b.streams) (IsWaiting us) (λ w e. along b.streams us k w.place w.queue e) b.watches h.watches }

-- A stream without members.

emptied_waits : (n : ℕ) (b : Broadcasts) → AreWaiting b → AreWaiting (emptied n b)
emptied_waits n b h =
    let us = emptied_as n b.step b.streams (stream_at n b.streams) in
    elim (has_member n b.watches) as (λ c. has_member n b.watches ≡ c → AreWaiting (cond c b (record b { streams = us }))) [
      | true ↦ λ e. h
      | false ↦ λ e. record {
        numbers = emptied-numbered n b.step 0 b.given b.streams (stream_at n b.streams) h.numbers;
        watches =
            each_outside (IsWaiting b.streams) (IsWaiting us) n
            (λ w d k. in_both b.streams us w.place w.queue (emptied-other n b.step b.streams (stream_at n b.streams) w.place d) k) b.watches e h.watches;
      }
    ] refl

place_waits : (p : WatchPlace) (b : Broadcasts) → AreWaiting b → AreWaiting (left_place p b)
place_waits (place.In n) b h = emptied_waits n b h
place_waits place.Split b h = h
place_waits place.Ended b h = h

-- A merge.

kept_not_left : (o : Option Stream) → is_kept o ≡ true → is_left o ≡ false
kept_not_left None e = refl
kept_not_left (Some s) e = elim (is_closing s.phase) as (λ b. not b ≡ true → b ≡ false) [ true ↦ λ q. absurd (cc) | false ↦ λ q. refl ] e

-- a watch at this place alone
alone_at : WatchPlace → Watch
alone_at p = record { ticket = 0; ask = record { range = record { key = []; end = [] }; start = 0; no_put = false; no_delete = false; prev_kv = false; progress = false }; start = 0; next = 0; told = false; queue = []; place = p }

merged_kept : (range : KeyRange) (b : Broadcasts) → numbered 0 b.given b.streams ≡ true → (k : ℕ) → is_kept (stream_at k b.streams) ≡ true
    → is_kept (stream_at (merged_number range b.streams k (stream_at k b.streams)) (map (merged_stream range b.streams b.step) b.streams)) ≡ true
unfolding alone_at
merged_kept range b n k e = by (stream_at k b.streams) refl e not_left
  where
    us : List Stream
    us = map (merged_stream range b.streams b.step) b.streams

    not_left : is_left (stream_at (merged_number range b.streams k (stream_at k b.streams)) us) ≡ false
    not_left = (merges_leave range (record b { watches = alone_at (place.In k) ∷ [] }) (record { numbers = n; watches = (kept_not_left (stream_at k b.streams) e, tt) })).watches.0

    stands : (j : ℕ) (t : Stream) → stream_at j b.streams ≡ Some t → is_left (stream_at j us) ≡ false → is_kept (stream_at j us) ≡ true
    stands j t f l =
        let there : stream_at j us ≡ Some (merged_stream range b.streams b.step t) =
        at-map (merged_stream range b.streams b.step) (merged-keeps range b.streams b.step) j b.streams ∙ ap (option_map (merged_stream range b.streams b.step)) f in
        ap is_kept there ∙ ap not (ap is_left (sym there) ∙ l)

    by : (o : Option Stream) → stream_at k b.streams ≡ o → is_kept o ≡ true → is_left (stream_at (merged_number range b.streams k o) us) ≡ false → is_kept (stream_at (merged_number range b.streams k o) us) ≡ true
    by None q e l = absurd (cc)
    by (Some s) q e l = let x = kept_by_is range b.streams s k b.given n q in stands (kept_by range b.streams s) x.stream x.at l

merged_waits : (range : KeyRange) (b : Broadcasts) (p : WatchPlace) (q : List WatchItem) → numbered 0 b.given b.streams ≡ true → WatchWaits b.streams p q
    → WatchWaits (map (merged_stream range b.streams b.step) b.streams) (merged_place range b.streams p) q
merged_waits range b (place.In k) q n h = merged_kept range b n k h
merged_waits range b place.Split q n h = h
merged_waits range b place.Ended q n h = tt

pub merges_keep : (range : KeyRange) (b : Broadcasts) → AreWaiting b → AreWaiting (merged range b)
merges_keep range b h =
    changed b (map (merged_stream range b.streams b.step) b.streams) (merged_watch range b.streams) (numbered-map (merged_stream range b.streams b.step) (merged-keeps range b.streams b.step) 0 b.given b.streams h.numbers)
    (λ w e. merged_waits range b w.place w.queue h.numbers e) h

-- A cut.

reopened_waits : (b : Broadcasts) (s : Stream) → AreWaiting b → AreWaiting (reopened b s)
reopened_waits b s h =
    let n = s.number in
    let m = b.given + 1 in
    let rest = without_stream n b.streams in
    let again : Stream = record { number = m; phase = phase.Due b.step; stream = cut s.stream } in
    let us = rest ++ again ∷ [] in
    let numbers = numbered-without n 0 b.given b.streams h.numbers in
    record {
      numbers = numbered-push 0 b.given rest again (omega arith) refl numbers;
      watches =
          each_mapped (IsWaiting b.streams) (IsWaiting us) (renumbered n m)
          (λ w e. elim (is_in n w.place) as (λ c. is_in n w.place ≡ c → IsWaiting us (cond c (record w { place = place.In m }) w)) [
            | true ↦ λ d. last_kept b.given rest again numbers refl refl
            | false ↦ λ d. along rest us (pushed_kept rest again) w.place w.queue (in_both b.streams rest w.place w.queue (others-without_stream n b.streams w.place d) e)
          ] refl) b.watches h.watches;
    }

closing_gone : (s : Stream) (ss : List Stream) → stream_at s.number ss ≡ Some s → is_closing s.phase ≡ true → is_kept (stream_at s.number ss) ≡ false
closing_gone s ss e c = ap is_kept e ∙ ap not c

pub cuts_keep : (b : Broadcasts) (s : Stream) → stream_at s.number b.streams ≡ Some s → AreWaiting b → AreWaiting (cut_stream b s)
cuts_keep b s e h =
    elim (is_closing s.phase) as (λ c. is_closing s.phase ≡ c → AreWaiting (cond c (record b { streams = without_stream s.number b.streams }) (reopened b s))) [
      | true ↦ λ q. restreamed b (without_stream s.number b.streams) (numbered-without s.number 0 b.given b.streams h.numbers) (gone_kept s.number b.streams (closing_gone s b.streams e q)) h
      | false ↦ λ q. reopened_waits b s h
    ] refl

-- Messages.

full : (q : List WatchItem) (n : ℕ) → would_pass q n ≡ true → is_nil q ≡ false
full [] n e = absurd (cc)
full (i ∷ q) n e = refl

queued_waits : (us : List Stream) (header : Header) (own : ℕ) (xs : List Event) (w : Watch) → IsWaiting us w → IsWaiting us (queued header own xs w)
queued_waits us header own [] w e = e
queued_waits us header own (x ∷ xs) w e =
    elim (would_pass w.queue (length (x ∷ xs))) as (λ b. would_pass w.queue (length (x ∷ xs)) ≡ b → IsWaiting us (cond b (record w { next = own; place = place.Split }) (record w { queue = w.queue ++ item.Events header (x ∷ xs) ∷ [] }))) [
      | true ↦ λ q. full w.queue (length (x ∷ xs)) q
      | false ↦ λ q. longer us w.place w.queue (item.Events header (x ∷ xs) ∷ []) e
    ] refl

-- a change of a stream and its members, that closes none
members_wait : (b : Broadcasts) (n : ℕ) (f : Stream → Stream) (g : Watch → Watch) → KeepsNumber f → ClosesNone f → ((us : List Stream) (w : Watch) → IsWaiting us w → IsWaiting us (g w)) → AreWaiting b
    → AreWaiting (record b { streams = with_stream n f b.streams; watches = map (member_changed n g) b.watches })
members_wait b n f g k c j h =
    let us = with_stream n f b.streams in
    changed b us (member_changed n g) (numbered-map _ (changed-keeps n f k) 0 b.given b.streams h.numbers)
    (λ w e. let o = along b.streams us (with_kept n f k c b.streams) w.place w.queue e in elim (is_in n w.place) as (λ d. IsWaiting us (cond d (g w) w)) [ true ↦ j us w o | false ↦ o ]) h

progressed_waits : (next : ℕ) (header : Header) (us : List Stream) (w : Watch) → IsWaiting us w → IsWaiting us (progressed next header w)
progressed_waits next header us w e =
    elim (w.ask.progress && nat_le (max w.next next) (header.revision + 1)) as (λ b. IsWaiting us (cond b (record w { queue = with_progress w.queue (item.Events header []) }) w)) [
      | true ↦ told_progress us w.place w.queue (item.Events header []) e
      | false ↦ e
    ]

message_waits : (b : Broadcasts) (s : Stream) (header : Header) (es : List Event) → AreWaiting b → AreWaiting (delivered_message b s header es)
message_waits b s header [] h =
    elim (nat_le s.stream.next (header.revision + 1)) as (λ c. AreWaiting (cond c (record b { streams = with_stream s.number (advanced header.revision) b.streams; watches = map (member_changed s.number (progressed s.stream.next header)) b.watches }) b)) [
      | true ↦ members_wait b s.number (advanced header.revision) (progressed s.stream.next header) (λ t. refl) (λ t c. c) (progressed_waits s.stream.next header) h
      | false ↦ h
    ]
message_waits b s header (x ∷ es) h =
    emptied_waits s.number _
    (members_wait b s.number (advanced (last_revision 0 (x ∷ es))) (given_batch s.stream.next header (x ∷ es)) (λ t. refl) (λ t c. c)
    (λ us w e. queued_waits us header (max w.next s.stream.next) (shown_events w.ask (chosen w.ask (max w.next s.stream.next) (x ∷ es))) w e) h)

pub deliveries_keep : (b : Broadcasts) (s : Stream) (header : Header) (es : List Event) → stream_at s.number b.streams ≡ Some s → AreWaiting b → AreWaiting (delivered_stream b s header es)
deliveries_keep b s header es e h =
    elim (is_begun s.phase) as (λ c. AreWaiting (cond c (cond (is_told s es) (merged s.stream.range (delivered_message b s header es)) (cut_stream b s)) b)) [
      | true ↦ elim (is_told s es) as (λ d. AreWaiting (cond d (merged s.stream.range (delivered_message b s header es)) (cut_stream b s))) [
        | true ↦ merges_keep s.stream.range (delivered_message b s header es) (message_waits b s header es h)
        | false ↦ cuts_keep b s e h
      ]
      | false ↦ h
    ]

created_waits : (next : ℕ) (last : Header) (us : List Stream) (w : Watch) → IsWaiting us w → IsWaiting us (created_watch next last w)
created_waits next last us w e = told_waits (decided next w) decided_waits
  where
    told_waits : (v : Watch) → IsWaiting us v → IsWaiting us (told last v)
    told_waits v h = elim v.told as (λ b. IsWaiting us (cond b v (record v { told = true; queue = v.queue ++ item.Created (created_header last v) ∷ [] }))) [
      | true ↦ h
      | false ↦ longer us v.place v.queue (item.Created (created_header last v) ∷ []) h
    ]

    decided_waits : IsWaiting us (decided next w)
    decided_waits = elim (w.next == 0) as (λ b. IsWaiting us (cond b (record w { start = next; next = next }) w)) [ true ↦ e | false ↦ e ]

pub creations_keep : (b : Broadcasts) (s : Stream) (header last : Header) → AreWaiting b → AreWaiting (stands_created b s header last)
creations_keep b s header last h =
    let f = created_stream header.revision in
    let g = created_watch (created s.stream header.revision).next last in
    elim (is_awaited s) as (λ c. AreWaiting (cond c (merged s.stream.range (record b { streams = with_stream s.number f b.streams; watches = map (member_changed s.number g) b.watches })) b)) [
      | true ↦ merges_keep s.stream.range _ (members_wait b s.number f g (λ t. refl) (λ t c. c) (created_waits (created s.stream header.revision).next last) h)
      | false ↦ h
    ]

-- A watch joins.

record SeatedWaits (ss : List Stream) (x : Seated) : Type 0 where
  pub numbers : numbered 0 x.given x.streams ≡ true
  pub watch : IsWaiting x.streams x.watch
  pub others : StaysKept ss x.streams

at_place : (ss : List Stream) (p : WatchPlace) (q : List WatchItem) (n : ℕ) → p ≡ place.In n → is_kept (stream_at n ss) ≡ true → WatchWaits ss p q
at_place ss p q n e k = subst (λ (x : WatchPlace). WatchWaits ss x q) (sym e) k

seat_waits : (ss : List Stream) (given step : ℕ) (last : Header) (w : Watch) → numbered 0 given ss ≡ true → SeatedWaits ss (seated ss given step last w)
seat_waits ss given step last w n = go (stream_to_join ss w.ask.range w.next last.revision) (join_is given ss w.ask.range w.next last.revision n)
  where
    go : (o : Option Stream) → AllSome (MayJoin ss w.ask.range w.next) o → SeatedWaits ss (seated_at ss given step last w o)
    go (Some s) j = record {
      numbers = n;
      watch = at_place ss (seated_in last s w).place (seated_in last s w).queue s.number (seated_place last s w) (ap is_kept j.found ∙ ap not j.open_is);
      others = λ k e. e;
    }
    go None j =
        let new = new_stream (given + 1) step w.ask.range w.next in
        record {
          numbers = numbered-push 0 given ss new (omega arith) refl n;
          watch = last_kept given ss new n refl refl;
          others = pushed_kept ss new;
        }

pub joins_keep : (b : Broadcasts) (ticket : ℕ) (ask : WatchAsk) (last : Header) → AreWaiting b → AreWaiting (joined b ticket ask last)
joins_keep b ticket ask last h =
    let x = seated b.streams b.given b.step last (new_watch ticket ask) in
    let o = seat_waits b.streams b.given b.step last (new_watch ticket ask) h.numbers in
    record {
      numbers = o.numbers;
      watches = each_inserted (IsWaiting x.streams) x.watch b.watches o.watch (each_along (IsWaiting b.streams) (IsWaiting x.streams) (λ w e. along b.streams x.streams o.others w.place w.queue e) b.watches h.watches);
    }

-- A cancellation.

record LeftWait (ss : List Stream) (l : Left) : Type 0 where
  pub numbers : numbered 0 l.given l.streams ≡ true
  pub watches : EachWatch (IsWaiting l.streams) l.watches
  pub others : StaysKept ss l.streams

-- a watch that isn't a member of the stream that is gone
abbrev WaitsBeside : ℕ → List Stream → Watch → Type 0
WaitsBeside n ss w = is_in n w.place ≡ false → IsWaiting ss w

left_one_waits : (header : Header) (compact step : ℕ) (last : Header) (ss : List Stream) (given : ℕ) (w : Watch) → numbered 0 given ss ≡ true → SeatedWaits ss (left_one header compact step last ss given w)
left_one_waits header compact step last ss given w n =
    elim (nat_lt w.next compact) as (λ c. SeatedWaits ss (cond c (record { streams = ss; given = given; watch = ended header compact w }) (seated ss given step last w))) [
      | true ↦ record { numbers = n; watch = tt; others = λ k e. e }
      | false ↦ seat_waits ss given step last w n
    ]

left_by_waits : (n next : ℕ) (header : Header) (compact step : ℕ) (last : Header) (ss : List Stream) (given : ℕ) (w : Watch)
    → numbered 0 given ss ≡ true → WaitsBeside n ss w → SeatedWaits ss (left_by n next header compact step last ss given w)
left_by_waits n next header compact step last ss given w k e =
    elim (is_in n w.place) as (λ b. is_in n w.place ≡ b → SeatedWaits ss (cond b (left_one header compact step last ss given (leaving next w)) (record { streams = ss; given = given; watch = w }))) [
      | true ↦ λ q. left_one_waits header compact step last ss given (leaving next w) k
      | false ↦ λ q. record { numbers = k; watch = e q; others = λ k e. e }
    ] refl

left_over_waits : (n next : ℕ) (header : Header) (compact step : ℕ) (last : Header) (ss : List Stream) (given : ℕ) (ws : List Watch)
    → numbered 0 given ss ≡ true → EachWatch (WaitsBeside n ss) ws → LeftWait ss (left_over n next header compact step last ss given ws)
left_over_waits n next header compact step last ss given [] k h = record { numbers = k; watches = tt; others = λ k e. e }
left_over_waits n next header compact step last ss given (w ∷ ws) k h =
    let x = left_by n next header compact step last ss given w in
    let o = left_by_waits n next header compact step last ss given w k h.0 in
    let far = left_over_waits n next header compact step last x.streams x.given ws o.numbers
    (each_along (WaitsBeside n ss) (WaitsBeside n x.streams) (λ u e d. along ss x.streams o.others u.place u.queue (e d)) ws h.1) in
    record {
      numbers = far.numbers;
      watches = (along x.streams _ far.others x.watch.place x.watch.queue o.watch, far.watches);
      others = λ j e. far.others j (o.others j e);
    }

pub cancellations_keep : (b : Broadcasts) (s : Stream) (header : Header) (compact : ℕ) (last : Header) → stream_at s.number b.streams ≡ Some s → AreWaiting b → AreWaiting (cancelled_stream b s header compact last)
cancellations_keep b s header compact last e h =
    let rest = without_stream s.number b.streams in
    let leaves : Broadcasts = left_as b (left_over s.number s.stream.next header compact b.step last rest b.given b.watches) in
    let o = left_over_waits s.number s.stream.next header compact b.step last rest b.given b.watches (numbered-without s.number 0 b.given b.streams h.numbers)
    (each_along (IsWaiting b.streams) (WaitsBeside s.number rest) (λ w k d. in_both b.streams rest w.place w.queue (others-without_stream s.number b.streams w.place d) k) b.watches h.watches) in
    elim (not (is_begun s.phase)) as (λ c. AreWaiting (cond c b (cond (compact == 0 || s.stream.next == 0) (cut_stream b s) leaves))) [
      | true ↦ h
      | false ↦ elim (compact == 0 || s.stream.next == 0) as (λ d. AreWaiting (cond d (cut_stream b s) leaves)) [
        | true ↦ cuts_keep b s e h
        | false ↦ record { numbers = o.numbers; watches = o.watches }
      ]
    ]

-- A take.

-- the watch of a ticket is replaced
replaced : (b : Broadcasts) (us : List Stream) (given : ℕ) (v : Watch) → numbered 0 given us ≡ true → StaysKept b.streams us → IsWaiting us v → AreWaiting b → AreWaiting (with_watch (record b { streams = us; given = given }) v)
replaced b us given v n k o h = record {
  numbers = n;
  watches =
      each_mapped (IsWaiting b.streams) (IsWaiting us) (watch_changed v.ticket (λ w. v))
      (λ w e. elim (w.ticket == v.ticket) as (λ c. IsWaiting us (cond c v w)) [ true ↦ o | false ↦ along b.streams us k w.place w.queue e ]) b.watches h.watches;
}

-- what is left of the queue, where the watch was split off and it is empty
after_keeps : (b : Broadcasts) (last : Header) (w : Watch) (i : WatchItem) (is : List WatchItem) (p : WatchPlace) → w.place ≡ p → WatchWaits b.streams p (i ∷ is) → AreWaiting b
    → AreWaiting (after_take b last (record w { queue = is }) is p)
after_keeps b last w i [] place.Split e k h =
    let v : Watch = record w { queue = [] } in
    let x = seated b.streams b.given b.step last v in
    let o = seat_waits b.streams b.given b.step last v h.numbers in
    replaced b x.streams x.given x.watch o.numbers o.others o.watch h
after_keeps b last w i (j ∷ is) place.Split e k h = replaced b b.streams b.given _ h.numbers (λ k e. e) (subst (λ (p : WatchPlace). WatchWaits b.streams p (j ∷ is)) (sym e) refl) h
after_keeps b last w i [] (place.In n) e k h = replaced b b.streams b.given _ h.numbers (λ k e. e) (at_place b.streams w.place [] n e k) h
after_keeps b last w i (j ∷ is) (place.In n) e k h = replaced b b.streams b.given _ h.numbers (λ k e. e) (at_place b.streams w.place (j ∷ is) n e k) h
after_keeps b last w i [] place.Ended e k h = replaced b b.streams b.given _ h.numbers (λ k e. e) (subst (λ (p : WatchPlace). WatchWaits b.streams p []) (sym e) tt) h
after_keeps b last w i (j ∷ is) place.Ended e k h = replaced b b.streams b.given _ h.numbers (λ k e. e) (subst (λ (p : WatchPlace). WatchWaits b.streams p (j ∷ is)) (sym e) tt) h

watch_gone : (b : Broadcasts) (t : ℕ) → AreWaiting b → AreWaiting (record b { watches = without_watch t b.watches })
watch_gone b t h = record { numbers = h.numbers; watches = each_other (IsWaiting b.streams) t b.watches h.watches }

pub takes_keep : (b : Broadcasts) (last : Header) (ticket : ℕ) (w : Watch) → watch_at ticket b.watches ≡ Some w → AreWaiting b → AreWaiting (taken_from b last w w.queue).0
takes_keep b last ticket w e h = go w.queue (found (IsWaiting b.streams) ticket b.watches w e h.watches)
  where
    go : (q : List WatchItem) → WatchWaits b.streams w.place q → AreWaiting (taken_from b last w q).0
    go [] k = h
    go (i ∷ is) k =
        elim (is_last i) as (λ c. AreWaiting (cond c (record b { watches = without_watch w.ticket b.watches }) (after_take b last (record w { queue = is }) is w.place))) [
          | true ↦ watch_gone b w.ticket h
          | false ↦ after_keeps b last w i is w.place refl k h
        ]

-- A watch is left by its client.

pub leaving_keeps : (b : Broadcasts) (ticket : ℕ) → AreWaiting b → AreWaiting (removed b ticket (watch_at ticket b.watches))
leaving_keeps b ticket h = go (watch_at ticket b.watches)
  where
    go : (o : Option Watch) → AreWaiting (removed b ticket o)
    go None = h
    go (Some w) = place_waits w.place (record b { watches = without_watch ticket b.watches }) (watch_gone b ticket h)

-- What is due is sent, of any stream that stands there.

pub jobs_keep : (b : Broadcasts) (s : Stream) → stream_at s.number b.streams ≡ Some s → AreWaiting b → AreWaiting (next_job b (Some s)).0
jobs_keep b s e h = go s.phase refl
  where
    go : (p : StreamPhase) → s.phase ≡ p → AreWaiting (sent b s p).0
    go (phase.Closing since) q = restreamed b (without_stream s.number b.streams) (numbered-without s.number 0 b.given b.streams h.numbers) (gone_kept s.number b.streams (closing_gone s b.streams e (ap is_closing q))) h
    go (phase.Due since) q = restreamed b (with_stream s.number begun b.streams) (numbered-map _ (changed-keeps s.number begun (λ t. refl)) 0 b.given b.streams h.numbers) (with_kept s.number begun (λ t. refl) (λ t c. refl) b.streams) h
    go phase.Begun q = h

-- A number that is given to the leasing stream.

pub given_on : (low high : ℕ) (ss : List Stream) → numbered low high ss ≡ true → numbered low (high + 1) ss ≡ true
given_on low high [] h = refl
given_on low high (s ∷ ss) h =
    let rest : numbered s.number high ss ≡ true = grind (arith, nat_tests) in
    let r = given_on s.number high ss rest in
    grind (arith, nat_tests)
