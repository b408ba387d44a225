-- Each call keeps that a stream that is due to be closed has no members.
use Rattle.std.proofs.Common.{◌≡◌, ℕ, ◌+◌, max, true, false, not, cond, ◌&&◌, ◌||◌, ◌==◌, nat_le, nat_lt, List, [], ◌∷◌, ◌++◌, map, length, Option, None, Some, refl, ap, sym, subst, ◌∙◌, inl, inr, arith}
use Rattle.std.proofs.lemmas.Bool.Decides.{nat_tests}
use Rattle.std.specs.Option.{option_map}
use Rattle.etcd_types.specs.declared.key_range.KeyRange.{KeyRange}
use Rattle.etcd_types.specs.declared.record.Header.{Header}
use Rattle.etcd_types.specs.declared.request.WatchAsk.{WatchAsk}
use Rattle.etcd_types.specs.declared.watch.Event.{Event}
use Rattle.etcd_types.specs.declared.watch.WatchItem.{WatchItem}
use Rattle.etcd_types.specs.declared.watch.WatchItem.TheVariants as item
use Rattle.proxy_model.specs.Upstream.{created, cut}
use Rattle.watch_model.specs.declared.stream.StreamPhase.{StreamPhase}
use Rattle.watch_model.specs.declared.stream.StreamPhase.TheVariants as phase
use Rattle.watch_model.specs.declared.place.WatchPlace.{WatchPlace}
use Rattle.watch_model.specs.declared.place.WatchPlace.TheVariants as place
use Rattle.watch_model.specs.State.{Stream, Watch, Broadcasts}
use Rattle.watch_model.specs.Lookups.{same_range, stream_at, place_stream, watch_at, changed_stream, with_stream, without_stream, without_watch, watch_changed, has_member, member_changed, is_in, is_begun, is_closing, is_standing, numbered}
use Rattle.watch_model.specs.Joining.{decided, told, created_header, new_watch, new_stream, Seated, seated_at, seated, stream_to_join, joined}
use Rattle.watch_model.specs.Queues.{would_pass, with_progress, chosen}
use Rattle.watch_model.specs.Merging.{is_of, keeper, kept_by, merged_number, merged_place, merged_stream, merged_watch, merged}
use Rattle.watch_model.specs.Delivery.{shown_events, queued, given_batch, progressed, advanced, created_stream, created_watch, delivered_stream, delivered_message, is_told, is_awaited, stands_created, last_revision}
use Rattle.watch_model.specs.Cuts.{renumbered, reopened, cut_stream, Left, ended, leaving, left_one, left_by, left_over, left_as, cancelled_stream}
use Rattle.watch_model.specs.Splitting.{emptied_as, emptied, left_place, split, split_slow}
use Rattle.watch_model.specs.Leaving.{removed}
use Rattle.watch_model.specs.Takes.{is_last, with_watch, after_take, taken_from}
use Rattle.watch_model.specs.Due.{begun, first_due, sent, next_job}
use Rattle.watch_model.specs.Story.{EachWatch}
use Rattle.watch_laws.specs.Closings.{is_left, ClosingsAreLeft}
use Rattle.watch_model.proofs.Streams.{KeepsNumber, at-map, at_number, number_itself, at-without, changed-keeps, or_stream, at-push, none_above, numbered-map, numbered-without, numbered-push, each_mapped, each_outside}
use Rattle.watch_model.proofs.Numbers.{merged-keeps, emptied-numbered}
use Rattle.watch_laws.proofs.Steps.{emptied-other, two_tests, in_place, keeper_is}
use Rattle.watch_laws.proofs.Bounds.{keeper_same}
use Rattle.watch_laws.proofs.Seating.{AllSome, MayJoin, join_is, seated_place, each_inserted, each_along, each_other, found}
use Rattle.watch_laws.proofs.Standing.{none_without, not_closing}

-- The stream at a place, after each change of the list.

abbrev pub IsOpen : List Stream → WatchPlace → Type 0
IsOpen ss p = is_left (place_stream ss p) ≡ false

-- what is open in ss is so in us
abbrev pub StaysOpen : List Stream → List Stream → Type 0
StaysOpen ss us = (p : WatchPlace) → IsOpen ss p → IsOpen us p

abbrev ClosesNone : (Stream → Stream) → Type 0
ClosesNone f = (s : Stream) → is_closing s.phase ≡ false → is_closing (f s).phase ≡ false

mapped_open : (f : Stream → Stream) → KeepsNumber f → ClosesNone f → (ss : List Stream) → StaysOpen ss (map f ss)
mapped_open f h c ss (place.In k) e = ap is_left (at-map f h k ss) ∙ go (stream_at k ss) e
  where
    go : (o : Option Stream) → is_left o ≡ false → is_left (option_map f o) ≡ false
    go None e = refl
    go (Some s) e = c s e
mapped_open f h c ss place.Split e = refl
mapped_open f h c ss place.Ended e = refl

with_open : (n : ℕ) (f : Stream → Stream) → KeepsNumber f → ClosesNone f → (ss : List Stream) → StaysOpen ss (with_stream n f ss)
with_open n f h c ss = mapped_open (changed_stream n f) (changed-keeps n f h) changes ss
  where
    changes : (s : Stream) → is_closing s.phase ≡ false → is_closing (changed_stream n f s).phase ≡ false
    changes s e = elim (s.number == n) as (λ b. is_closing (cond b (f s) s).phase ≡ false) [ true ↦ c s e | false ↦ e ]

without_open : (n : ℕ) (ss : List Stream) → StaysOpen ss (without_stream n ss)
without_open n ss (place.In k) e =
    elim (k == n) as (λ b. (k == n) ≡ b → is_left (stream_at k (without_stream n ss)) ≡ false) [
      | true ↦ λ q. ap is_left (none_without n k ss q)
      | false ↦ λ q. ap is_left (at-without n k ss q) ∙ e
    ] refl
without_open n ss place.Split e = refl
without_open n ss place.Ended e = refl

pushed_open : (ss : List Stream) (t : Stream) → is_closing t.phase ≡ false → StaysOpen ss (ss ++ t ∷ [])
pushed_open ss t c (place.In k) e = ap is_left (at-push k ss t) ∙ go (stream_at k ss) e
  where
    go : (o : Option Stream) → is_left o ≡ false → is_left (or_stream o (cond (t.number == k) (Some t) None)) ≡ false
    go (Some s) e = e
    go None e = elim (t.number == k) as (λ b. is_left (cond b (Some t) None) ≡ false) [ true ↦ c | false ↦ refl ]
pushed_open ss t c place.Split e = refl
pushed_open ss t c place.Ended e = refl

-- the one that was pushed last, under a new number
last_open : (high : ℕ) (ss : List Stream) (t : Stream) → numbered 0 high ss ≡ true → t.number ≡ high + 1 → is_closing t.phase ≡ false → IsOpen (ss ++ t ∷ []) (place.In (high + 1))
last_open high ss t h n c =
    ap is_left (at-push (high + 1) ss t)
    ∙ ap (λ o. is_left (or_stream o (cond (t.number == high + 1) (Some t) None))) (none_above 0 high (high + 1) ss h (omega arith))
    ∙ elim (t.number == high + 1) as (λ b. is_left (cond b (Some t) None) ≡ false) [ true ↦ c | false ↦ refl ]

-- The state after each change.

changed_left : (b : Broadcasts) (us : List Stream) (f : Watch → Watch) → numbered 0 b.given us ≡ true → ((w : Watch) → IsOpen b.streams w.place → IsOpen us (f w).place) → ClosingsAreLeft b
    → ClosingsAreLeft (record b { streams = us; watches = map f b.watches })
changed_left b us f n k h = record {
  numbers = n;
  watches = each_mapped (λ w. IsOpen b.streams w.place) (λ w. IsOpen us w.place) f k b.watches h.watches;
}

streams_left : (b : Broadcasts) (us : List Stream) → numbered 0 b.given us ≡ true → StaysOpen b.streams us → ClosingsAreLeft b → ClosingsAreLeft (record b { streams = us })
streams_left b us n k h = record {
  numbers = n;
  watches = each_along (λ w. IsOpen b.streams w.place) (λ w. IsOpen us w.place) (λ w e. k w.place e) b.watches h.watches;
}

gone_left : (b : Broadcasts) (n : ℕ) → ClosingsAreLeft b → ClosingsAreLeft (record b { streams = without_stream n b.streams })
gone_left b n h = streams_left b (without_stream n b.streams) (numbered-without n 0 b.given b.streams h.numbers) (without_open n b.streams) h

-- A stream without members.

emptied_left : (n : ℕ) (b : Broadcasts) → ClosingsAreLeft b → ClosingsAreLeft (emptied n b)
emptied_left n b h =
    let ss = emptied_as n b.step b.streams (stream_at n b.streams) in
    elim (has_member n b.watches) as (λ c. has_member n b.watches ≡ c → ClosingsAreLeft (cond c b (record b { streams = ss }))) [
      | true ↦ λ e. h
      | false ↦ λ e. record {
        numbers = emptied-numbered n b.step 0 b.given b.streams (stream_at n b.streams) h.numbers;
        watches =
            each_outside (λ w. IsOpen b.streams w.place) (λ w. IsOpen ss w.place) n
            (λ w d k. ap is_left (emptied-other n b.step b.streams (stream_at n b.streams) w.place d) ∙ k) b.watches e h.watches;
      }
    ] refl

place_left : (p : WatchPlace) (b : Broadcasts) → ClosingsAreLeft b → ClosingsAreLeft (left_place p b)
place_left (place.In n) b h = emptied_left n b h
place_left place.Split b h = h
place_left place.Ended b h = h

-- A merge.

equal_numbers : (a b : ℕ) → (a == b) ≡ true → a ≡ b
equal_numbers a b e = grind (arith, nat_tests)

-- a stream that keeps itself stays as it is
kept_open : (range : KeyRange) (ss : List Stream) (step k : ℕ) (t : Stream) → stream_at k ss ≡ Some t → kept_by range ss t ≡ t.number → is_closing t.phase ≡ false → is_left (stream_at k (map (merged_stream range ss step) ss)) ≡ false
kept_open range ss step k t e n c =
    ap is_left (at-map (merged_stream range ss step) (merged-keeps range ss step) k ss ∙ ap (option_map (merged_stream range ss step)) e)
    ∙ ap (λ m. is_closing (cond (m == t.number) t (record t { phase = phase.Closing step })).phase) n
    ∙ ap (λ b. is_closing (cond b t (record t { phase = phase.Closing step })).phase) (number_itself t.number)
    ∙ c

standing_open : (s : Stream) → is_standing s ≡ true → is_closing s.phase ≡ false
standing_open s e = not_closing s.phase (two_tests (is_begun s.phase) s.stream.created e).0

merged_at : (range : KeyRange) (ss : List Stream) (step high k : ℕ) (s : Stream) → numbered 0 high ss ≡ true → stream_at k ss ≡ Some s → is_closing s.phase ≡ false
    → is_left (stream_at (kept_by range ss s) (map (merged_stream range ss step) ss)) ≡ false
merged_at range ss step high k s h e c =
    let itself : stream_at s.number ss ≡ Some s = ap (λ (j : ℕ). stream_at j ss) (at_number k ss s e) ∙ e in
    let us = map (merged_stream range ss step) ss in
    elim (is_of range s) as (λ b. is_of range s ≡ b → is_left (stream_at (cond b (keeper range s.stream.next s.number ss) s.number) us) ≡ false) [
      | false ↦ λ q. kept_open range ss step s.number s itself (ap (λ b. cond b (keeper range s.stream.next s.number ss) s.number) q) c
      | true ↦ λ q. elim (keeper_is range s.stream.next s.number 0 high ss h) [
        | inl f ↦ subst (λ (j : ℕ). is_left (stream_at j us) ≡ false) (sym f) (kept_open range ss step s.number s itself (ap (λ b. cond b (keeper range s.stream.next s.number ss) s.number) q ∙ f) c)
        | inr x ↦
            let t = x.stream in
            let j = keeper range s.stream.next s.number ss in
            let number : t.number ≡ j = at_number j ss t x.at in
            let same : keeper range t.stream.next t.number ss ≡ j = ap (λ (m : ℕ). keeper range m t.number ss) x.next_is ∙ keeper_same range t.number s.number s.number ss s itself q in
            kept_open range ss step j t x.at (ap (λ b. cond b (keeper range t.stream.next t.number ss) t.number) x.of_is ∙ same ∙ sym number)
            (standing_open t (two_tests (same_range t.stream.range range) (is_standing t) x.of_is).1)
      ]
    ] refl

merged_open : (range : KeyRange) (ss : List Stream) (step high : ℕ) → numbered 0 high ss ≡ true → (p : WatchPlace) → IsOpen ss p → IsOpen (map (merged_stream range ss step) ss) (merged_place range ss p)
merged_open range ss step high h (place.In k) e = go (stream_at k ss) refl e
  where
    go : (o : Option Stream) → stream_at k ss ≡ o → is_left o ≡ false → is_left (stream_at (merged_number range ss k o) (map (merged_stream range ss step) ss)) ≡ false
    go None q c = ap is_left (at-map (merged_stream range ss step) (merged-keeps range ss step) k ss ∙ ap (option_map (merged_stream range ss step)) q)
    go (Some s) q c = merged_at range ss step high k s h q c
merged_open range ss step high h place.Split e = refl
merged_open range ss step high h place.Ended e = refl

pub merges_leave : (range : KeyRange) (b : Broadcasts) → ClosingsAreLeft b → ClosingsAreLeft (merged range b)
merges_leave range b h =
    changed_left b (map (merged_stream range b.streams b.step) b.streams) (merged_watch range b.streams) (numbered-map (merged_stream range b.streams b.step) (merged-keeps range b.streams b.step) 0 b.given b.streams h.numbers)
    (λ w e. merged_open range b.streams b.step b.given h.numbers w.place e) h

-- A cut.

cut_left : (b : Broadcasts) (s : Stream) → ClosingsAreLeft b → ClosingsAreLeft (reopened b s)
cut_left b s h =
    let n = s.number in
    let m = b.given + 1 in
    let rest = without_stream n b.streams in
    let again : Stream = record { number = m; phase = phase.Due b.step; stream = cut s.stream } in
    let us = rest ++ again ∷ [] in
    let numbers = numbered-without n 0 b.given b.streams h.numbers in
    record {
      numbers = numbered-push 0 b.given rest again (omega arith) refl numbers;
      watches =
          each_mapped (λ w. IsOpen b.streams w.place) (λ w. IsOpen us w.place) (renumbered n m)
          (λ w e. elim (is_in n w.place) as (λ c. IsOpen us (cond c (record w { place = place.In m }) w).place) [
            | true ↦ last_open b.given rest again numbers refl refl
            | false ↦ pushed_open rest again refl w.place (without_open n b.streams w.place e)
          ]) b.watches h.watches;
    }

pub cuts_leave : (b : Broadcasts) (s : Stream) → ClosingsAreLeft b → ClosingsAreLeft (cut_stream b s)
cuts_leave b s h =
    elim (is_closing s.phase) as (λ c. ClosingsAreLeft (cond c (record b { streams = without_stream s.number b.streams }) (reopened b s))) [
      | true ↦ gone_left b s.number h
      | false ↦ cut_left b s h
    ]

-- Messages.

queued_open : (us : List Stream) (header : Header) (own : ℕ) (xs : List Event) (w : Watch) → IsOpen us w.place → IsOpen us (queued header own xs w).place
queued_open us header own [] w e = e
queued_open us header own (x ∷ xs) w e =
    elim (would_pass w.queue (length (x ∷ xs))) as (λ b. IsOpen us (cond b (record w { next = own; place = place.Split }) (record w { queue = w.queue ++ item.Events header (x ∷ xs) ∷ [] })).place) [ true ↦ refl | false ↦ e ]

-- a change of a stream and its members, that closes none
members_left : (b : Broadcasts) (n : ℕ) (f : Stream → Stream) (g : Watch → Watch) → KeepsNumber f → ClosesNone f → ((us : List Stream) (w : Watch) → IsOpen us w.place → IsOpen us (g w).place) → ClosingsAreLeft b
    → ClosingsAreLeft (record b { streams = with_stream n f b.streams; watches = map (member_changed n g) b.watches })
members_left b n f g k c j h =
    let us = with_stream n f b.streams in
    changed_left b us (member_changed n g) (numbered-map _ (changed-keeps n f k) 0 b.given b.streams h.numbers)
    (λ w e. let o = with_open n f k c b.streams w.place e in elim (is_in n w.place) as (λ d. IsOpen us (cond d (g w) w).place) [ true ↦ j us w o | false ↦ o ]) h

progressed_open : (next : ℕ) (header : Header) (us : List Stream) (w : Watch) → IsOpen us w.place → IsOpen us (progressed next header w).place
progressed_open next header us w e =
    elim (w.ask.progress && nat_le (max w.next next) (header.revision + 1)) as (λ b. IsOpen us (cond b (record w { queue = with_progress w.queue (item.Events header []) }) w).place) [ true ↦ e | false ↦ e ]

message_left : (b : Broadcasts) (s : Stream) (header : Header) (es : List Event) → ClosingsAreLeft b → ClosingsAreLeft (delivered_message b s header es)
message_left b s header [] h =
    elim (nat_le s.stream.next (header.revision + 1)) as (λ c. ClosingsAreLeft (cond c (record b { streams = with_stream s.number (advanced header.revision) b.streams; watches = map (member_changed s.number (progressed s.stream.next header)) b.watches }) b)) [
      | true ↦ members_left b s.number (advanced header.revision) (progressed s.stream.next header) (λ t. refl) (λ t c. c) (progressed_open s.stream.next header) h
      | false ↦ h
    ]
message_left b s header (x ∷ es) h =
    emptied_left s.number _
    (members_left b s.number (advanced (last_revision 0 (x ∷ es))) (given_batch s.stream.next header (x ∷ es)) (λ t. refl) (λ t c. c)
    (λ us w e. queued_open us header (max w.next s.stream.next) (shown_events w.ask (chosen w.ask (max w.next s.stream.next) (x ∷ es))) w e) h)

pub deliveries_leave : (b : Broadcasts) (s : Stream) (header : Header) (es : List Event) → ClosingsAreLeft b → ClosingsAreLeft (delivered_stream b s header es)
deliveries_leave b s header es h =
    elim (is_begun s.phase) as (λ c. ClosingsAreLeft (cond c (cond (is_told s es) (merged s.stream.range (delivered_message b s header es)) (cut_stream b s)) b)) [
      | true ↦ elim (is_told s es) as (λ d. ClosingsAreLeft (cond d (merged s.stream.range (delivered_message b s header es)) (cut_stream b s))) [
        | true ↦ merges_leave s.stream.range (delivered_message b s header es) (message_left b s header es h)
        | false ↦ cuts_leave b s h
      ]
      | false ↦ h
    ]

created_place : (next : ℕ) (last : Header) (w : Watch) → (created_watch next last w).place ≡ w.place
created_place next last w = told_place (decided next w) ∙ decided_place
  where
    told_place : (v : Watch) → (told last v).place ≡ v.place
    told_place v = elim v.told as (λ b. (cond b v (record v { told = true; queue = v.queue ++ item.Created (created_header last v) ∷ [] })).place ≡ v.place) [ true ↦ refl | false ↦ refl ]

    decided_place : (decided next w).place ≡ w.place
    decided_place = elim (w.next == 0) as (λ b. (cond b (record w { start = next; next = next }) w).place ≡ w.place) [ true ↦ refl | false ↦ refl ]

created_open : (next : ℕ) (last : Header) (us : List Stream) (w : Watch) → IsOpen us w.place → IsOpen us (created_watch next last w).place
created_open next last us w e = subst (IsOpen us) (sym (created_place next last w)) e

pub creations_leave : (b : Broadcasts) (s : Stream) (header last : Header) → ClosingsAreLeft b → ClosingsAreLeft (stands_created b s header last)
creations_leave b s header last h =
    let f = created_stream header.revision in
    let g = created_watch (created s.stream header.revision).next last in
    elim (is_awaited s) as (λ c. ClosingsAreLeft (cond c (merged s.stream.range (record b { streams = with_stream s.number f b.streams; watches = map (member_changed s.number g) b.watches })) b)) [
      | true ↦ merges_leave s.stream.range _ (members_left b s.number f g (λ t. refl) (λ t c. c) (created_open (created s.stream header.revision).next last) h)
      | false ↦ h
    ]

-- A watch joins.

record SeatedOpen (ss : List Stream) (x : Seated) : Type 0 where
  pub numbers : numbered 0 x.given x.streams ≡ true
  pub watch : IsOpen x.streams x.watch.place
  pub others : StaysOpen ss x.streams

seat_open : (ss : List Stream) (given step : ℕ) (last : Header) (w : Watch) → numbered 0 given ss ≡ true → SeatedOpen ss (seated ss given step last w)
seat_open ss given step last w n = go (stream_to_join ss w.ask.range w.next last.revision) (join_is given ss w.ask.range w.next last.revision n)
  where
    go : (o : Option Stream) → AllSome (MayJoin ss w.ask.range w.next) o → SeatedOpen ss (seated_at ss given step last w o)
    go (Some s) j = record {
      numbers = n;
      watch = ap is_left (ap (place_stream ss) (seated_place last s w) ∙ j.found) ∙ j.open_is;
      others = λ p e. e;
    }
    go None j =
        let new = new_stream (given + 1) step w.ask.range w.next in
        record {
          numbers = numbered-push 0 given ss new (omega arith) refl n;
          watch = last_open given ss new n refl refl;
          others = pushed_open ss new refl;
        }

pub joins_leave : (b : Broadcasts) (ticket : ℕ) (ask : WatchAsk) (last : Header) → ClosingsAreLeft b → ClosingsAreLeft (joined b ticket ask last)
joins_leave b ticket ask last h =
    let x = seated b.streams b.given b.step last (new_watch ticket ask) in
    let o = seat_open b.streams b.given b.step last (new_watch ticket ask) h.numbers in
    record {
      numbers = o.numbers;
      watches =
          each_inserted (λ w. IsOpen x.streams w.place) x.watch b.watches o.watch
          (each_along (λ w. IsOpen b.streams w.place) (λ w. IsOpen x.streams w.place) (λ w e. o.others w.place e) b.watches h.watches);
    }

-- A cancellation.

record LeftOpen (ss : List Stream) (l : Left) : Type 0 where
  pub numbers : numbered 0 l.given l.streams ≡ true
  pub watches : EachWatch (λ w. IsOpen l.streams w.place) l.watches
  pub others : StaysOpen ss l.streams

left_one_open : (header : Header) (compact step : ℕ) (last : Header) (ss : List Stream) (given : ℕ) (w : Watch) → numbered 0 given ss ≡ true → SeatedOpen ss (left_one header compact step last ss given w)
left_one_open header compact step last ss given w n =
    elim (nat_lt w.next compact) as (λ c. SeatedOpen ss (cond c (record { streams = ss; given = given; watch = ended header compact w }) (seated ss given step last w))) [
      | true ↦ record { numbers = n; watch = refl; others = λ p e. e }
      | false ↦ seat_open ss given step last w n
    ]

left_by_open : (n next : ℕ) (header : Header) (compact step : ℕ) (last : Header) (ss : List Stream) (given : ℕ) (w : Watch)
    → numbered 0 given ss ≡ true → IsOpen ss w.place → SeatedOpen ss (left_by n next header compact step last ss given w)
left_by_open n next header compact step last ss given w k e =
    elim (is_in n w.place) as (λ b. SeatedOpen ss (cond b (left_one header compact step last ss given (leaving next w)) (record { streams = ss; given = given; watch = w }))) [
      | true ↦ left_one_open header compact step last ss given (leaving next w) k
      | false ↦ record { numbers = k; watch = e; others = λ p e. e }
    ]

left_over_open : (n next : ℕ) (header : Header) (compact step : ℕ) (last : Header) (ss : List Stream) (given : ℕ) (ws : List Watch)
    → numbered 0 given ss ≡ true → EachWatch (λ w. IsOpen ss w.place) ws → LeftOpen ss (left_over n next header compact step last ss given ws)
left_over_open n next header compact step last ss given [] k h = record { numbers = k; watches = tt; others = λ p e. e }
left_over_open n next header compact step last ss given (w ∷ ws) k h =
    let x = left_by n next header compact step last ss given w in
    let o = left_by_open n next header compact step last ss given w k h.0 in
    let far = left_over_open n next header compact step last x.streams x.given ws o.numbers (each_along (λ u. IsOpen ss u.place) (λ u. IsOpen x.streams u.place) (λ u e. o.others u.place e) ws h.1) in
    record {
      numbers = far.numbers;
      watches = (far.others x.watch.place o.watch, far.watches);
      others = λ p e. far.others p (o.others p e);
    }

pub cancellations_leave : (b : Broadcasts) (s : Stream) (header : Header) (compact : ℕ) (last : Header) → ClosingsAreLeft b → ClosingsAreLeft (cancelled_stream b s header compact last)
cancellations_leave b s header compact last h =
    let rest = without_stream s.number b.streams in
    let leaves : Broadcasts = left_as b (left_over s.number s.stream.next header compact b.step last rest b.given b.watches) in
    let gone = gone_left b s.number h in
    let o = left_over_open s.number s.stream.next header compact b.step last rest b.given b.watches gone.numbers gone.watches in
    elim (not (is_begun s.phase)) as (λ c. ClosingsAreLeft (cond c b (cond (compact == 0 || s.stream.next == 0) (cut_stream b s) leaves))) [
      | true ↦ h
      | false ↦ elim (compact == 0 || s.stream.next == 0) as (λ d. ClosingsAreLeft (cond d (cut_stream b s) leaves)) [
        | true ↦ cuts_leave b s h
        | false ↦ record { numbers = o.numbers; watches = o.watches }
      ]
    ]

-- A take.

-- the watch of a ticket is replaced
replaced_left : (b : Broadcasts) (us : List Stream) (given : ℕ) (v : Watch) → numbered 0 given us ≡ true → StaysOpen b.streams us → IsOpen us v.place → ClosingsAreLeft b
    → ClosingsAreLeft (with_watch (record b { streams = us; given = given }) v)
replaced_left b us given v n k o h = record {
  numbers = n;
  watches =
      each_mapped (λ w. IsOpen b.streams w.place) (λ w. IsOpen us w.place) (watch_changed v.ticket (λ w. v))
      (λ w e. elim (w.ticket == v.ticket) as (λ c. IsOpen us (cond c v w).place) [ true ↦ o | false ↦ k w.place e ]) b.watches h.watches;
}

after_left : (b : Broadcasts) (last : Header) (w : Watch) (is : List WatchItem) (p : WatchPlace) → IsOpen b.streams w.place → ClosingsAreLeft b → ClosingsAreLeft (after_take b last w is p)
after_left b last w [] place.Split e h =
    let x = seated b.streams b.given b.step last w in
    let o = seat_open b.streams b.given b.step last w h.numbers in
    replaced_left b x.streams x.given x.watch o.numbers o.others o.watch h
after_left b last w (j ∷ is) place.Split e h = replaced_left b b.streams b.given w h.numbers (λ p k. k) e h
after_left b last w [] (place.In n) e h = replaced_left b b.streams b.given w h.numbers (λ p k. k) e h
after_left b last w (j ∷ is) (place.In n) e h = replaced_left b b.streams b.given w h.numbers (λ p k. k) e h
after_left b last w [] place.Ended e h = replaced_left b b.streams b.given w h.numbers (λ p k. k) e h
after_left b last w (j ∷ is) place.Ended e h = replaced_left b b.streams b.given w h.numbers (λ p k. k) e h

watch_left : (b : Broadcasts) (t : ℕ) → ClosingsAreLeft b → ClosingsAreLeft (record b { watches = without_watch t b.watches })
watch_left b t h = record { numbers = h.numbers; watches = each_other (λ w. IsOpen b.streams w.place) t b.watches h.watches }

pub takes_leave : (b : Broadcasts) (last : Header) (w : Watch) → watch_at w.ticket b.watches ≡ Some w → ClosingsAreLeft b → ClosingsAreLeft (taken_from b last w w.queue).0
takes_leave b last w e h = go w.queue
  where
    go : (q : List WatchItem) → ClosingsAreLeft (taken_from b last w q).0
    go [] = h
    go (i ∷ is) =
        elim (is_last i) as (λ c. ClosingsAreLeft (cond c (record b { watches = without_watch w.ticket b.watches }) (after_take b last (record w { queue = is }) is w.place))) [
          | true ↦ watch_left b w.ticket h
          | false ↦ after_left b last (record w { queue = is }) is w.place (found (λ u. IsOpen b.streams u.place) w.ticket b.watches w e h.watches) h
        ]

-- A watch leaves, or is split off.

pub leaving_leaves : (b : Broadcasts) (ticket : ℕ) → ClosingsAreLeft b → ClosingsAreLeft (removed b ticket (watch_at ticket b.watches))
leaving_leaves b ticket h = go (watch_at ticket b.watches)
  where
    go : (o : Option Watch) → ClosingsAreLeft (removed b ticket o)
    go None = h
    go (Some w) = place_left w.place (record b { watches = without_watch ticket b.watches }) (watch_left b ticket h)

pub splits_leave : (b : Broadcasts) (ticket next : ℕ) → ClosingsAreLeft b → ClosingsAreLeft (split_slow b ticket next (watch_at ticket b.watches))
splits_leave b ticket next h = go (watch_at ticket b.watches)
  where
    splits : (w : Watch) → IsOpen b.streams w.place → IsOpen b.streams (watch_changed ticket (split next) w).place
    splits w e = elim (w.ticket == ticket) as (λ c. IsOpen b.streams (cond c (split next w) w).place) [ true ↦ refl | false ↦ e ]

    go : (o : Option Watch) → ClosingsAreLeft (split_slow b ticket next o)
    go None = h
    go (Some w) = place_left w.place (record b { watches = map (watch_changed ticket (split next)) b.watches }) (changed_left b b.streams (watch_changed ticket (split next)) h.numbers splits h)

-- Jobs.

pub jobs_leave : (b : Broadcasts) → ClosingsAreLeft b → ClosingsAreLeft (next_job b (first_due b.streams)).0
jobs_leave b h = go (first_due b.streams)
  where
    sends : (s : Stream) (p : StreamPhase) → ClosingsAreLeft (sent b s p).0
    sends s (phase.Closing since) = gone_left b s.number h
    sends s (phase.Due since) = streams_left b (with_stream s.number begun b.streams) (numbered-map _ (changed-keeps s.number begun (λ t. refl)) 0 b.given b.streams h.numbers) (with_open s.number begun (λ t. refl) (λ t c. refl) b.streams) h
    sends s phase.Begun = h

    go : (o : Option Stream) → ClosingsAreLeft (next_job b o).0
    go None = h
    go (Some s) = sends s s.phase

-- So one that is due to be closed has none.

pub closings_have_none : (b : Broadcasts) (n : ℕ) (s : Stream) → ClosingsAreLeft b → stream_at n b.streams ≡ Some s → is_closing s.phase ≡ true → has_member n b.watches ≡ false
closings_have_none b n s h e c = go b.watches h.watches
  where
    not_in : (w : Watch) → IsOpen b.streams w.place → is_in n w.place ≡ false
    not_in w o =
        elim (is_in n w.place) as (λ d. is_in n w.place ≡ d → d ≡ false) [
          | true ↦ λ q. absurd (let l : is_closing s.phase ≡ false = sym (ap is_left (ap (place_stream b.streams) (in_place n w.place q) ∙ e)) ∙ o in cc)
          | false ↦ λ q. refl
        ] refl

    go : (ws : List Watch) → EachWatch (λ w. IsOpen b.streams w.place) ws → has_member n ws ≡ false
    go [] k = refl
    go (w ∷ ws) k = let a = not_in w k.0 in let r = go ws k.1 in grind arith
