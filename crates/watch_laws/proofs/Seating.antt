-- The calls by which watches join: nothing is held back.
use Rattle.std.proofs.Common.{◌≡◌, ℕ, ◌+◌, ◌≤◌, ◌<◌, max, Bool, true, false, not, cond, ◌&&◌, ◌==◌, nat_le, nat_lt, List, [], ◌∷◌, ◌++◌, map, Option, None, Some, is_some, refl, ap, sym, subst, ◌∙◌, append-nil, append_assoc, arith}
use Rattle.std.proofs.lemmas.Bool.Decides.{nat_tests}
use Rattle.etcd_types.specs.declared.key_range.KeyRange.{KeyRange}
use Rattle.etcd_types.specs.declared.record.Header.{Header}
use Rattle.etcd_types.specs.declared.request.WatchAsk.{WatchAsk}
use Rattle.etcd_types.specs.declared.watch.Event.{Event}
use Rattle.etcd_types.specs.declared.watch.WatchItem.{WatchItem}
use Rattle.etcd_types.specs.declared.watch.WatchItem.TheVariants as item
use Rattle.proxy_model.specs.Limits.{capped}
use Rattle.watch_model.specs.Queues.{item_events, queued_events}
use Rattle.watch_model.specs.declared.place.WatchPlace.{WatchPlace}
use Rattle.watch_model.specs.declared.place.WatchPlace.TheVariants as place
use Rattle.watch_model.specs.State.{Stream, Watch, Broadcasts}
use Rattle.watch_model.specs.Lookups.{same_range, stream_at, place_stream, next_of, is_in, is_closing, watch_at, with_new_watch, without_stream, without_watch, watch_changed, numbered}
use Rattle.watch_model.specs.Joining.{decided, told_if, created_header, is_joinable, better, best_of, opening_from_now, or_else, stream_to_join, new_watch, watched_range, seated_in, new_stream, Seated, seated_at, seated, joined}
use Rattle.watch_model.specs.Cuts.{Left, ended, leaving, left_one, left_by, left_over, left_as}
use Rattle.watch_model.specs.Takes.{with_watch, joined_again}
use Rattle.watch_model.specs.Story.{Story, Received, received, between, changes, wanted, WatchOk, is_member, EachWatch, Holds}
use Rattle.watch_laws.proofs.Between.{none_between}
use Rattle.watch_laws.proofs.Keeping.{queued_events-append}
use Rattle.watch_model.proofs.Streams.{number_itself, or_stream, at-push, none_above, others-without_stream, numbered-push, numbered-without, each_mapped}
use Rattle.watch_model.proofs.StepTickets.{joined-keeps, left-keeps}
use Rattle.watch_laws.proofs.Steps.{same_ranges, in_place}
use Rattle.watch_laws.proofs.Joining.{seated_ok, seated_fresh_ok}

-- The stream that a watch joins.

abbrev pub EachStream : (Stream → Type 0) → List Stream → Type 0
EachStream P [] = Unit {0}
EachStream P (s ∷ ss) = P s × EachStream P ss

found_later : (low high : ℕ) (s : Stream) (ss : List Stream) (all : List Stream) → low ≤ s.number → (numbered low high ss ≡ true) → ((k : ℕ) → low < k → stream_at k ss ≡ stream_at k all)
    → EachStream (λ t. stream_at t.number all ≡ Some t) ss
found_later low high s [] all l h e = tt
found_later low high s (t ∷ ss) all l h e =
    let above : low < t.number = grind (arith, nat_tests) in
    let rest : numbered t.number high ss ≡ true = grind (arith, nat_tests) in
    let here : stream_at t.number all ≡ Some t = sym (e t.number above) ∙ ap (λ b. cond b (Some t) (stream_at t.number ss)) (number_itself t.number) in
    (here, found_later t.number high t ss all (omega arith) rest (λ k m. sym (ap (λ b. cond b (Some t) (stream_at k ss)) (differs t.number k m)) ∙ e k (omega (arith, above, m))))
  where
    differs : (a k : ℕ) → a < k → (a == k) ≡ false
    differs a k m = grind (arith, nat_tests)

pub each_found : (high : ℕ) (ss : List Stream) → numbered 0 high ss ≡ true → EachStream (λ t. stream_at t.number ss ≡ Some t) ss
each_found high [] h = tt
each_found high (s ∷ ss) h = found_later 0 high s (s ∷ ss) (s ∷ ss) (omega arith) h (λ k m. refl)

-- a stream of the range that a watch with this next may join
pub record MayJoin (all : List Stream) (range : KeyRange) (next : ℕ) (s : Stream) : Type 0 where
  pub found : stream_at s.number all ≡ Some s
  pub range_is : same_range s.stream.range range ≡ true
  pub open_is : is_closing s.phase ≡ false
  pub behind : (next == 0) ≡ false → ((s.stream.next == 0) ≡ false) × (s.stream.next ≤ next)

abbrev pub AllSome : (Stream → Type 0) → Option Stream → Type 0
AllSome P None = Unit {0}
AllSome P (Some s) = P s

chosen_one : (P : Stream → Type 0) (s : Stream) (b : Bool) (best : Option Stream) → (b ≡ true → P s) → AllSome P best → AllSome P (cond b (better s best) best)
chosen_one P s false best j h = h
chosen_one P s true None j h = j refl
chosen_one P s true (Some t) j h = elim (nat_lt t.stream.next s.stream.next) as (λ b. AllSome P (cond b (Some s) (Some t))) [ true ↦ j refl | false ↦ h ]

pub best_is : (P Q : Stream → Type 0) (range : KeyRange) (limit : ℕ) → ((s : Stream) → P s → is_joinable range limit s ≡ true → Q s) → (ss : List Stream) (best : Option Stream) → EachStream P ss → AllSome Q best → AllSome Q (best_of range limit best ss)
best_is P Q range limit j [] best p h = h
best_is P Q range limit j (s ∷ ss) best p h =
    best_is P Q range limit j ss (cond (is_joinable range limit s) (better s best) best) p.1 (chosen_one Q s (is_joinable range limit s) best (j s p.0) h)

pub opening_is : (P Q : Stream → Type 0) (range : KeyRange) → ((s : Stream) → P s → (same_range s.stream.range range && not (is_closing s.phase) && s.stream.next == 0) ≡ true → Q s) → (ss : List Stream) → EachStream P ss → AllSome Q (opening_from_now range ss)
opening_is P Q range j [] p = tt
opening_is P Q range j (s ∷ ss) p =
    elim (same_range s.stream.range range && not (is_closing s.phase) && s.stream.next == 0) as (λ b. (same_range s.stream.range range && not (is_closing s.phase) && s.stream.next == 0) ≡ b → AllSome Q (cond b (Some s) (opening_from_now range ss))) [
      | true ↦ λ e. j s p.0 e
      | false ↦ λ e. opening_is P Q range j ss p.1
    ] refl

or_is : (Q : Stream → Type 0) (o x : Option Stream) → AllSome Q o → AllSome Q x → AllSome Q (or_else o x)
or_is Q None x a b = b
or_is Q (Some s) x a b = a

four : (a b c d : Bool) → (a && not b && c && d) ≡ true → (a ≡ true) × (b ≡ false) × (c ≡ true) × (d ≡ true)
four true false true true e = (refl, refl, refl, refl)
four true false true false e = absurd (cc)
four true false false d e = absurd (cc)
four true true c d e = absurd (cc)
four false b c d e = absurd (cc)

three : (a b c : Bool) → (a && not b && c) ≡ true → (a ≡ true) × (b ≡ false)
three true false c e = (refl, refl)
three true true c e = absurd (cc)
three false b c e = absurd (cc)

not_zero : (n : ℕ) → not (n == 0) ≡ true → (n == 0) ≡ false
not_zero n e = grind (arith, nat_tests)

at_most : (a b : ℕ) → nat_le a b ≡ true → a ≤ b
at_most a b e = grind (arith, nat_tests)

pub join_is : (high : ℕ) (ss : List Stream) (range : KeyRange) (next seen : ℕ) → numbered 0 high ss ≡ true → AllSome (MayJoin ss range next) (stream_to_join ss range next seen)
join_is high ss range next seen h =
    let each = each_found high ss h in
    elim (next == 0) as (λ b. (next == 0) ≡ b → AllSome (MayJoin ss range next) (cond b (or_else (best_of range (capped (seen + 1)) None ss) (opening_from_now range ss)) (best_of range next None ss))) [
      | true ↦ λ z.
          or_is (MayJoin ss range next) (best_of range (capped (seen + 1)) None ss) (opening_from_now range ss)
          (best_is (λ t. stream_at t.number ss ≡ Some t) (MayJoin ss range next) range (capped (seen + 1)) (λ s f e. let p = four (same_range s.stream.range range) (is_closing s.phase) (not (s.stream.next == 0)) (nat_le s.stream.next (capped (seen + 1))) e in record { found = f; range_is = p.0; open_is = p.1; behind = λ y. absurd (cc) }) ss None each tt)
          (opening_is (λ t. stream_at t.number ss ≡ Some t) (MayJoin ss range next) range (λ s f e. let p = three (same_range s.stream.range range) (is_closing s.phase) (s.stream.next == 0) e in record { found = f; range_is = p.0; open_is = p.1; behind = λ y. absurd (cc) }) ss each)
      | false ↦ λ z.
          best_is (λ t. stream_at t.number ss ≡ Some t) (MayJoin ss range next) range next
          (λ s f e. let p = four (same_range s.stream.range range) (is_closing s.phase) (not (s.stream.next == 0)) (nat_le s.stream.next next) e in record { found = f; range_is = p.0; open_is = p.1; behind = λ y. (not_zero s.stream.next p.2, at_most s.stream.next next p.3) }) ss None each tt
    ] refl

-- A watch that is a member of no stream joins.

pub record SeatedOk (story : Story) (got : List Event) (ss : List Stream) (x : Seated) : Type 0 where
  pub numbers : numbered 0 x.given x.streams ≡ true
  pub watch : WatchOk story got (place_stream x.streams x.watch.place) x.watch
  pub others : (p : WatchPlace) → is_some (place_stream ss p) ≡ is_member p → place_stream x.streams p ≡ place_stream ss p

there_push : (ss : List Stream) (t : Stream) (p : WatchPlace) → is_some (place_stream ss p) ≡ is_member p → place_stream (ss ++ t ∷ []) p ≡ place_stream ss p
there_push ss t (place.In k) e = at-push k ss t ∙ there (stream_at k ss) (cond (t.number == k) (Some t) None) e
  where
    there : (o x : Option Stream) → is_some o ≡ true → or_stream o x ≡ o
    there None x e = absurd (cc)
    there (Some s) x e = refl
there_push ss t place.Split e = refl
there_push ss t place.Ended e = refl

pub seated_place : (last : Header) (s : Stream) (w : Watch) → (seated_in last s w).place ≡ place.In s.number
seated_place last s w = kept s.stream.created (record (decided s.stream.next w) { place = place.In s.number })
  where
    kept : (b : Bool) (v : Watch) → (told_if b last v).place ≡ v.place
    kept true v = elim v.told as (λ c. (cond c v (record v { told = true; queue = v.queue ++ item.Created (created_header last v) ∷ [] })).place ≡ v.place) [ true ↦ refl | false ↦ refl ]
    kept false v = refl

pub seat_ok : (story : Story) (got : List Event) (ss : List Stream) (given step : ℕ) (last : Header) (w : Watch) → numbered 0 given ss ≡ true → WatchOk story got None w → SeatedOk story got ss (seated ss given step last w)
seat_ok story got ss given step last w n h = go (stream_to_join ss w.ask.range w.next last.revision) (join_is given ss w.ask.range w.next last.revision n)
  where
    go : (o : Option Stream) → AllSome (MayJoin ss w.ask.range w.next) o → SeatedOk story got ss (seated_at ss given step last w o)
    go (Some s) j = record {
      numbers = n;
      watch =
          subst (λ (o : Option Stream). WatchOk story got o (seated_in last s w)) (sym (ap (place_stream ss) (seated_place last s w) ∙ j.found))
          (seated_ok story got last s w (same_ranges s.stream.range w.ask.range j.range_is) j.behind h);
      others = λ p e. refl;
    }
    go None j =
        let m = given + 1 in
        let new = new_stream m step w.ask.range w.next in
        let fresh : stream_at m (ss ++ new ∷ []) ≡ Some new =
        at-push m ss new ∙ ap (λ o. or_stream o (cond (m == m) (Some new) None)) (none_above 0 given m ss n (omega arith)) ∙ ap (λ c. cond c (Some new) None) (number_itself m) in
        record {
          numbers = numbered-push 0 given ss new (omega arith) refl n;
          watch = subst (λ (o : Option Stream). WatchOk story got o (record w { place = place.In m })) (sym fresh) (seated_fresh_ok story got m step w h);
          others = λ p e. there_push ss new p e;
        }

-- Joining.

moved_along : (story : Story) (got : Received) (ss us : List Stream) → ((p : WatchPlace) → is_some (place_stream ss p) ≡ is_member p → place_stream us p ≡ place_stream ss p)
    → (w : Watch) → WatchOk story (got w.ticket) (place_stream ss w.place) w → WatchOk story (got w.ticket) (place_stream us w.place) w
moved_along story got ss us e w h = subst (λ (o : Option Stream). WatchOk story (got w.ticket) o w) (sym (e w.place h.member)) h

pub each_inserted : (P : Watch → Type 0) (w : Watch) (ws : List Watch) → P w → EachWatch P ws → EachWatch P (with_new_watch w ws)
each_inserted P w [] p h = (p, tt)
each_inserted P w (v ∷ ws) p h = elim (nat_lt v.ticket w.ticket) as (λ b. EachWatch P (cond b (v ∷ with_new_watch w ws) (w ∷ v ∷ ws))) [ true ↦ (h.0, each_inserted P w ws p h.1) | false ↦ (p, h) ]

pub each_along : (P Q : Watch → Type 0) → ((w : Watch) → P w → Q w) → (ws : List Watch) → EachWatch P ws → EachWatch Q ws
each_along P Q k [] h = tt
each_along P Q k (w ∷ ws) h = (k w h.0, each_along P Q k ws h.1)

pub each_other : (P : Watch → Type 0) (t : ℕ) (ws : List Watch) → EachWatch P ws → EachWatch P (without_watch t ws)
each_other P t [] h = tt
each_other P t (w ∷ ws) h = elim (w.ticket == t) as (λ b. EachWatch P (cond (not b) (w ∷ without_watch t ws) (without_watch t ws))) [ true ↦ each_other P t ws h.1 | false ↦ (h.0, each_other P t ws h.1) ]

pub found : (P : Watch → Type 0) (t : ℕ) (ws : List Watch) (w : Watch) → watch_at t ws ≡ Some w → EachWatch P ws → P w
found P t [] w e h = absurd (cc)
found P t (v ∷ ws) w e h =
    elim (v.ticket == t) as (λ b. cond b (Some v) (watch_at t ws) ≡ Some w → P w) [
      | true ↦ λ f. let one : v ≡ w = cc in subst P one h.0
      | false ↦ λ f. found P t ws w f h.1
    ] e

new_ok : (story : Story) (ticket : ℕ) (ask : WatchAsk) → WatchOk story [] None (new_watch ticket ask)
new_ok story ticket ask = record {
  member = refl;
  range = λ s e. absurd (cc);
  decided = λ s e. absurd (cc);
  starts = omega arith;
  kept = sym (ap (wanted (new_watch ticket ask).ask) (none_between ask.start (max ask.start 0) (story (watched_range ask.range)) (omega arith)));
}

-- a new ticket's taker has nothing yet
pub joined_holds : (story : Story) (got : Received) (b : Broadcasts) (ticket : ℕ) (ask : WatchAsk) (last : Header) → got ticket ≡ [] → Holds story got b → Holds story got (joined b ticket ask last)
joined_holds story got b ticket ask last e h =
    let x = seated b.streams b.given b.step last (new_watch ticket ask) in
    let k = seat_ok story [] b.streams b.given b.step last (new_watch ticket ask) h.numbers (new_ok story ticket ask) in
    record {
      numbers = k.numbers;
      watches =
          each_inserted (λ w. WatchOk story (got w.ticket) (place_stream x.streams w.place) w) x.watch b.watches
          (subst (λ (es : List Event). WatchOk story es (place_stream x.streams x.watch.place) x.watch) (sym (ap got (joined-keeps b.streams b.given b.step last (new_watch ticket ask)) ∙ e)) k.watch)
          (each_along _ _ (moved_along story got b.streams x.streams k.others) b.watches h.watches);
    }

-- A cancellation.

pub leaves_ok : (story : Story) (got : List Event) (o : Option Stream) (w : Watch) → WatchOk story got o w → WatchOk story got None (record w { next = max w.next (next_of o); place = place.Split })
leaves_ok story got o w h =
    let same : max w.next (next_of o) ≡ max (max w.next (next_of o)) 0 = omega arith in
    record {
      member = refl;
      range = λ t e. absurd (cc);
      decided = λ t e. absurd (cc);
      starts = subst (λ (n : ℕ). w.start ≤ n) same h.starts;
      kept = h.kept ∙ ap (λ (n : ℕ). wanted w.ask (between w.start n (story w.ask.range))) same;
    }

no_event_behind : (got : List Event) (q : List WatchItem) (i : WatchItem) → item_events i ≡ [] → changes (got ++ queued_events (q ++ i ∷ [])) ≡ changes (got ++ queued_events q)
no_event_behind got q i e =
    ap (λ (l : List Event). changes (got ++ l)) (queued_events-append q (i ∷ []) ∙ ap (λ (l : List Event). queued_events q ++ (l ++ [])) e ∙ append-nil (queued_events q))

ended_ok : (story : Story) (got : List Event) (header : Header) (compact : ℕ) (w : Watch) → WatchOk story got None w → WatchOk story got None (ended header compact w)
ended_ok story got header compact w h = record {
  member = refl;
  range = h.range;
  decided = h.decided;
  starts = h.starts;
  kept = no_event_behind got w.queue (item.Canceled header compact) refl ∙ h.kept;
}

pub record LeftOk (story : Story) (got : Received) (ss : List Stream) (l : Left) : Type 0 where
  pub numbers : numbered 0 l.given l.streams ≡ true
  pub watches : EachWatch (λ w. WatchOk story (got w.ticket) (place_stream l.streams w.place) w) l.watches
  pub others : (p : WatchPlace) → is_some (place_stream ss p) ≡ is_member p → place_stream l.streams p ≡ place_stream ss p

-- a member of the cancelled stream, and any other watch
abbrev pub Waits : Story → Received → Stream → List Stream → Watch → Type 0
Waits story got s ss w =
    (is_in s.number w.place ≡ true → WatchOk story (got w.ticket) (Some s) w) × (is_in s.number w.place ≡ false → WatchOk story (got w.ticket) (place_stream ss w.place) w)

waits_along : (story : Story) (got : Received) (s : Stream) (ss us : List Stream) → ((p : WatchPlace) → is_some (place_stream ss p) ≡ is_member p → place_stream us p ≡ place_stream ss p) → (w : Watch) → Waits story got s ss w → Waits story got s us w
waits_along story got s ss us e w h = (h.0, λ d. moved_along story got ss us e w (h.1 d))

left_one_ok : (story : Story) (got : List Event) (header : Header) (compact step : ℕ) (last : Header) (ss : List Stream) (given : ℕ) (w : Watch)
    → numbered 0 given ss ≡ true → w.place ≡ place.Split → WatchOk story got None w → SeatedOk story got ss (left_one header compact step last ss given w)
left_one_ok story got header compact step last ss given w n p k =
    elim (nat_lt w.next compact) as (λ c. SeatedOk story got ss (cond c (record { streams = ss; given = given; watch = ended header compact w }) (seated ss given step last w))) [
      | true ↦ record { numbers = n; watch = ended_ok story got header compact w k; others = λ p e. refl }
      | false ↦ seat_ok story got ss given step last w n k
    ]

left_by_ok : (story : Story) (got : Received) (s : Stream) (header : Header) (compact step : ℕ) (last : Header) (ss : List Stream) (given : ℕ) (w : Watch)
    → numbered 0 given ss ≡ true → Waits story got s ss w → SeatedOk story (got w.ticket) ss (left_by s.number s.stream.next header compact step last ss given w)
left_by_ok story got s header compact step last ss given w n h =
    elim (is_in s.number w.place) as (λ b. is_in s.number w.place ≡ b → SeatedOk story (got w.ticket) ss (cond b (left_one header compact step last ss given (leaving s.stream.next w)) (record { streams = ss; given = given; watch = w }))) [
      | true ↦ λ e. left_one_ok story (got w.ticket) header compact step last ss given (leaving s.stream.next w) n refl (leaves_ok story (got w.ticket) (Some s) w (h.0 e))
      | false ↦ λ e. record { numbers = n; watch = h.1 e; others = λ p e. refl }
    ] refl

pub left_ok : (story : Story) (got : Received) (s : Stream) (header : Header) (compact step : ℕ) (last : Header) (ss : List Stream) (given : ℕ) (ws : List Watch)
    → numbered 0 given ss ≡ true → EachWatch (Waits story got s ss) ws → LeftOk story got ss (left_over s.number s.stream.next header compact step last ss given ws)
left_ok story got s header compact step last ss given [] n h = record { numbers = n; watches = tt; others = λ p e. refl }
left_ok story got s header compact step last ss given (w ∷ ws) n h =
    let x = left_by s.number s.stream.next header compact step last ss given w in
    let o = left_by_ok story got s header compact step last ss given w n h.0 in
    let far = left_ok story got s header compact step last x.streams x.given ws o.numbers (each_along (Waits story got s ss) (Waits story got s x.streams) (waits_along story got s ss x.streams o.others) ws h.1) in
    let sat : WatchOk story (got x.watch.ticket) (place_stream x.streams x.watch.place) x.watch =
    subst (λ (t : ℕ). WatchOk story (got t) (place_stream x.streams x.watch.place) x.watch) (sym (left-keeps s.number s.stream.next header compact step last ss given w)) o.watch in
    record {
      numbers = far.numbers;
      watches = (moved_along story got x.streams _ far.others x.watch sat, far.watches);
      others = λ p e. far.others p (ap is_some (o.others p e) ∙ e) ∙ o.others p e;
    }

pub cancelled_holds : (story : Story) (got : Received) (b : Broadcasts) (s : Stream) (header : Header) (compact : ℕ) (last : Header) → stream_at s.number b.streams ≡ Some s → Holds story got b
    → Holds story got (left_as b (left_over s.number s.stream.next header compact b.step last (without_stream s.number b.streams) b.given b.watches))
cancelled_holds story got b s header compact last e h =
    let ss = without_stream s.number b.streams in
    let l = left_ok story got s header compact b.step last ss b.given b.watches (numbered-without s.number 0 b.given b.streams h.numbers) (each_along (λ w. WatchOk story (got w.ticket) (place_stream b.streams w.place) w) (Waits story got s ss) waits b.watches h.watches) in
    record { numbers = l.numbers; watches = l.watches }
  where
    waits : (w : Watch) → WatchOk story (got w.ticket) (place_stream b.streams w.place) w → Waits story got s (without_stream s.number b.streams) w
    waits w k = (
      λ d. subst (λ (o : Option Stream). WatchOk story (got w.ticket) o w) (ap (place_stream b.streams) (in_place s.number w.place d) ∙ e) k,
      λ d. subst (λ (o : Option Stream). WatchOk story (got w.ticket) o w) (sym (others-without_stream s.number b.streams w.place d)) k,
    )

-- A take.

taken_first : (got : List Event) (i : WatchItem) (is : List WatchItem) → changes ((got ++ item_events i) ++ queued_events is) ≡ changes (got ++ queued_events (i ∷ is))
taken_first got i is = ap changes (append_assoc got (item_events i) (queued_events is))

takes_ok : (story : Story) (got : List Event) (o : Option Stream) (w : Watch) (i : WatchItem) (is : List WatchItem) → w.queue ≡ i ∷ is → WatchOk story got o w → WatchOk story (got ++ item_events i) o (record w { queue = is })
takes_ok story got o w i is e h = record {
  member = h.member;
  range = h.range;
  decided = h.decided;
  starts = h.starts;
  kept = taken_first got i is ∙ ap (λ (q : List WatchItem). changes (got ++ queued_events q)) (sym e) ∙ h.kept;
}

pub same_ticket : (a b : ℕ) → (a == b) ≡ true → a ≡ b
same_ticket a b e = grind (arith, nat_tests)

-- the watch under a ticket is replaced by v, whose taker has an item more
pub replaced_ok : (story : Story) (got : Received) (ss us : List Stream) (ticket : ℕ) (i : WatchItem) (v : Watch) → v.ticket ≡ ticket → WatchOk story (got ticket ++ item_events i) (place_stream us v.place) v
    → ((p : WatchPlace) → is_some (place_stream ss p) ≡ is_member p → place_stream us p ≡ place_stream ss p) → (w : Watch) → WatchOk story (got w.ticket) (place_stream ss w.place) w
    → WatchOk story (received got ticket i (watch_changed ticket (λ w. v) w).ticket) (place_stream us (watch_changed ticket (λ w. v) w).place) (watch_changed ticket (λ w. v) w)
replaced_ok story got ss us ticket i v t k e w h =
    elim (w.ticket == ticket) as (λ b. (w.ticket == ticket) ≡ b → WatchOk story (received got ticket i (cond b v w).ticket) (place_stream us (cond b v w).place) (cond b v w)) [
      | true ↦ λ q. subst (λ (es : List Event). WatchOk story es (place_stream us v.place) v) (sym (ap (received got ticket i) t ∙ ap (λ b. cond b (got ticket ++ item_events i) (got ticket)) (number_itself ticket))) k
      | false ↦ λ q. subst (λ (es : List Event). WatchOk story es (place_stream us w.place) w) (sym (ap (λ b. cond b (got w.ticket ++ item_events i) (got w.ticket)) q)) (moved_along story got ss us e w h)
    ] refl

-- nothing left in the queue of a watch that was split off: it joins again
pub rejoined_holds : (story : Story) (got : Received) (b : Broadcasts) (last : Header) (w : Watch) (i : WatchItem) → w.queue ≡ i ∷ [] → w.place ≡ place.Split → WatchOk story (got w.ticket) None w → Holds story got b
    → Holds story (received got w.ticket i) (joined_again b (seated b.streams b.given b.step last (record w { queue = [] })))
rejoined_holds story got b last w i e p k h =
    let v : Watch = record w { queue = [] } in
    let x = seated b.streams b.given b.step last v in
    let o = seat_ok story (got w.ticket ++ item_events i) b.streams b.given b.step last v h.numbers (takes_ok story (got w.ticket) None w i [] e k) in
    let t = joined-keeps b.streams b.given b.step last v in
    record {
      numbers = o.numbers;
      watches =
          subst (λ (n : ℕ). EachWatch (λ u. WatchOk story (received got w.ticket i u.ticket) (place_stream x.streams u.place) u) (map (watch_changed n (λ u. x.watch)) b.watches)) (sym t)
          (each_mapped (λ u. WatchOk story (got u.ticket) (place_stream b.streams u.place) u) (λ u. WatchOk story (received got w.ticket i u.ticket) (place_stream x.streams u.place) u) (watch_changed w.ticket (λ u. x.watch))
          (replaced_ok story got b.streams x.streams w.ticket i x.watch t o.watch o.others) b.watches h.watches);
    }

-- an item is taken, and the watch stays where it is
pub taken_holds : (story : Story) (got : Received) (b : Broadcasts) (w : Watch) (i : WatchItem) (is : List WatchItem) → w.queue ≡ i ∷ is → WatchOk story (got w.ticket) (place_stream b.streams w.place) w → Holds story got b
    → Holds story (received got w.ticket i) (with_watch b (record w { queue = is }))
taken_holds story got b w i is e k h =
    let v : Watch = record w { queue = is } in
    record {
      numbers = h.numbers;
      watches =
          each_mapped (λ u. WatchOk story (got u.ticket) (place_stream b.streams u.place) u) (λ u. WatchOk story (received got w.ticket i u.ticket) (place_stream b.streams u.place) u) (watch_changed w.ticket (λ u. v))
          (replaced_ok story got b.streams b.streams w.ticket i v refl (takes_ok story (got w.ticket) (place_stream b.streams w.place) w i is e k) (λ p f. refl)) b.watches h.watches;
    }
