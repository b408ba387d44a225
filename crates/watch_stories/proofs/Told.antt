-- What a message of a stream, or a cut, does to the stories of a proxy's watches.
use Rattle.std.proofs.Common.{◌≡◌, ◌⊎◌, inl, inr, ℕ, ◌+◌, ◌-◌, ◌≤◌, ◌<◌, max, Bool, true, false, cond, not, ◌&&◌, ◌||◌, ◌==◌, nat_lt, nat_le, List, [], ◌∷◌, ◌++◌, append-nil, length, map, Option, None, Some, is_some, Ok, refl, ap, sym, subst, ◌∙◌, arith}
use Rattle.std.proofs.lemmas.Bool.Decides.{nat_tests}
use Rattle.etcd_types.specs.declared.key_range.KeyRange.{KeyRange}
use Rattle.etcd_types.specs.declared.record.Header.{Header}
use Rattle.etcd_types.specs.declared.request.WatchAsk.{WatchAsk}
use Rattle.etcd_types.specs.declared.watch.Event.{Event}
use Rattle.etcd_types.specs.declared.watch.WatchItem.{WatchItem}
use Rattle.etcd_types.specs.declared.watch.WatchItem.TheVariants as message
use Rattle.proxy_model.specs.Limits.{capped}
use Rattle.proxy_model.specs.Unwrapped.{Unwrapped, events_without}
use Rattle.proxy_model.specs.Upstream.{Upstream, created, cut}
use Rattle.script_text.specs.declared.item.Item.{Item}
use Rattle.script_text.specs.declared.item.Item.TheVariants as item
use Rattle.store_model.specs.History.{newest}
use Rattle.watch_model.specs.declared.place.WatchPlace.{WatchPlace}
use Rattle.watch_model.specs.declared.place.WatchPlace.TheVariants as place
use Rattle.watch_model.specs.declared.stream.StreamPhase.{StreamPhase}
use Rattle.watch_model.specs.declared.stream.StreamPhase.TheVariants as phase
use Rattle.watch_model.specs.Cuts.{Left, reopened, cut_stream, ended, leaving, left_one, left_by, left_over, left_as, cancelled_stream}
use Rattle.watch_model.specs.Delivery.{is_batch, last_revision, shown_events, queued, given_batch, advanced, delivered_message, progressed, is_told, delivered_stream, created_stream, created_watch, stands_created}
use Rattle.watch_model.specs.Joining.{watched_range, created_header, told, decided, seated}
use Rattle.watch_laws.proofs.Standing.{none_without}
use Rattle.watch_model.specs.Lookups.{stream_at, place_stream, with_stream, without_stream, changed_stream, is_in, is_begun, is_closing, has_member, member_changed, numbered}
use Rattle.watch_model.specs.Merging.{merged}
use Rattle.watch_model.specs.Queues.{is_nil, queued_events, would_pass, chosen, with_progress}
use Rattle.watch_model.specs.Splitting.{emptied_as, emptied}
use Rattle.watch_model.specs.State.{Stream, Watch, Broadcasts}
use Rattle.watch_model.specs.Story.{EachWatch, is_member as stays_in}
use Rattle.watch_model.proofs.Streams.{number_itself, changed-keeps, at-with_stream, others-with_stream, others-without_stream, or_stream, at-push, none_above, numbered-map, numbered-without, each_mapped}
use Rattle.watch_model.proofs.Numbers.{emptied-numbered}
use Rattle.watch_laws.proofs.Seating.{each_along}
use Rattle.watch_laws.proofs.Steps.{in_place}
use Rattle.world_model.specs.Answers.{seen}
use Rattle.world_model.specs.Lives.{life, next_message}
use Rattle.held_laws.proofs.Items.{life-append}
use Rattle.world_model.specs.Places.{nth, with_nth, kept_at}
use Rattle.world_model.specs.State.{OpenedStream}
use Rattle.held_laws.proofs.Kept.{nth_itself, nth_other}
use Rattle.held_laws.proofs.Places.{taken_of}
use Rattle.held_laws.proofs.Stories.{unwraps}
use Rattle.held_laws.proofs.Telling.{own_only, own_strips}
use Rattle.held_laws.proofs.StreamSteps.{without_at}
use Rattle.watch_stories.specs.Streams.{next_behind, stream_next, breaks_batch, breaks}
use Rattle.watch_stories.specs.Stories.{joins, waits, member, apart, over, is_member, brought, creates, gives, splits, ends, leaves, breaks_off}
use Rattle.watch_stories.proofs.Items.{Fed, next_is}
use Rattle.watch_stories.proofs.Facts.{View, later, IsOpen, IsOfWorld, OkAt, AreOpen, open_at, still_of_world, delivered_open, open_next, Fewer, fewer_open, push_fewer}
use Rattle.watch_stories.proofs.Points.{AtPhase, StandsAt, Has, Joins, AreUpTo, up_later, up_push, up_progress, OnlyOver, only_push, only_progress, queued_push, queued_progress, told_has, rest_has, heard, heard_has, leaves_has, split_has, ended_has, leaving_joins, broken_has}
use Rattle.watch_stories.proofs.Watches.{Sees, same_has, member_spot, merged_fewer, merged_sees, emptied_fewer, emptied_sees, SeatHas, seat_sees}

none_here : {A : Type 0} (t : Stream) → ◌≡◌ {A = Option Stream} None (Some t) → A
none_here t e = absurd (cc)

some_is : (s t : Stream) → Some s ≡ Some t → s ≡ t
some_is s t e = cc

some_number : (a b : ℕ) → Some a ≡ Some b → a ≡ b
some_number a b e = cc

some_world : (a b : OpenedStream) → Some a ≡ Some b → a ≡ b
some_world a b e = cc

no_case : {A : Type 0} (b : Bool) → b ≡ true → b ≡ false → A
no_case b t f = absurd (let no : true ≡ false = sym t ∙ f in cc)

equal : (a b : ℕ) → (a == b) ≡ true → a ≡ b
equal a b e = grind (arith, nat_tests)

differ : (a b : ℕ) → (a ≡ b → ⊥) → (a == b) ≡ false
differ a b n = by (a == b) refl
  where
    by : (c : Bool) → (a == b) ≡ c → (a == b) ≡ false
    by true e = absurd (n (equal a b e))
    by false e = e

-- Of a stream of the world: a message of it is delivered, or it is cut, where the proxy has begun it as `s`.
pub record IsOf (v : View) (streams : List OpenedStream) (n : ℕ) (world : OpenedStream) (s : Stream) : Type 0 where
  pub there : nth streams n ≡ Some world
  pub own : world.own ≡ s.number
  pub proxy : world.proxy ≡ v.proxy
  pub live : world.ended ≡ false
  pub kept_is : is_closing s.phase ≡ false → kept_at v.kept s.number ≡ Some n

-- the stream as the items tell of it
pub record Its (v : View) (n : ℕ) (s : Stream) (waiting : List WatchItem) : Type 0 where
  pub its : IsOpen v s.number s
  pub number : its.number ≡ n
  pub waits_so : its.waiting ≡ waiting

begun_open : (p : StreamPhase) → is_begun p ≡ true → is_closing p ≡ false
begun_open (phase.Due since) e = refl
begun_open (phase.Closing since) e = absurd (cc)
begun_open phase.Begun e = refl

pub its_of : (v : View) (streams : List OpenedStream) (ss : List Stream) (n : ℕ) (world : OpenedStream) (s : Stream) → AreOpen v streams ss → stream_at s.number ss ≡ Some s → is_begun s.phase ≡ true → IsOf v streams n world s
    → Its v n s world.waiting
its_of v streams ss n world s known at b is =
    let k = open_at v streams ss s.number s known at b in
    let number : k.its.number ≡ n = some_number k.its.number n (sym k.its.kept_is ∙ is.kept_is (begun_open s.phase b)) in
    let same : k.world ≡ world = some_world k.world world (sym k.there ∙ ap (nth streams) number ∙ is.there) in
    record { its = k.its; number = number; waits_so = k.live (ap (λ (x : OpenedStream). x.ended) same ∙ is.live) ∙ ap (λ (x : OpenedStream). x.waiting) same }

-- ---- watches that aren't members of it

-- no other stream of the proxy is that one of the world
pub other_number : (v : View) (streams : List OpenedStream) (n own : ℕ) (world : OpenedStream) (k : ℕ) (t : Stream) → nth streams n ≡ Some world → world.own ≡ own → (k == own) ≡ false → (o : IsOfWorld v streams k t) → (n == o.its.number) ≡ false
other_number v streams n own world k t there is d o =
    differ n o.its.number (λ e.
    let same : o.world ≡ world = some_world o.world world (sym o.there ∙ ap (nth streams) (sym e) ∙ there) in
    let both : k ≡ own = sym o.own_is ∙ ap (λ (x : OpenedStream). x.own) same ∙ is in
    no_case (k == own) (ap (λ (x : ℕ). x == own) both ∙ number_itself own) d)

pub not_member : (v : View) (streams : List OpenedStream) (ss : List Stream) (n own : ℕ) (world : OpenedStream) (w : Watch) → AreOpen v streams ss → nth streams n ≡ Some world → world.own ≡ own → is_in own w.place ≡ false
    → (h : Has v (place_stream ss w.place) w) → is_member n h.point.spot ≡ false
not_member v streams ss n own world w known there is d h = by w.place d h.spot
  where
    at : (k : ℕ) (t : Stream) → stream_at k ss ≡ Some t → (k == own) ≡ false → (p : StreamPhase) → OkAt v streams k t p → AtPhase v.kept k p h.point.spot → is_member n h.point.spot ≡ false
    at k t e d phase.Begun o s =
        ap (is_member n) (s.2 ∙ ap (λ (m : ℕ). member m) (some_number s.0 o.its.number (sym s.1 ∙ o.its.kept_is))) ∙ other_number v streams n own world k t there is d o
    at k t e d (phase.Due since) o s = ap (is_member n) s
    at k t e d (phase.Closing since) o s = absurd s

    among : (k : ℕ) (o : Option Stream) → stream_at k ss ≡ o → (k == own) ≡ false → StandsAt v.kept o (place.In k) h.point.spot → is_member n h.point.spot ≡ false
    among k None e d s = absurd s
    among k (Some t) e d s = at k t e d t.phase (known k t e) s

    by : (p : WatchPlace) → is_in own p ≡ false → StandsAt v.kept (place_stream ss p) p h.point.spot → is_member n h.point.spot ≡ false
    by (place.In k) d s = among k (stream_at k ss) refl d s
    by place.Split d s = ap (is_member n) s.1
    by place.Ended d s = ap (is_member n) s.1.2

-- nor those of a stream that wasn't begun
pub unbegun : (v : View) (s : Stream) (n own : ℕ) (w : Watch) → is_begun s.phase ≡ false → w.place ≡ place.In own → (h : Has v (Some s) w) → is_member n h.point.spot ≡ false
unbegun v s n own w b at h = by s.phase b (subst (λ (p : WatchPlace). StandsAt v.kept (Some s) p h.point.spot) at h.spot)
  where
    by : (p : StreamPhase) → is_begun p ≡ false → AtPhase v.kept own p h.point.spot → is_member n h.point.spot ≡ false
    by phase.Begun e k = absurd (cc)
    by (phase.Due since) e k = ap (is_member n) k
    by (phase.Closing since) e k = absurd k

-- ---- a change of a stream and its members

pub on_members : (v u : View) (n : ℕ) (s : Stream) (f : Watch → Watch) (ss us : List Stream) → stream_at n ss ≡ Some s
    → ((w : Watch) → w.place ≡ place.In n → Has v (Some s) w → Has u (place_stream us (f w).place) (f w))
    → ((w : Watch) → is_in n w.place ≡ false → Has v (place_stream ss w.place) w → Has u (place_stream us w.place) w)
    → (ws : List Watch) → Sees v ss ws → Sees u us (map (member_changed n f) ws)
on_members v u n s f ss us e k l ws h =
    each_mapped (λ w. Has v (place_stream ss w.place) w) (λ w. Has u (place_stream us w.place) w) (member_changed n f)
    (λ w h. elim (is_in n w.place) as (λ c. is_in n w.place ≡ c → Has u (place_stream us (cond c (f w) w).place) (cond c (f w) w)) [
      | true ↦ λ q.
          let p = in_place n w.place q in
          k w p (subst (λ (o : Option Stream). Has v o w) (ap (place_stream ss) p ∙ e) h)
      | false ↦ λ q. l w q h
    ] refl) ws h

-- the others rest
rest_other : (v : View) (streams : List OpenedStream) (ss us : List Stream) (n own : ℕ) (world : OpenedStream) (i : Item) → AreOpen v streams ss → nth streams n ≡ Some world → world.own ≡ own
    → ((w : Watch) → is_in own w.place ≡ false → (h : Has v (place_stream ss w.place) w) → Has (later v (i ∷ [])) (place_stream ss w.place) w)
    → ((p : WatchPlace) → is_in own p ≡ false → place_stream us p ≡ place_stream ss p)
    → (w : Watch) → is_in own w.place ≡ false → Has v (place_stream ss w.place) w → Has (later v (i ∷ [])) (place_stream us w.place) w
rest_other v streams ss us n own world i known there is rests same w d h =
    same_has (later v (i ∷ [])) (place_stream ss w.place) (place_stream us w.place) w (same w.place d) (rests w d h)

pub rest_heard : (v : View) (streams : List OpenedStream) (ss us : List Stream) (n own : ℕ) (world : OpenedStream) → AreOpen v streams ss → nth streams n ≡ Some world → world.own ≡ own
    → ((p : WatchPlace) → is_in own p ≡ false → place_stream us p ≡ place_stream ss p) → (w : Watch) → is_in own w.place ≡ false → Has v (place_stream ss w.place) w → Has (heard v n) (place_stream us w.place) w
rest_heard v streams ss us n own world known there is same w d h =
    rest_other v streams ss us n own world (item.Delivered n) known there is
    (λ w d h. rest_has v (item.Delivered n) (place_stream ss w.place) w (record { takes = λ t. refl; lives = λ l. refl }) refl h (not_member v streams ss n own world w known there is d h)) same w d h

-- ---- the streams behind a message

-- in the world one message less waits
abbrev pub less : List OpenedStream → ℕ → OpenedStream → List WatchItem → List OpenedStream
less streams n world rest = with_nth streams n (record world { waiting = rest })

-- as the message left its stream
pub heard_open : (v : View) (streams : List OpenedStream) (ss us : List Stream) (n : ℕ) (world : OpenedStream) (s u : Stream) (i : WatchItem) (rest : List WatchItem) → AreOpen v streams ss → IsOf v streams n world s → world.waiting ≡ i ∷ rest
    → stream_at s.number ss ≡ Some s → is_begun s.phase ≡ true → u.phase ≡ s.phase → u.stream.range ≡ s.stream.range → next_behind s.stream.next i ≡ u.stream.next
    → ((k : ℕ) (t : Stream) → stream_at k us ≡ Some t → ((k ≡ s.number) × (t ≡ u)) ⊎ (((k == s.number) ≡ false) × (stream_at k ss ≡ Some t)))
    → AreOpen (heard v n) (less streams n world rest) us
heard_open v streams ss us n world s u i rest known is q at b stays range next cases own t e = by (cases own t e)
  where
    life_is : life v.proxy (v.items ++ item.Delivered n ∷ []) ≡ life v.proxy v.items ++ item.Delivered n ∷ []
    life_is = life-append v.proxy [] v.items (item.Delivered n ∷ [])

    its : Its v n s world.waiting
    its = its_of v streams ss n world s known at b is

    one : IsOpen (heard v n) s.number u
    one = delivered_open v n s.number i rest s u life_is its.its its.number (its.waits_so ∙ q) range next

    there : nth (less streams n world rest) n ≡ Some (record world { waiting = rest })
    there = nth_itself streams n world (record world { waiting = rest }) is.there

    itself : IsOfWorld (heard v n) (less streams n world rest) s.number u
    itself = record { its = one; world = record world { waiting = rest }; there = ap (nth (less streams n world rest)) its.number ∙ there; own_is = is.own; proxy_is = is.proxy; live = λ l. refl }

    other : (k : ℕ) (t : Stream) → (k == s.number) ≡ false → (p : StreamPhase) → OkAt v streams k t p → OkAt (heard v n) (less streams n world rest) k t p
    other k t d phase.Begun o =
        let apart' = other_number v streams n s.number world k t is.there is.own d o in
        let same = still_of_world v streams (item.Delivered n ∷ []) k t life_is o refl (ap (λ b. cond b (item.Delivered n ∷ []) []) apart') in
        record { its = same.its; world = o.world; there = nth_other streams n o.its.number world (record world { waiting = rest }) is.there (turned n o.its.number apart') ∙ o.there; own_is = o.own_is; proxy_is = o.proxy_is; live = o.live }
      where
        turned : (a b : ℕ) → (a == b) ≡ false → (b == a) ≡ false
        turned a b e = grind (arith, nat_tests)
    other k t d (phase.Due since) o = o
    other k t d (phase.Closing since) o = tt

    by_phase : (p : StreamPhase) → is_begun p ≡ true → OkAt (heard v n) (less streams n world rest) s.number u p
    by_phase phase.Begun c = itself
    by_phase (phase.Due since) c = absurd (cc)
    by_phase (phase.Closing since) c = absurd (cc)

    by : ((own ≡ s.number) × (t ≡ u)) ⊎ (((own == s.number) ≡ false) × (stream_at own ss ≡ Some t)) → OkAt (heard v n) (less streams n world rest) own t t.phase
    by (inl c) = subst (λ (k : ℕ). OkAt (heard v n) (less streams n world rest) k t t.phase) (sym c.0) (subst (λ (x : Stream). OkAt (heard v n) (less streams n world rest) s.number x x.phase) (sym c.1) (by_phase u.phase (ap is_begun stays ∙ b)))
    by (inr c) = other own t c.0 t.phase (known own t c.1)

-- ---- what is known where a message is delivered to the stream `s`, and leaves it so

pub record Hearing (v : View) (streams : List OpenedStream) (b : Broadcasts) (n : ℕ) (world : OpenedStream) (s : Stream) (i : WatchItem) (rest : List WatchItem) : Type 0 where
  pub numbers : numbered 0 b.given b.streams ≡ true
  pub known : AreOpen v streams b.streams
  pub at : stream_at s.number b.streams ≡ Some s
  pub is : IsOf v streams n world s
  pub waiting : world.waiting ≡ i ∷ rest
  pub begun : is_begun s.phase ≡ true
  pub watches : Sees v b.streams b.watches

its_now : (v : View) (streams : List OpenedStream) (b : Broadcasts) (n : ℕ) (world : OpenedStream) (s : Stream) (i : WatchItem) (rest : List WatchItem) → Hearing v streams b n world s i rest → Its v n s world.waiting
its_now v streams b n world s i rest h = its_of v streams b.streams n world s h.known h.at h.begun h.is

message_is : (v : View) (streams : List OpenedStream) (b : Broadcasts) (n : ℕ) (world : OpenedStream) (s : Stream) (i : WatchItem) (rest : List WatchItem) → Hearing v streams b n world s i rest → next_message n v.items ≡ Some i
message_is v streams b n world s i rest h =
    let k = its_now v streams b n world s i rest h in
    next_is n v.items k.its.front i rest
    (subst (λ (x : ℕ). Fed x v.items k.its.front (i ∷ rest)) k.number (subst (Fed k.its.number v.items k.its.front) (k.waits_so ∙ h.waiting) k.its.fed))

spot_is : (v : View) (streams : List OpenedStream) (b : Broadcasts) (n : ℕ) (world : OpenedStream) (s : Stream) (i : WatchItem) (rest : List WatchItem) → Hearing v streams b n world s i rest
    → (w : Watch) → w.place ≡ place.In s.number → (h : Has v (Some s) w) → h.point.spot ≡ member n
spot_is v streams b n world s i rest a w at h =
    let k = its_now v streams b n world s i rest a in
    member_spot v s w s.number k.its a.begun at h ∙ ap (λ (m : ℕ). member m) k.number

-- the streams, where the one that heard it is `f s`, and the others are as they were
with_open : (v : View) (streams : List OpenedStream) (b : Broadcasts) (n : ℕ) (world : OpenedStream) (s : Stream) (i : WatchItem) (rest : List WatchItem) (f : Stream → Stream) → ((t : Stream) → (f t).number ≡ t.number)
    → Hearing v streams b n world s i rest → (f s).phase ≡ s.phase → (f s).stream.range ≡ s.stream.range → next_behind s.stream.next i ≡ (f s).stream.next
    → AreOpen (heard v n) (less streams n world rest) (with_stream s.number f b.streams)
with_open v streams b n world s i rest f keeps h phase range next =
    heard_open v streams b.streams (with_stream s.number f b.streams) n world s (f s) i rest h.known h.is h.waiting h.at h.begun phase range next cases
  where
    cases : (k : ℕ) (t : Stream) → stream_at k (with_stream s.number f b.streams) ≡ Some t → ((k ≡ s.number) × (t ≡ f s)) ⊎ (((k == s.number) ≡ false) × (stream_at k b.streams ≡ Some t))
    cases k t e = by (k == s.number) refl
      where
        by : (c : Bool) → (k == s.number) ≡ c → ((k ≡ s.number) × (t ≡ f s)) ⊎ (((k == s.number) ≡ false) × (stream_at k b.streams ≡ Some t))
        by true q =
            let same = equal k s.number q in
            inl (same, some_is t (f s) (sym e ∙ ap (λ (x : ℕ). stream_at x (with_stream s.number f b.streams)) same ∙ at-with_stream s.number f keeps b.streams s h.at))
        by false q = inr (q, sym (others-with_stream s.number f keeps b.streams (place.In k) q) ∙ e)

-- as it is without it
without_open : (v : View) (streams : List OpenedStream) (b : Broadcasts) (n : ℕ) (world : OpenedStream) (s : Stream) (i : WatchItem) (rest : List WatchItem) → Hearing v streams b n world s i rest
    → AreOpen (heard v n) (less streams n world rest) (without_stream s.number b.streams)
without_open v streams b n world s i rest h own t e = by (own == s.number) refl
  where
    u : Stream
    u = record s { stream = record s.stream { next = next_behind s.stream.next i } }

    all : AreOpen (heard v n) (less streams n world rest) (with_stream s.number (λ t. record t { stream = record t.stream { next = next_behind s.stream.next i } }) b.streams)
    all = with_open v streams b n world s i rest (λ t. record t { stream = record t.stream { next = next_behind s.stream.next i } }) (λ t. refl) h refl refl refl

    by : (c : Bool) → (own == s.number) ≡ c → OkAt (heard v n) (less streams n world rest) own t t.phase
    by true q = none_here t (sym (none_without s.number own b.streams q) ∙ e)
    by false q = all own t (others-with_stream s.number (λ t. record t { stream = record t.stream { next = next_behind s.stream.next i } }) (λ t. refl) b.streams (place.In own) q ∙ without_at s.number own b.streams t e)

-- its next revision doesn't fall with a message
raised : (v : View) (n : ℕ) (o : Option Stream) (w : Watch) (h : Has v o w) → AreUpTo (max h.point.next (stream_next v.proxy n (heard v n).items)) (taken_of v.proxy v.items w.ticket ++ w.queue)
raised v n o w h = up_later h.point.next (max h.point.next (stream_next v.proxy n (heard v n).items)) (taken_of v.proxy v.items w.ticket ++ w.queue) (omega arith) h.bounded

-- ---- the created message

created_next : (u : Upstream) (revision : ℕ) → u.next ≤ (created u revision).next
created_next u revision = elim (u.next == 0) as (λ b. (u.next == 0) ≡ b → u.next ≤ cond b (capped (revision + 1)) u.next) [
  | true ↦ λ e. let z = zero_is u.next e in omega (arith, z)
  | false ↦ λ e. omega arith
] refl
  where
    zero_is : (a : ℕ) → (a == 0) ≡ true → a ≡ 0
    zero_is a e = grind (arith, nat_tests)

-- the start that it decides
abbrev pub MayDecide : View → ℕ → Stream → ℕ → Type 0
MayDecide v n s next = (s.stream.next == 0) ≡ true → next ≤ newest (seen (heard v n).items).store.history + 1

-- a member hears it
created_member : (v : View) (streams : List OpenedStream) (b : Broadcasts) (n : ℕ) (world : OpenedStream) (s u : Stream) (g : Header) (rest : List WatchItem) → Hearing v streams b n world s (message.Created g) rest
    → (o : IsOpen (heard v n) s.number u) → o.number ≡ n → is_begun u.phase ≡ true → s.stream.next ≤ u.stream.next → u.stream.range ≡ s.stream.range → MayDecide v n s u.stream.next
    → (w : Watch) → w.place ≡ place.In s.number → Has v (Some s) w → (k : Has (heard v n) (Some u) (record (decided u.stream.next w) { queue = w.queue })) × (k.point.spot ≡ member n)
created_member v streams b n world s u g rest a o number begun ahead range may w at h =
    let m = stream_next v.proxy n (heard v n).items in
    let here : m ≡ u.stream.next = ap (λ (x : ℕ). stream_next v.proxy x (heard v n).items) (sym number) ∙ open_next (heard v n) s.number u o in
    heard_has v n s.number s u w (message.Created g) w.queue (brought m h.point) h o at begun number (spot_is v streams b n world s (message.Created g) rest a w at h) (message_is v streams b n world s (message.Created g) rest a)
    ahead range (creates g (λ z. subst (λ (x : ℕ). x ≤ newest (seen (heard v n).items).store.history + 1) (sym here) (may (undecided z)))) refl refl refl refl h.given h.cancels (raised v n (Some s) w h)
  where
    zero : (a b c : ℕ) → (a == 0) ≡ true → a ≡ max b c → (c == 0) ≡ true
    zero a b c e f = let l : c ≤ a = omega (arith, f) in at_zero a c e l
      where
        at_zero : (a c : ℕ) → (a == 0) ≡ true → c ≤ a → (c == 0) ≡ true
        at_zero a c e l = grind (arith, nat_tests)

    undecided : (h.point.next == 0) ≡ true → (s.stream.next == 0) ≡ true
    undecided z = zero h.point.next w.next s.stream.next z h.next

same_queue : (n : ℕ) (w : Watch) → record (decided n w) { queue = w.queue } ≡ decided n w
same_queue n w = elim (w.next == 0) as (λ b. record (cond b (record w { start = n; next = n }) w) { queue = w.queue } ≡ cond b (record w { start = n; next = n }) w) [ true ↦ refl | false ↦ refl ]

pub creation_sees : (v : View) (streams : List OpenedStream) (b : Broadcasts) (n : ℕ) (world : OpenedStream) (s : Stream) (g last : Header) (rest : List WatchItem) → Hearing v streams b n world s (message.Created g) rest
    → (s.stream.created ≡ true → (s.stream.next == 0) ≡ false) → MayDecide v n s (created s.stream g.revision).next
    → let d = stands_created b s g last in AreOpen (heard v n) (less streams n world rest) d.streams × Sees (heard v n) d.streams d.watches
creation_sees v streams b n world s g last rest a known' may = by s.stream.created refl
  where
    i : WatchItem
    i = message.Created g

    d : Broadcasts
    d = stands_created b s g last

    Goal : Broadcasts → Type 0
    Goal d = AreOpen (heard v n) (less streams n world rest) d.streams × Sees (heard v n) d.streams d.watches

    f : Stream → Stream
    f = created_stream g.revision

    m : ℕ
    m = (created s.stream g.revision).next

    us : List Stream
    us = with_stream s.number f b.streams

    c : Broadcasts
    c = record b { streams = us; watches = map (member_changed s.number (created_watch m last)) b.watches }

    fresh : s.stream.created ≡ false → Goal (merged s.stream.range c)
    fresh q =
        let its = its_now v streams b n world s i rest a in
        let one = with_open v streams b n world s i rest f (λ t. refl) a refl refl refl in
        let at_u : stream_at s.number us ≡ Some (f s) = at-with_stream s.number f (λ t. refl) b.streams s a.at in
        let o = open_at (heard v n) (less streams n world rest) us s.number (f s) one at_u a.begun in
        let number : o.its.number ≡ n = some_number o.its.number n (sym o.its.kept_is ∙ a.is.kept_is (begun_open s.phase a.begun)) in
        let all : Sees (heard v n) us c.watches =
        on_members v (heard v n) s.number s (created_watch m last) b.streams us a.at
        (λ w at h.
        let k = created_member v streams b n world s (f s) g rest a o.its number a.begun (created_next s.stream g.revision) refl may w at h in
        let placed : (created_watch m last w).place ≡ place.In s.number = told_place last (decided m w) ∙ decided_place m w ∙ at in
        same_has (heard v n) (Some (f s)) (place_stream us (created_watch m last w).place) (created_watch m last w) (ap (place_stream us) placed ∙ at_u)
        (told_named m last w o.its number k.0 k.1))
        (rest_heard v streams b.streams us n s.number world a.known a.is.there a.is.own (λ p d. others-with_stream s.number f (λ t. refl) b.streams p d)) b.watches a.watches in
        let numbers = numbered-map (changed_stream s.number f) (changed-keeps s.number f (λ t. refl)) 0 b.given b.streams a.numbers in (
          fewer_open (heard v n) (less streams n world rest) us (merged s.stream.range c).streams (merged_fewer s.stream.range us b.step) one,
          merged_sees (heard v n) (less streams n world rest) s.stream.range c numbers one all,
        )
      where
        decided_place : (n : ℕ) (w : Watch) → (decided n w).place ≡ w.place
        decided_place n w = elim (w.next == 0) as (λ b. (cond b (record w { start = n; next = n }) w).place ≡ w.place) [ true ↦ refl | false ↦ refl ]

        told_place : (last : Header) (w : Watch) → (told last w).place ≡ w.place
        told_place last w = elim w.told as (λ b. (cond b w (record w { told = true; queue = w.queue ++ message.Created (created_header last w) ∷ [] })).place ≡ w.place) [ true ↦ refl | false ↦ refl ]

        told_named : (m : ℕ) (last : Header) (w : Watch) (o : IsOpen (heard v n) s.number (f s)) → o.number ≡ n → (k : Has (heard v n) (Some (f s)) (record (decided m w) { queue = w.queue })) → k.point.spot ≡ member n
            → Has (heard v n) (Some (f s)) (told last (decided m w))
        told_named m last w o e k spot =
            subst (λ (x : Watch). Has (heard v n) (Some (f s)) (told last x)) (same_queue m w)
            (told_has (heard v n) (f s) last (record (decided m w) { queue = w.queue }) s.number o refl k (spot ∙ ap (λ (x : ℕ). member x) (sym e)))

    -- another one changes nothing
    again : s.stream.created ≡ true → Goal b
    again q =
        let z = known' q in
        let stays : next_behind s.stream.next i ≡ s.stream.next = ap (λ b. cond b (capped (g.revision + 1)) s.stream.next) z in
        let one : AreOpen (heard v n) (less streams n world rest) b.streams =
        heard_open v streams b.streams b.streams n world s s i rest a.known a.is a.waiting a.at a.begun refl refl stays (λ k t e. cases k t e) in
        let o = open_at (heard v n) (less streams n world rest) b.streams s.number s one a.at a.begun in
        let number : o.its.number ≡ n = some_number o.its.number n (sym o.its.kept_is ∙ a.is.kept_is (begun_open s.phase a.begun)) in (
          one,
          each_along (λ w. Has v (place_stream b.streams w.place) w) (λ w. Has (heard v n) (place_stream b.streams w.place) w) (λ w h. every o.its number z w h) b.watches a.watches,
        )
      where
        cases : (k : ℕ) (t : Stream) → stream_at k b.streams ≡ Some t → ((k ≡ s.number) × (t ≡ s)) ⊎ (((k == s.number) ≡ false) × (stream_at k b.streams ≡ Some t))
        cases k t e = by_number (k == s.number) refl
          where
            by_number : (c : Bool) → (k == s.number) ≡ c → ((k ≡ s.number) × (t ≡ s)) ⊎ (((k == s.number) ≡ false) × (stream_at k b.streams ≡ Some t))
            by_number true q = let same = equal k s.number q in inl (same, some_is t s (sym e ∙ ap (λ (x : ℕ). stream_at x b.streams) same ∙ a.at))
            by_number false q = inr (q, e)

        contrary : {A : Type 0} (a b : ℕ) → (a == 0) ≡ false → a ≡ b → (b ≡ 0) → A
        contrary a b e f g = absurd (let z : (a == 0) ≡ true = grind (arith, nat_tests) in cc)

        -- a decided start isn't decided again
        kept : (w : Watch) → (s.stream.next == 0) ≡ false → ((w.next == 0) ≡ true → s.stream.next ≡ 0) → record (decided s.stream.next w) { queue = w.queue } ≡ w
        kept w z fits = elim (w.next == 0) as (λ b. (w.next == 0) ≡ b → record (cond b (record w { start = s.stream.next; next = s.stream.next }) w) { queue = w.queue } ≡ w) [
          | true ↦ λ e. contrary s.stream.next s.stream.next z refl (fits e)
          | false ↦ λ e. refl
        ] refl

        every : (o : IsOpen (heard v n) s.number s) → o.number ≡ n → (s.stream.next == 0) ≡ false → (w : Watch) → Has v (place_stream b.streams w.place) w → Has (heard v n) (place_stream b.streams w.place) w
        every o number z w h =
            elim (is_in s.number w.place) as (λ c. is_in s.number w.place ≡ c → Has (heard v n) (place_stream b.streams w.place) w) [
              | true ↦ λ q.
                  let at = in_place s.number w.place q in
                  let there : place_stream b.streams w.place ≡ Some s = ap (place_stream b.streams) at ∙ a.at in
                  let mine = subst (λ (o : Option Stream). Has v o w) there h in
                  let k = created_member v streams b n world s s g rest a o number a.begun (omega arith) refl (λ y. no_case (s.stream.next == 0) y z) w at mine in
                  same_has (heard v n) (Some s) (place_stream b.streams w.place) w there (subst (Has (heard v n) (Some s)) (kept w z mine.fits.1) k.0)
              | false ↦ λ q. rest_heard v streams b.streams b.streams n s.number world a.known a.is.there a.is.own (λ p d. refl) w q h
            ] refl

    by : (c : Bool) → s.stream.created ≡ c → Goal (stands_created b s g last)
    by true q = subst (λ z. Goal (cond z (merged s.stream.range c) b)) (sym (ap (λ b'. is_begun s.phase && not b') q ∙ and_no (is_begun s.phase))) (again q)
      where
        and_no : (b : Bool) → (b && false) ≡ false
        and_no true = refl
        and_no false = refl
    by false q = subst (λ z. Goal (cond z (merged s.stream.range c) b)) (sym (ap (λ b'. is_begun s.phase && not b') q ∙ ap (λ b'. b' && true) a.begun)) (fresh q)

-- ---- a message that breaks the stream

pub reopened_fewer : (b : Broadcasts) (s : Stream) → Fewer (without_stream s.number b.streams) (reopened b s).streams
reopened_fewer b s = push_fewer (without_stream s.number b.streams) (record { number = b.given + 1; phase = phase.Due b.step; stream = cut s.stream }) (record { since = b.step; due = refl; created = refl })

-- the new stream, and those that stay
pub reopened_at : (b : Broadcasts) (s : Stream) → numbered 0 b.given b.streams ≡ true → stream_at (b.given + 1) (reopened b s).streams ≡ Some (record { number = b.given + 1; phase = phase.Due b.step; stream = cut s.stream })
reopened_at b s n =
    let m = b.given + 1 in
    let rest = without_stream s.number b.streams in
    let again : Stream = record { number = m; phase = phase.Due b.step; stream = cut s.stream } in
    at-push m rest again ∙ ap (λ o. or_stream o (cond (m == m) (Some again) None)) (none_above 0 b.given m rest (numbered-without s.number 0 b.given b.streams n) (omega arith)) ∙ ap (λ c. cond c (Some again) None) (number_itself m)

pub reopened_other : (v : View) (b : Broadcasts) (s : Stream) (w : Watch) → is_in s.number w.place ≡ false → Has v (place_stream b.streams w.place) w → place_stream (reopened b s).streams w.place ≡ place_stream b.streams w.place
reopened_other v b s w d h = still w.place (others-without_stream s.number b.streams w.place d) h.spot
  where
    again : Stream
    again = record { number = b.given + 1; phase = phase.Due b.step; stream = cut s.stream }

    there : (k : ℕ) (o x : Option Stream) → StandsAt v.kept o (place.In k) h.point.spot → or_stream o x ≡ o
    there k None x e = absurd e
    there k (Some t) x e = refl

    still : (p : WatchPlace) → place_stream (without_stream s.number b.streams) p ≡ place_stream b.streams p → StandsAt v.kept (place_stream b.streams p) p h.point.spot → place_stream (reopened b s).streams p ≡ place_stream b.streams p
    still (place.In k) e q =
        at-push k (without_stream s.number b.streams) again ∙ ap (λ o. or_stream o (cond (again.number == k) (Some again) None)) e ∙ there k (stream_at k b.streams) (cond (again.number == k) (Some again) None) q
    still place.Split e q = refl
    still place.Ended e q = refl

pub breaks_sees : (v : View) (streams : List OpenedStream) (b : Broadcasts) (n : ℕ) (world : OpenedStream) (s : Stream) (i : WatchItem) (rest : List WatchItem) → Hearing v streams b n world s i rest
    → breaks v.namespace s.stream.range s.stream.next i ≡ true
    → AreOpen (heard v n) (less streams n world rest) (cut_stream b s).streams × Sees (heard v n) (cut_stream b s).streams (cut_stream b s).watches
breaks_sees v streams b n world s i rest a broken =
    subst Goal (sym (ap (λ c. cond c (record b { streams = without_stream s.number b.streams }) (reopened b s)) (begun_open s.phase a.begun))) (
      fewer_open (heard v n) (less streams n world rest) (without_stream s.number b.streams) (reopened b s).streams (reopened_fewer b s) (without_open v streams b n world s i rest a),
      on_members v (heard v n) s.number s (λ w. record w { place = place.In (b.given + 1) }) b.streams (reopened b s).streams a.at (λ w at h. member_breaks w at h) (λ w d h. other w d h) b.watches a.watches,
    )
  where
    Goal : Broadcasts → Type 0
    Goal d = AreOpen (heard v n) (less streams n world rest) d.streams × Sees (heard v n) d.streams d.watches

    again : Stream
    again = record { number = b.given + 1; phase = phase.Due b.step; stream = cut s.stream }

    member_breaks : (w : Watch) → w.place ≡ place.In s.number → Has v (Some s) w → Has (heard v n) (stream_at (b.given + 1) (reopened b s).streams) (record w { place = place.In (b.given + 1) })
    member_breaks w at h =
        let spot = spot_is v streams b n world s i rest a w at h in
        let its = its_now v streams b n world s i rest a in
        let before : stream_next v.proxy n v.items ≡ s.stream.next = ap (λ (x : ℕ). stream_next v.proxy x v.items) (sym its.number) ∙ open_next v s.number s its.its in
        let ranges : watched_range h.ask.range ≡ s.stream.range = ap (λ (a : WatchAsk). a.range) (sym h.same) ∙ sym h.fits.0 in
        let l = leaves_has v n s w i waits h spot (message_is v streams b n world s i rest a)
        (breaks_off i ((λ j. breaks v.namespace (ranges j) (before j) i) ∙ broken)) in
        same_has (heard v n) (Some again) (stream_at (b.given + 1) (reopened b s).streams) (record w { place = place.In (b.given + 1) }) (reopened_at b s a.numbers)
        (broken_has v n (b.given + 1) b.step s again w refl refl refl l)

    other : (w : Watch) → is_in s.number w.place ≡ false → Has v (place_stream b.streams w.place) w → Has (heard v n) (place_stream (reopened b s).streams w.place) w
    other w d h =
        same_has (heard v n) (place_stream b.streams w.place) (place_stream (reopened b s).streams w.place) w (reopened_other v b s w d h)
        (rest_heard v streams b.streams b.streams n s.number world a.known a.is.there a.is.own (λ p d. refl) w d h)

-- ---- a batch, or a message without events

-- of a stream that was told, its next behind the message
member_given : (v : View) (streams : List OpenedStream) (b : Broadcasts) (n : ℕ) (world : OpenedStream) (s u : Stream) (g : Header) (es us : List Event) (rest : List WatchItem) (q : List WatchItem) → Hearing v streams b n world s (message.Events g es) rest
    → events_without v.namespace es ≡ Ok us → (o : IsOpen (heard v n) s.number u) → o.number ≡ n → is_begun u.phase ≡ true → s.stream.next ≤ u.stream.next → u.stream.range ≡ s.stream.range → (s.stream.next == 0) ≡ false
    → (w : Watch) → w.place ≡ place.In s.number → (h : Has v (Some s) w)
    → h.point.given ++ shown_events h.ask (chosen h.ask h.point.next us) ≡ queued_events (taken_of v.proxy v.items w.ticket ++ q) → OnlyOver h.point.spot q
    → AreUpTo (max h.point.next (stream_next v.proxy n (heard v n).items)) (taken_of v.proxy v.items w.ticket ++ q) → Has (heard v n) (Some u) (record w { queue = q })
member_given v streams b n world s u g es us rest q a e o number begun ahead range z w at h given only upto =
    let m = stream_next v.proxy n (heard v n).items in
    let i = message.Events g es in
    let k = heard_has v n s.number s u w i q (record (brought m h.point) { given = h.point.given ++ shown_events h.ask (chosen h.ask h.point.next us) }) h o at begun number (spot_is v streams b n world s i rest a w at h) (message_is v streams b n world s i rest a)
    ahead range (gives g es us e) refl refl refl refl given only upto in
    subst (Has (heard v n) (Some u)) (kept (w.next == 0) refl) k.0
  where
    contrary : {A : Type 0} (a : ℕ) → (a == 0) ≡ false → a ≡ 0 → A
    contrary a e f = absurd (let z : (a == 0) ≡ true = grind (arith, nat_tests) in cc)

    kept : (c : Bool) → (w.next == 0) ≡ c → record (decided u.stream.next w) { queue = q } ≡ record w { queue = q }
    kept true y = contrary s.stream.next z (h.fits.1 y)
    kept false y = ap (λ c. record (cond c (record w { start = u.stream.next; next = u.stream.next }) w) { queue = q }) y

no_cons : {A : Type 0} (x : Event) (xs : List Event) → x ∷ xs ≡ [] → A
no_cons x xs e = absurd (cc)

-- what it is shown of the batch
shown_is : (v : View) (o : Option Stream) (w : Watch) (own : ℕ) (us : List Event) (h : Has v o w) → own ≡ h.point.next → shown_events w.ask (chosen w.ask own us) ≡ shown_events h.ask (chosen h.ask h.point.next us)
shown_is v o w own us h e = (λ i. shown_events (h.same i) (chosen (h.same i) (e i) us))

map_nil : (b : Bool) (es : List Event) (x : Event) (xs : List Event) (ask : WatchAsk) → shown_events ask es ≡ x ∷ xs → is_nil es ≡ false
map_nil b [] x xs ask e = absurd (cc)
map_nil b (y ∷ es) x xs ask e = refl

batch_member : (v : View) (streams : List OpenedStream) (b : Broadcasts) (n : ℕ) (world : OpenedStream) (s u : Stream) (g : Header) (es us : List Event) (rest : List WatchItem) → Hearing v streams b n world s (message.Events g es) rest
    → events_without v.namespace es ≡ Ok us → (o : IsOpen (heard v n) s.number u) → o.number ≡ n → is_begun u.phase ≡ true → s.stream.next ≤ u.stream.next → u.stream.range ≡ s.stream.range → (s.stream.next == 0) ≡ false
    → (ss : List Stream) → stream_at s.number ss ≡ Some u → (w : Watch) → w.place ≡ place.In s.number → Has v (Some s) w
    → Has (heard v n) (place_stream ss (given_batch s.stream.next g us w).place) (given_batch s.stream.next g us w)
batch_member v streams b n world s u g es us rest a e o number begun ahead range z ss there w at h = by (shown_events w.ask (chosen w.ask own us)) refl
  where
    own : ℕ
    own = max w.next s.stream.next

    next_is' : own ≡ h.point.next
    next_is' = sym h.next

    shown : shown_events w.ask (chosen w.ask own us) ≡ shown_events h.ask (chosen h.ask h.point.next us)
    shown = shown_is v (Some s) w own us h next_is'

    spot : h.point.spot ≡ member n
    spot = spot_is v streams b n world s (message.Events g es) rest a w at h

    placed : place_stream ss w.place ≡ Some u
    placed = ap (place_stream ss) at ∙ there

    by : (cs : List Event) → shown_events w.ask (chosen w.ask own us) ≡ cs → Has (heard v n) (place_stream ss (queued g own cs w).place) (queued g own cs w)
    by [] c =
        same_has (heard v n) (Some u) (place_stream ss w.place) w placed
        (member_given v streams b n world s u g es us rest w.queue a e o number begun ahead range z w at h (ap (λ (l : List Event). h.point.given ++ l) (sym shown ∙ c) ∙ append-nil h.point.given ∙ h.given) h.cancels (raised v n (Some s) w h))
    by (x ∷ xs) c = elim (would_pass w.queue (length (x ∷ xs))) as (λ d. let y : Watch = cond d (record w { next = own; place = place.Split }) (record w { queue = w.queue ++ message.Events g (x ∷ xs) ∷ [] }) in Has (heard v n) (place_stream ss y.place) y) [
      | true ↦
          split_has v n own s w refl
          (leaves_has v n s w (message.Events g es) apart h spot (message_is v streams b n world s (message.Events g es) rest a)
          (splits g es us e (map_nil true (chosen h.ask h.point.next us) x xs h.ask (sym shown ∙ c))))
      | false ↦
          same_has (heard v n) (Some u) (place_stream ss w.place) (record w { queue = w.queue ++ message.Events g (x ∷ xs) ∷ [] }) placed
          (member_given v streams b n world s u g es us rest (w.queue ++ message.Events g (x ∷ xs) ∷ []) a e o number begun ahead range z w at h
          (ap (λ (l : List Event). h.point.given ++ l) (sym shown ∙ c) ∙ ap (λ (l : List Event). l ++ (x ∷ xs)) h.given ∙ sym (queued_push (taken_of v.proxy v.items w.ticket) w.queue (message.Events g (x ∷ xs))))
          (only_push h.point.spot w.queue (message.Events g (x ∷ xs)) h.cancels tt)
          (up_push (max h.point.next (stream_next v.proxy n (heard v n).items)) (taken_of v.proxy v.items w.ticket) w.queue (message.Events g (x ∷ xs)) (raised v n (Some s) w h) tt))
    ]

progress_member : (v : View) (streams : List OpenedStream) (b : Broadcasts) (n : ℕ) (world : OpenedStream) (s u : Stream) (g : Header) (es : List Event) (rest : List WatchItem) → Hearing v streams b n world s (message.Events g es) rest
    → capped (g.revision + 1) ≤ u.stream.next → events_without v.namespace es ≡ Ok [] → (o : IsOpen (heard v n) s.number u) → o.number ≡ n → is_begun u.phase ≡ true → s.stream.next ≤ u.stream.next → u.stream.range ≡ s.stream.range → (s.stream.next == 0) ≡ false
    → (ss : List Stream) → stream_at s.number ss ≡ Some u → (w : Watch) → w.place ≡ place.In s.number → Has v (Some s) w
    → Has (heard v n) (place_stream ss (progressed s.stream.next g w).place) (progressed s.stream.next g w)
progress_member v streams b n world s u g es rest a far e o number begun ahead range z ss there w at h =
    elim (w.ask.progress && nat_le (max w.next s.stream.next) (g.revision + 1)) as (λ d. let y : Watch = cond d (record w { queue = with_progress w.queue (message.Events g []) }) w in Has (heard v n) (place_stream ss y.place) y) [
      | true ↦
          same_has (heard v n) (Some u) (place_stream ss w.place) (record w { queue = with_progress w.queue (message.Events g []) }) placed
          (member_given v streams b n world s u g es [] rest (with_progress w.queue (message.Events g [])) a e o number begun ahead range z w at h
          (append-nil h.point.given ∙ h.given ∙ sym (queued_progress (taken_of v.proxy v.items w.ticket) w.queue g)) (only_progress h.point.spot w.queue g h.cancels)
          (up_progress (max h.point.next (stream_next v.proxy n (heard v n).items)) (taken_of v.proxy v.items w.ticket) w.queue (message.Events g []) (raised v n (Some s) w h) reached))
      | false ↦
          same_has (heard v n) (Some u) (place_stream ss w.place) w placed
          (member_given v streams b n world s u g es [] rest w.queue a e o number begun ahead range z w at h (append-nil h.point.given ∙ h.given) h.cancels (raised v n (Some s) w h))
    ]
  where
    placed : place_stream ss w.place ≡ Some u
    placed = ap (place_stream ss) at ∙ there

    reached : capped (g.revision + 1) ≤ max h.point.next (stream_next v.proxy n (heard v n).items)
    reached =
        let here : stream_next v.proxy n (heard v n).items ≡ u.stream.next = ap (λ (x : ℕ). stream_next v.proxy x (heard v n).items) (sym number) ∙ open_next (heard v n) s.number u o in
        omega (arith, here, far)

-- the broadcasts behind it, before those of equal next become one
record Heard (v : View) (streams : List OpenedStream) (d : Broadcasts) : Type 0 where
  pub numbers : numbered 0 d.given d.streams ≡ true
  pub known : AreOpen v streams d.streams
  pub watches : Sees v d.streams d.watches

merged_heard : (v : View) (streams : List OpenedStream) (range : KeyRange) (d : Broadcasts) → Heard v streams d → AreOpen v streams (merged range d).streams × Sees v (merged range d).streams (merged range d).watches
merged_heard v streams range d h = (fewer_open v streams d.streams (merged range d).streams (merged_fewer range d.streams d.step) h.known, merged_sees v streams range d h.numbers h.known h.watches)

emptied_heard : (v : View) (streams : List OpenedStream) (n : ℕ) (d : Broadcasts) → Heard v streams d → Heard v streams (emptied n d)
emptied_heard v streams n d h = record {
  numbers = elim (has_member n d.watches) as (λ c. let x : Broadcasts = cond c d (record d { streams = emptied_as n d.step d.streams (stream_at n d.streams) }) in numbered 0 x.given x.streams ≡ true) [
    | true ↦ h.numbers
    | false ↦ emptied-numbered n d.step 0 d.given d.streams (stream_at n d.streams) h.numbers
  ];
  known = fewer_open v streams d.streams (emptied n d).streams (emptied_fewer n d) h.known;
  watches = emptied_sees v n d h.watches;
}

-- where the stream is left as `f s`
changed_heard : (v : View) (streams : List OpenedStream) (b : Broadcasts) (n : ℕ) (world : OpenedStream) (s : Stream) (i : WatchItem) (rest : List WatchItem) (f : Stream → Stream) (m : Watch → Watch) → ((t : Stream) → (f t).number ≡ t.number)
    → Hearing v streams b n world s i rest → (f s).phase ≡ s.phase → (f s).stream.range ≡ s.stream.range → next_behind s.stream.next i ≡ (f s).stream.next
    → ((o : IsOpen (heard v n) s.number (f s)) → o.number ≡ n → (w : Watch) → w.place ≡ place.In s.number → Has v (Some s) w → Has (heard v n) (place_stream (with_stream s.number f b.streams) (m w).place) (m w))
    → Heard (heard v n) (less streams n world rest) (record b { streams = with_stream s.number f b.streams; watches = map (member_changed s.number m) b.watches })
changed_heard v streams b n world s i rest f m keeps a phase range next members =
    let us = with_stream s.number f b.streams in
    let one = with_open v streams b n world s i rest f keeps a phase range next in
    let at_u : stream_at s.number us ≡ Some (f s) = at-with_stream s.number f keeps b.streams s a.at in
    let begun : is_begun (f s).phase ≡ true = ap is_begun phase ∙ a.begun in
    let o = open_at (heard v n) (less streams n world rest) us s.number (f s) one at_u begun in
    let number : o.its.number ≡ n = some_number o.its.number n (sym o.its.kept_is ∙ a.is.kept_is (begun_open s.phase a.begun)) in
    record {
      numbers = numbered-map (changed_stream s.number f) (changed-keeps s.number f keeps) 0 b.given b.streams a.numbers;
      known = one;
      watches = on_members v (heard v n) s.number s m b.streams us a.at (λ w at h. members o.its number w at h)
          (rest_heard v streams b.streams us n s.number world a.known a.is.there a.is.own (λ p d. others-with_stream s.number f keeps b.streams p d)) b.watches a.watches;
    }

-- where it is left as it was
same_heard : (v : View) (streams : List OpenedStream) (b : Broadcasts) (n : ℕ) (world : OpenedStream) (s : Stream) (i : WatchItem) (rest : List WatchItem) → Hearing v streams b n world s i rest → next_behind s.stream.next i ≡ s.stream.next
    → ((o : IsOpen (heard v n) s.number s) → o.number ≡ n → (w : Watch) → w.place ≡ place.In s.number → Has v (Some s) w → Has (heard v n) (place_stream b.streams w.place) w)
    → Heard (heard v n) (less streams n world rest) b
same_heard v streams b n world s i rest a next members =
    let one = heard_open v streams b.streams b.streams n world s s i rest a.known a.is a.waiting a.at a.begun refl refl next cases in
    let o = open_at (heard v n) (less streams n world rest) b.streams s.number s one a.at a.begun in
    let number : o.its.number ≡ n = some_number o.its.number n (sym o.its.kept_is ∙ a.is.kept_is (begun_open s.phase a.begun)) in
    record {
      numbers = a.numbers;
      known = one;
      watches = each_along (λ w. Has v (place_stream b.streams w.place) w) (λ w. Has (heard v n) (place_stream b.streams w.place) w) (λ w h. every o.its number w h) b.watches a.watches;
    }
  where
    cases : (k : ℕ) (t : Stream) → stream_at k b.streams ≡ Some t → ((k ≡ s.number) × (t ≡ s)) ⊎ (((k == s.number) ≡ false) × (stream_at k b.streams ≡ Some t))
    cases k t e = by_number (k == s.number) refl
      where
        by_number : (c : Bool) → (k == s.number) ≡ c → ((k ≡ s.number) × (t ≡ s)) ⊎ (((k == s.number) ≡ false) × (stream_at k b.streams ≡ Some t))
        by_number true q = let same = equal k s.number q in inl (same, some_is t s (sym e ∙ ap (λ (x : ℕ). stream_at x b.streams) same ∙ a.at))
        by_number false q = inr (q, e)

    every : (o : IsOpen (heard v n) s.number s) → o.number ≡ n → (w : Watch) → Has v (place_stream b.streams w.place) w → Has (heard v n) (place_stream b.streams w.place) w
    every o number w h =
        elim (is_in s.number w.place) as (λ c. is_in s.number w.place ≡ c → Has (heard v n) (place_stream b.streams w.place) w) [
          | true ↦ λ q.
              let at = in_place s.number w.place q in
              members o number w at (subst (λ (o : Option Stream). Has v o w) (ap (place_stream b.streams) at ∙ a.at) h)
          | false ↦ λ q. rest_heard v streams b.streams b.streams n s.number world a.known a.is.there a.is.own (λ p d. refl) w q h
        ] refl

known_parts : (a b : Bool) → (not a && b) ≡ true → a ≡ false
known_parts true b e = absurd (cc)
known_parts false b e = refl

-- the message that was told, without the namespace
message_heard : (v : View) (streams : List OpenedStream) (b : Broadcasts) (n : ℕ) (world : OpenedStream) (s : Stream) (g : Header) (es us : List Event) (rest : List WatchItem) → Hearing v streams b n world s (message.Events g es) rest
    → events_without v.namespace es ≡ Ok us → is_told s us ≡ true → Heard (heard v n) (less streams n world rest) (delivered_message b s g us)
message_heard v streams b n world s g es (x ∷ xs) rest a e t =
    let z = known_parts (s.stream.next == 0) (is_batch s.stream.range s.stream.next (x ∷ xs)) t in
    let f = advanced (last_revision 0 (x ∷ xs)) in
    emptied_heard (heard v n) (less streams n world rest) s.number (record b { streams = with_stream s.number f b.streams; watches = map (member_changed s.number (given_batch s.stream.next g (x ∷ xs))) b.watches })
    (changed_heard v streams b n world s (message.Events g es) rest f (given_batch s.stream.next g (x ∷ xs)) (λ t. refl) a refl refl (behind es e)
    (λ o number w at h.
    batch_member v streams b n world s (f s) g es (x ∷ xs) rest a e o number a.begun (omega arith) refl z (with_stream s.number f b.streams) (at-with_stream s.number f (λ t. refl) b.streams s a.at) w at h))
  where
    behind : (es : List Event) → events_without v.namespace es ≡ Ok (x ∷ xs) → next_behind s.stream.next (message.Events g es) ≡ max s.stream.next (capped (last_revision 0 (x ∷ xs) + 1))
    behind [] e = no_cons x xs (sym (ok_is [] (x ∷ xs) e))
      where
        ok_is : (a b : List Event) → ◌≡◌ {A = Unwrapped (List Event)} (Ok a) (Ok b) → a ≡ b
        ok_is a b e = cc
    behind (y ∷ ys) e = ap (λ (r : ℕ). max s.stream.next (capped (r + 1))) (sym ((unwraps v.namespace (own_only v.namespace) (own_strips v.namespace) (y ∷ ys) (x ∷ xs) e).last 0))
message_heard v streams b n world s g es [] rest a e t =
    let z = known_parts (s.stream.next == 0) (is_batch s.stream.range s.stream.next []) t in
    let f = advanced g.revision in
    let none = (unwraps v.namespace (own_only v.namespace) (own_strips v.namespace) es [] e).some refl in
    let next : next_behind s.stream.next (message.Events g es) ≡ max s.stream.next (capped (g.revision + 1)) = ap (λ (l : List Event). next_behind s.stream.next (message.Events g l)) none in
    elim (nat_le s.stream.next (g.revision + 1)) as (λ c. nat_le s.stream.next (g.revision + 1) ≡ c
    → Heard (heard v n) (less streams n world rest) (cond c (record b { streams = with_stream s.number f b.streams; watches = map (member_changed s.number (progressed s.stream.next g)) b.watches }) b)) [
      | true ↦ λ q.
          changed_heard v streams b n world s (message.Events g es) rest f (progressed s.stream.next g) (λ t. refl) a refl refl next
          (λ o number w at h.
          progress_member v streams b n world s (f s) g es rest a (omega arith) e o number a.begun (omega arith) refl z (with_stream s.number f b.streams) (at-with_stream s.number f (λ t. refl) b.streams s a.at) w at h)
      | false ↦ λ q.
          same_heard v streams b n world s (message.Events g es) rest a (next ∙ stays s.stream.next g.revision q)
          (λ o number w at h.
          same_has (heard v n) (Some s) (place_stream b.streams w.place) w (ap (place_stream b.streams) at ∙ a.at)
          (member_given v streams b n world s s g es [] rest w.queue a e o number a.begun (omega arith) refl z w at h (append-nil h.point.given ∙ h.given) h.cancels (raised v n (Some s) w h)))
    ] refl
  where
    stays : (m r : ℕ) → nat_le m (r + 1) ≡ false → max m (capped (r + 1)) ≡ m
    stays m r e = let l = above m r e in omega (arith, l)
      where
        above : (m r : ℕ) → nat_le m (r + 1) ≡ false → r + 1 ≤ m
        above m r e = grind (arith, nat_tests)

pub batch_sees : (v : View) (streams : List OpenedStream) (b : Broadcasts) (n : ℕ) (world : OpenedStream) (s : Stream) (g : Header) (es us : List Event) (rest : List WatchItem) → Hearing v streams b n world s (message.Events g es) rest
    → events_without v.namespace es ≡ Ok us → let d = delivered_stream b s g us in AreOpen (heard v n) (less streams n world rest) d.streams × Sees (heard v n) d.streams d.watches
batch_sees v streams b n world s g es us rest a e =
    subst Goal (sym (ap (λ c. cond c (cond (is_told s us) (merged s.stream.range (delivered_message b s g us)) (cut_stream b s)) b) a.begun))
    (elim (is_told s us) as (λ c. is_told s us ≡ c → Goal (cond c (merged s.stream.range (delivered_message b s g us)) (cut_stream b s))) [
      | true ↦ λ q. merged_heard (heard v n) (less streams n world rest) s.stream.range (delivered_message b s g us) (message_heard v streams b n world s g es us rest a e q)
      | false ↦ λ q. breaks_sees v streams b n world s (message.Events g es) rest a (ap (breaks_batch s.stream.range s.stream.next) e ∙ ap not q)
    ] refl)
  where
    Goal : Broadcasts → Type 0
    Goal d = AreOpen (heard v n) (less streams n world rest) d.streams × Sees (heard v n) d.streams d.watches

-- ---- a cancellation

-- of each watch: the others rest, and the members are to end or to join again
abbrev Parts : View → ℕ → Stream → List Stream → ℕ → Header → Watch → Type 0
Parts v n s ss compact g w =
    (is_in s.number w.place ≡ true → (nat_lt (max w.next s.stream.next) compact ≡ true → Has (heard v n) None (ended g compact (leaving s.stream.next w))) × (nat_lt (max w.next s.stream.next) compact ≡ false → Joins (heard v n) (leaving s.stream.next w)))
    × (is_in s.number w.place ≡ false → Has (heard v n) (place_stream ss w.place) w)

record LeftHas (v : View) (streams : List OpenedStream) (ss : List Stream) (l : Left) : Type 0 where
  pub known : AreOpen v streams l.streams
  pub watches : Sees v l.streams l.watches
  pub others : (p : WatchPlace) → is_some (place_stream ss p) ≡ stays_in p → place_stream l.streams p ≡ place_stream ss p

-- where it stands, it is a member
pub stands_in : (v : View) (o : Option Stream) (w : Watch) (h : Has v o w) → (p : WatchPlace) → w.place ≡ p → is_some o ≡ stays_in p
stands_in v o w h p e = by o p (subst (λ (q : WatchPlace). StandsAt v.kept o q h.point.spot) e h.spot)
  where
    by : (o : Option Stream) (p : WatchPlace) → StandsAt v.kept o p h.point.spot → is_some o ≡ stays_in p
    by None (place.In k) s = absurd s
    by (Some t) (place.In k) s = refl
    by o place.Split s = ap is_some s.0
    by o place.Ended s = ap is_some s.0

moved_parts : (v : View) (n : ℕ) (s : Stream) (ss us : List Stream) (compact : ℕ) (g : Header) → ((p : WatchPlace) → is_some (place_stream ss p) ≡ stays_in p → place_stream us p ≡ place_stream ss p) → (w : Watch) → Parts v n s ss compact g w → Parts v n s us compact g w
moved_parts v n s ss us compact g e w h = (h.0, λ d. let k = h.1 d in same_has (heard v n) (place_stream ss w.place) (place_stream us w.place) w (e w.place (stands_in (heard v n) (place_stream ss w.place) w k w.place refl)) k)

left_has : (v : View) (n : ℕ) (streams : List OpenedStream) (s : Stream) (g : Header) (compact step : ℕ) (last : Header) (ss : List Stream) (given : ℕ) (w : Watch) → numbered 0 given ss ≡ true → AreOpen (heard v n) streams ss
    → last.revision ≤ newest (seen (heard v n).items).store.history → Parts v n s ss compact g w → SeatHas (heard v n) streams ss (left_by s.number s.stream.next g compact step last ss given w)
left_has v n streams s g compact step last ss given w m known high h =
    let u = leaving s.stream.next w in
    elim (is_in s.number w.place) as (λ c. is_in s.number w.place ≡ c → SeatHas (heard v n) streams ss (cond c (left_one g compact step last ss given u) (record { streams = ss; given = given; watch = w }))) [
      | true ↦ λ q. elim (nat_lt u.next compact) as (λ c. nat_lt u.next compact ≡ c → SeatHas (heard v n) streams ss (cond c (record { streams = ss; given = given; watch = ended g compact u }) (seated ss given step last u))) [
        | true ↦ λ e. record { numbers = m; known = known; watch = (h.0 q).0 e; others = λ p e. refl }
        | false ↦ λ e. seat_sees (heard v n) streams ss given step last u m known high ((h.0 q).1 e)
      ] refl
      | false ↦ λ q. record { numbers = m; known = known; watch = h.1 q; others = λ p e. refl }
    ] refl

all_left : (v : View) (n : ℕ) (streams : List OpenedStream) (s : Stream) (g : Header) (compact step : ℕ) (last : Header) (ss : List Stream) (given : ℕ) (ws : List Watch) → numbered 0 given ss ≡ true → AreOpen (heard v n) streams ss
    → last.revision ≤ newest (seen (heard v n).items).store.history → EachWatch (Parts v n s ss compact g) ws → LeftHas (heard v n) streams ss (left_over s.number s.stream.next g compact step last ss given ws)
all_left v n streams s g compact step last ss given [] m known high h = record { known = known; watches = tt; others = λ p e. refl }
all_left v n streams s g compact step last ss given (w ∷ ws) m known high h =
    let x = left_by s.number s.stream.next g compact step last ss given w in
    let o = left_has v n streams s g compact step last ss given w m known high h.0 in
    let far = all_left v n streams s g compact step last x.streams x.given ws o.numbers o.known high (each_along (Parts v n s ss compact g) (Parts v n s x.streams compact g) (moved_parts v n s ss x.streams compact g o.others) ws h.1) in
    record {
      known = far.known;
      watches = (
        same_has (heard v n) (place_stream x.streams x.watch.place) (place_stream (left_over s.number s.stream.next g compact step last x.streams x.given ws).streams x.watch.place) x.watch
            (far.others x.watch.place (stands_in (heard v n) (place_stream x.streams x.watch.place) x.watch o.watch x.watch.place refl)) o.watch,
        far.watches,
      );
      others = λ p e. far.others p (ap is_some (o.others p e) ∙ e) ∙ o.others p e;
    }

pub cancellation_sees : (v : View) (streams : List OpenedStream) (b : Broadcasts) (n : ℕ) (world : OpenedStream) (s : Stream) (g : Header) (compact : ℕ) (last : Header) (rest : List WatchItem) → Hearing v streams b n world s (message.Canceled g compact) rest
    → last.revision ≤ newest (seen (heard v n).items).store.history
    → let d = cancelled_stream b s g compact last in AreOpen (heard v n) (less streams n world rest) d.streams × Sees (heard v n) d.streams d.watches
cancellation_sees v streams b n world s g compact last rest a high =
    subst Goal (sym (ap (λ c. cond (not c) b (cond (compact == 0 || s.stream.next == 0) (cut_stream b s) d)) a.begun))
    (elim (compact == 0 || s.stream.next == 0) as (λ c. (compact == 0 || s.stream.next == 0) ≡ c → Goal (cond c (cut_stream b s) d)) [
      | true ↦ λ q. breaks_sees v streams b n world s (message.Canceled g compact) rest a q
      | false ↦ λ q. (all.known, all.watches)
    ] refl)
  where
    Goal : Broadcasts → Type 0
    Goal d = AreOpen (heard v n) (less streams n world rest) d.streams × Sees (heard v n) d.streams d.watches

    ss : List Stream
    ss = without_stream s.number b.streams

    d : Broadcasts
    d = left_as b (left_over s.number s.stream.next g compact b.step last ss b.given b.watches)

    less_than : (a b : ℕ) → nat_lt a b ≡ true → a < b
    less_than a b e = grind (arith, nat_tests)

    at_least : (a b : ℕ) → nat_lt a b ≡ false → b ≤ a
    at_least a b e = grind (arith, nat_tests)

    parts : (w : Watch) → Has v (place_stream b.streams w.place) w → Parts v n s ss compact g w
    parts w h = (
      λ q.
          let at = in_place s.number w.place q in
          let mine = subst (λ (o : Option Stream). Has v o w) (ap (place_stream b.streams) at ∙ a.at) h in
          let spot = spot_is v streams b n world s (message.Canceled g compact) rest a w at mine in
          let told' = message_is v streams b n world s (message.Canceled g compact) rest a in (
            λ e. ended_has v n s w g compact (leaves_has v n s w (message.Canceled g compact) (over g compact) mine spot told' (ends g compact (subst (λ (k : ℕ). k < compact) (sym mine.next) (less_than (max w.next s.stream.next) compact e)))),
            λ e. leaving_joins v n s w (leaves_has v n s w (message.Canceled g compact) joins mine spot told' (leaves g compact (subst (λ (k : ℕ). compact ≤ k) (sym mine.next) (at_least (max w.next s.stream.next) compact e)))),
          ),
      λ q. rest_heard v streams b.streams ss n s.number world a.known a.is.there a.is.own (λ p d. others-without_stream s.number b.streams p d) w q h,
    )

    all : LeftHas (heard v n) (less streams n world rest) ss (left_over s.number s.stream.next g compact b.step last ss b.given b.watches)
    all =
        all_left v n (less streams n world rest) s g compact b.step last ss b.given b.watches (numbered-without s.number 0 b.given b.streams a.numbers) (without_open v streams b n world s (message.Canceled g compact) rest a) high
        (each_along (λ w. Has v (place_stream b.streams w.place) w) (Parts v n s ss compact g) parts b.watches a.watches)
