-- What a watch's story comes to with each small change of it.
use Rattle.std.proofs.Common.{◌≡◌, ℕ, ◌+◌, ◌-◌, ◌≤◌, max, Bool, true, false, cond, ◌&&◌, ◌==◌, List, [], ◌∷◌, ◌++◌, append_assoc, append-nil, Option, None, Some, refl, ap, sym, subst, ◌∙◌, arith}
use Rattle.std.proofs.lemmas.Bool.Decides.{nat_tests}
use Rattle.etcd_types.specs.declared.record.Header.{Header}
use Rattle.etcd_types.specs.declared.request.Request.TheVariants as request
use Rattle.etcd_types.specs.declared.request.WatchAsk.{WatchAsk}
use Rattle.etcd_types.specs.declared.watch.Event.{Event}
use Rattle.etcd_types.specs.declared.watch.WatchItem.{WatchItem}
use Rattle.etcd_types.specs.declared.watch.WatchItem.TheVariants as message
use Rattle.script_text.specs.declared.item.Item.{Item}
use Rattle.script_text.specs.declared.item.Item.TheVariants as item
use Rattle.store_model.specs.History.{newest}
use Rattle.watch_model.specs.declared.place.WatchPlace.{WatchPlace}
use Rattle.watch_model.specs.declared.place.WatchPlace.TheVariants as place
use Rattle.watch_model.specs.declared.stream.StreamPhase.{StreamPhase}
use Rattle.watch_model.specs.declared.stream.StreamPhase.TheVariants as phase
use Rattle.watch_model.specs.Cuts.{ended, leaving}
use Rattle.watch_model.specs.Joining.{created_header, told, told_if, decided, new_watch}
use Rattle.watch_model.specs.Lookups.{next_of, is_begun}
use Rattle.proxy_model.specs.Limits.{capped}
use Rattle.watch_model.specs.Queues.{item_events, queued_events, is_progress, with_progress}
use Rattle.watch_model.specs.State.{Stream, Watch}
use Rattle.watch_laws.proofs.Steps.{no_more_events}
use Rattle.world_model.specs.Answers.{seen}
use Rattle.world_model.specs.Lives.{begins, life, asked_as, next_message, is_stream_of}
use Rattle.world_model.specs.Places.{kept_at}
use Rattle.world_model.specs.State.{Numbered}
use Rattle.held_laws.proofs.Items.{IsSilent, life-append, life_still, taken-append, taken_still, queued-append, asked_still}
use Rattle.proxy_model.specs.Upstream.{Upstream}
use Rattle.world_model.specs.Received.{taken_for}
use Rattle.held_laws.proofs.Places.{taken_of}
use Rattle.received_laws.proofs.Taking.{kept_ask}
use Rattle.watch_stories.specs.Streams.{stream_next}
use Rattle.watch_stories.specs.Stories.{Spot, joins, waits, member, apart, over, Point, first_point, at_spot, brought, Hears, is_joining, concerns, rests, hears, cuts, opens, takes, Story, asks, goes, seats, expects, merges, stands}
use Rattle.watch_stories.proofs.Facts.{View, later, IsOpen, open_next, open_over, open_told}

-- ---- the cancellations among messages are the one that ended it

abbrev pub OnlyOver : Spot → List WatchItem → Type 0
OnlyOver s [] = Unit {0}
OnlyOver s (message.Created h ∷ is) = OnlyOver s is
OnlyOver s (message.Events h es ∷ is) = OnlyOver s is
OnlyOver s (message.Canceled h compaction ∷ is) = (s ≡ over h compaction) × OnlyOver s is

pub only_push : (s : Spot) (is : List WatchItem) (i : WatchItem) → OnlyOver s is → OnlyOver s (i ∷ []) → OnlyOver s (is ++ i ∷ [])
only_push s [] i h k = k
only_push s (message.Created g ∷ is) i h k = only_push s is i h k
only_push s (message.Events g es ∷ is) i h k = only_push s is i h k
only_push s (message.Canceled g c ∷ is) i h k = (h.0, only_push s is i h.1 k)

pub only_progress : (s : Spot) (is : List WatchItem) (g : Header) → OnlyOver s is → OnlyOver s (with_progress is (message.Events g []))
only_progress s [] g h = tt
only_progress s (message.Created f ∷ []) g h = tt
only_progress s (message.Events f [] ∷ []) g h = tt
only_progress s (message.Events f (e ∷ es) ∷ []) g h = tt
only_progress s (message.Canceled f c ∷ []) g h = (h.0, tt)
only_progress s (message.Created f ∷ j ∷ is) g h = only_progress s (j ∷ is) g h
only_progress s (message.Events f es ∷ j ∷ is) g h = only_progress s (j ∷ is) g h
only_progress s (message.Canceled f c ∷ j ∷ is) g h = (h.0, only_progress s (j ∷ is) g h.1)

-- ---- messages without events tell no revision from this one on

abbrev pub ItemUpTo : ℕ → WatchItem → Type 0
ItemUpTo n (message.Created g) = Unit {0}
ItemUpTo n (message.Events g []) = capped (g.revision + 1) ≤ n
ItemUpTo n (message.Events g (e ∷ es)) = Unit {0}
ItemUpTo n (message.Canceled g compaction) = Unit {0}

abbrev pub AreUpTo : ℕ → List WatchItem → Type 0
AreUpTo n [] = Unit {0}
AreUpTo n (i ∷ is) = ItemUpTo n i × AreUpTo n is

item_later : (n m : ℕ) (i : WatchItem) → n ≤ m → ItemUpTo n i → ItemUpTo m i
item_later n m (message.Created g) l h = tt
item_later n m (message.Events g []) l h = omega (arith, l, h)
item_later n m (message.Events g (e ∷ es)) l h = tt
item_later n m (message.Canceled g compaction) l h = tt

pub up_later : (n m : ℕ) (is : List WatchItem) → n ≤ m → AreUpTo n is → AreUpTo m is
up_later n m [] l h = tt
up_later n m (i ∷ is) l h = (item_later n m i l h.0, up_later n m is l h.1)

pub up_push : (n : ℕ) (got q : List WatchItem) (i : WatchItem) → AreUpTo n (got ++ q) → ItemUpTo n i → AreUpTo n (got ++ (q ++ i ∷ []))
up_push n [] [] i h k = (k, tt)
up_push n [] (j ∷ q) i h k = (h.0, up_push n [] q i h.1 k)
up_push n (j ∷ got) q i h k = (h.0, up_push n got q i h.1 k)

pub up_progress : (n : ℕ) (got q : List WatchItem) (i : WatchItem) → AreUpTo n (got ++ q) → ItemUpTo n i → AreUpTo n (got ++ with_progress q i)
up_progress n [] [] i h k = (k, tt)
up_progress n [] (j ∷ []) i h k = elim (is_progress j) as (λ b. AreUpTo n (cond b (i ∷ []) (j ∷ i ∷ []))) [ true ↦ (k, tt) | false ↦ (h.0, (k, tt)) ]
up_progress n [] (j ∷ m ∷ q) i h k = (h.0, up_progress n [] (m ∷ q) i h.1 k)
up_progress n (j ∷ got) q i h k = (h.0, up_progress n got q i h.1 k)

-- where it isn't over there is none
abbrev pub IsOn : Spot → Type 0
IsOn s = (h : Header) (compaction : ℕ) → s ≡ over h compaction → ⊥

pub only_moved : (s t : Spot) (is : List WatchItem) → IsOn s → OnlyOver s is → OnlyOver t is
only_moved s t [] n h = tt
only_moved s t (message.Created g ∷ is) n h = only_moved s t is n h
only_moved s t (message.Events g es ∷ is) n h = only_moved s t is n h
only_moved s t (message.Canceled g c ∷ is) n h = absurd (n g c h.0)

pub only_rest : (s : Spot) (i : WatchItem) (is : List WatchItem) → OnlyOver s (i ∷ is) → OnlyOver s is
only_rest s (message.Created g) is h = h
only_rest s (message.Events g es) is h = h
only_rest s (message.Canceled g c) is h = h.1

member_on : (n : ℕ) (s : Spot) → s ≡ member n → IsOn s
member_on n s e h c f = absurd (let no : member n ≡ over h c = sym e ∙ f in cc)

waits_on : (s : Spot) → s ≡ waits → IsOn s
waits_on s e h c f = absurd (let no : waits ≡ over h c = sym e ∙ f in cc)

apart_on : (s : Spot) → s ≡ apart → IsOn s
apart_on s e h c f = absurd (let no : apart ≡ over h c = sym e ∙ f in cc)

joins_on : (s : Spot) → s ≡ joins → IsOn s
joins_on s e h c f = absurd (let no : joins ≡ over h c = sym e ∙ f in cc)

-- ---- how a watch of a proxy stands to its story

abbrev pub AtPhase : Numbered ℕ → ℕ → StreamPhase → Spot → Type 0
AtPhase kept own phase.Begun s = (n : ℕ) × (kept_at kept own ≡ Some n) × (s ≡ member n)
AtPhase kept own (phase.Due since) s = s ≡ waits
AtPhase kept own (phase.Closing since) s = ⊥

abbrev pub AtStream : Numbered ℕ → ℕ → Option Stream → Spot → Type 0
AtStream kept own None s = ⊥
AtStream kept own (Some t) s = AtPhase kept own t.phase s

abbrev pub StandsAt : Numbered ℕ → Option Stream → WatchPlace → Spot → Type 0
StandsAt kept o (place.In own) s = AtStream kept own o s
StandsAt kept o place.Split s = (o ≡ None) × (s ≡ apart)
StandsAt kept o place.Ended s = (o ≡ None) × ((h : Header) × (compaction : ℕ) × (s ≡ over h compaction))

-- the stream is of its range, and doesn't know its next where the watch's isn't decided
abbrev pub Fits : Option Stream → Watch → Type 0
Fits None w = Unit {0}
Fits (Some s) w = (s.stream.range ≡ w.ask.range) × ((w.next == 0) ≡ true → s.stream.next ≡ 0)

-- the watch, where `o` is the stream that it is a member of
pub record Has (v : View) (o : Option Stream) (w : Watch) : Type 0 where
  pub ask : WatchAsk
  pub asked : asked_as v.proxy w.ticket (life v.proxy v.items) ≡ Some (request.Watch ask)
  pub same : w.ask ≡ kept_ask ask
  pub point : Point
  pub story : Story v.namespace v.proxy w.ticket ask v.items point
  pub start : point.start ≡ w.start
  pub next : point.next ≡ max w.next (next_of o)
  pub zero : (point.start == 0) ≡ (point.next == 0)
  pub told : w.told ≡ true → point.told ≡ true
  pub spot : StandsAt v.kept o w.place point.spot
  pub given : point.given ≡ queued_events (taken_of v.proxy v.items w.ticket ++ w.queue)
  pub bounded : AreUpTo point.next (taken_of v.proxy v.items w.ticket ++ w.queue)
  pub cancels : OnlyOver point.spot w.queue
  pub fits : Fits o w

-- a watch that is to join a stream in this step
pub record Joins (v : View) (w : Watch) : Type 0 where
  pub ask : WatchAsk
  pub asked : asked_as v.proxy w.ticket (life v.proxy v.items) ≡ Some (request.Watch ask)
  pub same : w.ask ≡ kept_ask ask
  pub point : Point
  pub story : Story v.namespace v.proxy w.ticket ask v.items point
  pub start : point.start ≡ w.start
  pub next : point.next ≡ w.next
  pub zero : (point.start == 0) ≡ (point.next == 0)
  pub told : w.told ≡ true → point.told ≡ true
  pub spot : point.spot ≡ joins
  pub given : point.given ≡ queued_events (taken_of v.proxy v.items w.ticket ++ w.queue)
  pub bounded : AreUpTo point.next (taken_of v.proxy v.items w.ticket ++ w.queue)
  pub cancels : OnlyOver point.spot w.queue

-- ---- queues

pub queued_push : (got q : List WatchItem) (i : WatchItem) → queued_events (got ++ (q ++ i ∷ [])) ≡ queued_events (got ++ q) ++ item_events i
queued_push got q i =
    ap queued_events (sym (append_assoc got q (i ∷ []))) ∙ queued-append (got ++ q) (i ∷ []) ∙ ap (λ (l : List Event). queued_events (got ++ q) ++ l) (append-nil (item_events i))

pub queued_none : (got q : List WatchItem) (i : WatchItem) → item_events i ≡ [] → queued_events (got ++ (q ++ i ∷ [])) ≡ queued_events (got ++ q)
queued_none got q i e = queued_push got q i ∙ ap (λ (l : List Event). queued_events (got ++ q) ++ l) e ∙ append-nil (queued_events (got ++ q))

pub queued_progress : (got q : List WatchItem) (g : Header) → queued_events (got ++ with_progress q (message.Events g [])) ≡ queued_events (got ++ q)
queued_progress got q g = queued-append got (with_progress q (message.Events g [])) ∙ ap (λ (l : List Event). queued_events got ++ l) (no_more_events g q) ∙ sym (queued-append got q)

-- ---- numbers

pub zero_brought : (n : ℕ) (x : Point) → (x.start == 0) ≡ (x.next == 0) → ((brought n x).start == 0) ≡ ((brought n x).next == 0)
zero_brought n x z = by (x.start == 0) refl
  where
    ahead : (a b : ℕ) → (a == 0) ≡ false → (max a b == 0) ≡ false
    ahead a b e = let l : a ≤ max a b = omega arith in not_zero a (max a b) e l
      where
        not_zero : (a m : ℕ) → (a == 0) ≡ false → a ≤ m → (m == 0) ≡ false
        not_zero a m e l = grind (arith, nat_tests)

    by : (b : Bool) → (x.start == 0) ≡ b → (cond (x.start == 0) (max x.next n) x.start == 0) ≡ (max x.next n == 0)
    by true e = ap (λ b. (cond b (max x.next n) x.start == 0)) e
    by false e = ap (λ b. (cond b (max x.next n) x.start == 0)) e ∙ e ∙ sym (ahead x.next n (sym z ∙ e))

-- the start and the next of a watch that is brought to this, by the rule of the watch
pub brought_is : (x : Point) (w : Watch) (k n : ℕ) → x.start ≡ w.start → (x.start == 0) ≡ (x.next == 0) → x.next ≡ max w.next k → ((w.next == 0) ≡ true → k ≡ 0) → k ≤ n
    → ((brought n x).start ≡ (decided n w).start) × ((brought n x).next ≡ max (decided n w).next n)
brought_is x w k n s z e zero l = by (w.next == 0) refl
  where
    is_zero : (a : ℕ) → (a == 0) ≡ true → a ≡ 0
    is_zero a e = grind (arith, nat_tests)

    none : (a b c : ℕ) → a ≡ 0 → b ≡ 0 → c ≡ max a b → c ≡ 0
    none a b c e f g = omega (arith, e, f, g)

    zero_is : (a : ℕ) → a ≡ 0 → (a == 0) ≡ true
    zero_is a e = grind (arith, nat_tests)

    some : (a b c : ℕ) → (a == 0) ≡ false → c ≡ max a b → (c == 0) ≡ false
    some a b c e g = let l : a ≤ c = omega (arith, g) in not_zero a c e l
      where
        not_zero : (a m : ℕ) → (a == 0) ≡ false → a ≤ m → (m == 0) ≡ false
        not_zero a m e l = grind (arith, nat_tests)

    by : (b : Bool) → (w.next == 0) ≡ b
        → (cond (x.start == 0) (max x.next n) x.start ≡ (cond (w.next == 0) (record w { start = n; next = n }) w).start) × (max x.next n ≡ max (cond (w.next == 0) (record w { start = n; next = n }) w).next n)
    by true q =
        let nothing : x.next ≡ 0 = none w.next k x.next (is_zero w.next q) (zero q) e in
        let all : max x.next n ≡ n = omega (arith, nothing) in (
          ap (λ b. cond b (max x.next n) x.start) (z ∙ zero_is x.next nothing) ∙ all ∙ sym (ap (λ b. (cond b (record w { start = n; next = n }) w).start) q),
          all ∙ sym (max_same n) ∙ sym (ap (λ b. max (cond b (record w { start = n; next = n }) w).next n) q),
        )
      where
        max_same : (n : ℕ) → max n n ≡ n
        max_same n = omega arith
    by false q = (
      ap (λ b. cond b (max x.next n) x.start) (z ∙ some w.next k x.next q e) ∙ s ∙ sym (ap (λ b. (cond b (record w { start = n; next = n }) w).start) q),
      most x.next w.next k n e l ∙ sym (ap (λ b. max (cond b (record w { start = n; next = n }) w).next n) q),
    )
      where
        most : (a b k n : ℕ) → a ≡ max b k → k ≤ n → max a n ≡ max b n
        most a b k n e l = omega (arith, e, l)

-- ---- it is told that it was created

pub told_has : (v : View) (t : Stream) (last : Header) (w : Watch) (own : ℕ) (o : IsOpen v own t) → t.stream.created ≡ true → (h : Has v (Some t) w) → h.point.spot ≡ member o.number → Has v (Some t) (told last w)
told_has v t last w own o c h m = by w.told refl
  where
    i : WatchItem
    i = message.Created (created_header last w)

    u : Watch
    u = record w { told = true; queue = w.queue ++ i ∷ [] }

    by : (b : Bool) → w.told ≡ b → Has v (Some t) (told last w)
    by true e = subst (Has v (Some t)) (sym (ap (λ b. cond b w u) e)) h
    by false e = subst (Has v (Some t)) (sym (ap (λ b. cond b w u) e)) (record {
      ask = h.ask;
      asked = h.asked;
      same = h.same;
      point = record h.point { told = true };
      story = stands v.items o.number h.point h.story m (open_told v own t o c);
      start = h.start;
      next = h.next;
      zero = h.zero;
      told = λ q. refl;
      spot = h.spot;
      given = h.given ∙ sym (queued_none (taken_of v.proxy v.items w.ticket) w.queue i refl);
      bounded = up_push h.point.next (taken_of v.proxy v.items w.ticket) w.queue i h.bounded tt;
      cancels = only_push h.point.spot w.queue i h.cancels tt;
      fits = h.fits;
    })

pub told_if_has : (v : View) (t : Stream) (b : Bool) (last : Header) (w : Watch) (own : ℕ) (o : IsOpen v own t) → (b ≡ true → t.stream.created ≡ true) → (h : Has v (Some t) w) → h.point.spot ≡ member o.number
    → Has v (Some t) (told_if b last w)
told_if_has v t true last w own o c h m = told_has v t last w own o (c refl) h m
told_if_has v t false last w own o c h m = h

-- ---- an item by which nothing changes

pub not_joining : (kept : Numbered ℕ) (o : Option Stream) (p : WatchPlace) (s : Spot) → StandsAt kept o p s → is_joining s ≡ false
not_joining kept None (place.In own) s h = absurd h
not_joining kept (Some t) (place.In own) s h = by t.phase h
  where
    by : (p : StreamPhase) → AtPhase kept own p s → is_joining s ≡ false
    by phase.Begun k = ap is_joining k.2
    by (phase.Due since) k = ap is_joining k
    by (phase.Closing since) k = absurd k
not_joining kept o place.Split s h = ap is_joining h.1
not_joining kept o place.Ended s h = ap is_joining h.1.2

asked_later : (v : View) (more : List Item) (ticket : ℕ) (ask : WatchAsk) → IsSilent v.proxy more → asked_as v.proxy ticket (life v.proxy v.items) ≡ Some (request.Watch ask)
    → asked_as v.proxy ticket (life v.proxy (v.items ++ more)) ≡ Some (request.Watch ask)
asked_later v more ticket ask s e = ap (asked_as v.proxy ticket) (life_still v.proxy v.items more s) ∙ asked_still v.proxy ticket (life v.proxy v.items) more (request.Watch ask) e

given_later : (v : View) (more : List Item) (ticket : ℕ) (q : List WatchItem) → IsSilent v.proxy more
    → queued_events (taken_of v.proxy v.items ticket ++ q) ≡ queued_events (taken_of v.proxy (v.items ++ more) ticket ++ q)
given_later v more ticket q s = ap (λ (l : List WatchItem). queued_events (l ++ q)) (sym (taken_still v.proxy ticket v.items more s))

up_still : (v : View) (more : List Item) (ticket n : ℕ) (q : List WatchItem) → IsSilent v.proxy more → AreUpTo n (taken_of v.proxy v.items ticket ++ q) → AreUpTo n (taken_of v.proxy (v.items ++ more) ticket ++ q)
up_still v more ticket n q s h = subst (λ (l : List WatchItem). AreUpTo n (l ++ q)) (sym (taken_still v.proxy ticket v.items more s)) h

pub rest_has : (v : View) (i : Item) (o : Option Stream) (w : Watch) → IsSilent v.proxy (i ∷ []) → begins v.proxy i ≡ false → (h : Has v o w) → concerns i h.point.spot ≡ false → Has (later v (i ∷ [])) o w
rest_has v i o w s b h c = record {
  ask = h.ask;
  asked = asked_later v (i ∷ []) w.ticket h.ask s h.asked;
  same = h.same;
  point = h.point;
  story = goes v.items i h.point h.point h.story b (rests i (not_joining v.kept o w.place h.point.spot h.spot) c);
  start = h.start;
  next = h.next;
  zero = h.zero;
  told = h.told;
  spot = h.spot;
  given = h.given ∙ given_later v (i ∷ []) w.ticket w.queue s;
  bounded = up_still v (i ∷ []) w.ticket h.point.next w.queue s h.bounded;
  cancels = h.cancels;
  fits = h.fits;
}

-- ---- it joins a stream

zero_is : (a : ℕ) → (a == 0) ≡ true → a ≡ 0
zero_is a e = grind (arith, nat_tests)

decided_zero : (n : ℕ) (w : Watch) → ((decided n w).next == 0) ≡ true → n ≡ 0
decided_zero n w = elim (w.next == 0) as (λ b. (w.next == 0) ≡ b → ((cond b (record w { start = n; next = n }) w).next == 0) ≡ true → n ≡ 0) [
  | true ↦ λ q e. zero_is n e
  | false ↦ λ q e. absurd (let no : true ≡ false = sym e ∙ q in cc)
] refl

decided_same : {A : Type 0} (f : Watch → A) (n : ℕ) (w : Watch) → ((a b : ℕ) → f (record w { start = a; next = b }) ≡ f w) → f (decided n w) ≡ f w
decided_same f n w k = elim (w.next == 0) as (λ b. f (cond b (record w { start = n; next = n }) w) ≡ f w) [ true ↦ k n n | false ↦ refl ]

joins_next : (a b : ℕ) → a ≡ b → a ≡ max b 0
joins_next a b e = omega (arith, e)

pub seat_has : (v : View) (w : Watch) (s : Stream) (o : IsOpen v s.number s) → is_begun s.phase ≡ true → s.stream.range ≡ w.ask.range → ((w.next == 0) ≡ false → s.stream.next ≤ w.next)
    → ((w.next == 0) ≡ true → s.stream.next ≤ newest (seen v.items).store.history + 1) → Joins v w
    → (h : Has v (Some s) (record (decided s.stream.next w) { place = place.In s.number })) × (h.point.spot ≡ member o.number)
seat_has v w s o b range behind bound j =
    let n = o.number in
    let m = stream_next v.proxy n v.items in
    let x = j.point in
    let here : m ≡ s.stream.next = open_next v s.number s o in
    let moved = brought_is x w 0 m j.start j.zero (joins_next x.next w.next j.next) (λ q. refl) (omega arith) in (
      record {
        ask = j.ask;
        asked = ap (λ (k : ℕ). asked_as v.proxy k (life v.proxy v.items)) (decided_same (λ u. u.ticket) s.stream.next w (λ a b. refl)) ∙ j.asked;
        same = decided_same (λ u. u.ask) s.stream.next w (λ a b. refl) ∙ j.same;
        point = at_spot (member n) (brought m x);
        story =
            subst (λ (k : ℕ). Story v.namespace v.proxy k j.ask v.items (at_spot (member n) (brought m x))) (sym (decided_same (λ u. u.ticket) s.stream.next w (λ a b. refl)))
            (seats v.items n x j.story j.spot (open_over v s.number s j.ask o (range ∙ ap (λ (a : WatchAsk). a.range) j.same))
            (λ z. subst (λ (k : ℕ). k ≤ x.next) (sym here) (subst (λ (k : ℕ). s.stream.next ≤ k) (sym j.next) (behind (ap (λ (k : ℕ). k == 0) (sym j.next) ∙ z))))
            (λ z. subst (λ (k : ℕ). k ≤ newest (seen v.items).store.history + 1) (sym here) (bound (ap (λ (k : ℕ). k == 0) (sym j.next) ∙ z))));
        start = moved.0 ∙ ap (λ (k : ℕ). (decided k w).start) here;
        next = moved.1 ∙ (λ i. max (decided (here i) w).next (here i));
        zero = zero_brought m x j.zero;
        told = λ q. j.told (sym (decided_same (λ u. u.told) s.stream.next w (λ a b. refl)) ∙ q);
        spot = by s.phase b;
        given =
            j.given
            ∙ (λ i. queued_events (taken_of v.proxy v.items (sym (decided_same (λ u. u.ticket) s.stream.next w (λ a b. refl)) i) ++ sym (decided_same (λ u. u.queue) s.stream.next w (λ a b. refl)) i));
        bounded =
            subst (AreUpTo (max x.next m)) (λ i. taken_of v.proxy v.items (sym (decided_same (λ u. u.ticket) s.stream.next w (λ a b. refl)) i) ++ sym (decided_same (λ u. u.queue) s.stream.next w (λ a b. refl)) i)
            (up_later x.next (max x.next m) (taken_of v.proxy v.items w.ticket ++ w.queue) (omega arith) j.bounded);
        cancels = subst (OnlyOver (member n)) (sym (decided_same (λ u. u.queue) s.stream.next w (λ a b. refl))) (only_moved x.spot (member n) w.queue (joins_on x.spot j.spot) j.cancels);
        fits = (range ∙ ap (λ (a : WatchAsk). a.range) (sym (decided_same (λ u. u.ask) s.stream.next w (λ a b. refl))), λ z. decided_zero s.stream.next w z);
      },
      refl,
    )
  where
    by : (q : StreamPhase) → is_begun q ≡ true → AtPhase v.kept s.number q (member o.number)
    by phase.Begun e = (o.number, o.kept_is, refl)
    by (phase.Due since) e = absurd (cc)
    by (phase.Closing since) e = absurd (cc)

pub due_has : (v : View) (w : Watch) (s : Stream) (since : ℕ) → s.phase ≡ phase.Due since → s.stream.range ≡ w.ask.range → ((w.next == 0) ≡ false → s.stream.next ≤ w.next)
    → ((w.next == 0) ≡ true → s.stream.next ≤ newest (seen v.items).store.history + 1) → Joins v w
    → Has v (Some s) (record (decided s.stream.next w) { place = place.In s.number })
due_has v w s since e range behind bound j =
    let m = s.stream.next in
    let x = j.point in
    let moved = brought_is x w 0 m j.start j.zero (joins_next x.next w.next j.next) (λ q. refl) (omega arith) in
    record {
      ask = j.ask;
      asked = ap (λ (k : ℕ). asked_as v.proxy k (life v.proxy v.items)) (decided_same (λ u. u.ticket) m w (λ a b. refl)) ∙ j.asked;
      same = decided_same (λ u. u.ask) m w (λ a b. refl) ∙ j.same;
      point = at_spot waits (brought m x);
      story =
          subst (λ (k : ℕ). Story v.namespace v.proxy k j.ask v.items (at_spot waits (brought m x))) (sym (decided_same (λ u. u.ticket) m w (λ a b. refl)))
          (expects v.items m x j.story j.spot
          (λ z. subst (λ (k : ℕ). m ≤ k) (sym j.next) (behind (ap (λ (k : ℕ). k == 0) (sym j.next) ∙ z)))
          (λ z. bound (ap (λ (k : ℕ). k == 0) (sym j.next) ∙ z)));
      start = moved.0;
      next = moved.1;
      zero = zero_brought m x j.zero;
      told = λ q. j.told (sym (decided_same (λ u. u.told) m w (λ a b. refl)) ∙ q);
      spot = subst (λ (q : StreamPhase). AtPhase v.kept s.number q waits) (sym e) refl;
      given =
          j.given
          ∙ (λ i. queued_events (taken_of v.proxy v.items (sym (decided_same (λ u. u.ticket) m w (λ a b. refl)) i) ++ sym (decided_same (λ u. u.queue) m w (λ a b. refl)) i));
      bounded =
          subst (AreUpTo (max x.next m)) (λ i. taken_of v.proxy v.items (sym (decided_same (λ u. u.ticket) m w (λ a b. refl)) i) ++ sym (decided_same (λ u. u.queue) m w (λ a b. refl)) i)
          (up_later x.next (max x.next m) (taken_of v.proxy v.items w.ticket ++ w.queue) (omega arith) j.bounded);
      cancels = subst (OnlyOver waits) (sym (decided_same (λ u. u.queue) m w (λ a b. refl))) (only_moved x.spot waits w.queue (joins_on x.spot j.spot) j.cancels);
      fits = (range ∙ ap (λ (a : WatchAsk). a.range) (sym (decided_same (λ u. u.ask) m w (λ a b. refl))), λ z. decided_zero m w z);
    }

-- a new stream, due from the watch's own next
pub fresh_has : (v : View) (w : Watch) (s : Stream) (since own : ℕ) → s.phase ≡ phase.Due since → s.stream.range ≡ w.ask.range → s.stream.next ≡ w.next → Joins v w → Has v (Some s) (record w { place = place.In own })
fresh_has v w s since own e range f j =
    let x = j.point in
    let moved = brought_is x w 0 w.next j.start j.zero (joins_next x.next w.next j.next) (λ q. refl) (omega arith) in
    record {
      ask = j.ask;
      asked = j.asked;
      same = j.same;
      point = at_spot waits (brought w.next x);
      story = expects v.items w.next x j.story j.spot (λ z. let n = j.next in omega (arith, n)) (λ z. let k = none x.next w.next z j.next in omega (arith, k));
      start = moved.0 ∙ started (w.next == 0) refl;
      next = let n = j.next in omega (arith, n, f);
      zero = zero_brought w.next x j.zero;
      told = j.told;
      spot = subst (λ (q : StreamPhase). AtPhase v.kept own q waits) (sym e) refl;
      given = j.given;
      bounded = up_later x.next (max x.next w.next) (taken_of v.proxy v.items w.ticket ++ w.queue) (omega arith) j.bounded;
      cancels = only_moved x.spot waits w.queue (joins_on x.spot j.spot) j.cancels;
      fits = (range, λ z. f ∙ zero_is w.next z);
    }
  where
    none : (a b : ℕ) → (a == 0) ≡ true → a ≡ b → b ≡ 0
    none a b e f = grind (arith, nat_tests)

    started : (b : Bool) → (w.next == 0) ≡ b → (cond (w.next == 0) (record w { start = w.next; next = w.next }) w).start ≡ w.start
    started true q =
        ap (λ b. (cond b (record w { start = w.next; next = w.next }) w).start) q ∙ zero_is w.next q
        ∙ sym (sym j.start ∙ zero_is j.point.start (j.zero ∙ ap (λ (k : ℕ). k == 0) j.next ∙ q))
    started false q = ap (λ b. (cond b (record w { start = w.next; next = w.next }) w).start) q

-- ---- a message of its stream

abbrev pub heard : View → ℕ → View
heard v n = later v (item.Delivered n ∷ [])

delivered_silent : (p n : ℕ) → IsSilent p (item.Delivered n ∷ [])
delivered_silent p n = record { takes = λ t. refl; lives = λ l. refl }

-- it stays a member, with this queue
pub heard_has : (v : View) (n own : ℕ) (t u : Stream) (w : Watch) (i : WatchItem) (q : List WatchItem) (y : Point) (h : Has v (Some t) w) (o : IsOpen (heard v n) own u)
    → w.place ≡ place.In own → is_begun u.phase ≡ true → o.number ≡ n → h.point.spot ≡ member n → next_message n v.items ≡ Some i
    → t.stream.next ≤ u.stream.next → u.stream.range ≡ t.stream.range
    → Hears v.namespace h.ask (heard v n).items (stream_next v.proxy n v.items) (stream_next v.proxy n (heard v n).items) h.point i y
    → y.start ≡ (brought (stream_next v.proxy n (heard v n).items) h.point).start → y.next ≡ (brought (stream_next v.proxy n (heard v n).items) h.point).next
    → y.told ≡ h.point.told → y.spot ≡ h.point.spot → y.given ≡ queued_events (taken_of v.proxy v.items w.ticket ++ q) → OnlyOver h.point.spot q → AreUpTo y.next (taken_of v.proxy v.items w.ticket ++ q)
    → (k : Has (heard v n) (Some u) (record (decided u.stream.next w) { queue = q })) × (k.point.spot ≡ member n)
heard_has v n own t u w i q y h o at b number spot message ahead range hear start next told same given only upto =
    let m = stream_next v.proxy n (heard v n).items in
    let here : m ≡ u.stream.next = ap (λ (k : ℕ). stream_next v.proxy k (heard v n).items) (sym number) ∙ open_next (heard v n) own u o in
    let x = h.point in
    let moved = brought_is x w t.stream.next m h.start h.zero h.next h.fits.1 (subst (λ (k : ℕ). t.stream.next ≤ k) (sym here) ahead) in
    let ticket = decided_same (λ u. u.ticket) u.stream.next w (λ a b. refl) in (
      record {
        ask = h.ask;
        asked = ap (λ (k : ℕ). asked_as v.proxy k (life v.proxy (heard v n).items)) ticket ∙ asked_later v (item.Delivered n ∷ []) w.ticket h.ask (delivered_silent v.proxy n) h.asked;
        same = decided_same (λ u. u.ask) u.stream.next w (λ a b. refl) ∙ h.same;
        point = y;
        story =
            subst (λ (k : ℕ). Story v.namespace v.proxy k h.ask (heard v n).items y) (sym ticket)
            (goes v.items (item.Delivered n) x y h.story refl (hears n i y spot message hear));
        start = start ∙ moved.0 ∙ ap (λ (k : ℕ). (decided k w).start) here;
        next = next ∙ moved.1 ∙ (λ i. max (decided (here i) w).next (here i));
        zero = ap (λ (k : ℕ). k == 0) start ∙ zero_brought m x h.zero ∙ sym (ap (λ (k : ℕ). k == 0) next);
        told = λ q. told ∙ h.told (sym (decided_same (λ u. u.told) u.stream.next w (λ a b. refl)) ∙ q);
        spot =
            subst (λ (p : WatchPlace). StandsAt v.kept (Some u) p y.spot) (sym (decided_same (λ u. u.place) u.stream.next w (λ a b. refl) ∙ at))
            (subst (AtPhase v.kept own u.phase) (sym (same ∙ spot)) (by u.phase b));
        given = given ∙ given_later v (item.Delivered n ∷ []) w.ticket q (delivered_silent v.proxy n) ∙ ap (λ (k : ℕ). queued_events (taken_of v.proxy (heard v n).items k ++ q)) (sym ticket);
        bounded = subst (λ (k : ℕ). AreUpTo y.next (taken_of v.proxy (heard v n).items k ++ q)) (sym ticket) (up_still v (item.Delivered n ∷ []) w.ticket y.next q (delivered_silent v.proxy n) upto);
        cancels = subst (λ (s : Spot). OnlyOver s q) (sym same) only;
        fits = (range ∙ h.fits.0 ∙ ap (λ (a : WatchAsk). a.range) (sym (decided_same (λ u. u.ask) u.stream.next w (λ a b. refl))), λ z. decided_zero u.stream.next w z);
      },
      same ∙ spot,
    )
  where
    by : (q : StreamPhase) → is_begun q ≡ true → AtPhase v.kept own q (member n)
    by phase.Begun e = (n, o.kept_is ∙ ap (λ (k : ℕ). Some k) number, refl)
    by (phase.Due since) e = absurd (cc)
    by (phase.Closing since) e = absurd (cc)

-- ---- it leaves its stream, with what that brought

-- the watch once it left, under this next; `y` is where it stands then
pub record Leaves (v : View) (n : ℕ) (t : Stream) (w : Watch) (s : Spot) : Type 0 where
  pub ask : WatchAsk
  pub asked : asked_as v.proxy w.ticket (life v.proxy (heard v n).items) ≡ Some (request.Watch ask)
  pub same : w.ask ≡ kept_ask ask
  pub point : Point
  pub story : Story v.namespace v.proxy w.ticket ask (heard v n).items (at_spot s point)
  pub start : point.start ≡ w.start
  pub next : point.next ≡ max w.next t.stream.next
  pub zero : (point.start == 0) ≡ (point.next == 0)
  pub told : w.told ≡ true → point.told ≡ true
  pub given : point.given ≡ queued_events (taken_of v.proxy (heard v n).items w.ticket ++ w.queue)
  pub bounded : AreUpTo point.next (taken_of v.proxy (heard v n).items w.ticket ++ w.queue)
  pub on : IsOn point.spot
  pub cancels : OnlyOver point.spot w.queue
  pub fits : Fits (Some t) w

pub leaves_has : (v : View) (n : ℕ) (t : Stream) (w : Watch) (i : WatchItem) (s : Spot) (h : Has v (Some t) w) → h.point.spot ≡ member n → next_message n v.items ≡ Some i
    → Hears v.namespace h.ask (heard v n).items (stream_next v.proxy n v.items) (stream_next v.proxy n (heard v n).items) h.point i (at_spot s h.point) → Leaves v n t w s
leaves_has v n t w i s h spot message hear = record {
  ask = h.ask;
  asked = asked_later v (item.Delivered n ∷ []) w.ticket h.ask (delivered_silent v.proxy n) h.asked;
  same = h.same;
  point = h.point;
  story = goes v.items (item.Delivered n) h.point (at_spot s h.point) h.story refl (hears n i (at_spot s h.point) spot message hear);
  start = h.start;
  next = h.next;
  zero = h.zero;
  told = h.told;
  given = h.given ∙ given_later v (item.Delivered n ∷ []) w.ticket w.queue (delivered_silent v.proxy n);
  bounded = up_still v (item.Delivered n ∷ []) w.ticket h.point.next w.queue (delivered_silent v.proxy n) h.bounded;
  on = member_on n h.point.spot spot;
  cancels = h.cancels;
  fits = h.fits;
}

-- split off
pub split_has : (v : View) (n own : ℕ) (t : Stream) (w : Watch) → own ≡ max w.next t.stream.next → Leaves v n t w apart → Has (heard v n) None (record w { next = own; place = place.Split })
split_has v n own t w e l = record {
  ask = l.ask;
  asked = l.asked;
  same = l.same;
  point = at_spot apart l.point;
  story = l.story;
  start = l.start;
  next = let k = l.next in omega (arith, e, k);
  zero = l.zero;
  told = l.told;
  spot = (refl, refl);
  given = l.given;
  bounded = l.bounded;
  cancels = only_moved l.point.spot apart w.queue l.on l.cancels;
  fits = tt;
}

-- given a cancellation
pub ended_has : (v : View) (n : ℕ) (t : Stream) (w : Watch) (g : Header) (compaction : ℕ) → Leaves v n t w (over g compaction) → Has (heard v n) None (ended g compaction (leaving t.stream.next w))
ended_has v n t w g compaction l = record {
  ask = l.ask;
  asked = l.asked;
  same = l.same;
  point = at_spot (over g compaction) l.point;
  story = l.story;
  start = l.start;
  next = let k = l.next in omega (arith, k);
  zero = l.zero;
  told = l.told;
  spot = (refl, (g, compaction, refl));
  given = l.given ∙ sym (queued_none (taken_of v.proxy (heard v n).items w.ticket) w.queue (message.Canceled g compaction) refl);
  bounded = up_push l.point.next (taken_of v.proxy (heard v n).items w.ticket) w.queue (message.Canceled g compaction) l.bounded tt;
  cancels = only_push (over g compaction) w.queue (message.Canceled g compaction) (only_moved l.point.spot (over g compaction) w.queue l.on l.cancels) (refl, tt);
  fits = tt;
}

-- to join again
pub leaving_joins : (v : View) (n : ℕ) (t : Stream) (w : Watch) → Leaves v n t w joins → Joins (heard v n) (leaving t.stream.next w)
leaving_joins v n t w l = record {
  ask = l.ask;
  asked = l.asked;
  same = l.same;
  point = at_spot joins l.point;
  story = l.story;
  start = l.start;
  next = l.next;
  zero = l.zero;
  told = l.told;
  spot = refl;
  given = l.given;
  bounded = l.bounded;
  cancels = only_moved l.point.spot joins w.queue l.on l.cancels;
}

-- its stream is opened again
pub broken_has : (v : View) (n own since : ℕ) (t r : Stream) (w : Watch) → r.stream.next ≡ t.stream.next → r.stream.range ≡ t.stream.range → r.phase ≡ phase.Due since → Leaves v n t w waits → Has (heard v n) (Some r) (record w { place = place.In own })
broken_has v n own since t r w e range f l = record {
  ask = l.ask;
  asked = l.asked;
  same = l.same;
  point = at_spot waits l.point;
  story = l.story;
  start = l.start;
  next = l.next ∙ ap (max w.next) (sym e);
  zero = l.zero;
  told = l.told;
  spot = subst (λ (q : StreamPhase). AtPhase v.kept own q waits) (sym f) refl;
  given = l.given;
  bounded = l.bounded;
  cancels = only_moved l.point.spot waits w.queue l.on l.cancels;
  fits = (range ∙ l.fits.0, λ z. e ∙ l.fits.1 z);
}

-- a cut
pub cut_has : (v : View) (n own since : ℕ) (t r : Stream) (w : Watch) → r.stream.next ≡ t.stream.next → r.stream.range ≡ t.stream.range → r.phase ≡ phase.Due since → (h : Has v (Some t) w) → h.point.spot ≡ member n
    → Has (later v (item.Cut n ∷ [])) (Some r) (record w { place = place.In own })
cut_has v n own since t r w e range f h spot = record {
  ask = h.ask;
  asked = asked_later v (item.Cut n ∷ []) w.ticket h.ask silent h.asked;
  same = h.same;
  point = at_spot waits h.point;
  story = goes v.items (item.Cut n) h.point (at_spot waits h.point) h.story refl (cuts n spot);
  start = h.start;
  next = h.next ∙ ap (max w.next) (sym e);
  zero = h.zero;
  told = h.told;
  spot = subst (λ (q : StreamPhase). AtPhase v.kept own q waits) (sym f) refl;
  given = h.given ∙ given_later v (item.Cut n ∷ []) w.ticket w.queue silent;
  bounded = up_still v (item.Cut n ∷ []) w.ticket h.point.next w.queue silent h.bounded;
  cancels = only_moved h.point.spot waits w.queue (member_on n h.point.spot spot) h.cancels;
  fits = (range ∙ h.fits.0, λ z. e ∙ h.fits.1 z);
}
  where
    silent : IsSilent v.proxy (item.Cut n ∷ [])
    silent = record { takes = λ t. refl; lives = λ l. refl }

-- ---- streams of one range and next become one

pub merged_has : (v : View) (s k : Stream) (own : ℕ) (w : Watch) (a : IsOpen v own s) (b : IsOpen v k.number k) → is_begun k.phase ≡ true → k.stream.next ≡ s.stream.next → k.stream.range ≡ w.ask.range
    → (h : Has v (Some s) w) → h.point.spot ≡ member a.number → Has v (Some k) (record w { place = place.In k.number })
merged_has v s k own w a b begun next range h spot = record {
  ask = h.ask;
  asked = h.asked;
  same = h.same;
  point = at_spot (member b.number) h.point;
  story =
      merges v.items a.number b.number h.point h.story spot (open_over v k.number k h.ask b (range ∙ ap (λ (a : WatchAsk). a.range) h.same))
      (open_next v k.number k b ∙ next ∙ sym (open_next v own s a));
  start = h.start;
  next = h.next ∙ ap (max w.next) (sym next);
  zero = h.zero;
  told = h.told;
  spot = by k.phase begun;
  given = h.given;
  bounded = h.bounded;
  cancels = only_moved h.point.spot (member b.number) w.queue (member_on a.number h.point.spot spot) h.cancels;
  fits = (range, λ z. next ∙ h.fits.1 z);
}
  where
    by : (q : StreamPhase) → is_begun q ≡ true → AtPhase v.kept k.number q (member b.number)
    by phase.Begun e = (b.number, b.kept_is, refl)
    by (phase.Due since) e = absurd (cc)
    by (phase.Closing since) e = absurd (cc)

-- ---- a stream that is due is opened

abbrev pub rekept : View → Numbered ℕ → View
rekept v kept = record v { kept = kept }

pub rekept_has : (v : View) (kept : Numbered ℕ) (o : Option Stream) (w : Watch) → ((own : ℕ) (t : Stream) → w.place ≡ place.In own → o ≡ Some t → is_begun t.phase ≡ true → kept_at kept own ≡ kept_at v.kept own) → Has v o w → Has (rekept v kept) o w
rekept_has v kept o w k h = record {
  ask = h.ask;
  asked = h.asked;
  same = h.same;
  point = h.point;
  story = h.story;
  start = h.start;
  next = h.next;
  zero = h.zero;
  told = h.told;
  spot = by o w.place k h.spot;
  given = h.given;
  bounded = h.bounded;
  cancels = h.cancels;
  fits = h.fits;
}
  where
    by : (o : Option Stream) (p : WatchPlace) → ((own : ℕ) (t : Stream) → p ≡ place.In own → o ≡ Some t → is_begun t.phase ≡ true → kept_at kept own ≡ kept_at v.kept own) → StandsAt v.kept o p h.point.spot → StandsAt kept o p h.point.spot
    by None (place.In own) k s = s
    by (Some t) (place.In own) k s = at_phase t.phase refl s
      where
        at_phase : (q : StreamPhase) → t.phase ≡ q → AtPhase v.kept own q h.point.spot → AtPhase kept own q h.point.spot
        at_phase phase.Begun e s = (s.0, k own t refl refl (ap is_begun e) ∙ s.1, s.2)
        at_phase (phase.Due since) e s = s
        at_phase (phase.Closing since) e s = s
    by o place.Split k s = s
    by o place.Ended k s = s

pub opened_has : (v : View) (i : Item) (kept : Numbered ℕ) (own since : ℕ) (t u : Stream) (w : Watch) (o : IsOpen (rekept (later v (i ∷ [])) kept) own u) → IsSilent v.proxy (i ∷ []) → begins v.proxy i ≡ false → is_stream_of v.proxy o.number i ≡ true
    → w.place ≡ place.In own → t.phase ≡ phase.Due since → is_begun u.phase ≡ true → u.stream ≡ t.stream → Has v (Some t) w → Has (rekept (later v (i ∷ [])) kept) (Some u) w
opened_has v i kept own since t u w o s b is at due begun same h = record {
  ask = h.ask;
  asked = asked_later v (i ∷ []) w.ticket h.ask s h.asked;
  same = h.same;
  point = at_spot (member o.number) h.point;
  story =
      goes v.items i h.point (at_spot (member o.number) h.point) h.story b
      (opens i o.number waiting is (open_over (rekept (later v (i ∷ [])) kept) own u h.ask o (ap (λ (x : Upstream). x.range) same ∙ h.fits.0 ∙ ap (λ (a : WatchAsk). a.range) h.same)) behind);
  start = h.start;
  next = h.next ∙ ap (λ (x : Upstream). max w.next x.next) (sym same);
  zero = h.zero;
  told = h.told;
  spot = subst (λ (p : WatchPlace). StandsAt kept (Some u) p (member o.number)) (sym at) (by u.phase begun);
  given = h.given ∙ given_later v (i ∷ []) w.ticket w.queue s;
  bounded = up_still v (i ∷ []) w.ticket h.point.next w.queue s h.bounded;
  cancels = only_moved h.point.spot (member o.number) w.queue (waits_on h.point.spot waiting) h.cancels;
  fits = (ap (λ (x : Upstream). x.range) same ∙ h.fits.0, λ z. ap (λ (x : Upstream). x.next) same ∙ h.fits.1 z);
}
  where
    by : (q : StreamPhase) → is_begun q ≡ true → AtPhase kept own q (member o.number)
    by phase.Begun e = (o.number, o.kept_is, refl)
    by (phase.Due since) e = absurd (cc)
    by (phase.Closing since) e = absurd (cc)

    waiting : h.point.spot ≡ waits
    waiting = subst (λ (q : StreamPhase). AtPhase v.kept own q h.point.spot) due (subst (λ (p : WatchPlace). StandsAt v.kept (Some t) p h.point.spot) at h.spot)

    behind : stream_next v.proxy o.number (v.items ++ i ∷ []) ≤ h.point.next
    behind =
        let here = open_next (rekept (later v (i ∷ [])) kept) own u o ∙ ap (λ (x : Upstream). x.next) same in
        let n = h.next in
        omega (arith, here, n)

-- ---- a message is taken

taken_life : (v : View) (ticket : ℕ) (i : WatchItem) → life v.proxy (v.items ++ item.Taken v.proxy ticket i ∷ []) ≡ life v.proxy v.items ++ item.Taken v.proxy ticket i ∷ []
taken_life v ticket i = life-append v.proxy [] v.items (item.Taken v.proxy ticket i ∷ [])

abbrev pub taking : View → ℕ → WatchItem → View
taking v ticket i = later v (item.Taken v.proxy ticket i ∷ [])

itself : (p t : ℕ) → (p == p && t == t) ≡ true
itself p t = grind (arith, nat_tests)

other : (p t k : ℕ) → (k == t) ≡ false → (p == p && t == k) ≡ false
other p t k e = grind (arith, nat_tests)

pub taken_itself : (v : View) (ticket : ℕ) (i : WatchItem) → taken_of v.proxy (taking v ticket i).items ticket ≡ taken_of v.proxy v.items ticket ++ i ∷ []
taken_itself v ticket i =
    ap (taken_for v.proxy ticket) (taken_life v ticket i) ∙ taken-append v.proxy ticket (life v.proxy v.items) (item.Taken v.proxy ticket i ∷ [])
    ∙ ap (λ b. taken_of v.proxy v.items ticket ++ (cond b (i ∷ []) [] ++ [])) (itself v.proxy ticket)

pub taken_other : (v : View) (ticket k : ℕ) (i : WatchItem) → (k == ticket) ≡ false → taken_of v.proxy (taking v ticket i).items k ≡ taken_of v.proxy v.items k
taken_other v ticket k i e =
    ap (taken_for v.proxy k) (taken_life v ticket i) ∙ taken-append v.proxy k (life v.proxy v.items) (item.Taken v.proxy ticket i ∷ [])
    ∙ ap (λ b. taken_of v.proxy v.items k ++ (cond b (i ∷ []) [] ++ [])) (other v.proxy ticket k e) ∙ append-nil (taken_of v.proxy v.items k)

asked_taken : (v : View) (ticket k : ℕ) (i : WatchItem) (ask : WatchAsk) → asked_as v.proxy k (life v.proxy v.items) ≡ Some (request.Watch ask) → asked_as v.proxy k (life v.proxy (taking v ticket i).items) ≡ Some (request.Watch ask)
asked_taken v ticket k i ask e = ap (asked_as v.proxy k) (taken_life v ticket i) ∙ asked_still v.proxy k (life v.proxy v.items) (item.Taken v.proxy ticket i ∷ []) (request.Watch ask) e

-- of another watch
pub untaken_has : (v : View) (ticket : ℕ) (i : WatchItem) (o : Option Stream) (w : Watch) → (w.ticket == ticket) ≡ false → Has v o w → Has (taking v ticket i) o w
untaken_has v ticket i o w d h = record {
  ask = h.ask;
  asked = asked_taken v ticket w.ticket i h.ask h.asked;
  same = h.same;
  point = h.point;
  story = goes v.items (item.Taken v.proxy ticket i) h.point h.point h.story refl (rests (item.Taken v.proxy ticket i) (not_joining v.kept o w.place h.point.spot h.spot) refl);
  start = h.start;
  next = h.next;
  zero = h.zero;
  told = h.told;
  spot = h.spot;
  given = h.given ∙ ap (λ (l : List WatchItem). queued_events (l ++ w.queue)) (sym (taken_other v ticket w.ticket i d));
  bounded = subst (λ (l : List WatchItem). AreUpTo h.point.next (l ++ w.queue)) (sym (taken_other v ticket w.ticket i d)) h.bounded;
  cancels = h.cancels;
  fits = h.fits;
}

given_taken : (v : View) (ticket : ℕ) (i : WatchItem) (q is : List WatchItem) → q ≡ i ∷ is → queued_events (taken_of v.proxy v.items ticket ++ q) ≡ queued_events (taken_of v.proxy (taking v ticket i).items ticket ++ is)
given_taken v ticket i q is e =
    ap (λ (l : List WatchItem). queued_events (taken_of v.proxy v.items ticket ++ l)) e ∙ ap queued_events (sym (append_assoc (taken_of v.proxy v.items ticket) (i ∷ []) is))
    ∙ ap (λ (l : List WatchItem). queued_events (l ++ is)) (sym (taken_itself v ticket i))

up_taken : (v : View) (ticket n : ℕ) (i : WatchItem) (q is : List WatchItem) → q ≡ i ∷ is → AreUpTo n (taken_of v.proxy v.items ticket ++ q) → AreUpTo n (taken_of v.proxy (taking v ticket i).items ticket ++ is)
up_taken v ticket n i q is e h =
    subst (AreUpTo n) (ap (λ (l : List WatchItem). taken_of v.proxy v.items ticket ++ l) e ∙ sym (append_assoc (taken_of v.proxy v.items ticket) (i ∷ []) is) ∙ ap (λ (l : List WatchItem). l ++ is) (sym (taken_itself v ticket i))) h

pub took_has : (v : View) (i : WatchItem) (is : List WatchItem) (o : Option Stream) (w : Watch) → w.queue ≡ i ∷ is → Has v o w → Has (taking v w.ticket i) o (record w { queue = is })
took_has v i is o w q h = record {
  ask = h.ask;
  asked = asked_taken v w.ticket w.ticket i h.ask h.asked;
  same = h.same;
  point = h.point;
  story = goes v.items (item.Taken v.proxy w.ticket i) h.point h.point h.story refl (rests (item.Taken v.proxy w.ticket i) (not_joining v.kept o w.place h.point.spot h.spot) refl);
  start = h.start;
  next = h.next;
  zero = h.zero;
  told = h.told;
  spot = h.spot;
  given = h.given ∙ given_taken v w.ticket i w.queue is q;
  bounded = up_taken v w.ticket h.point.next i w.queue is q h.bounded;
  cancels = only_rest h.point.spot i is (subst (OnlyOver h.point.spot) q h.cancels);
  fits = rest o h.fits;
}
  where
    rest : (o : Option Stream) → Fits o w → Fits o (record w { queue = is })
    rest None f = tt
    rest (Some s) f = f

-- a watch that was split off, and of which nothing is left, joins again
pub took_joins : (v : View) (i : WatchItem) (is : List WatchItem) (w : Watch) → w.queue ≡ i ∷ is → w.place ≡ place.Split → Has v None w → Joins (taking v w.ticket i) (record w { queue = is })
took_joins v i is w q at h =
    let s = (subst (λ (p : WatchPlace). StandsAt v.kept None p h.point.spot) at h.spot).1 in
    record {
      ask = h.ask;
      asked = asked_taken v w.ticket w.ticket i h.ask h.asked;
      same = h.same;
      point = at_spot joins h.point;
      story = goes v.items (item.Taken v.proxy w.ticket i) h.point (at_spot joins h.point) h.story refl (takes i s);
      start = h.start;
      next = let n = h.next in omega (arith, n);
      zero = h.zero;
      told = h.told;
      spot = refl;
      given = h.given ∙ given_taken v w.ticket i w.queue is q;
      bounded = up_taken v w.ticket h.point.next i w.queue is q h.bounded;
      cancels = only_moved h.point.spot joins is (apart_on h.point.spot s) (only_rest h.point.spot i is (subst (OnlyOver h.point.spot) q h.cancels));
    }

-- ---- a watch is asked

pub new_joins : (v : View) (ticket : ℕ) (ask : WatchAsk) → let u = later v (item.Asked v.proxy ticket (request.Watch ask) ∷ []) in
    asked_as v.proxy ticket (life v.proxy u.items) ≡ Some (request.Watch ask) → taken_of v.proxy u.items ticket ≡ [] → Joins u (new_watch ticket ask)
new_joins v ticket ask asked none = record {
  ask = ask;
  asked = asked;
  same = refl;
  point = first_point ask;
  story = asks v.items;
  start = refl;
  next = refl;
  zero = refl;
  told = λ q. absurd (cc);
  spot = refl;
  given = ap queued_events (sym (append-nil (taken_of v.proxy (v.items ++ item.Asked v.proxy ticket (request.Watch ask) ∷ []) ticket) ∙ none));
  bounded = subst (AreUpTo ask.start) (sym (append-nil (taken_of v.proxy (v.items ++ item.Asked v.proxy ticket (request.Watch ask) ∷ []) ticket) ∙ none)) tt;
  cancels = tt;
}
