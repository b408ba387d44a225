-- Of each stream that a proxy has begun: what it is in the world, and what the items tell of it.
use Rattle.std.proofs.Common.{◌≡◌, ◌⊎◌, inl, inr, ℕ, ◌+◌, ◌-◌, Bool, true, false, cond, ◌==◌, List, [], ◌∷◌, ◌++◌, map, filter, Option, None, Some, refl, ap, sym, subst, ◌∙◌, arith}
use Rattle.etcd_types.specs.declared.request.WatchAsk.{WatchAsk}
use Rattle.etcd_types.specs.declared.watch.WatchItem.{WatchItem}
use Rattle.proxy_model.specs.Prefixes.{under}
use Rattle.script_text.specs.declared.item.Item.{Item}
use Rattle.script_text.specs.declared.item.Item.TheVariants as item
use Rattle.watch_model.specs.Joining.{watched_range}
use Rattle.watch_model.specs.declared.stream.StreamPhase.{StreamPhase}
use Rattle.watch_model.specs.declared.stream.StreamPhase.TheVariants as phase
use Rattle.watch_model.specs.Lookups.{stream_at, without_stream, is_begun, is_closing}
use Rattle.watch_model.proofs.Streams.{at-map, or_stream, at-push}
use Rattle.watch_laws.proofs.Bounds.{back}
use Rattle.held_laws.proofs.StreamSteps.{without_at}
use Rattle.watch_model.specs.Queues.{is_nil}
use Rattle.watch_model.specs.State.{Stream}
use Rattle.world_model.specs.Lives.{life, pushed_into, delivers}
use Rattle.world_model.specs.Places.{nth, kept_at}
use Rattle.world_model.specs.State.{OpenedStream, Numbered}
use Rattle.watch_stories.specs.Streams.{opened_as, delivered_of, next_behind, next_behind_all, stream_next}
use Rattle.watch_stories.specs.Stories.{IsOver}
use Rattle.watch_stories.proofs.Items.{IsMute, opened_still, next-append, Fed, delivered_is, still_fed, pushed_fed, delivered_fed, next_by}

-- what a proxy's watches are seen by: the items so far, and the proxy's streams by its own numbers
pub record View : Type 0 where
  pub namespace : List ℕ
  pub proxy : ℕ
  pub items : List Item
  pub kept : Numbered ℕ

-- the stream `t`, which the proxy begun under its number `own`
pub record IsOpen (v : View) (own : ℕ) (t : Stream) : Type 0 where
  pub number : ℕ
  pub kept_is : kept_at v.kept own ≡ Some number
  pub opened : WatchAsk
  pub by : opened_as v.proxy number (life v.proxy v.items) ≡ Some opened
  pub range : opened.range ≡ under v.namespace t.stream.range
  pub front : List WatchItem
  pub waiting : List WatchItem
  pub fed : Fed number v.items front waiting
  pub next : next_behind_all opened.start front ≡ t.stream.next
  pub told : t.stream.created ≡ true → is_nil front ≡ false

-- and in the world
pub record IsOfWorld (v : View) (streams : List OpenedStream) (own : ℕ) (t : Stream) : Type 0 where
  pub its : IsOpen v own t
  pub world : OpenedStream
  pub there : nth streams its.number ≡ Some world
  pub own_is : world.own ≡ own
  pub proxy_is : world.proxy ≡ v.proxy
  pub live : world.ended ≡ false → its.waiting ≡ world.waiting

-- by what is done with it: one that is due doesn't stand created
abbrev pub OkAt : View → List OpenedStream → ℕ → Stream → StreamPhase → Type 0
OkAt v streams own t phase.Begun = IsOfWorld v streams own t
OkAt v streams own t (phase.Due since) = t.stream.created ≡ false
OkAt v streams own t (phase.Closing since) = Unit {0}

abbrev pub AreOpen : View → List OpenedStream → List Stream → Type 0
AreOpen v streams ss = (own : ℕ) (t : Stream) → stream_at own ss ≡ Some t → OkAt v streams own t t.phase

begun_ok : (v : View) (streams : List OpenedStream) (own : ℕ) (t : Stream) (p : StreamPhase) → is_begun p ≡ true → OkAt v streams own t p → IsOfWorld v streams own t
begun_ok v streams own t phase.Begun e h = h
begun_ok v streams own t (phase.Due since) e h = absurd (cc)
begun_ok v streams own t (phase.Closing since) e h = absurd (cc)

pub open_at : (v : View) (streams : List OpenedStream) (ss : List Stream) (own : ℕ) (t : Stream) → AreOpen v streams ss → stream_at own ss ≡ Some t → is_begun t.phase ≡ true → IsOfWorld v streams own t
open_at v streams ss own t h e b = begun_ok v streams own t t.phase b (h own t e)

-- what is told of it by items alone
pub open_next : (v : View) (own : ℕ) (t : Stream) (h : IsOpen v own t) → stream_next v.proxy h.number v.items ≡ t.stream.next
open_next v own t h = next_by v.proxy h.number v.items h.opened h.front h.waiting h.by h.fed ∙ h.next

pub open_over : (v : View) (own : ℕ) (t : Stream) (ask : WatchAsk) (h : IsOpen v own t) → t.stream.range ≡ watched_range ask.range → IsOver v.namespace v.proxy ask v.items h.number
open_over v own t ask h e = record { opened = h.opened; by = h.by; range = h.range ∙ ap (under v.namespace) e }

pub open_told : (v : View) (own : ℕ) (t : Stream) (h : IsOpen v own t) → t.stream.created ≡ true → is_nil (delivered_of h.number v.items) ≡ false
open_told v own t h c = ap is_nil (delivered_is h.number v.items h.front h.waiting h.fed) ∙ h.told c

-- ---- more items

abbrev pub later : View → List Item → View
later v more = record v { items = v.items ++ more }

pub opened_on : (v : View) (more : List Item) (n : ℕ) (a : WatchAsk) → life v.proxy (v.items ++ more) ≡ life v.proxy v.items ++ more → opened_as v.proxy n (life v.proxy v.items) ≡ Some a → opened_as v.proxy n (life v.proxy (v.items ++ more)) ≡ Some a
opened_on v more n a l e = ap (opened_as v.proxy n) l ∙ opened_still v.proxy n (life v.proxy v.items) more a e

-- which tell nothing of it
abbrev pub still_open : (v : View) (more : List Item) (own : ℕ) (t : Stream) → life v.proxy (v.items ++ more) ≡ life v.proxy v.items ++ more → (h : IsOpen v own t) → pushed_into h.number more ≡ [] → filter (delivers h.number) more ≡ [] → IsOpen (later v more) own t
still_open v more own t l h e f = record {
  number = h.number;
  kept_is = h.kept_is;
  opened = h.opened;
  by = opened_on v more h.number h.opened l h.by;
  range = h.range;
  front = h.front;
  waiting = h.waiting;
  fed = still_fed h.number v.items more h.front h.waiting e f h.fed;
  next = h.next;
  told = h.told;
}

abbrev pub still_of_world : (v : View) (streams : List OpenedStream) (more : List Item) (own : ℕ) (t : Stream) → life v.proxy (v.items ++ more) ≡ life v.proxy v.items ++ more → (h : IsOfWorld v streams own t)
    → pushed_into h.its.number more ≡ [] → filter (delivers h.its.number) more ≡ [] → IsOfWorld (later v more) streams own t
still_of_world v streams more own t l h e f = record { its = still_open v more own t l h.its e f; world = h.world; there = h.there; own_is = h.own_is; proxy_is = h.proxy_is; live = h.live }

pub mute_open : (v : View) (streams : List OpenedStream) (more : List Item) (ss : List Stream) → life v.proxy (v.items ++ more) ≡ life v.proxy v.items ++ more → IsMute more → AreOpen v streams ss → AreOpen (later v more) streams ss
mute_open v streams more ss l m h own t e = by t.phase (h own t e)
  where
    by : (p : StreamPhase) → OkAt v streams own t p → OkAt (later v more) streams own t p
    by phase.Begun k = still_of_world v streams more own t l k (m.pushes k.its.number) (m.delivers_none k.its.number)
    by (phase.Due since) k = k
    by (phase.Closing since) k = tt

-- a message is pushed into one of the world's streams
abbrev pub pushed_open : (v : View) (n own : ℕ) (i : WatchItem) (t : Stream) → life v.proxy (v.items ++ item.Pushed n i ∷ []) ≡ life v.proxy v.items ++ item.Pushed n i ∷ [] → (h : IsOpen v own t) → h.number ≡ n
    → IsOpen (later v (item.Pushed n i ∷ [])) own t
pushed_open v n own i t l h e = record {
  number = h.number;
  kept_is = h.kept_is;
  opened = h.opened;
  by = opened_on v (item.Pushed n i ∷ []) h.number h.opened l h.by;
  range = h.range;
  front = h.front;
  waiting = h.waiting ++ i ∷ [];
  fed = subst (λ (k : ℕ). Fed h.number (v.items ++ item.Pushed k i ∷ []) h.front (h.waiting ++ i ∷ [])) e (pushed_fed h.number v.items i h.front h.waiting h.fed);
  next = h.next;
  told = h.told;
}

pub some_nil : (xs : List WatchItem) (i : WatchItem) → is_nil (xs ++ i ∷ []) ≡ false
some_nil [] i = refl
some_nil (x ∷ xs) i = refl

-- one is delivered, and leaves the stream so
abbrev pub delivered_open : (v : View) (n own : ℕ) (i : WatchItem) (rest : List WatchItem) (t u : Stream) → life v.proxy (v.items ++ item.Delivered n ∷ []) ≡ life v.proxy v.items ++ item.Delivered n ∷ [] → (h : IsOpen v own t) → h.number ≡ n
    → h.waiting ≡ i ∷ rest → u.stream.range ≡ t.stream.range → next_behind t.stream.next i ≡ u.stream.next → IsOpen (later v (item.Delivered n ∷ [])) own u
delivered_open v n own i rest t u l h e w r m = record {
  number = h.number;
  kept_is = h.kept_is;
  opened = h.opened;
  by = opened_on v (item.Delivered n ∷ []) h.number h.opened l h.by;
  range = h.range ∙ ap (under v.namespace) (sym r);
  front = h.front ++ i ∷ [];
  waiting = rest;
  fed = subst (λ (k : ℕ). Fed h.number (v.items ++ item.Delivered k ∷ []) (h.front ++ i ∷ []) rest) e (delivered_fed h.number v.items i h.front rest (subst (Fed h.number v.items h.front) w h.fed));
  next = next-append h.opened.start h.front (i ∷ []) ∙ ap (λ (k : ℕ). next_behind k i) h.next ∙ m;
  told = λ c. some_nil h.front i;
}

-- ---- streams of the proxy that are left, or aren't begun any more

-- one that is due, and doesn't stand created
pub record IsNew (t : Stream) : Type 0 where
  pub since : ℕ
  pub due : t.phase ≡ phase.Due since
  pub created : t.stream.created ≡ false

-- those that aren't due to be closed were there before, or are due
abbrev pub Fewer : List Stream → List Stream → Type 0
Fewer ss us = (k : ℕ) (t : Stream) → stream_at k us ≡ Some t → is_closing t.phase ≡ false → (stream_at k ss ≡ Some t) ⊎ IsNew t

pub new_ok : (v : View) (streams : List OpenedStream) (own : ℕ) (t : Stream) → IsNew t → OkAt v streams own t t.phase
new_ok v streams own t n = subst (OkAt v streams own t) (sym n.due) n.created

pub fewer_open : (v : View) (streams : List OpenedStream) (ss us : List Stream) → Fewer ss us → AreOpen v streams ss → AreOpen v streams us
fewer_open v streams ss us f h own t e = by t.phase refl
  where
    either : (stream_at own ss ≡ Some t) ⊎ IsNew t → OkAt v streams own t t.phase
    either (inl g) = h own t g
    either (inr n) = new_ok v streams own t n

    by : (p : StreamPhase) → t.phase ≡ p → OkAt v streams own t p
    by phase.Begun q = subst (OkAt v streams own t) q (either (f own t e (ap is_closing q)))
    by (phase.Due since) q = subst (OkAt v streams own t) q (either (f own t e (ap is_closing q)))
    by (phase.Closing since) q = tt

pub fewer_on : (ss us ws : List Stream) → Fewer ss us → Fewer us ws → Fewer ss ws
fewer_on ss us ws f g k t e c = elim (g k t e c) [ inl h ↦ f k t h c | inr n ↦ inr n ]

pub fewer_same : (ss : List Stream) → Fewer ss ss
fewer_same ss k t e c = inl e

pub without_fewer : (n : ℕ) (ss : List Stream) → Fewer ss (without_stream n ss)
without_fewer n ss k t e c = inl (without_at n k ss t e)

none_here : {A : Type 0} (t : Stream) → ◌≡◌ {A = Option Stream} None (Some t) → A
none_here t e = absurd (cc)

some_is : (s t : Stream) → Some s ≡ Some t → s ≡ t
some_is s t e = cc

pub push_fewer : (ss : List Stream) (new : Stream) → IsNew new → Fewer ss (ss ++ new ∷ [])
push_fewer ss new is k t e c = by (stream_at k ss) refl (sym (at-push k ss new) ∙ e)
  where
    last : (b : Bool) → cond b (Some new) None ≡ Some t → (stream_at k ss ≡ Some t) ⊎ IsNew t
    last true g = inr (subst IsNew (some_is new t g) is)
    last false g = none_here t g

    by : (o : Option Stream) → stream_at k ss ≡ o → or_stream o (cond (new.number == k) (Some new) None) ≡ Some t → (stream_at k ss ≡ Some t) ⊎ IsNew t
    by (Some s) f g = inl (f ∙ g)
    by None f g = last (new.number == k) g

-- a change by which some are due to be closed
pub closing_fewer : (f : Stream → Stream) → ((s : Stream) → (f s).number ≡ s.number) → ((s : Stream) → (f s ≡ s) ⊎ (is_closing (f s).phase ≡ true)) → (ss : List Stream) → Fewer ss (map f ss)
closing_fewer f keeps either ss k t e c =
    let b = back f (stream_at k ss) t (sym (at-map f keeps k ss) ∙ e) in
    by b.0 b.1 b.2 (either b.0)
  where
    by : (s : Stream) → stream_at k ss ≡ Some s → f s ≡ t → (f s ≡ s) ⊎ (is_closing (f s).phase ≡ true) → (stream_at k ss ≡ Some t) ⊎ IsNew t
    by s g q (inl same) = inl (g ∙ ap (λ (x : Stream). Some x) (sym same ∙ q))
    by s g q (inr yes') = absurd (let no : true ≡ false = sym yes' ∙ ap (λ (x : Stream). is_closing x.phase) q ∙ c in cc)

-- ---- the world's streams

-- of this number: it is as it was, or has ended
pub record Goes (old : OpenedStream) (streams : List OpenedStream) (n : ℕ) : Type 0 where
  pub stream : OpenedStream
  pub there : nth streams n ≡ Some stream
  pub own : stream.own ≡ old.own
  pub proxy : stream.proxy ≡ old.proxy
  pub live : stream.ended ≡ false → (old.ended ≡ false) × (stream.waiting ≡ old.waiting)

abbrev pub goes_on : (v : View) (streams after : List OpenedStream) (own : ℕ) (t : Stream) (h : IsOfWorld v streams own t) → Goes h.world after h.its.number → IsOfWorld v after own t
goes_on v streams after own t h g = record {
  its = h.its;
  world = g.stream;
  there = g.there;
  own_is = g.own ∙ h.own_is;
  proxy_is = g.proxy ∙ h.proxy_is;
  live = λ l. h.live (g.live l).0 ∙ sym (g.live l).1;
}

pub open_goes : (v : View) (streams after : List OpenedStream) (ss : List Stream) → ((own : ℕ) (t : Stream) (h : IsOfWorld v streams own t) → stream_at own ss ≡ Some t → Goes h.world after h.its.number) → AreOpen v streams ss → AreOpen v after ss
open_goes v streams after ss g h own t e = by t.phase (h own t e)
  where
    by : (p : StreamPhase) → OkAt v streams own t p → OkAt v after own t p
    by phase.Begun k = goes_on v streams after own t k (g own t k e)
    by (phase.Due since) k = k
    by (phase.Closing since) k = tt
