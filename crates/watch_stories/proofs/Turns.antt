-- What a turn of a proxy does to the stories of all watches.
use Rattle.std.proofs.Common.{◌≡◌, ℕ, ◌+◌, ◌≤◌, Bool, true, false, cond, ◌==◌, nat_le, List, [], ◌∷◌, ◌++◌, filter, Option, None, Some, refl, ap, sym, subst, ◌∙◌, arith}
use Rattle.std.proofs.lemmas.Bool.Decides.{nat_tests}
use Rattle.etcd_types.specs.declared.record.Header.{Header}
use Rattle.script_text.specs.declared.item.Item.{Item}
use Rattle.script_text.specs.declared.item.Item.TheVariants as item
use Rattle.store_model.specs.History.{newest}
use Rattle.store_model.specs.State.{State}
use Rattle.watch_model.specs.declared.place.WatchPlace.{WatchPlace}
use Rattle.watch_model.specs.declared.place.WatchPlace.TheVariants as place
use Rattle.watch_model.specs.declared.stream.StreamPhase.{StreamPhase}
use Rattle.watch_model.specs.declared.stream.StreamPhase.TheVariants as phase
use Rattle.watch_model.specs.Lookups.{stream_at, place_stream, numbered}
use Rattle.watch_model.specs.State.{Stream, Watch}
use Rattle.watch_laws.proofs.Seating.{each_along}
use Rattle.core_model.specs.Heard.{later_header}
use Rattle.world_model.specs.Answers.{seen}
use Rattle.world_model.specs.Lives.{life, pushed_into, delivers}
use Rattle.world_model.specs.Places.{nth, with_nth, place_at}
use Rattle.world_model.specs.State.{Place, OpenedStream, World}
use Rattle.core_laws.proofs.Watches.Touches.{side}
use Rattle.held_laws.proofs.Items.{life_still}
use Rattle.held_laws.proofs.Kept.{nth_other}
use Rattle.held_laws.proofs.Links.{StreamOk}
use Rattle.held_laws.proofs.Places.{PlaceOk}
use Rattle.held_laws.proofs.Pushes.{Whole}
use Rattle.held_laws.proofs.Runs.{Kept}
use Rattle.held_laws.proofs.Telling.{own_only}
use Rattle.held_laws.proofs.Worlds.{one_place}
use Rattle.received_laws.proofs.Newest.{NewestOk}
use Rattle.received_laws.proofs.Sights.{AreOfLines, seen_grown}
use Rattle.watch_stories.specs.Streams.{opened_as}
use Rattle.watch_stories.specs.Stories.{member, is_member}
use Rattle.watch_stories.proofs.Facts.{View, later, IsOfWorld, OkAt, AreOpen, still_of_world}
use Rattle.watch_stories.proofs.Points.{AtPhase, StandsAt, Has, rest_has}
use Rattle.watch_stories.proofs.Touching.{Both}

abbrev pub view : List ℕ → List Item → ℕ → Place → View
view namespace items p x = record { namespace = namespace; proxy = p; items = items; kept = x.streams }

abbrev pub BothOf : List ℕ → List Item → List OpenedStream → ℕ → Place → Type 0
BothOf namespace items streams p x = Both (view namespace items p x) streams x.core.watches.streams x.core.watches.watches

-- nothing is told of a stream that isn't opened yet
pub record IsFresh (items : List Item) (n : ℕ) : Type 0 where
  pub pushes : pushed_into n items ≡ []
  pub delivered : filter (delivers n) items ≡ []
  pub unopened : (q : ℕ) → opened_as q n (life q items) ≡ None

pub record WorldHas (namespace : List ℕ) (items : List Item) (w : World) : Type 0 where
  pub places : (p : ℕ) (x : Place) → place_at w p ≡ Some x → BothOf namespace items w.streams p x
  pub fresh : (n : ℕ) → nth w.streams n ≡ None → IsFresh items n

-- ---- other proxies

some_world : (a b : OpenedStream) → Some a ≡ Some b → a ≡ b
some_world a b e = cc

some_number : (a b : ℕ) → Some a ≡ Some b → a ≡ b
some_number a b e = cc

no_case : {A : Type 0} (b : Bool) → b ≡ true → b ≡ false → A
no_case b t f = absurd (let no : true ≡ false = sym t ∙ f in cc)

number_itself : (n : ℕ) → (n == n) ≡ true
number_itself n = grind (arith, nat_tests)

differ : (a b : ℕ) → (a ≡ b → ⊥) → (a == b) ≡ false
differ a b n = by (a == b) refl
  where
    equal : (a b : ℕ) → (a == b) ≡ true → a ≡ b
    equal a b e = grind (arith, nat_tests)

    by : (c : Bool) → (a == b) ≡ c → (a == b) ≡ false
    by true e = absurd (n (equal a b e))
    by false e = e

-- a stream of another proxy is none of this one's
foreign : (v : View) (streams : List OpenedStream) (n k : ℕ) (world : OpenedStream) (t : Stream) → nth streams n ≡ Some world → (v.proxy == world.proxy) ≡ false → (o : IsOfWorld v streams k t) → (n == o.its.number) ≡ false
foreign v streams n k world t there d o =
    differ n o.its.number (λ e.
    let same : o.world ≡ world = some_world o.world world (sym o.there ∙ ap (nth streams) (sym e) ∙ there) in
    no_case (v.proxy == world.proxy) (ap (λ (x : ℕ). x == world.proxy) (sym o.proxy_is ∙ ap (λ (x : OpenedStream). x.proxy) same) ∙ number_itself world.proxy) d)

foreign_spot : (v : View) (streams : List OpenedStream) (ss : List Stream) (n : ℕ) (world : OpenedStream) (w : Watch) → AreOpen v streams ss → nth streams n ≡ Some world → (v.proxy == world.proxy) ≡ false
    → (h : Has v (place_stream ss w.place) w) → is_member n h.point.spot ≡ false
foreign_spot v streams ss n world w known there d h = by w.place h.spot
  where
    at : (k : ℕ) (t : Stream) (p : StreamPhase) → OkAt v streams k t p → AtPhase v.kept k p h.point.spot → is_member n h.point.spot ≡ false
    at k t phase.Begun o s = ap (is_member n) (s.2 ∙ ap (λ (m : ℕ). member m) (some_number s.0 o.its.number (sym s.1 ∙ o.its.kept_is))) ∙ foreign v streams n k world t there d o
    at k t (phase.Due since) o s = ap (is_member n) s
    at k t (phase.Closing since) o s = absurd s

    among : (k : ℕ) (o : Option Stream) → stream_at k ss ≡ o → StandsAt v.kept o (place.In k) h.point.spot → is_member n h.point.spot ≡ false
    among k None e s = absurd s
    among k (Some t) e s = at k t t.phase (known k t e) s

    by : (p : WatchPlace) → StandsAt v.kept (place_stream ss p) p h.point.spot → is_member n h.point.spot ≡ false
    by (place.In k) s = among k (stream_at k ss) refl s
    by place.Split s = ap (is_member n) s.1
    by place.Ended s = ap (is_member n) s.1.2

turned : (a b : ℕ) → (a == b) ≡ false → (b == a) ≡ false
turned a b e = grind (arith, nat_tests)

delivered_life : (q n : ℕ) (items : List Item) → life q (items ++ item.Delivered n ∷ []) ≡ life q items ++ item.Delivered n ∷ []
delivered_life q n items = life_still q items (item.Delivered n ∷ []) (record { takes = λ t. refl; lives = λ l. refl })

cut_life : (q n : ℕ) (items : List Item) → life q (items ++ item.Cut n ∷ []) ≡ life q items ++ item.Cut n ∷ []
cut_life q n items = life_still q items (item.Cut n ∷ []) (record { takes = λ t. refl; lives = λ l. refl })

-- a message of another proxy's stream is delivered
pub foreign_delivered : (v : View) (streams : List OpenedStream) (ss : List Stream) (ws : List Watch) (n : ℕ) (world t : OpenedStream) → nth streams n ≡ Some world → (v.proxy == world.proxy) ≡ false → Both v streams ss ws
    → Both (later v (item.Delivered n ∷ [])) (with_nth streams n t) ss ws
foreign_delivered v streams ss ws n world t there d h = record {
  known = λ own s e. by own s s.phase (h.known own s e);
  watches =
      each_along (λ w. Has v (place_stream ss w.place) w) (λ w. Has (later v (item.Delivered n ∷ [])) (place_stream ss w.place) w)
      (λ w k. rest_has v (item.Delivered n) (place_stream ss w.place) w (record { takes = λ t. refl; lives = λ l. refl }) refl k (foreign_spot v streams ss n world w h.known there d k)) ws h.watches;
}
  where
    by : (own : ℕ) (s : Stream) (p : StreamPhase) → OkAt v streams own s p → OkAt (later v (item.Delivered n ∷ [])) (with_nth streams n t) own s p
    by own s phase.Begun o =
        let apart = foreign v streams n own world s there d o in
        let k = still_of_world v streams (item.Delivered n ∷ []) own s (delivered_life v.proxy n v.items) o refl (ap (λ b. cond b (item.Delivered n ∷ []) []) apart) in
        record { its = k.its; world = o.world; there = nth_other streams n o.its.number world t there (turned n o.its.number apart) ∙ o.there; own_is = o.own_is; proxy_is = o.proxy_is; live = o.live }
    by own s (phase.Due since) o = o
    by own s (phase.Closing since) o = tt

-- or it is cut
pub foreign_cut : (v : View) (streams : List OpenedStream) (ss : List Stream) (ws : List Watch) (n : ℕ) (world t : OpenedStream) → nth streams n ≡ Some world → (v.proxy == world.proxy) ≡ false → Both v streams ss ws
    → Both (later v (item.Cut n ∷ [])) (with_nth streams n t) ss ws
foreign_cut v streams ss ws n world t there d h = record {
  known = λ own s e. by own s s.phase (h.known own s e);
  watches =
      each_along (λ w. Has v (place_stream ss w.place) w) (λ w. Has (later v (item.Cut n ∷ [])) (place_stream ss w.place) w)
      (λ w k. rest_has v (item.Cut n) (place_stream ss w.place) w (record { takes = λ t. refl; lives = λ l. refl }) refl k (foreign_spot v streams ss n world w h.known there d k)) ws h.watches;
}
  where
    by : (own : ℕ) (s : Stream) (p : StreamPhase) → OkAt v streams own s p → OkAt (later v (item.Cut n ∷ [])) (with_nth streams n t) own s p
    by own s phase.Begun o =
        let apart = foreign v streams n own world s there d o in
        let k = still_of_world v streams (item.Cut n ∷ []) own s (cut_life v.proxy n v.items) o refl refl in
        record { its = k.its; world = o.world; there = nth_other streams n o.its.number world t there (turned n o.its.number apart) ∙ o.there; own_is = o.own_is; proxy_is = o.proxy_is; live = o.live }
    by own s (phase.Due since) o = o
    by own s (phase.Closing since) o = tt

-- ---- what is known at a turn

-- what the world of the items has to say of the proxy `p` at the place `x`
pub record At (namespace : List ℕ) (whole : Whole) (items : List Item) (w : World) (p : ℕ) (x : Place) : Type 0 where
  pub kept : Kept namespace whole (own_only namespace) items w
  pub new : NewestOk w
  pub at : place_at w p ≡ Some x
  pub has : WorldHas namespace items w

pub ok_of : (namespace : List ℕ) (whole : Whole) (items : List Item) (w : World) (p : ℕ) (x : Place) → At namespace whole items w p x → PlaceOk namespace whole (own_only namespace) items p x
ok_of namespace whole items w p x a = a.kept.ok.places p x a.at

pub numbers_of : (namespace : List ℕ) (whole : Whole) (items : List Item) (w : World) (p : ℕ) (x : Place) → At namespace whole items w p x → numbered 0 x.core.watches.given x.core.watches.streams ≡ true
numbers_of namespace whole items w p x a = (ok_of namespace whole items w p x a).holds.holds.numbers

pub both_of : (namespace : List ℕ) (whole : Whole) (items : List Item) (w : World) (p : ℕ) (x : Place) → At namespace whole items w p x → BothOf namespace items w.streams p x
both_of namespace whole items w p x a = a.has.places p x a.at

-- no header is above the newest revision behind more items
pub most_of : (namespace : List ℕ) (whole : Whole) (items more : List Item) (w : World) (p : ℕ) (x : Place) (r : ℕ) → At namespace whole items w p x → AreOfLines more → r ≤ newest w.store.history → r ≤ newest (seen (items ++ more)).store.history
most_of namespace whole items more w p x r a l h =
    let grown = seen_grown items more l in
    let same : newest (seen items).store.history ≡ newest w.store.history = ap (λ (t : State). newest t.history) a.kept.told.store in
    omega (arith, grown, same, h)

pub header_of : (namespace : List ℕ) (whole : Whole) (items : List Item) (w : World) (p : ℕ) (x : Place) → At namespace whole items w p x → x.core.header.revision ≤ newest w.store.history
header_of namespace whole items w p x a = (a.new.newest.places p x a.at).header

pub later_most : (high : ℕ) (old new : Header) → old.revision ≤ high → new.revision ≤ high → (later_header old new).revision ≤ high
later_most high old new a b = elim (nat_le old.revision new.revision) as (λ c. (cond c new old).revision ≤ high) [ true ↦ b | false ↦ a ]

-- of a stream of the world that is this proxy's
pub stream_of : (namespace : List ℕ) (whole : Whole) (items : List Item) (w : World) (p : ℕ) (x : Place) (n : ℕ) (s : OpenedStream) → At namespace whole items w p x → nth w.streams n ≡ Some s → s.proxy ≡ p → s.life ≡ x.life
    → StreamOk namespace whole w.store n s (side x.core) x.streams
stream_of namespace whole items w p x n s a there proxy lived =
    let known = a.kept.ok.streams n s there in
    let here : known.place ≡ x = one_place known.place x (sym known.at ∙ ap (place_at w) proxy ∙ a.at) in
    subst (λ (y : Place). StreamOk namespace whole w.store n s (side y.core) y.streams) here (known.ok (lived ∙ ap (λ (y : Place). y.life) (sym here)))
