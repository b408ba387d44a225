-- The stories of all watches of a world, behind each line.
use Rattle.std.proofs.Common.{◌≡◌, ◌⊎◌, inl, inr, ℕ, ◌+◌, ◌-◌, Bool, true, false, cond, ◌&&◌, ◌==◌, List, [], ◌∷◌, ◌++◌, append_assoc, length, filter, Option, None, Some, refl, ap, sym, subst, ◌∙◌, arith}
use Rattle.std.proofs.lemmas.Bool.Decides.{nat_tests}
use Rattle.std.proofs.lemmas.List.Elements.{filter-append}
use Rattle.std.specs.Prelude.{flat_map}
use Rattle.std.specs.BTreeSet.{BTreeSet}
use Rattle.etcd_types.specs.declared.answer.Answer.{Answer}
use Rattle.etcd_types.specs.declared.request.Request.TheVariants as request
use Rattle.etcd_types.specs.declared.request.WatchAsk.{WatchAsk}
use Rattle.etcd_types.specs.declared.watch.WatchItem.{WatchItem}
use Rattle.script_text.specs.declared.item.Item.{Item}
use Rattle.script_text.specs.declared.item.Item.TheVariants as item
use Rattle.store_model.specs.Step.{exec}
use Rattle.watch_model.specs.declared.stream.StreamPhase.{StreamPhase}
use Rattle.watch_model.specs.declared.stream.StreamPhase.TheVariants as phase
use Rattle.watch_model.specs.Lookups.{place_stream}
use Rattle.watch_model.specs.State.{Stream, Watch}
use Rattle.core_model.specs.declared.event.CoreEvent.{CoreEvent}
use Rattle.core_model.specs.declared.event.Outcome.{Outcome}
use Rattle.core_model.specs.State.{Core}
use Rattle.world_model.specs.Gains.{Replies, body_if, line_if, all_fetched, reply_items, taken_items}
use Rattle.world_model.specs.Lives.{begins, life, pushed_into, delivers}
use Rattle.world_model.specs.Places.{nth, with_nth, kept_at, place_at, with_place, is_among, with_posted}
use Rattle.world_model.specs.Sends.{next_stream, new_stream, closed_in}
use Rattle.world_model.specs.Starts.{new_place}
use Rattle.world_model.specs.Streams.{with_message}
use Rattle.world_model.specs.State.{Place, OpenedStream, World, Numbered}
use Rattle.world_laws.proofs.Effects.{Turn, ticks, asks_it, posts_it, calls, opens, closes, answers, loses, delivers as delivers_it, cuts, takes, waits, leaves, Begins, first, again, Effect, starts, sets, refuses_post, executes, expires, applies, pushes, turns}
use Rattle.core_laws.proofs.Watches.Touches.{Side}
use Rattle.held_laws.proofs.Items.{IsSilent, silent-append, life-append, life_still, line_silent, reply_silent, replies_silent}
use Rattle.held_laws.proofs.Kept.{nth_itself, nth_other}
use Rattle.held_laws.proofs.Lines.{start_silent, started_life}
use Rattle.held_laws.proofs.Opens.{last_nth}
use Rattle.held_laws.proofs.Places.{IsFetched, all_so}
use Rattle.held_laws.proofs.Pushes.{Whole}
use Rattle.held_laws.proofs.Runs.{Kept}
use Rattle.held_laws.proofs.Telling.{own_only}
use Rattle.held_laws.proofs.Worlds.{one_place, placed_itself, placed_other, equal}
use Rattle.received_laws.proofs.Newest.{NewestOk}
use Rattle.watch_stories.specs.Stories.{Spot, concerns}
use Rattle.watch_stories.specs.Streams.{or_later, opened_as}
use Rattle.watch_stories.proofs.Facts.{View, later, IsOfWorld, OkAt, still_of_world, pushed_open}
use Rattle.watch_stories.proofs.Items.{IsMute, pushed-append, opened-append}
use Rattle.watch_stories.proofs.Lines.{turn_has, quiet_one, mute_one}
use Rattle.watch_stories.proofs.Places.{AreQuiet, quiet-append, reply_quiet, replies_quiet, rest_both, nth_more}
use Rattle.watch_stories.proofs.Touching.{Both}
use Rattle.watch_stories.proofs.Turns.{view, BothOf, IsFresh, WorldHas}
use Rattle.watch_stories.proofs.Points.{Has, rest_has}
use Rattle.watch_laws.proofs.Seating.{each_along}

-- ---- streams that aren't opened yet

-- these items tell nothing of a stream
pub record Untold (n : ℕ) (items : List Item) : Type 0 where
  pub pushes : pushed_into n items ≡ []
  pub delivered : filter (delivers n) items ≡ []
  pub unopened : (q : ℕ) → opened_as q n items ≡ None

untold-append : (n : ℕ) (xs ys : List Item) → Untold n xs → Untold n ys → Untold n (xs ++ ys)
untold-append n xs ys h k = record {
  pushes = pushed-append n xs ys ∙ ap (λ (l : List WatchItem). l ++ pushed_into n ys) h.pushes ∙ k.pushes;
  delivered = filter-append (delivers n) xs ys ∙ ap (λ (l : List Item). l ++ filter (delivers n) ys) h.delivered ∙ k.delivered;
  unopened = λ q. opened-append q n xs ys ∙ ap (λ o. or_later o (opened_as q n ys)) (h.unopened q) ∙ k.unopened q;
}

body_untold : (n : ℕ) (b : Bool) (p ticket : ℕ) (a : Answer) → Untold n (body_if b p ticket a)
body_untold n false p ticket a = record { pushes = refl; delivered = refl; unopened = λ q. refl }
body_untold n true p ticket a = record { pushes = refl; delivered = refl; unopened = λ q. refl }

reply_untold : (n p : ℕ) (posted : BTreeSet ℕ) (r : ℕ × Answer) → Untold n (reply_items p posted r)
reply_untold n p posted r = untold-append n (item.Reply p r.0 r.1 ∷ []) _ (record { pushes = refl; delivered = refl; unopened = λ q. refl }) (body_untold n (is_among posted r.0) p r.0 r.1)

replies_untold : (n p : ℕ) (posted : BTreeSet ℕ) (got : Replies) → Untold n (flat_map (reply_items p posted) got)
replies_untold n p posted [] = record { pushes = refl; delivered = refl; unopened = λ q. refl }
replies_untold n p posted (r ∷ got) = untold-append n (reply_items p posted r) _ (reply_untold n p posted r) (replies_untold n p posted got)

line_untold : (n : ℕ) (b : Bool) (p ticket : ℕ) (i : WatchItem) → Untold n (line_if b p ticket i)
line_untold n false p ticket i = record { pushes = refl; delivered = refl; unopened = λ q. refl }
line_untold n true p ticket i = record { pushes = refl; delivered = refl; unopened = λ q. refl }

-- the life of each proxy goes on with these, or begins anew
abbrev LifeGoes : List Item → List Item → ℕ → Type 0
LifeGoes items more q = (life q (items ++ more) ≡ life q items ++ more) ⊎ (life q (items ++ more) ≡ [])

still_fresh : (items more : List Item) (n : ℕ) → ((q : ℕ) → LifeGoes items more q) → Untold n more → IsFresh items n → IsFresh (items ++ more) n
still_fresh items more n lives u h = record {
  pushes = pushed-append n items more ∙ ap (λ (l : List WatchItem). l ++ pushed_into n more) h.pushes ∙ u.pushes;
  delivered = filter-append (delivers n) items more ∙ ap (λ (l : List Item). l ++ filter (delivers n) more) h.delivered ∙ u.delivered;
  unopened = λ q. by q (lives q);
}
  where
    by : (q : ℕ) → LifeGoes items more q → opened_as q n (life q (items ++ more)) ≡ None
    by q (inl e) = ap (opened_as q n) e ∙ opened-append q n (life q items) more ∙ ap (λ o. or_later o (opened_as q n more)) (h.unopened q) ∙ u.unopened q
    by q (inr e) = ap (opened_as q n) e

-- ---- own items of a turn

-- the lives go on, and nothing is told of streams that aren't there behind it
record Tells (items : List Item) (w v : World) (own : List Item) : Type 0 where
  pub lives : (q : ℕ) → life q (items ++ own) ≡ life q items ++ own
  pub none : (n : ℕ) → nth v.streams n ≡ None → (nth w.streams n ≡ None) × Untold n own

none_some : {A : Type 0} {X : Type 0} (x : X) → ◌≡◌ {A = Option X} None (Some x) → A
none_some x e = absurd (cc)

-- no stream is set anew
fewer_none : (xs : List OpenedStream) (k n : ℕ) (s t : OpenedStream) → nth xs k ≡ Some s → nth (with_nth xs k t) n ≡ None → ((n == k) ≡ false) × (nth xs n ≡ None)
fewer_none xs k n s t e f = by (n == k) refl
  where
    by : (b : Bool) → (n == k) ≡ b → ((n == k) ≡ false) × (nth xs n ≡ None)
    by true q = none_some t (sym f ∙ ap (nth (with_nth xs k t)) (equal n k q) ∙ nth_itself xs k s t e)
    by false q = (q, sym (nth_other xs k n s t e q) ∙ f)

turned : (a b : ℕ) → (a == b) ≡ false → (b == a) ≡ false
turned a b e = grind (arith, nat_tests)

closed_none : (w : World) (number : ℕ) (o : Option OpenedStream) → nth w.streams number ≡ o → (n : ℕ) → nth (closed_in w number o).streams n ≡ None → nth w.streams n ≡ None
closed_none w number None e n f = f
closed_none w number (Some s) e n f = (fewer_none w.streams number n s (record s { waiting = []; ended = true }) e f).1

push_none : (xs ys : List OpenedStream) (n : ℕ) → nth (xs ++ ys) n ≡ None → nth xs n ≡ None
push_none xs ys n e = by (nth xs n) refl
  where
    by : (o : Option OpenedStream) → nth xs n ≡ o → nth xs n ≡ None
    by None f = f
    by (Some s) f = none_some s (sym e ∙ nth_more xs ys n s f)

number_itself : (n : ℕ) → (n == n) ≡ true
number_itself n = grind (arith, nat_tests)

differ : (a b : ℕ) → (a ≡ b → ⊥) → (a == b) ≡ false
differ a b n = by (a == b) refl
  where
    by : (c : Bool) → (a == b) ≡ c → (a == b) ≡ false
    by true e = absurd (n (equal a b e))
    by false e = e

opened_other : (q p n m via : ℕ) (ask : WatchAsk) → (m == n) ≡ false → opened_as q n (item.Opened p m via (request.Watch ask) ∷ []) ≡ None
opened_other q p n m via ask e = ap (λ b. or_later (cond b (Some ask) None) None) (and_false (p == q) (m == n) e)
  where
    and_false : (a b : Bool) → b ≡ false → (a && b) ≡ false
    and_false true b e = e
    and_false false b e = refl

turn_tells : (items : List Item) (w : World) (p : ℕ) (x : Place) (e : CoreEvent) (o : Outcome) (v : World) (y : Place) (own : List Item) (told : Replies) → Turn w p x e o v y own told → Tells items w v own
turn_tells items w p x _ _ _ _ _ _ (ticks o) = record { lives = λ q. life-append q [] items (item.Ticked p ∷ []); none = λ n e. (e, record { pushes = refl; delivered = refl; unopened = λ q. refl }) }
turn_tells items w p x _ _ _ _ _ _ (asks_it ticket r o free) = record { lives = λ q. life-append q [] items (item.Asked p ticket r ∷ []); none = λ n e. (e, record { pushes = refl; delivered = refl; unopened = λ q. refl }) }
turn_tells items w p x _ _ _ _ _ _ (posts_it ticket path body r o free) = record {
  lives = λ q. life_still q items (item.Posted p ticket path body ∷ item.Asked p ticket r ∷ []) (silent-append q (item.Posted p ticket path body ∷ []) (item.Asked p ticket r ∷ []) (record { takes = λ t. refl; lives = λ l. refl }) (record { takes = λ t. refl; lives = λ l. refl }));
  none = λ n e. (e, record { pushes = refl; delivered = refl; unopened = λ q. refl });
}
turn_tells items w p x _ _ _ _ _ _ (calls own via ticket r) = record { lives = λ q. life-append q [] items (item.Sent p (length w.calls + 1) via ticket r ∷ []); none = λ n e. (e, record { pushes = refl; delivered = refl; unopened = λ q. refl }) }
turn_tells items w p x _ _ _ _ _ _ (opens own via ask) = record {
  lives = λ q. life-append q [] items (item.Opened p (next_stream w) via (request.Watch ask) ∷ []);
  none = λ n e. (
    push_none w.streams (new_stream p x own ∷ []) n e,
    record {
      pushes = refl;
      delivered = refl;
      unopened = λ q. opened_other q p n (next_stream w) via ask (differ (next_stream w) n (λ f. none_some (new_stream p x own) (sym e ∙ ap (nth (w.streams ++ new_stream p x own ∷ [])) (sym f) ∙ last_nth w.streams (new_stream p x own))));
    },
  );
}
turn_tells items w p x _ _ _ _ _ _ (closes own number e) = record {
  lives = λ q. life-append q [] items (item.Closed p number ∷ []);
  none = λ n f. (closed_none w number (nth w.streams number) refl n f, record { pushes = refl; delivered = refl; unopened = λ q. refl });
}
turn_tells items w p x _ _ _ _ _ _ (answers number call a o e f) = record { lives = λ q. life-append q [] items (item.Answered number ∷ []); none = λ n e. (e, record { pushes = refl; delivered = refl; unopened = λ q. refl }) }
turn_tells items w p x _ _ _ _ _ _ (loses number call o e) = record { lives = λ q. life-append q [] items (item.Lost number ∷ []); none = λ n e. (e, record { pushes = refl; delivered = refl; unopened = λ q. refl }) }
turn_tells items w p x _ _ _ _ _ _ (delivers_it number s i rest o there proxy live lived waiting) = record {
  lives = λ q. life-append q [] items (item.Delivered number ∷ []);
  none = λ n e.
      let k = fewer_none w.streams number n s (record s { waiting = rest }) there e in
      (k.1, record { pushes = refl; delivered = ap (λ b. cond b (item.Delivered number ∷ []) []) (turned n number k.0); unopened = λ q. refl });
}
turn_tells items w p x _ _ _ _ _ _ (cuts number s o there proxy live lived) = record {
  lives = λ q. life-append q [] items (item.Cut number ∷ []);
  none = λ n e. ((fewer_none w.streams number n s (record s { waiting = []; ended = true }) there e).1, record { pushes = refl; delivered = refl; unopened = λ q. refl });
}
turn_tells items w p x _ _ _ _ _ _ (takes ticket i) = record {
  lives = λ q. life-append q [] items (taken_items p x.posted ticket i) ∙ (line_silent q (is_among x.posted ticket) p ticket i).lives (life q items ++ item.Taken p ticket i ∷ []) ∙ append_assoc (life q items) (item.Taken p ticket i ∷ []) (line_if (is_among x.posted ticket) p ticket i);
  none = λ n e. (e, untold-append n (item.Taken p ticket i ∷ []) (line_if (is_among x.posted ticket) p ticket i) (record { pushes = refl; delivered = refl; unopened = λ q. refl }) (line_untold n (is_among x.posted ticket) p ticket i));
}
turn_tells items w p x _ _ _ _ _ _ (waits ticket o n) = record { lives = λ q. life-append q [] items (item.Pending p ticket ∷ []); none = λ n e. (e, record { pushes = refl; delivered = refl; unopened = λ q. refl }) }
turn_tells items w p x _ _ _ _ _ _ (leaves ticket o) = record { lives = λ q. life-append q [] items (item.Left p ticket ∷ []); none = λ n e. (e, record { pushes = refl; delivered = refl; unopened = λ q. refl }) }

-- ---- the world, where one of the places is put anew

placed_has : (namespace : List ℕ) (items : List Item) (w v : World) (p : ℕ) (z : Place) → v.places ≡ w.places → BothOf namespace items v.streams p z
    → ((q : ℕ) (y : Place) → (q == p) ≡ false → place_at w q ≡ Some y → BothOf namespace items v.streams q y) → ((n : ℕ) → nth v.streams n ≡ None → IsFresh items n) → WorldHas namespace items (with_place v p z)
placed_has namespace items w v p z same itself others fresh = record { places = λ q y e. by q y e (q == p) refl; fresh = fresh }
  where
    by : (q : ℕ) (y : Place) → place_at (with_place v p z) q ≡ Some y → (b : Bool) → (q == p) ≡ b → BothOf namespace items v.streams q y
    by q y e true n =
        let there : q ≡ p = equal q p n in
        let one : z ≡ y = one_place z y (sym (placed_itself w v p z) ∙ ap (place_at (with_place v p z)) (sym there) ∙ e) in
        subst (λ (k : ℕ). BothOf namespace items v.streams k y) (sym there) (subst (BothOf namespace items v.streams p) one itself)
    by q y e false n = others q y n (sym (placed_other w v p q z same n) ∙ e)

-- the place once the replies were fetched
fetched_both : (namespace : List ℕ) (items : List Item) (streams : List OpenedStream) (p : ℕ) (y z : Place) → IsFetched y z → BothOf namespace items streams p y → BothOf namespace items streams p z
fetched_both namespace items streams p y z f h =
    subst (λ (k : Numbered ℕ). Both (record { namespace = namespace; proxy = p; items = items; kept = k }) streams z.core.watches.streams z.core.watches.watches) (sym f.streams)
    (subst (λ (ws : List Watch). Both (view namespace items p y) streams z.core.watches.streams ws) (sym (ap (λ (s : Side). s.broadcasts.watches) f.aged.1))
    (subst (λ (ss : List Stream). Both (view namespace items p y) streams ss y.core.watches.watches) (sym (ap (λ (s : Side). s.broadcasts.streams) f.aged.1)) h))

-- ---- each line

quiet_item : (q : ℕ) (i : Item) → IsSilent q (i ∷ []) → begins q i ≡ false → ((s : Spot) → concerns i s ≡ false) → IsMute (i ∷ []) → AreQuiet q (i ∷ [])
quiet_item q i s b c m = (quiet_one q i s b c m, tt)

-- where the places and the streams are as they were
still_has : (namespace : List ℕ) (items more : List Item) (w after : World) → after.places ≡ w.places → after.streams ≡ w.streams → ((q : ℕ) → AreQuiet q more) → ((q : ℕ) → LifeGoes items more q) → ((n : ℕ) → Untold n more) → WorldHas namespace items w
    → WorldHas namespace (items ++ more) after
still_has namespace items more w after places streams quiet lives untold h = record {
  places = λ q z e.
      subst (λ (ss : List OpenedStream). BothOf namespace (items ++ more) ss q z) (sym streams)
      (rest_both (view namespace items q z) w.streams z.core.watches.streams z.core.watches.watches more (quiet q) (h.places q z (ap (λ (ps : Numbered Place). kept_at ps q) (sym places) ∙ e)));
  fresh = λ n e. still_fresh items more n lives (untold n) (h.fresh n (ap (λ (ss : List OpenedStream). nth ss n) (sym streams) ∙ e));
}

-- one place is another value with the same core and streams
set_has : (namespace : List ℕ) (items more : List Item) (w : World) (p : ℕ) (x z : Place) → place_at w p ≡ Some x → z.core ≡ x.core → z.streams ≡ x.streams → ((q : ℕ) → AreQuiet q more) → ((q : ℕ) → LifeGoes items more q) → ((n : ℕ) → Untold n more) → WorldHas namespace items w
    → WorldHas namespace (items ++ more) (with_place w p z)
set_has namespace items more w p x z at core streams quiet lives untold h =
    placed_has namespace (items ++ more) w w p z refl
    (subst (λ (k : Numbered ℕ). Both (record { namespace = namespace; proxy = p; items = items ++ more; kept = k }) w.streams z.core.watches.streams z.core.watches.watches) (sym streams)
    (subst (λ (c : Core). Both (view namespace (items ++ more) p x) w.streams c.watches.streams c.watches.watches) (sym core)
    (rest_both (view namespace items p x) w.streams x.core.watches.streams x.core.watches.watches more (quiet p) (h.places p x at))))
    (λ q y n e. rest_both (view namespace items q y) w.streams y.core.watches.streams y.core.watches.watches more (quiet q) (h.places q y e))
    (λ n e. still_fresh items more n lives (untold n) (h.fresh n e))

start_quiet : (w : World) (p clock life' : ℕ) (i : Item) (q : ℕ) → (q == p) ≡ false → Begins w p clock life' i → AreQuiet q (i ∷ [])
start_quiet w p _ _ _ q d (first e) = quiet_item q (item.Started p) (start_silent p 0 1 w (item.Started p) q d (first e)).0 (turned q p d) (λ s. refl) (mute_one (item.Started p) (λ n. refl) (λ n. refl))
start_quiet w p _ _ _ q d (again x e) = quiet_item q (item.Restarted p) (start_silent p x.clock (x.life + 1) w (item.Restarted p) q d (again x e)).0 (turned q p d) (λ s. refl) (mute_one (item.Restarted p) (λ n. refl) (λ n. refl))

start_untold : (w : World) (p clock life' : ℕ) (i : Item) (n : ℕ) → Begins w p clock life' i → Untold n (i ∷ [])
start_untold w p _ _ _ n (first e) = record { pushes = refl; delivered = refl; unopened = λ q. refl }
start_untold w p _ _ _ n (again x e) = record { pushes = refl; delivered = refl; unopened = λ q. refl }

start_lives : (items : List Item) (w : World) (p clock life' : ℕ) (i : Item) (q : ℕ) → Begins w p clock life' i → LifeGoes items (i ∷ []) q
start_lives items w p clock life' i q b = by (q == p) refl
  where
    by : (c : Bool) → (q == p) ≡ c → LifeGoes items (i ∷ []) q
    by true d = inr (ap (λ (n : ℕ). life n (items ++ i ∷ [])) (equal q p d) ∙ started_life items p clock life' w i b)
    by false d = inl (life_still q items (i ∷ []) (start_silent p clock life' w i q d b).0)

-- ---- a message is pushed

pushed_both : (v : View) (streams : List OpenedStream) (ss : List Stream) (ws : List Watch) (n : ℕ) (s : OpenedStream) (i : WatchItem) → nth streams n ≡ Some s → s.ended ≡ false → Both v streams ss ws
    → Both (later v (item.Pushed n i ∷ [])) (with_nth streams n (with_message i s)) ss ws
pushed_both v streams ss ws n s i there live h = record {
  known = λ own t e. by own t t.phase (h.known own t e);
  watches =
      each_along (λ w. Has v (place_stream ss w.place) w) (λ w. Has (later v (item.Pushed n i ∷ [])) (place_stream ss w.place) w)
      (λ w k. rest_has v (item.Pushed n i) (place_stream ss w.place) w silent refl k refl) ws h.watches;
}
  where
    silent : IsSilent v.proxy (item.Pushed n i ∷ [])
    silent = record { takes = λ t. refl; lives = λ l. refl }

    life_is : life v.proxy (v.items ++ item.Pushed n i ∷ []) ≡ life v.proxy v.items ++ item.Pushed n i ∷ []
    life_is = life_still v.proxy v.items (item.Pushed n i ∷ []) silent

    some_world : (a b : OpenedStream) → Some a ≡ Some b → a ≡ b
    some_world a b e = cc

    by : (own : ℕ) (t : Stream) (p : StreamPhase) → OkAt v streams own t p → OkAt (later v (item.Pushed n i ∷ [])) (with_nth streams n (with_message i s)) own t p
    by own t (phase.Due since) o = o
    by own t (phase.Closing since) o = tt
    by own t phase.Begun o = by_number (o.its.number == n) refl
      where
        by_number : (c : Bool) → (o.its.number == n) ≡ c → IsOfWorld (later v (item.Pushed n i ∷ [])) (with_nth streams n (with_message i s)) own t
        by_number true q =
            let same : o.its.number ≡ n = equal o.its.number n q in
            let one : o.world ≡ s = some_world o.world s (sym o.there ∙ ap (nth streams) same ∙ there) in
            record {
              its = pushed_open v n own i t life_is o.its same;
              world = with_message i s;
              there = ap (nth (with_nth streams n (with_message i s))) same ∙ nth_itself streams n s (with_message i s) there;
              own_is = ap (λ (x : OpenedStream). x.own) (sym one) ∙ o.own_is;
              proxy_is = ap (λ (x : OpenedStream). x.proxy) (sym one) ∙ o.proxy_is;
              live = λ l. ap (λ (is : List WatchItem). is ++ i ∷ []) (o.live (ap (λ (x : OpenedStream). x.ended) one ∙ live) ∙ ap (λ (x : OpenedStream). x.waiting) one);
            }
        by_number false q =
            let k = still_of_world v streams (item.Pushed n i ∷ []) own t life_is o (ap (λ b. cond b (i ∷ []) [] ++ []) (turned o.its.number n q)) refl in
            record { its = k.its; world = o.world; there = nth_other streams n o.its.number s (with_message i s) there q ∙ o.there; own_is = o.own_is; proxy_is = o.proxy_is; live = o.live }

one_lives : (items : List Item) (i : Item) (q : ℕ) → IsSilent q (i ∷ []) → LifeGoes items (i ∷ []) q
one_lives items i q s = inl (life_still q items (i ∷ []) s)

pub effect_has : (namespace : List ℕ) (whole : Whole) (items : List Item) (w after : World) (gained : List Item) → Kept namespace whole (own_only namespace) items w → NewestOk w → WorldHas namespace items w → Effect w after gained → WorldHas namespace (items ++ gained) after
effect_has namespace whole items w _ _ kept new h (starts p clock life' i b) =
    placed_has namespace (items ++ i ∷ []) w w p (new_place w clock life') refl (record { known = λ own t e. none_some t e; watches = tt })
    (λ q y d e. rest_both (view namespace items q y) w.streams y.core.watches.streams y.core.watches.watches (i ∷ []) (start_quiet w p clock life' i q d b) (h.places q y e))
    (λ n e. still_fresh items (i ∷ []) n (λ q. start_lives items w p clock life' i q b) (start_untold w p clock life' i n b) (h.fresh n e))
effect_has namespace whole items w _ _ kept new h (sets p millis x e forward) =
    set_has namespace items (item.Clock p millis ∷ []) w p x (record x { clock = millis }) e refl refl
    (λ q. quiet_item q (item.Clock p millis) (record { takes = λ t. refl; lives = λ l. refl }) refl (λ s. refl) (mute_one (item.Clock p millis) (λ n. refl) (λ n. refl)))
    (λ q. one_lives items (item.Clock p millis) q (record { takes = λ t. refl; lives = λ l. refl })) (λ n. record { pushes = refl; delivered = refl; unopened = λ q. refl }) h
effect_has namespace whole items w _ _ kept new h (refuses_post p ticket path body a x e) =
    let posted = (with_posted ticket x).posted in
    let replies = reply_items p posted (ticket, a) in
    let first : List Item = item.Posted p ticket path body ∷ [] in
    set_has namespace items (first ++ replies) w p x (with_posted ticket x) e refl refl
    (λ q. quiet-append q first replies (quiet_item q (item.Posted p ticket path body) (record { takes = λ t. refl; lives = λ l. refl }) refl (λ s. refl) (mute_one (item.Posted p ticket path body) (λ n. refl) (λ n. refl))) (reply_quiet q p posted (ticket, a)))
    (λ q. inl (life_still q items (first ++ replies) (silent-append q first replies (record { takes = λ t. refl; lives = λ l. refl }) (reply_silent q p posted (ticket, a)))))
    (λ n. untold-append n first replies (record { pushes = refl; delivered = refl; unopened = λ q. refl }) (reply_untold n p posted (ticket, a))) h
effect_has namespace whole items w _ _ kept new h (executes number call e fresh) =
    let i = item.Executed number (exec w.store call.member call.request).1 in
    still_has namespace items (i ∷ []) w _ refl refl (λ q. quiet_item q i (record { takes = λ t. refl; lives = λ l. refl }) refl (λ s. refl) (mute_one i (λ n. refl) (λ n. refl)))
    (λ q. one_lives items i q (record { takes = λ t. refl; lives = λ l. refl })) (λ n. record { pushes = refl; delivered = refl; unopened = λ q. refl }) h
effect_has namespace whole items w _ _ kept new h (expires lease t e due) =
    let i = item.Expired lease in
    still_has namespace items (i ∷ []) w _ refl refl (λ q. quiet_item q i (record { takes = λ t. refl; lives = λ l. refl }) refl (λ s. refl) (mute_one i (λ n. refl) (λ n. refl)))
    (λ q. one_lives items i q (record { takes = λ t. refl; lives = λ l. refl })) (λ n. record { pushes = refl; delivered = refl; unopened = λ q. refl }) h
effect_has namespace whole items w _ _ kept new h (applies via revision t e) =
    let i = item.Applied via revision in
    still_has namespace items (i ∷ []) w _ refl refl (λ q. quiet_item q i (record { takes = λ t. refl; lives = λ l. refl }) refl (λ s. refl) (mute_one i (λ n. refl) (λ n. refl)))
    (λ q. one_lives items i q (record { takes = λ t. refl; lives = λ l. refl })) (λ n. record { pushes = refl; delivered = refl; unopened = λ q. refl }) h
effect_has namespace whole items w _ _ kept new h (pushes number s t i there live uncancelled k) = record {
  places = λ q z e. pushed_both (view namespace items q z) w.streams z.core.watches.streams z.core.watches.watches number s i there live (h.places q z e);
  fresh = λ n e.
      let f = fewer_none w.streams number n s (with_message i s) there e in
      still_fresh items (item.Pushed number i ∷ []) n (λ q. one_lives items (item.Pushed number i) q (record { takes = λ t. refl; lives = λ l. refl }))
      (record { pushes = ap (λ b. cond b (i ∷ []) [] ++ []) (turned n number f.0); delivered = refl; unopened = λ q. refl }) (h.fresh n f.1);
}
effect_has namespace whole items w _ _ kept new h (turns p x e o v y own told at out t) =
    let z = (all_fetched y told).place in
    let replies = flat_map (reply_items p z.posted) (all_fetched y told).replies in
    let turn = turn_has namespace whole items w p x e o v y own told (record { kept = kept; new = new; at = at; has = h }) out t in
    let tells = turn_tells items w p _ e o v y own told t in
    let all = append_assoc items own replies in
    subst (λ (l : List Item). WorldHas namespace l (with_place v p z)) all
    (placed_has namespace ((items ++ own) ++ replies) w v p z turn.places_same
    (fetched_both namespace ((items ++ own) ++ replies) v.streams p y z (all_so y told)
    (rest_both (view namespace (items ++ own) p y) v.streams y.core.watches.streams y.core.watches.watches replies (replies_quiet p p z.posted (all_fetched y told).replies) turn.itself))
    (λ q u d f.
    rest_both (view namespace (items ++ own) q u) v.streams u.core.watches.streams u.core.watches.watches replies (replies_quiet q p z.posted (all_fetched y told).replies) (turn.others q u d f))
    (λ n f.
    let g = tells.none n f in
    still_fresh (items ++ own) replies n (λ q. inl (life_still q (items ++ own) replies (replies_silent q p z.posted (all_fetched y told).replies))) (replies_untold n p z.posted (all_fetched y told).replies)
    (still_fresh items own n (λ q. inl (tells.lives q)) g.1 (h.fresh n g.0))))
