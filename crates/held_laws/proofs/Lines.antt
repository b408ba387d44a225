-- Each line keeps what holds of the world.
use Rattle.std.proofs.Common.{◌≡◌, inl, inr, ℕ, ◌+◌, ◌-◌, ◌≤◌, ◌<◌, Bool, true, false, cond, ◌==◌, nat_lt, slice_get, List, [], ◌∷◌, ◌++◌, append_assoc, length, length-append, Option, None, Some, Result, Ok, refl, ap, sym, subst, ◌∙◌, arith}
use Rattle.std.proofs.lemmas.Bool.Decides.{nat_tests}
use Rattle.std.specs.Prelude.{flat_map}
use Rattle.etcd_types.specs.declared.answer.Answer.{Answer}
use Rattle.etcd_types.specs.declared.request.Request.TheVariants as request
use Rattle.etcd_types.specs.declared.request.WatchAsk.{WatchAsk}
use Rattle.etcd_types.specs.declared.watch.Change.{Change}
use Rattle.etcd_types.specs.declared.watch.WatchItem.{WatchItem}
use Rattle.store_model.specs.History.{History}
use Rattle.store_model.specs.State.{State}
use Rattle.store_model.specs.Watches.{watch_of, opened}
use Rattle.watch_model.specs.Lookups.{stream_at, numbered}
use Rattle.watch_model.specs.State.{Stream}
use Rattle.watch_model.proofs.Streams.{none_above}
use Rattle.watch_laws.proofs.Seating.{each_along}
use Rattle.store_laws.proofs.Events.LeavingProofs.{openings_leave_watches}
use Rattle.core_model.specs.declared.event.CoreEvent.{CoreEvent}
use Rattle.core_model.specs.declared.event.CoreEvent.TheVariants as event
use Rattle.core_model.specs.declared.event.Outcome.{Outcome}
use Rattle.core_model.specs.declared.event.Outcome.TheVariants as outcome
use Rattle.core_model.specs.declared.event.Job.TheVariants as job
use Rattle.core_model.specs.declared.event.StepFault.{StepFault}
use Rattle.script_text.specs.declared.item.Item.{Item}
use Rattle.script_text.specs.declared.item.Item.TheVariants as item
use Rattle.world_model.specs.Gains.{Replies, all_fetched, reply_items}
use Rattle.world_model.specs.Lives.{life, asked_as}
use Rattle.world_model.specs.Places.{nth, with_nth, kept_at, with_kept, place_at, with_core, with_place, with_posted}
use Rattle.world_model.specs.Received.{taken_for}
use Rattle.world_model.specs.Sends.{next_call, next_stream, new_stream}
use Rattle.world_model.specs.Starts.{new_place}
use Rattle.world_model.specs.State.{Place, OpenedStream, World, Numbered, starting_world}
use Rattle.world_model.specs.Streams.{with_message}
use Rattle.world_laws.proofs.Effects.{Turn, ticks, asks_it, posts_it, calls, opens, closes, answers, loses, delivers, cuts, takes, waits, leaves, Begins, first, again, IsPushed, Effect, starts, sets, refuses_post, executes, expires, applies, pushes, turns}
use Rattle.held_laws.proofs.Growing.{Leaves, exec_leaves, expired_leaves, applied_leaves, message_leaves}
use Rattle.held_laws.proofs.Holding.{IsApart}
use Rattle.held_laws.proofs.Items.{IsSilent, IsUnasking, silent-append, unasking-append, reply_silent, reply_unasking, life-append}
use Rattle.held_laws.proofs.Kept.{not_among, among_still}
use Rattle.held_laws.proofs.Links.{StreamOk, restored, pushed_link}
use Rattle.held_laws.proofs.Opens.{nth_push, opened_there, Opens, opens_so, opened_itself, opened_others}
use Rattle.held_laws.proofs.Places.{Known, PlaceOk, later_ok, counted_side, all_so, Turned, quiet_turn}
use Rattle.held_laws.proofs.Pushes.{Whole, WasTold, push_said}
use Rattle.held_laws.proofs.Seen.{SeenOk}
use Rattle.world_model.specs.Answers.{seen}
use Rattle.held_laws.proofs.Stories.{Strips, IsShort}
use Rattle.held_laws.proofs.StreamSteps.{sent_grows}
use Rattle.core_laws.proofs.Watches.Touches.{Side, side, with_step, Aged, is_plain, Touch, opens_leasing, sends}
use Rattle.core_laws.proofs.Watches.Touches as touch
use Rattle.held_laws.proofs.Worlds.{StreamKnown, WorldOk, places_after, placed_itself, placed_other, known_after, Turning, behind, place_ok, step_of, gives_none, silent_all, unasking_all, others_quiet, fetched_stream, counted_ok, touched_stream, apart_counted, quiet_world, ask_world, asked_unasking, asked_asks, posted_asks, take_world, nth_changed, deliver_world, cut_world, close_world, equal, not_equal, no_place, set_many}

-- ---- a stream is opened

work_grows : (namespace : List ℕ) (a d : Side) (o : Result Outcome StepFault) → Touch namespace a event.Work d o → a.broadcasts.given ≤ d.broadcasts.given
work_grows namespace a _ _ (touch.leaves e o p) = omega arith
work_grows namespace a _ _ (opens_leasing number member q l) = omega arith
work_grows namespace a _ _ (sends c s m is f) = sent_grows a.broadcasts s

given_of : (high n : ℕ) (ss : List Stream) (s : Stream) → numbered 0 high ss ≡ true → stream_at n ss ≡ Some s → n ≤ high
given_of high n ss s h e = by (nat_lt high n) refl
  where
    none : {A : Type 0} → ◌≡◌ {A = Option Stream} None (Some s) → A
    none e = absurd (cc)

    less : (a b : ℕ) → nat_lt a b ≡ true → a < b
    less a b e = grind (arith, nat_tests)

    not_less : (a b : ℕ) → nat_lt a b ≡ false → b ≤ a
    not_less a b e = grind (arith, nat_tests)

    by : (b : Bool) → nat_lt high n ≡ b → n ≤ high
    by true q = none (sym (none_above 0 high n ss h (less high n q)) ∙ e)
    by false q = not_less high n q

leasing_given : (l : Option ℕ) (a : Side) (own : ℕ) → l ≡ Some own → IsApart l a.broadcasts → own ≤ a.broadcasts.given
leasing_given None a own e i = absurd (cc)
leasing_given (Some n) a own e i = let one : n ≡ own = cc in let l = i.0 in omega (arith, one, l)

opens_given : (namespace : List ℕ) (a d : Side) (own : ℕ) (ask : WatchAsk) → numbered 0 a.broadcasts.given a.broadcasts.streams ≡ true → IsApart a.leasing a.broadcasts → Opens namespace a d own ask → own ≤ a.broadcasts.given
opens_given namespace a d own ask n i (inl o) = let l = given_of a.broadcasts.given o.stream.number a.broadcasts.streams o.stream n o.found in let e = o.number in omega (arith, l, e)
opens_given namespace a d own ask n i (inr l) = leasing_given a.leasing a own l.0 i

open_world : (namespace : List ℕ) (whole : Whole) (f : Change → Option Change) (items : List Item) (w : World) (p : ℕ) (x : Place) (own member : ℕ) (ask : WatchAsk)
    → Turning namespace whole f items w p x event.Work (outcome.Job (Some (job.Begin own member (request.Watch ask))))
    → let y = record (with_core x (behind x event.Work)) { streams = with_kept x.streams own (next_stream w) } in let z = (all_fetched y []).place in
    WorldOk namespace whole f (items ++ ((item.Opened p (next_stream w) member (request.Watch ask) ∷ []) ++ flat_map (reply_items p z.posted) (all_fetched y []).replies))
    (with_place (record w { streams = w.streams ++ new_stream p (with_core x (behind x event.Work)) own ∷ []; store = (opened w.store member ask).0 }) p z)
open_world namespace whole f items w p x own member ask c =
    let e = event.Work in
    let o = outcome.Job (Some (job.Begin own member (request.Watch ask))) in
    let xs = with_core x (behind x e) in
    let y = record xs { streams = with_kept x.streams own (next_stream w) } in
    let z = (all_fetched y []).place in
    let replies = (all_fetched y []).replies in
    let fetched = all_so y [] in
    let own_items = item.Opened p (next_stream w) member (request.Watch ask) ∷ [] in
    let more = own_items ++ flat_map (reply_items p z.posted) replies in
    let new = new_stream p xs own in
    let v : World = record w { streams = w.streams ++ new ∷ []; store = (opened w.store member ask).0 } in
    let k = place_ok namespace whole f items w p x e o c in
    let st = step_of namespace whole f items w p x e o c in
    let apart = apart_counted x.core k.holds.apart in
    let turned : Turned namespace x (behind x e) y z e o = record { stepping = st; core = refl; fetched = fetched } in
    let so : Opens namespace (counted_side x.core) (side (behind x e)) own ask = opens_so namespace (counted_side x.core) (side (behind x e)) own member ask (Ok o) refl k.holds.holds.numbers st.touch in
    let given : own ≤ (side (behind x e)).broadcasts.given = (let a = opens_given namespace (counted_side x.core) (side (behind x e)) own ask k.holds.holds.numbers apart so in let b = work_grows namespace (counted_side x.core) (side (behind x e)) (Ok o) st.touch in omega (arith, a, b)) in
    let quiet : (q : ℕ) → IsSilent q own_items × IsUnasking q own_items = λ q. (record { takes = λ t. refl; lives = λ l. refl }, λ t. refl) in
    let many = c.ok.many in
    let old : (q : ℕ) (u : OpenedStream) → nth w.streams q ≡ Some u → StreamKnown namespace whole (with_place v p z) q u = λ q u g.
    let known = c.ok.streams q u g in
    let stored = (openings_leave_watches w.store member ask q known.watched.0 known.watched.1).same_watch in
    known_after namespace whole w v p x z q u u c.at (let l = fetched.life in omega (arith, l)) refl refl refl (known.watched.0, stored ∙ known.watched.1)
    (λ a n d h. restored namespace whole w.store v.store q u a n stored h)
    (λ at l h le.
    let before = counted_ok namespace whole w.store q u x.core x.streams (h (l ∙ fetched.life)) in
    fetched_stream namespace whole v.store q u (behind x e) z (with_kept x.streams own (next_stream w)) fetched.aged fetched.streams
    (restored namespace whole w.store v.store q u (side (behind x e)) (with_kept x.streams own (next_stream w)) stored
    (opened_others namespace whole w.store (next_stream w) q u (counted_side x.core) (side (behind x e)) x.streams own ask apart so before
    (touched_stream namespace whole f items w p x e o c refl w.store q u x.streams (h (l ∙ fetched.life))))))
    known in
    record {
      namespace_is = c.ok.namespace_is;
      many = (let a = length-append w.store.watches (record { member = member; ask = ask; next = 0 } ∷ []) in let b = length-append w.streams (new ∷ []) in omega (arith, a, b, many));
      streams = λ q u g. elim (nth_push w.streams new q u g) [
        | inl h ↦ old q u h
        | inr h ↦
            subst (λ (u : OpenedStream). StreamKnown namespace whole (with_place v p z) q u) h.1
            (let there : watch_of v.store q ≡ Some (record { member = member; ask = ask; next = 0 }) = opened_there w.store member ask q (let e = h.0 in omega (arith, e, many)) in
            record {
              place = z;
              at = placed_itself w v p z;
              life = (let l = fetched.life in omega (arith, l));
              ok = λ l. fetched_stream namespace whole v.store q new (behind x e) z (with_kept x.streams own (next_stream w)) fetched.aged fetched.streams
                  (subst (λ (n : ℕ). StreamOk namespace whole v.store q new (side (behind x e)) (with_kept x.streams own n)) h.0
                  (opened_itself namespace whole v.store q new (counted_side x.core) (side (behind x e)) x.streams own member ask apart refl refl given there so));
              watched = (_, there);
            })
      ];
      places = places_after namespace whole f items more w v p z refl (λ n d. others_quiet p own_items z.posted replies (λ n d. quiet n) n d) c.ok
          (quiet_turn namespace f c.strips whole items more p x (behind x e) y z e o refl (gives_none namespace whole f items w p x e o refl c) (silent_all p p own_items z.posted replies (quiet p).0) (unasking_all p p own_items z.posted replies (quiet p).1) refl (tt, tt, tt) k turned);
    }

-- ---- all turns

append_two : (l : List Item) (a b : Item) → (l ++ a ∷ []) ++ b ∷ [] ≡ l ++ a ∷ b ∷ []
append_two l a b = append_assoc l (a ∷ []) (b ∷ [])

turn_world : (namespace : List ℕ) (whole : Whole) (f : Change → Option Change) (items : List Item) (w : World) (p : ℕ) (x : Place) (e : CoreEvent) (o : Outcome) (v : World) (y : Place) (own : List Item) (told : Replies)
    → Turning namespace whole f items w p x e o → Turn w p (with_core x (behind x e)) e o v y own told
    → WorldOk namespace whole f (items ++ (own ++ flat_map (reply_items p (all_fetched y told).place.posted) (all_fetched y told).replies)) (with_place v p (all_fetched y told).place)
turn_world namespace whole f items w p x _ _ _ _ _ _ c (ticks o) =
    quiet_world namespace whole f items w w p x _ o _ (item.Ticked p ∷ []) [] c refl refl (tt, tt, tt) (gives_none namespace whole f items w p x _ o refl c) refl refl refl refl refl refl refl refl (λ q. (record { takes = λ t. refl; lives = λ l. refl }, λ t. refl))
turn_world namespace whole f items w p x _ _ _ _ _ _ c (asks_it ticket q o n) =
    ask_world namespace whole f items w p x ticket q _ o _ _ _ c n refl refl refl refl (λ n. record { takes = λ t. refl; lives = λ l. refl }) (asked_unasking p ticket q) (asked_asks p ticket q)
turn_world namespace whole f items w p x _ _ _ _ _ _ c (posts_it ticket path body q o n) =
    ask_world namespace whole f items w p x ticket q _ o _ _ _ c n refl refl refl refl (λ n. record { takes = λ t. refl; lives = λ l. append_two l (item.Posted p ticket path body) (item.Asked p ticket q) }) (λ n d t. asked_unasking p ticket q n d t) (posted_asks p ticket path body q)
turn_world namespace whole f items w p x _ _ _ _ _ _ c (calls own member ticket q) =
    quiet_world namespace whole f items w _ p x _ _ _ (item.Sent p (next_call w) member ticket q ∷ []) [] c refl refl (tt, tt, tt) (gives_none namespace whole f items w p x _ _ refl c) refl refl refl refl refl refl refl refl (λ q. (record { takes = λ t. refl; lives = λ l. refl }, λ t. refl))
turn_world namespace whole f items w p x _ _ _ _ _ _ c (opens own member ask) = open_world namespace whole f items w p x own member ask c
turn_world namespace whole f items w p x _ _ _ _ _ _ c (closes own number e) = close_world namespace whole f items w p x own number (nth w.streams number) refl c
turn_world namespace whole f items w p x _ _ _ _ _ _ c (answers number call a o e g) =
    quiet_world namespace whole f items w _ p x _ o _ (item.Answered number ∷ []) [] c refl refl (tt, tt, tt) (gives_none namespace whole f items w p x _ o refl c) refl refl refl refl refl refl refl refl (λ q. (record { takes = λ t. refl; lives = λ l. refl }, λ t. refl))
turn_world namespace whole f items w p x _ _ _ _ _ _ c (loses number call o e) =
    quiet_world namespace whole f items w _ p x _ o _ (item.Lost number ∷ []) [] c refl refl (tt, tt, tt) (gives_none namespace whole f items w p x _ o refl c) refl refl refl refl refl refl refl refl (λ q. (record { takes = λ t. refl; lives = λ l. refl }, λ t. refl))
turn_world namespace whole f items w p x _ _ _ _ _ _ c (delivers number s i rest o e g h k l) = deliver_world namespace whole f items w p x number s i rest o c e g h k l
turn_world namespace whole f items w p x _ _ _ _ _ _ c (cuts number s o e g h k) = cut_world namespace whole f items w p x number s o c e g
turn_world namespace whole f items w p x _ _ _ _ _ _ c (takes ticket i) = take_world namespace whole f items w p x ticket i _ _ [] c refl refl refl refl
turn_world namespace whole f items w p x _ _ _ _ _ _ c (waits ticket o n) =
    quiet_world namespace whole f items w w p x _ o _ (item.Pending p ticket ∷ []) [] c refl refl (tt, tt, tt) n refl refl refl refl refl refl refl refl (λ q. (record { takes = λ t. refl; lives = λ l. refl }, λ t. refl))
turn_world namespace whole f items w p x _ _ _ _ _ _ c (leaves ticket o) =
    quiet_world namespace whole f items w w p x _ o _ (item.Left p ticket ∷ []) [] c refl refl (tt, tt, tt) (gives_none namespace whole f items w p x _ o refl c) refl refl refl refl refl refl refl refl (λ q. (record { takes = λ t. refl; lives = λ l. refl }, λ t. refl))

-- ---- starts

turned : (p q : ℕ) → (q == p) ≡ false → (p == q) ≡ false
turned p q e = grind (arith, nat_tests)

itself : (p : ℕ) → (p == p) ≡ true
itself p = grind (arith, nat_tests)

pub start_silent : (p clock life : ℕ) (w : World) (i : Item) (q : ℕ) → (q == p) ≡ false → Begins w p clock life i → IsSilent q (i ∷ []) × IsUnasking q (i ∷ [])
start_silent p _ _ w _ q n (first e) = (record { takes = λ t. refl; lives = λ l. ap (λ b. cond b [] (l ++ item.Started p ∷ [])) (turned p q n) }, λ t. refl)
start_silent p _ _ w _ q n (again x e) = (record { takes = λ t. refl; lives = λ l. ap (λ b. cond b [] (l ++ item.Restarted p ∷ [])) (turned p q n) }, λ t. refl)

pub started_life : (items : List Item) (p clock life' : ℕ) (w : World) (i : Item) → Begins w p clock life' i → life p (items ++ i ∷ []) ≡ []
started_life items p _ _ w _ (first e) = life-append p [] items (item.Started p ∷ []) ∙ ap (λ b. cond b [] (life p items ++ item.Started p ∷ [])) (itself p)
started_life items p _ _ w _ (again x e) = life-append p [] items (item.Restarted p ∷ []) ∙ ap (λ b. cond b [] (life p items ++ item.Restarted p ∷ [])) (itself p)

new_ok : (namespace : List ℕ) (whole : Whole) (f : Change → Option Change) (items : List Item) (w : World) (p clock life' : ℕ) → w.namespace ≡ namespace → life p items ≡ [] → PlaceOk namespace whole f items p (new_place w clock life')
new_ok namespace whole f items w p clock life' n e = record {
  holds = record { holds = record { numbers = refl; watches = tt }; closings = record { numbers = refl; watches = tt }; apart = tt };
  namespace_is = n;
  untaken = λ t q. ap (taken_for p t) e;
  unasked = λ t q. ap (asked_as p t) e;
  watches = tt;
  told = tt;
  messages = record { members = tt; known = tt; watches = tt };
}

-- streams of another proxy, where this one is started for the first time
first_known : (namespace : List ℕ) (whole : Whole) (w : World) (p : ℕ) (z : Place) (number : ℕ) (s : OpenedStream) → place_at w p ≡ None → StreamKnown namespace whole w number s → StreamKnown namespace whole (with_place w p z) number s
first_known namespace whole w p z number s e k = by (s.proxy == p) refl
  where
    by : (b : Bool) → (s.proxy == p) ≡ b → StreamKnown namespace whole (with_place w p z) number s
    by true q = no_place k.place (sym e ∙ sym (ap (place_at w) (equal s.proxy p q)) ∙ k.at)
    by false q = record { place = k.place; at = placed_other w w p s.proxy z refl q ∙ k.at; life = k.life; ok = k.ok; watched = k.watched }

started_known : (namespace : List ℕ) (whole : Whole) (w : World) (p clock life' : ℕ) (i : Item) (number : ℕ) (s : OpenedStream) → Begins w p clock life' i → StreamKnown namespace whole w number s
    → StreamKnown namespace whole (with_place w p (new_place w clock life')) number s
started_known namespace whole w p _ _ _ number s (first e) k = first_known namespace whole w p (new_place w 0 1) number s e k
started_known namespace whole w p _ _ _ number s (again x e) k =
    known_after namespace whole w w p x (new_place w x.clock (x.life + 1)) number s s e (omega arith) refl refl refl k.watched (λ a n d o. o) (λ at l o le. absurd (omega (arith, l, le))) k

start_world : (namespace : List ℕ) (whole : Whole) (f : Change → Option Change) (items : List Item) (w : World) (p clock life' : ℕ) (i : Item) → WorldOk namespace whole f items w → Begins w p clock life' i
    → WorldOk namespace whole f (items ++ i ∷ []) (with_place w p (new_place w clock life'))
start_world namespace whole f items w p clock life' i h b = record {
  namespace_is = h.namespace_is;
  many = h.many;
  streams = λ number s g. started_known namespace whole w p clock life' i number s b (h.streams number s g);
  places = places_after namespace whole f items (i ∷ []) w w p (new_place w clock life') refl (λ q n. start_silent p clock life' w i q n b) h
      (new_ok namespace whole f (items ++ i ∷ []) w p clock life' h.namespace_is (started_life items p clock life' w i b));
}

-- ---- a clock, a body that is refused

set_world : (namespace : List ℕ) (whole : Whole) (f : Change → Option Change) (items : List Item) (w : World) (p millis : ℕ) (x : Place) → WorldOk namespace whole f items w → place_at w p ≡ Some x
    → WorldOk namespace whole f (items ++ item.Clock p millis ∷ []) (with_place w p (record x { clock = millis }))
set_world namespace whole f items w p millis x h at =
    let z = record x { clock = millis } in
    let quiet : (q : ℕ) → IsSilent q (item.Clock p millis ∷ []) × IsUnasking q (item.Clock p millis ∷ []) = λ q. (record { takes = λ t. refl; lives = λ l. refl }, λ t. refl) in
    let k = later_ok namespace whole f items (item.Clock p millis ∷ []) p x (quiet p).0 (quiet p).1 (h.places p x at) in
    record {
      namespace_is = h.namespace_is;
      many = h.many;
      streams = λ number s g. known_after namespace whole w w p x z number s s at (omega arith) refl refl refl (h.streams number s g).watched (λ a n d o. o) (λ there l o le. o l) (h.streams number s g);
      places = places_after namespace whole f items (item.Clock p millis ∷ []) w w p z refl (λ q n. quiet q) h
          (record { holds = k.holds; namespace_is = k.namespace_is; untaken = k.untaken; unasked = k.unasked; watches = k.watches; told = k.told; messages = k.messages });
    }

refuse_world : (namespace : List ℕ) (whole : Whole) (f : Change → Option Change) (items : List Item) (w : World) (p ticket : ℕ) (path body : List ℕ) (a : Answer) (x : Place) → WorldOk namespace whole f items w → place_at w p ≡ Some x
    → WorldOk namespace whole f (items ++ item.Posted p ticket path body ∷ reply_items p (with_posted ticket x).posted (ticket, a)) (with_place w p (with_posted ticket x))
refuse_world namespace whole f items w p ticket path body a x h at =
    let z = with_posted ticket x in
    let rest = reply_items p z.posted (ticket, a) in
    let more = item.Posted p ticket path body ∷ rest in
    let quiet : (q : ℕ) → IsSilent q more × IsUnasking q more = λ q. (
      silent-append q (item.Posted p ticket path body ∷ []) rest (record { takes = λ t. refl; lives = λ l. refl }) (reply_silent q p z.posted (ticket, a)),
      unasking-append q (item.Posted p ticket path body ∷ []) rest (λ t. refl) (reply_unasking q p z.posted (ticket, a)),
    ) in
    let k = later_ok namespace whole f items more p x (quiet p).0 (quiet p).1 (h.places p x at) in
    record {
      namespace_is = h.namespace_is;
      many = h.many;
      streams = λ number s g. known_after namespace whole w w p x z number s s at (omega arith) refl refl refl (h.streams number s g).watched (λ a n d o. o) (λ there l o le. o l) (h.streams number s g);
      places = places_after namespace whole f items more w w p z refl (λ q n. quiet q) h (record {
        holds = k.holds;
        namespace_is = k.namespace_is;
        untaken = λ t e. k.untaken t (not_among x.tickets ticket t e);
        unasked = λ t e. k.unasked t (not_among x.tickets ticket t e);
        watches = each_along (Known p (life p (items ++ more)) x.tickets) (Known p (life p (items ++ more)) z.tickets)
            (λ v m. record { among = among_still x.tickets ticket v.ticket m.among; ask = m.ask; asked = m.asked; same = m.same; start = m.start }) x.core.watches.watches k.watches;
        told = k.told;
        messages = k.messages;
      });
    }

-- ---- the store makes a step

store_world : (namespace : List ℕ) (whole : Whole) (f : Change → Option Change) (items : List Item) (w after : World) (i : Item) → WorldOk namespace whole f items w → Leaves w.store after.store
    → after.namespace ≡ w.namespace → after.streams ≡ w.streams → after.places ≡ w.places → ((q : ℕ) → IsSilent q (i ∷ []) × IsUnasking q (i ∷ []))
    → WorldOk namespace whole f (items ++ i ∷ []) after
store_world namespace whole f items w after i h l n s p quiet = record {
  namespace_is = n ∙ h.namespace_is;
  many = l.many ∙ h.many ∙ sym (ap length s);
  streams = λ number t g.
      let k = h.streams number t (ap (λ (ss : List OpenedStream). nth ss number) (sym s) ∙ g) in record {
        place = k.place;
        at = ap (λ (ps : Numbered Place). kept_at ps t.proxy) p ∙ k.at;
        life = k.life;
        ok = λ e. restored namespace whole w.store after.store number t (side k.place.core) k.place.streams (l.same number) (k.ok e);
        watched = (k.watched.0, l.same number ∙ k.watched.1);
      };
  places = λ q x e. later_ok namespace whole f items (i ∷ []) q x (quiet q).0 (quiet q).1 (h.places q x (ap (λ (ps : Numbered Place). kept_at ps q) (sym p) ∙ e));
}

-- ---- a message is pushed

pushed_ok : (namespace : List ℕ) (whole : Whole) (w : World) (more : History) (number : ℕ) (s : OpenedStream) (t : State) (i : WatchItem) (a : Side) (kept : Numbered ℕ) → whole.history ≡ w.store.history ++ more → IsPushed w.store number t i → WasTold whole.items i w.store.compacted
    → s.ended ≡ false → StreamOk namespace whole w.store number s a kept → StreamOk namespace whole t number (with_message i s) a kept
pushed_ok namespace whole w more number s t i a kept e p told live h = record {
  given = h.given;
  mine = h.mine;
  begun = h.begun;
  link = λ l u g c.
      pushed_link namespace whole w.store t number s.waiting i u
      (λ v at. let k = push_said whole w.store t more number v i e at p told in (k.next, k.watch, k.says)) (h.link live u g c);
}

push_world : (namespace : List ℕ) (whole : Whole) (f : Change → Option Change) (items : List Item) (w : World) (more : History) (number : ℕ) (s : OpenedStream) (t : State) (i : WatchItem) → WorldOk namespace whole f items w
    → whole.history ≡ w.store.history ++ more → nth w.streams number ≡ Some s → s.ended ≡ false → IsPushed w.store number t i → WasTold whole.items i w.store.compacted
    → WorldOk namespace whole f (items ++ item.Pushed number i ∷ []) (record w { streams = with_nth w.streams number (with_message i s); store = t })
push_world namespace whole f items w more number s t i h e there live p told =
    let l = message_leaves w.store t i number p in
    let after : World = record w { streams = with_nth w.streams number (with_message i s); store = t } in
    let k = h.streams number s there in
    let said = push_said whole w.store t more number k.watched.0 i e k.watched.1 p told in
    record {
      namespace_is = h.namespace_is;
      many = l.many ∙ h.many ∙ sym (set_many w number (with_message i s));
      streams = λ q u g. elim (nth_changed w.streams number q s (with_message i s) u there g) [
        | inl x ↦
            subst (λ (u : OpenedStream). StreamKnown namespace whole after q u) x.1 (subst (λ (j : ℕ). StreamKnown namespace whole after j (with_message i s)) (sym x.0) (record {
              place = k.place;
              at = k.at;
              life = k.life;
              ok = λ d. pushed_ok namespace whole w more number s t i (side k.place.core) k.place.streams e p told live (k.ok d);
              watched = (_, said.watch);
            }))
        | inr x ↦
            let m = h.streams q u x.1 in
            let same = l.same q (λ d. not_equal q number x.0 (sym d)) in
            record {
              place = m.place;
              at = m.at;
              life = m.life;
              ok = λ d. restored namespace whole w.store t q u (side m.place.core) m.place.streams same (m.ok d);
              watched = (m.watched.0, same ∙ m.watched.1);
            }
      ];
      places = λ q x g. later_ok namespace whole f items (item.Pushed number i ∷ []) q x (record { takes = λ t. refl; lives = λ l. refl }) (λ t. refl) (h.places q x g);
    }

-- ---- all lines

-- the message of this line
pushed_now : (whole : Whole) (items : List Item) (w : World) (number : ℕ) (i : WatchItem) (rest : List Item) → whole.items ≡ (items ++ item.Pushed number i ∷ []) ++ rest → SeenOk (seen items) w → WasTold whole.items i w.store.compacted
pushed_now whole items w number i rest e s = record {
  before = items;
  stream = number;
  after = rest;
  pushed = e ∙ append_assoc items (item.Pushed number i ∷ []) rest;
  compaction = ap (λ (t : State). t.compacted) s.store;
}

pub effect_world : (namespace : List ℕ) (whole : Whole) (f : Change → Option Change) (items : List Item) (w after : World) (gained : List Item) (more : History) (rest : List Item) → Strips namespace f → IsShort whole → whole.history ≡ w.store.history ++ more → whole.items ≡ (items ++ gained) ++ rest → SeenOk (seen items) w
    → WorldOk namespace whole f items w → Effect w after gained → WorldOk namespace whole f (items ++ gained) after
effect_world namespace whole f items w _ _ more rest k short e all sn h (starts p clock life' i b) = start_world namespace whole f items w p clock life' i h b
effect_world namespace whole f items w _ _ more rest k short e all sn h (sets p millis x at forward) = set_world namespace whole f items w p millis x h at
effect_world namespace whole f items w _ _ more rest k short e all sn h (refuses_post p ticket path body a x at) = refuse_world namespace whole f items w p ticket path body a x h at
effect_world namespace whole f items w _ _ more rest k short e all sn h (executes number call there fresh) =
    store_world namespace whole f items w _ _ h (exec_leaves w.store call.member call.request) refl refl refl (λ q. (record { takes = λ t. refl; lives = λ l. refl }, λ t. refl))
effect_world namespace whole f items w _ _ more rest k short e all sn h (expires lease t g due) =
    store_world namespace whole f items w _ _ h (expired_leaves w.store t lease g) refl refl refl (λ q. (record { takes = λ t. refl; lives = λ l. refl }, λ t. refl))
effect_world namespace whole f items w _ _ more rest k short e all sn h (applies member revision t g) =
    store_world namespace whole f items w _ _ h (applied_leaves w.store t member revision g) refl refl refl (λ q. (record { takes = λ t. refl; lives = λ l. refl }, λ t. refl))
effect_world namespace whole f items w _ _ more rest k short e all sn h (pushes number s t i there live open' p) = push_world namespace whole f items w more number s t i h e there live p (pushed_now whole items w number i rest all sn)
effect_world namespace whole f items w _ _ more rest k short e all sn h (turns p x ev o v y own told at out t) =
    turn_world namespace whole f items w p x ev o v y own told (record { strips = k; short = short; ok = h; at = at; out = out }) t

pub begun_world : (namespace leasing : List ℕ) (members : ℕ) (whole : Whole) (f : Change → Option Change) → WorldOk namespace whole f (item.World members namespace leasing ∷ []) (starting_world members namespace leasing)
begun_world namespace leasing members whole f = record {
  namespace_is = refl;
  many = refl;
  streams = λ number s g. none number s g;
  places = λ p x e. no_place x e;
}
  where
    none : {A : Type 0} (number : ℕ) (s : OpenedStream) → nth {A = OpenedStream} [] number ≡ Some s → A
    none number s g = by (number == 0) g
      where
        by : {A : Type 0} → (b : Bool) → cond b None (slice_get {X = OpenedStream} [] (number - 1)) ≡ Some s → A
        by true e = absurd (cc)
        by false e = absurd (cc)
