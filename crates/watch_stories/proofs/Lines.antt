-- Each line of a script keeps the stories of all watches.
use Rattle.std.proofs.Common.{◌≡◌, ℕ, ◌+◌, ◌-◌, ◌≤◌, Bool, true, false, cond, ◌&&◌, ◌==◌, List, [], ◌∷◌, ◌++◌, append_assoc, length, filter, slice_get, Option, None, Some, Result, Ok, refl, ap, sym, subst, ◌∙◌, arith}
use Rattle.std.proofs.lemmas.Bool.Decides.{nat_tests}
use Rattle.std.specs.BTreeSet.{BTreeSet}
use Rattle.etcd_types.specs.declared.request.Request.TheVariants as request
use Rattle.etcd_types.specs.declared.watch.WatchItem.{WatchItem}
use Rattle.script_text.specs.declared.item.Item.{Item}
use Rattle.script_text.specs.declared.item.Item.TheVariants as item
use Rattle.store_model.specs.History.{newest}
use Rattle.watch_model.specs.Lookups.{stream_at, place_stream, watch_at, numbered}
use Rattle.watch_model.specs.State.{Stream, Watch}
use Rattle.watch_model.specs.Takes.{taken_from}
use Rattle.watch_laws.proofs.Seating.{EachStream, found}
use Rattle.core_model.specs.declared.event.CoreEvent.{CoreEvent}
use Rattle.core_model.specs.declared.event.CoreEvent.TheVariants as event
use Rattle.core_model.specs.declared.event.Job.TheVariants as job
use Rattle.core_model.specs.declared.event.Outcome.{Outcome}
use Rattle.core_model.specs.declared.event.Outcome.TheVariants as outcome
use Rattle.core_model.specs.declared.event.StepFault.{StepFault}
use Rattle.core_model.specs.LeasingStream.{item_header}
use Rattle.core_model.specs.Step.{stepped}
use Rattle.world_model.specs.Answers.{seen}
use Rattle.world_model.specs.Gains.{Replies, taken_items, line_if}
use Rattle.world_model.specs.Lives.{begins, pushed_into, delivers}
use Rattle.world_model.specs.Places.{nth, place_at, is_among, with_core}
use Rattle.world_model.specs.Sends.{new_stream, closed_in}
use Rattle.world_model.specs.State.{Place, OpenedStream, World, word}
use Rattle.world_laws.proofs.Effects.{Turn, ticks, asks_it, posts_it, calls, opens, closes, answers, loses, delivers as delivers_it, cuts, takes, waits, leaves}
use Rattle.core_laws.proofs.Watches.Touches.{Side, side, Touch, leaves as leaves_all, took, left_it}
use Rattle.core_laws.proofs.Watches.Holding.{watch_itself}
use Rattle.held_laws.proofs.Items.{IsSilent, taken_still, asked_same}
use Rattle.held_laws.proofs.Knowing.{IsKnown}
use Rattle.held_laws.proofs.Places.{counted_side, stepping}
use Rattle.held_laws.proofs.Pushes.{Whole}
use Rattle.held_laws.proofs.Worlds.{apart_counted}
use Rattle.watch_stories.specs.Stories.{Spot, concerns}
use Rattle.received_laws.proofs.Newest.{AllWithin}
use Rattle.watch_stories.proofs.Facts.{View, later, Goes}
use Rattle.watch_stories.proofs.Inverted.{Same, tick_same, answer_same, lost_same, pending_same, call_same, close_so}
use Rattle.watch_stories.proofs.Items.{IsMute}
use Rattle.watch_stories.proofs.Places.{IsQuiet, AreQuiet, line_quiet, rest_both, with_items, both_goes, goes_push, goes_ended}
use Rattle.watch_stories.proofs.Points.{Has, taking}
use Rattle.watch_stories.proofs.Steps.{same_both, asked_both, delivered_both, cut_both, opens_both}
use Rattle.watch_stories.proofs.Touching.{Both, took_sees, removed_sees, closed_sees}
use Rattle.watch_stories.proofs.Turns.{view, BothOf, At, ok_of, both_of, most_of, header_of, stream_of, foreign_delivered, foreign_cut}

-- what a turn leaves behind its own items, where `y` is the place of the proxy
pub record TurnHas (namespace : List ℕ) (items : List Item) (w v : World) (p : ℕ) (y : Place) (own : List Item) : Type 0 where
  pub places_same : v.places ≡ w.places
  pub itself : BothOf namespace (items ++ own) v.streams p y
  pub others : (q : ℕ) (z : Place) → (q == p) ≡ false → place_at w q ≡ Some z → BothOf namespace (items ++ own) v.streams q z

-- its step, as far as streams and watches go
touch_of : (namespace : List ℕ) (whole : Whole) (items : List Item) (w : World) (p : ℕ) (x : Place) (e : CoreEvent) (o : Outcome) → At namespace whole items w p x → (stepped x.core e x.clock).outcome ≡ Ok o
    → Touch namespace (counted_side x.core) e (side (stepped x.core e x.clock).core) (Ok o)
touch_of namespace whole items w p x e o a out = (stepping namespace x.core e x.clock o (ok_of namespace whole items w p x a).namespace_is out).touch

-- an item that is no message, no cut and no start, and by which nothing is taken
pub quiet_one : (q : ℕ) (i : Item) → IsSilent q (i ∷ []) → begins q i ≡ false → ((s : Spot) → concerns i s ≡ false) → IsMute (i ∷ []) → IsQuiet q i
quiet_one q i s b c m = record { silent = s; goes_on = b; apart = c; mute = m }

pub mute_one : (i : Item) → ((n : ℕ) → pushed_into n (i ∷ []) ≡ []) → ((n : ℕ) → filter (delivers n) (i ∷ []) ≡ []) → IsMute (i ∷ [])
mute_one i a b = record { pushes = a; delivers_none = b }

quiet_itself : (namespace : List ℕ) (whole : Whole) (items : List Item) (w : World) (p : ℕ) (x : Place) (d : Side) (own : List Item) → At namespace whole items w p x → Same (counted_side x.core) d → AreQuiet p own
    → Both (later (view namespace items p x) own) w.streams d.broadcasts.streams d.broadcasts.watches
quiet_itself namespace whole items w p x d own a s q = same_both (later (view namespace items p x) own) w.streams (counted_side x.core) d s (rest_both (view namespace items p x) w.streams x.core.watches.streams x.core.watches.watches own q (both_of namespace whole items w p x a))

quiet_others : (namespace : List ℕ) (whole : Whole) (items : List Item) (w : World) (p : ℕ) (x : Place) (own : List Item) → At namespace whole items w p x → ((q : ℕ) → (q == p) ≡ false → AreQuiet q own)
    → (q : ℕ) (z : Place) → (q == p) ≡ false → place_at w q ≡ Some z → BothOf namespace (items ++ own) w.streams q z
quiet_others namespace whole items w p x own a quiet q z d e = rest_both (view namespace items q z) w.streams z.core.watches.streams z.core.watches.watches own (quiet q d) (a.has.places q z e)

either_at : (P : Stream → Type 0) (t : Stream) (o : Option Stream) (s : Stream) → P t → (o ≡ Some s → P s) → (c : Bool) → cond c (Some t) o ≡ Some s → P s
either_at P t o s h k true f = let one : t ≡ s = cc in subst P one h
either_at P t o s h k false f = k f

each_at : (P : Stream → Type 0) (k : ℕ) (ss : List Stream) (s : Stream) → stream_at k ss ≡ Some s → EachStream P ss → P s
each_at P k [] s e h = absurd (cc)
each_at P k (t ∷ ss) s e h = either_at P t (stream_at k ss) s h.0 (λ f. each_at P k ss s f h.1) (t.number == k) e

closed_goes : (w : World) (number : ℕ) (o : Option OpenedStream) → nth w.streams number ≡ o → (n : ℕ) (old : OpenedStream) → nth w.streams n ≡ Some old → Goes old (closed_in w number o).streams n
closed_goes w number None e n old f = record { stream = old; there = f; own = refl; proxy = refl; live = λ l. (l, refl) }
closed_goes w number (Some s) e n old f = goes_ended w.streams number n s old e f

closed_same : (w : World) (number : ℕ) (o : Option OpenedStream) → (closed_in w number o).places ≡ w.places
closed_same w number None = refl
closed_same w number (Some s) = refl

other_proxy : (p n ticket t : ℕ) → (n == p) ≡ false → (p == n && ticket == t) ≡ false
other_proxy p n ticket t e = grind (arith, nat_tests)

taken_quiet : (p : ℕ) (posted : BTreeSet ℕ) (ticket : ℕ) (i : WatchItem) (q : ℕ) → (q == p) ≡ false → AreQuiet q (taken_items p posted ticket i)
taken_quiet p posted ticket i q d = (
  record {
    silent = record { takes = λ t. ap (λ b. cond b (i ∷ []) [] ++ []) (other_proxy p q ticket t d); lives = λ l. refl };
    goes_on = refl;
    apart = λ s. refl;
    mute = record { pushes = λ n. refl; delivers_none = λ n. refl };
  },
  line_quiet q (is_among posted ticket) p ticket i,
)

same_streams' : (w v : World) → v.streams ≡ w.streams → (ns : List ℕ) (items : List Item) (q : ℕ) (z : Place) → BothOf ns items w.streams q z → BothOf ns items v.streams q z
same_streams' w v e ns items q z h = subst (λ (ss : List OpenedStream). BothOf ns items ss q z) (sym e) h

-- where no stream of the world changes, and the proxy's neither
quiet_turn : (namespace : List ℕ) (whole : Whole) (items : List Item) (w : World) (p : ℕ) (x : Place) (d : Side) (own : List Item) → At namespace whole items w p x → Same (counted_side x.core) d → ((q : ℕ) → AreQuiet q own)
    → Both (later (view namespace items p x) own) w.streams d.broadcasts.streams d.broadcasts.watches × ((q : ℕ) (z : Place) → (q == p) ≡ false → place_at w q ≡ Some z → BothOf namespace (items ++ own) w.streams q z)
quiet_turn namespace whole items w p x d own a s q = (quiet_itself namespace whole items w p x d own a s (q p), quiet_others namespace whole items w p x own a (λ n e. q n))

-- the next number is of no stream yet
no_more : (xs : List OpenedStream) → nth xs (length xs + 1) ≡ None
no_more xs = ap (λ b. cond b None (slice_get xs (length xs + 1 - 1))) (more (length xs)) ∙ ap (slice_get xs) (back' (length xs)) ∙ behind xs
  where
    more : (n : ℕ) → (n + 1 == 0) ≡ false
    more n = grind (arith, nat_tests)

    back' : (n : ℕ) → n + 1 - 1 ≡ n
    back' n = omega arith

    behind : (ys : List OpenedStream) → slice_get ys (length ys) ≡ None
    behind [] = refl
    behind (y ∷ ys) = behind ys

-- a watch is left
left_both : (v : View) (streams : List OpenedStream) (a : Side) (ticket : ℕ) (d : Side) (o : Result Outcome StepFault) → Touch v.namespace a (event.Leave ticket) d o → Both v streams a.broadcasts.streams a.broadcasts.watches
    → Both v streams d.broadcasts.streams d.broadcasts.watches
left_both v streams a ticket _ _ (leaves_all e o p) h = h
left_both v streams a _ _ _ (left_it ticket) h = removed_sees v streams a.broadcasts ticket (watch_at ticket a.broadcasts.watches) h.known h.watches

-- a message is taken
took_both : (v : View) (streams : List OpenedStream) (a : Side) (ticket : ℕ) (i : WatchItem) (d : Side) → numbered 0 a.broadcasts.given a.broadcasts.streams ≡ true → a.header.revision ≤ newest (seen (taking v ticket i).items).store.history
    → Touch v.namespace a (event.Take ticket) d (Ok (outcome.Item i)) → Both v streams a.broadcasts.streams a.broadcasts.watches → Both (taking v ticket i) streams d.broadcasts.streams d.broadcasts.watches
took_both v streams a ticket i _ n high (leaves_all e o p) h = absurd (cc)
took_both v streams a _ _ _ n high (took ticket w i is f q) h =
    let same = watch_itself ticket a.broadcasts.watches w f in
    let mine = found (λ u. Has v (place_stream a.broadcasts.streams u.place) u) ticket a.broadcasts.watches w f h.watches in
    subst (λ (t : ℕ). Both (taking v t i) streams (taken_from a.broadcasts a.header w w.queue).0.streams (taken_from a.broadcasts a.header w w.queue).0.watches) same
    (took_sees v streams a.broadcasts a.header w i is n h.known (subst (λ (t : ℕ). a.header.revision ≤ newest (seen (taking v t i).items).store.history) (sym same) high) q mine h.watches)

taken_both : (namespace : List ℕ) (whole : Whole) (items : List Item) (w : World) (p : ℕ) (x : Place) (ticket : ℕ) (i : WatchItem) (d : Side) → At namespace whole items w p x → Touch namespace (counted_side x.core) (event.Take ticket) d (Ok (outcome.Item i))
    → Both (later (view namespace items p x) (taken_items p x.posted ticket i)) w.streams d.broadcasts.streams d.broadcasts.watches
taken_both namespace whole items w p x ticket i d a t =
    let first : List Item = item.Taken p ticket i ∷ [] in
    let line = line_if (is_among x.posted ticket) p ticket i in
    let ok = ok_of namespace whole items w p x a in
    let k = took_both (view namespace items p x) w.streams (counted_side x.core) ticket i d ok.holds.holds.numbers (most_of namespace whole items first w p x x.core.header.revision a (refl, tt) (header_of namespace whole items w p x a)) t (both_of namespace whole items w p x a) in
    subst (λ (l : List Item). Both (with_items (view namespace items p x) l) w.streams d.broadcasts.streams d.broadcasts.watches) (append_assoc items first line)
    (rest_both (later (view namespace items p x) first) w.streams d.broadcasts.streams d.broadcasts.watches line (line_quiet p (is_among x.posted ticket) p ticket i) k)

pub turn_has : (namespace : List ℕ) (whole : Whole) (items : List Item) (w : World) (p : ℕ) (x : Place) (e : CoreEvent) (o : Outcome) (v : World) (y : Place) (own : List Item) (told : Replies) → At namespace whole items w p x → (stepped x.core e x.clock).outcome ≡ Ok o
    → Turn w p (with_core x (stepped x.core e x.clock).core) e o v y own told → TurnHas namespace items w v p y own
turn_has namespace whole items w p x _ _ _ _ _ _ a out (ticks o) =
    let k = quiet_turn namespace whole items w p x (side (stepped x.core _ x.clock).core) (item.Ticked p ∷ []) a (tick_same namespace (counted_side x.core) _ _ (Ok o) (touch_of namespace whole items w p x _ o a out))
    (λ q. (quiet_one q (item.Ticked p) (record { takes = λ t. refl; lives = λ l. refl }) refl (λ s. refl) (mute_one (item.Ticked p) (λ n. refl) (λ n. refl)), tt)) in
    record { places_same = refl; itself = k.0; others = k.1 }
turn_has namespace whole items w p x _ _ _ _ _ _ a out (asks_it ticket q o free) =
    let ok = ok_of namespace whole items w p x a in
    let own : List Item = item.Asked p ticket q ∷ [] in
    record {
      places_same = refl;
      itself =
          asked_both (view namespace items p x) w.streams (counted_side x.core) ticket (word w) q (side (stepped x.core (event.Ask ticket q (word w)) x.clock).core) (Ok o) ok.holds.holds.numbers (most_of namespace whole items own w p x x.core.header.revision a (refl, tt) (header_of namespace whole items w p x a))
          (ok.unasked ticket free) (ok.untaken ticket free) (touch_of namespace whole items w p x _ o a out) (both_of namespace whole items w p x a);
      others = quiet_others namespace whole items w p x own a (λ n d. (quiet_one n (item.Asked p ticket q) (record { takes = λ t. refl; lives = λ l. refl }) refl (λ s. refl) (mute_one (item.Asked p ticket q) (λ n. refl) (λ n. refl)), tt));
    }
turn_has namespace whole items w p x _ _ _ _ _ _ a out (posts_it ticket path body q o free) =
    let ok = ok_of namespace whole items w p x a in
    let first : List Item = item.Posted p ticket path body ∷ [] in
    let second : List Item = item.Asked p ticket q ∷ [] in
    let silent : IsSilent p first = record { takes = λ t. refl; lives = λ l. refl } in
    let posted : (n : ℕ) → IsQuiet n (item.Posted p ticket path body) = λ n. quiet_one n (item.Posted p ticket path body) (record { takes = λ t. refl; lives = λ l. refl }) refl (λ s. refl) (mute_one (item.Posted p ticket path body) (λ n. refl) (λ n. refl)) in
    let all = append_assoc items first second in
    let behind = rest_both (view namespace items p x) w.streams x.core.watches.streams x.core.watches.watches first (posted p, tt) (both_of namespace whole items w p x a) in
    let high = most_of namespace whole items (first ++ second) w p x x.core.header.revision a (refl, (refl, tt)) (header_of namespace whole items w p x a) in
    record {
      places_same = refl;
      itself =
          subst (λ (l : List Item). Both (with_items (view namespace items p x) l) w.streams (side (stepped x.core (event.Ask ticket q (word w)) x.clock).core).broadcasts.streams (side (stepped x.core (event.Ask ticket q (word w)) x.clock).core).broadcasts.watches) all
          (asked_both (later (view namespace items p x) first) w.streams (counted_side x.core) ticket (word w) q (side (stepped x.core (event.Ask ticket q (word w)) x.clock).core) (Ok o) ok.holds.holds.numbers
          (subst (λ (l : List Item). x.core.header.revision ≤ newest (seen l).store.history) (sym all) high)
          (asked_same p ticket items first silent (λ t. refl) ∙ ok.unasked ticket free) (taken_still p ticket items first silent ∙ ok.untaken ticket free)
          (touch_of namespace whole items w p x _ o a out) behind);
      others = quiet_others namespace whole items w p x (first ++ second) a
          (λ n d. (posted n, (quiet_one n (item.Asked p ticket q) (record { takes = λ t. refl; lives = λ l. refl }) refl (λ s. refl) (mute_one (item.Asked p ticket q) (λ n. refl) (λ n. refl)), tt)));
    }
turn_has namespace whole items w p x _ _ _ _ _ _ a out (calls own member ticket q) =
    let i = item.Sent p (length w.calls + 1) member ticket q in
    let k = quiet_turn namespace whole items w p x (side (stepped x.core event.Work x.clock).core) (i ∷ []) a
    (call_same namespace (counted_side x.core) (side (stepped x.core event.Work x.clock).core) own member ticket q (Ok (outcome.Job (Some (job.Call own member ticket q)))) refl (touch_of namespace whole items w p x event.Work (outcome.Job (Some (job.Call own member ticket q))) a out))
    (λ n. (quiet_one n i (record { takes = λ t. refl; lives = λ l. refl }) refl (λ s. refl) (mute_one i (λ n. refl) (λ n. refl)), tt)) in
    record { places_same = refl; itself = k.0; others = k.1 }
turn_has namespace whole items w p x _ _ _ _ _ _ a out (opens own member ask) =
    let n = length w.streams + 1 in
    let i = item.Opened p n member (request.Watch ask) in
    let o = outcome.Job (Some (job.Begin own member (request.Watch ask))) in
    let x' = with_core x (stepped x.core event.Work x.clock).core in
    let new = new_stream p x' own in
    let ok = ok_of namespace whole items w p x a in
    let all = quiet_others namespace whole items w p x (i ∷ []) a (λ q d. (quiet_one q i (record { takes = λ t. refl; lives = λ l. refl }) refl (λ s. refl) (mute_one i (λ n. refl) (λ n. refl)), tt)) in
    record {
      places_same = refl;
      itself =
          opens_both (view namespace items p x) w.streams (counted_side x.core) (side (stepped x.core event.Work x.clock).core) own member ask new (Ok o) refl ok.holds.holds.numbers (apart_counted x.core ok.holds.apart) (a.has.fresh n (no_more w.streams)) refl refl refl
          (touch_of namespace whole items w p x event.Work o a out) (both_of namespace whole items w p x a);
      others = λ q z d f. both_goes (view namespace (items ++ i ∷ []) q z) w.streams (w.streams ++ new ∷ []) z.core.watches.streams z.core.watches.watches (λ k t h g. goes_push w.streams (new ∷ []) h.its.number h.world h.there) (all q z d f);
    }
turn_has namespace whole items w p x _ _ _ _ _ _ a out (closes own number e) =
    let i = item.Closed p number in
    let o = outcome.Job (Some (job.Close own)) in
    let d = side (stepped x.core event.Work x.clock).core in
    let ok = ok_of namespace whole items w p x a in
    let c = close_so namespace (counted_side x.core) d own (Ok o) refl ok.holds.holds.numbers (touch_of namespace whole items w p x event.Work o a out) in
    let quiet : (q : ℕ) → AreQuiet q (i ∷ []) = λ q. (quiet_one q i (record { takes = λ t. refl; lives = λ l. refl }) refl (λ s. refl) (mute_one i (λ n. refl) (λ n. refl)), tt) in
    let v' = closed_in w number (nth w.streams number) in
    let rested = rest_both (view namespace items p x) w.streams x.core.watches.streams x.core.watches.watches (i ∷ []) (quiet p) (both_of namespace whole items w p x a) in
    let gone = closed_sees (later (view namespace items p x) (i ∷ [])) w.streams x.core.watches c.stream c.found c.closing rested.known rested.watches in
    let here : Both (later (view namespace items p x) (i ∷ [])) w.streams d.broadcasts.streams d.broadcasts.watches =
    subst (λ (ws : List Watch). Both (later (view namespace items p x) (i ∷ [])) w.streams d.broadcasts.streams ws) (sym c.watches)
    (subst (λ (ss : List Stream). Both (later (view namespace items p x) (i ∷ [])) w.streams ss x.core.watches.watches) (sym c.streams) gone) in
    record {
      places_same = closed_same w number (nth w.streams number);
      itself = both_goes (later (view namespace items p x) (i ∷ [])) w.streams v'.streams d.broadcasts.streams d.broadcasts.watches (λ k t h f. closed_goes w number (nth w.streams number) refl h.its.number h.world h.there) here;
      others = λ q z n f.
          both_goes (view namespace (items ++ i ∷ []) q z) w.streams v'.streams z.core.watches.streams z.core.watches.watches (λ k t h g. closed_goes w number (nth w.streams number) refl h.its.number h.world h.there)
          (quiet_others namespace whole items w p x (i ∷ []) a (λ m _. quiet m) q z n f);
    }
turn_has namespace whole items w p x _ _ _ _ _ _ a out (answers number call reply o e f) =
    let i = item.Answered number in
    let k = quiet_turn namespace whole items w p x (side (stepped x.core _ x.clock).core) (i ∷ []) a (answer_same namespace (counted_side x.core) _ _ _ (Ok o) (touch_of namespace whole items w p x _ o a out))
    (λ n. (quiet_one n i (record { takes = λ t. refl; lives = λ l. refl }) refl (λ s. refl) (mute_one i (λ n. refl) (λ n. refl)), tt)) in
    record { places_same = refl; itself = k.0; others = k.1 }
turn_has namespace whole items w p x _ _ _ _ _ _ a out (loses number call o e) =
    let i = item.Lost number in
    let k = quiet_turn namespace whole items w p x (side (stepped x.core _ x.clock).core) (i ∷ []) a (lost_same namespace (counted_side x.core) _ _ (Ok o) (touch_of namespace whole items w p x _ o a out))
    (λ n. (quiet_one n i (record { takes = λ t. refl; lives = λ l. refl }) refl (λ s. refl) (mute_one i (λ n. refl) (λ n. refl)), tt)) in
    record { places_same = refl; itself = k.0; others = k.1 }
turn_has namespace whole items w p x _ _ _ _ _ _ a out (delivers_it number s i rest o there proxy live lived waiting) =
    let ok = ok_of namespace whole items w p x a in
    let st = stream_of namespace whole items w p x number s a there proxy lived in
    let own : List Item = item.Delivered number ∷ [] in
    let within = a.new.newest.streams number s there in
    record {
      places_same = refl;
      itself =
          delivered_both (view namespace items p x) w.streams (counted_side x.core) number s i rest s.own (side (stepped x.core (event.Item s.own i) x.clock).core) o refl
          (record { there = there; proxy = proxy; live = live; mine = st.mine; begun = st.begun; numbers = ok.holds.holds.numbers; apart = apart_counted x.core ok.holds.apart; both = both_of namespace whole items w p x a })
          waiting (λ t f. each_at IsKnown s.own x.core.watches.streams t f ok.messages.known)
          (most_of namespace whole items own w p x (item_header i).revision a (refl, tt) (subst (AllWithin (newest w.store.history)) waiting within).0)
          (most_of namespace whole items own w p x x.core.header.revision a (refl, tt) (header_of namespace whole items w p x a))
          (touch_of namespace whole items w p x (event.Item s.own i) o a out);
      others = λ q z d f.
          foreign_delivered (view namespace items q z) w.streams z.core.watches.streams z.core.watches.watches number s (record s { waiting = rest }) there (ap (λ (k : ℕ). q == k) proxy ∙ d) (a.has.places q z f);
    }
turn_has namespace whole items w p x _ _ _ _ _ _ a out (cuts number s o there proxy live lived) =
    let ok = ok_of namespace whole items w p x a in
    let st = stream_of namespace whole items w p x number s a there proxy lived in
    record {
      places_same = refl;
      itself =
          cut_both (view namespace items p x) w.streams (counted_side x.core) (side (stepped x.core (event.Cut s.own) x.clock).core) number s s.own o refl
          (record { there = there; proxy = proxy; live = live; mine = st.mine; begun = st.begun; numbers = ok.holds.holds.numbers; apart = apart_counted x.core ok.holds.apart; both = both_of namespace whole items w p x a })
          (touch_of namespace whole items w p x (event.Cut s.own) o a out);
      others = λ q z d f.
          foreign_cut (view namespace items q z) w.streams z.core.watches.streams z.core.watches.watches number s (record s { waiting = []; ended = true }) there (ap (λ (k : ℕ). q == k) proxy ∙ d) (a.has.places q z f);
    }
turn_has namespace whole items w p x _ _ _ _ _ _ a out (takes ticket i) =
    let own = taken_items p x.posted ticket i in
    record {
      places_same = refl;
      itself = taken_both namespace whole items w p x ticket i (side (stepped x.core (event.Take ticket) x.clock).core) a (touch_of namespace whole items w p x (event.Take ticket) (outcome.Item i) a out);
      others = quiet_others namespace whole items w p x own a (λ q d. taken_quiet p x.posted ticket i q d);
    }
turn_has namespace whole items w p x _ _ _ _ _ _ a out (waits ticket o n) =
    let i = item.Pending p ticket in
    let k = quiet_turn namespace whole items w p x (side (stepped x.core _ x.clock).core) (i ∷ []) a (pending_same namespace (counted_side x.core) _ ticket o n (touch_of namespace whole items w p x _ o a out))
    (λ n. (quiet_one n i (record { takes = λ t. refl; lives = λ l. refl }) refl (λ s. refl) (mute_one i (λ n. refl) (λ n. refl)), tt)) in
    record { places_same = refl; itself = k.0; others = k.1 }
turn_has namespace whole items w p x _ _ _ _ _ _ a out (leaves ticket o) =
    let i = item.Left p ticket in
    let quiet : (q : ℕ) → AreQuiet q (i ∷ []) = λ q. (quiet_one q i (record { takes = λ t. refl; lives = λ l. refl }) refl (λ s. refl) (mute_one i (λ n. refl) (λ n. refl)), tt) in
    let rested = rest_both (view namespace items p x) w.streams x.core.watches.streams x.core.watches.watches (i ∷ []) (quiet p) (both_of namespace whole items w p x a) in
    record {
      places_same = refl;
      itself = left_both (later (view namespace items p x) (i ∷ [])) w.streams (counted_side x.core) ticket (side (stepped x.core (event.Leave ticket) x.clock).core) (Ok o) (touch_of namespace whole items w p x (event.Leave ticket) o a out) rested;
      others = quiet_others namespace whole items w p x (i ∷ []) a (λ q d. quiet q);
    }
