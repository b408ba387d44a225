-- A message is pushed: it tells what the store of bare keys tells, and the view sees nothing of it.
use Rattle.std.proofs.Common.{◌≡◌, ◌⊎◌, inl, inr, ℕ, ◌+◌, ◌==◌, not, nat_lt, max, Bool, true, false, cond, List, [], ◌∷◌, ◌++◌, map, filter, Option, None, Some, Ok, Err, refl, sym, ◌∙◌, ap, subst, arith}
use Rattle.std.specs.List.{Contains}
use Rattle.std.proofs.lemmas.List.Elements.{Contains-append_right}
use Rattle.etcd_types.specs.declared.key_range.KeyRange.{KeyRange}
use Rattle.etcd_types.specs.declared.request.WatchAsk.{WatchAsk}
use Rattle.etcd_types.specs.declared.watch.Event.{Event}
use Rattle.etcd_types.specs.declared.watch.WatchItem.{WatchItem}
use Rattle.etcd_types.specs.declared.watch.WatchItem.TheVariants as item
use Rattle.store_model.specs.declared.store_fault.StoreFault.TheVariants as fault
use Rattle.store_model.specs.declared.watch.OpenWatch.{OpenWatch}
use Rattle.store_model.specs.Events.{events, passes, told_event}
use Rattle.store_model.specs.History.{History, newest}
use Rattle.store_model.specs.State.{State}
use Rattle.store_model.specs.Watches.{watch_of, with_next, first_next, next_after, watch_header, events_for, Pushed, push_events, push_to, for_watch, pushed, is_synced, progress_to, progressed}
use Rattle.store_laws.proofs.Lives.SoundProofs.{messages_keep_sound}
use Rattle.namespace_laws.specs.Stored.Stored.{stored}
use Rattle.namespace_laws.specs.Stored.StoredWatches.{stored_item, stored_pushed}
use Rattle.namespace_laws.proofs.Stored.Watches.{pushes_are_stored, progress_is_stored}
use Rattle.cache_laws.proofs.Store.ReadSteps.{unseen_step}
use Rattle.core_fits.specs.Fits.{EachOf}
use Rattle.world_model.specs.Places.{nth, place_at}
use Rattle.world_model.specs.State.{Place, OpenedStream, World}
use Rattle.world_model.specs.Streams.{with_message}
use Rattle.held_laws.proofs.Kept.{nth_itself, nth_other}
use Rattle.held_laws.proofs.Worlds.{equal, nth_changed}
use Rattle.bridge_laws.specs.Laws.{PushesStayShown}
use Rattle.bridge_laws.specs.Messages.{IsTold, AreEvents, MessageShown, StreamShown, LeasingWatched}
use Rattle.bridge_laws.specs.Shown.{Shown}

-- ---- a watch's events are of the history

first_of : {A : Type 0} (x : A) (xs : List A) → Contains (x ∷ xs) x
first_of x xs = (0, omega arith, refl)

told_if : (h : History) (range : KeyRange) (from compacted : ℕ) (ask : WatchAsk) (x : Event) (rest : List Event) (b : Bool) → Contains (events h range from) x
    → EachOf (IsTold h range from) (map (told_event compacted ask) rest) → EachOf (IsTold h range from) (map (told_event compacted ask) (cond b (x ∷ rest) rest))
told_if h range from compacted ask x rest true c t = ((x, c, refl), t)
told_if h range from compacted ask x rest false c t = t

told_each : (h : History) (range : KeyRange) (from compacted : ℕ) (ask : WatchAsk) (xs : List Event) → ((x : Event) → Contains xs x → Contains (events h range from) x)
    → EachOf (IsTold h range from) (map (told_event compacted ask) (filter (passes ask) xs))
told_each h range from compacted ask [] all = tt
told_each h range from compacted ask (x ∷ xs) all =
    told_if h range from compacted ask x (filter (passes ask) xs) (passes ask x) (all x (first_of x xs))
    (told_each h range from compacted ask xs (λ y c. all y (Contains-append_right (x ∷ []) xs y c)))

are_told : (s : State) (w : OpenWatch) → EachOf (IsTold s.history w.ask.range w.next) (events_for s w)
are_told s w = told_each s.history w.ask.range w.next s.compacted w.ask (events s.history w.ask.range w.next) (λ x c. c)

-- ---- what a push does to the store

-- its history and its leases stay, and each watch is of what it was of; the message is of this watch
pub record Pushes (s t : State) (number : ℕ) (i : WatchItem) : Type 0 where
  pub history : t.history ≡ s.history
  pub leases : t.leases ≡ s.leases
  pub watches : (m : ℕ) (w : OpenWatch) → watch_of s m ≡ Some w → (u : OpenWatch) × (watch_of t m ≡ Some u) × (u.ask ≡ w.ask)
  pub back : (m : ℕ) (u : OpenWatch) → watch_of t m ≡ Some u → (w : OpenWatch) × (watch_of s m ≡ Some w) × (u.ask ≡ w.ask)
  pub told : (w : OpenWatch) → watch_of s number ≡ Some w → AreEvents s.history w.ask.range i

one_watch : (a b : OpenWatch) → Some a ≡ Some b → a ≡ b
one_watch a b e = cc

moves : (s : State) (number next : ℕ) (w : OpenWatch) (i : WatchItem) → watch_of s number ≡ Some w → AreEvents s.history w.ask.range i → Pushes s (with_next s number w next) number i
moves s number next w i at told = record {
  history = refl;
  leases = refl;
  watches = λ m v e. by m v e (m == number) refl;
  back = λ m u e. by_change m u (nth_changed s.watches number m w moved u at e);
  told = λ v e. subst (λ (x : OpenWatch). AreEvents s.history x.ask.range i) (one_watch w v (sym at ∙ e)) told;
}
  where
    moved : OpenWatch
    moved = record w { next = next }

    by : (m : ℕ) (v : OpenWatch) → watch_of s m ≡ Some v → (b : Bool) → (m == number) ≡ b → (u : OpenWatch) × (watch_of (with_next s number w next) m ≡ Some u) × (u.ask ≡ v.ask)
    by m v e true n =
        let here = equal m number n in
        let same : w ≡ v = one_watch w v (sym at ∙ ap (watch_of s) (sym here) ∙ e) in
        (moved, ap (watch_of (with_next s number w next)) here ∙ nth_itself s.watches number w moved at, ap (λ (x : OpenWatch). x.ask) same)
    by m v e false n = (v, nth_other s.watches number m w moved at n ∙ e, refl)

    by_change : (m : ℕ) (u : OpenWatch) → ((m ≡ number) × (moved ≡ u)) ⊎ (((m == number) ≡ false) × (nth s.watches m ≡ Some u)) → (v : OpenWatch) × (watch_of s m ≡ Some v) × (u.ask ≡ v.ask)
    by_change m u (inl g) = (w, ap (watch_of s) g.0 ∙ at, sym (ap (λ (x : OpenWatch). x.ask) g.1))
    by_change m u (inr g) = (u, g.1, refl)

stays : (s : State) (number : ℕ) (i : WatchItem) → ((w : OpenWatch) → watch_of s number ≡ Some w → AreEvents s.history w.ask.range i) → Pushes s s number i
stays s number i told = record { history = refl; leases = refl; watches = λ m w e. (w, e, refl); back = λ m u e. (u, e, refl); told = told }

abbrev PushesSo : State → ℕ → Pushed → Type 0
PushesSo s number (Ok p) = Pushes s p.0 number p.1
PushesSo s number (Err why) = Unit {0}

events_so : (s : State) (number : ℕ) (w : OpenWatch) (es : List Event) → watch_of s number ≡ Some w → EachOf (IsTold s.history w.ask.range w.next) es → PushesSo s number (push_events s number w es)
events_so s number w [] at c = tt
events_so s number w (e ∷ es) at c = moves s number (next_after w.next (e ∷ es)) w (item.Events (watch_header s w) (e ∷ es)) at (w.next, c)

push_so : (s : State) (number : ℕ) (w : OpenWatch) → watch_of s number ≡ Some w → PushesSo s number (push_to s number w)
push_so s number w at = by (w.next == 0) (nat_lt w.next s.compacted)
  where
    by : (a b : Bool)
        → PushesSo s number
        (cond a (Ok (with_next s number w (first_next (newest s.history) w.ask.start), item.Created (watch_header s w)))
        (cond b (Ok (s, item.Canceled (watch_header s w) s.compacted)) (push_events s number w (events_for s w))))
    by true b = moves s number (first_next (newest s.history) w.ask.start) w (item.Created (watch_header s w)) at tt
    by false true = stays s number (item.Canceled (watch_header s w) s.compacted) (λ v e. tt)
    by false false = events_so s number w (events_for s w) at (are_told s w)

progress_so : (s : State) (number : ℕ) (w : OpenWatch) → watch_of s number ≡ Some w → PushesSo s number (progress_to s number w)
progress_so s number w at = by (not w.ask.progress) (is_synced s w)
  where
    by : (a b : Bool)
        → PushesSo s number
        (cond a (Err (fault.NotAsked number))
        (cond b (Ok (with_next s number w (max w.next (newest s.history + 1)), item.Events (watch_header s w) [])) (Err (fault.NotSynced w.next (newest s.history)))))
    by true b = tt
    by false true = moves s number (max w.next (newest s.history + 1)) w (item.Events (watch_header s w) []) at (0, tt)
    by false false = tt

for_so : (s : State) (number : ℕ) (step : OpenWatch → Pushed) (o : Option OpenWatch) → watch_of s number ≡ o → ((w : OpenWatch) → watch_of s number ≡ Some w → PushesSo s number (step w)) → PushesSo s number (for_watch number o step)
for_so s number step None e h = tt
for_so s number step (Some w) e h = h w e

pushed_so : (s : State) (number : ℕ) → PushesSo s number (pushed s number)
unfolding pushed
pushed_so s number = for_so s number (push_to s number) (watch_of s number) refl (push_so s number)

progressed_so : (s : State) (number : ℕ) → PushesSo s number (progressed s number)
unfolding progressed
progressed_so s number = for_so s number (progress_to s number) (watch_of s number) refl (progress_so s number)

-- ---- and to the world

-- the image of a push of the bare store
record IsPush (ns : List ℕ) (s t : State) (i : WatchItem) (number : ℕ) : Type 0 where
  pub bare : State
  pub message : WatchItem
  pub made : (pushed s number ≡ Ok (bare, message)) ⊎ (progressed s number ≡ Ok (bare, message))
  pub pushes : Pushes s bare number message
  pub image : t ≡ stored ns bare
  pub told : i ≡ stored_item ns message

is_push : (ns : List ℕ) (s t : State) (i : WatchItem) (number : ℕ) (r : Pushed) → PushesSo s number r → ((b : State) (m : WatchItem) → r ≡ Ok (b, m) → (pushed s number ≡ Ok (b, m)) ⊎ (progressed s number ≡ Ok (b, m)))
    → stored_pushed ns r ≡ Ok (t, i) → IsPush ns s t i number
is_push ns s t i number (Err why) so made e = absurd (cc)
is_push ns s t i number (Ok p) so made e =
    let same : (stored ns p.0, stored_item ns p.1) ≡ (t, i) = cc in
    record { bare = p.0; message = p.1; made = made p.0 p.1 refl; pushes = so; image = sym (ap (λ (x : State × WatchItem). x.0) same); told = sym (ap (λ (x : State × WatchItem). x.1) same) }

bare_push : (ns : List ℕ) (holder : ℕ → ℕ) (w : World) (h : Shown holder w) (number : ℕ) (t : State) (i : WatchItem) → (pushed w.store number ≡ Ok (t, i)) ⊎ (progressed w.store number ≡ Ok (t, i)) → IsPush w.namespace h.bare t i number
bare_push ns holder w h number t i (inl e) =
    is_push w.namespace h.bare t i number (pushed h.bare number) (pushed_so h.bare number) (λ b m f. inl f)
    (sym (pushes_are_stored w.namespace h.bare number h.stands.orderly.sound.keys) ∙ ap (λ (s : State). pushed s number) (sym h.store) ∙ e)
bare_push ns holder w h number t i (inr e) =
    is_push w.namespace h.bare t i number (progressed h.bare number) (progressed_so h.bare number) (λ b m f. inr f)
    (sym (progress_is_stored w.namespace h.bare number h.stands.orderly.sound.keys) ∙ ap (λ (s : State). progressed s number) (sym h.store) ∙ e)

each_more : {A : Type 0} (P : A → Type 0) (xs : List A) (x : A) → EachOf P xs → P x → EachOf P (xs ++ x ∷ [])
each_more P [] x h p = (p, tt)
each_more P (y ∷ ys) x h p = (h.0, each_more P ys x h.1 p)

-- the same messages, by a watch of the same
waits_on : (ns : List ℕ) (s t : State) (number : ℕ) (i : WatchItem) (w u : OpenWatch) (is : List WatchItem) → Pushes s t number i → u.ask ≡ w.ask → EachOf (MessageShown ns s.history w.ask.range) is → EachOf (MessageShown ns t.history u.ask.range) is
waits_on ns s t number i w u is k same h =
    subst (λ (a : WatchAsk). EachOf (MessageShown ns t.history a.range) is) (sym same) (subst (λ (g : History). EachOf (MessageShown ns g w.ask.range) is) (sym k.history) h)

-- a stream that waits for the same messages
pushed_on : (ns : List ℕ) (s t : State) (number m : ℕ) (i : WatchItem) (x : OpenedStream) → Pushes s t number i → StreamShown ns s m x → StreamShown ns t m x
pushed_on ns s t number m i x k h =
    let u = k.watches m h.watch h.at in
    record { watch = u.0; at = u.1; waiting = waits_on ns s t number i h.watch u.0 x.waiting k u.2 h.waiting }

pub pushes_stay_shown : PushesStayShown
pushes_stay_shown holder w number s t i at e h = record {
  leases = h.leases;
  bare = b.bare;
  store = b.image;
  view = h.view;
  stands = unseen_step holder w.leasing h.bare b.bare h.view b.pushes.history b.pushes.leases (messages_keep_sound h.bare b.bare b.message number b.made h.stands.orderly.sound) h.stands;
  forms = h.forms;
  count = h.count;
  calls = h.calls;
  places = h.places;
  absent = h.absent;
  floors = h.floors;
  drawn = h.drawn;
  streams = λ m x g. by m x (nth_changed w.streams number m s (with_message i s) x at g);
  watched = λ p y m x there g. seen p y m x there (nth_changed w.streams number m s (with_message i s) x at g);
}
  where
    b : IsPush w.namespace h.bare t i number
    b = bare_push w.namespace holder w h number t i e

    here : StreamShown w.namespace b.bare number (with_message i s)
    here =
        let old = h.streams number s at in
        let u = b.pushes.watches number old.watch old.at in
        let told : AreEvents b.bare.history u.0.ask.range b.message =
        subst (λ (a : WatchAsk). AreEvents b.bare.history a.range b.message) (sym u.2) (subst (λ (g : History). AreEvents g old.watch.ask.range b.message) (sym b.pushes.history) (b.pushes.told old.watch old.at)) in
        record { watch = u.0; at = u.1; waiting = each_more (MessageShown w.namespace b.bare.history u.0.ask.range) s.waiting i (waits_on w.namespace h.bare b.bare number b.message old.watch u.0 s.waiting b.pushes u.2 old.waiting) (b.message, b.told, told) }

    by : (m : ℕ) (x : OpenedStream) → ((m ≡ number) × (with_message i s ≡ x)) ⊎ (((m == number) ≡ false) × (nth w.streams m ≡ Some x)) → StreamShown w.namespace b.bare m x
    by m x (inl g) = subst (λ (n : ℕ). StreamShown w.namespace b.bare n x) (sym g.0) (subst (StreamShown w.namespace b.bare number) g.1 here)
    by m x (inr g) = pushed_on w.namespace h.bare b.bare number m b.message x b.pushes (h.streams m x g.1)

    of_watch : (p : ℕ) (y : Place) (m : ℕ) (x : OpenedStream) → LeasingWatched w.leasing h.bare p m x y → LeasingWatched w.leasing b.bare p m x y
    of_watch p y m x k o watch mine life lasts opens found =
        let v = b.pushes.back m watch found in ap (λ (a : WatchAsk). a.range) v.2 ∙ k o v.0 mine life lasts opens v.1

    seen : (p : ℕ) (y : Place) (m : ℕ) (x : OpenedStream) → place_at w p ≡ Some y → ((m ≡ number) × (with_message i s ≡ x)) ⊎ (((m == number) ≡ false) × (nth w.streams m ≡ Some x)) → LeasingWatched w.leasing b.bare p m x y
    seen p y m x there (inl g) =
        subst (λ (n : ℕ). LeasingWatched w.leasing b.bare p n x y) (sym g.0)
        (subst (λ (a : OpenedStream). LeasingWatched w.leasing b.bare p number a y) g.1 (of_watch p y number (with_message i s) (λ o watch mine life lasts opens found. h.watched p y number s there at o watch mine life lasts opens found)))
    seen p y m x there (inr g) = of_watch p y m x (h.watched p y m x there g.1)
