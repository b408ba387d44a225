-- Over a run of the store a watch is told the events of its range from its start on, each once.
use Rattle.std.proofs.Common.{◌≡◌, ℕ, suc, zero, ◌+◌, ◌-◌, ◌≤◌, ◌<◌, ◌==◌, nat_lt, max, Bool, true, false, cond, not, ◌&&◌, List, [], ◌∷◌, ◌++◌, None, Some, Err, length, take, set, slice_get, map, refl, sym, ◌∙◌, ap, subst, ◌⊎◌, inl, inr, arith, length-append}
use Rattle.std.proofs.lemmas.List.{take-append-le, append-nil}
use Rattle.std.proofs.Math.Seq.{take-length}
use Rattle.std.proofs.lemmas.Bool.{cases_lt}
use Rattle.etcd_types.specs.declared.record.Header.{Header}
use Rattle.etcd_types.specs.declared.request.WatchAsk.{WatchAsk}
use Rattle.etcd_types.specs.declared.watch.Event.{Event}
use Rattle.etcd_types.specs.declared.watch.WatchItem.TheVariants as item
use Rattle.store_model.specs.declared.watch.OpenWatch.{OpenWatch}
use Rattle.store_model.specs.declared.store_fault.StoreFault.TheVariants as fault
use Rattle.store_model.specs.History.{History, newest, up_to_revision}
use Rattle.store_model.specs.State.{State}
use Rattle.store_model.specs.Events.{told_event}
use Rattle.store_model.specs.Watches.{watch_of, with_next, first_next, next_after, events_for, push_to, progress_to, is_nil, is_synced, pushed, progressed, watch_header}
use Rattle.store_model.proofs.WatchLemmas.{pushed-some, progressed-some}
use Rattle.store_laws.specs.Events.WatchRuns.{watched, bare, LeavesWatch, Told, created, other, events_pushed, progress_told, AreFirst, TellEachOnce, TellAll, TellUpToNext, IsProgress, ProgressIsTrue}
use Rattle.store_laws.proofs.Events.Messages.{ok, created_by, events_by, nothing_by, progress_by}
use Rattle.store_laws.proofs.Events.EventProofs.{batched, watched-cut, watched-none, watched-past, bare-told, next-told}

-- the watch of a number after it moved on

get_set : {A : Type 0} (xs : List A) (i : ℕ) (x y : A) → slice_get xs i ≡ Some x → slice_get (set xs i y) i ≡ Some y
get_set [] i x y e = absurd (cc)
get_set (z ∷ xs) zero x y e = refl
get_set (z ∷ xs) (suc i) x y e = get_set xs i x y e

moved_by : (none : Bool) (xs : List OpenWatch) (i : ℕ) (w v : OpenWatch) → cond none None (slice_get xs i) ≡ Some w → cond none None (slice_get (set xs i v) i) ≡ Some v
moved_by true xs i w v e = absurd (cc)
moved_by false xs i w v e = get_set xs i w v e

watch-moved : (s : State) (number : ℕ) (w : OpenWatch) (next : ℕ) → watch_of s number ≡ Some w → watch_of (with_next s number w next) number ≡ Some (record w { next = next })
watch-moved s number w next e = moved_by (number == 0) s.watches (number - 1) w (record w { next = next }) e

-- what a watch was told up to a state

record Stands (number : ℕ) (ask : WatchAsk) (from : ℕ) (es : List Event) (t : State) (w : OpenWatch) : Type 0 where
  found : watch_of t number ≡ Some w
  asked : w.ask ≡ ask
  told : map bare es ≡ map bare (watched (up_to_revision t.history (w.next - 1)) ask from)
  reached : from ≤ w.next
  within : (w.next ≡ from) ⊎ (w.next ≤ newest t.history + 1)

Holds : (number : ℕ) (ask : WatchAsk) (from : ℕ) → List Event → State → Type 0
Holds number ask from es t = (w : OpenWatch) × Stands number ask from es t w

same_watch : (a b : OpenWatch) → Some a ≡ Some b → a ≡ b
same_watch a b e = cc

-- lists

map_append : {A B : Type 0} (f : A → B) (xs ys : List A) → map f (xs ++ ys) ≡ map f xs ++ map f ys
map_append f [] ys = refl
map_append f (x ∷ xs) ys = ap (λ (rest : List _). f x ∷ rest) (map_append f xs ys)

map_none : {A B : Type 0} (f : A → B) (xs : List A) → map f xs ≡ [] → xs ≡ []
map_none f [] e = refl
map_none f (x ∷ xs) e = absurd (cc)

nil_is : (es : List Event) → is_nil es ≡ true → es ≡ []
nil_is [] e = refl
nil_is (x ∷ es) e = absurd (cc)

last_true : (a b c : Bool) → a && b && c ≡ true → c ≡ true
last_true true true c e = e
last_true true false c e = absurd (cc)
last_true false b c e = absurd (cc)

-- each step keeps what was told

holds-created : (number : ℕ) (ask : WatchAsk) (from : ℕ) (s t : State) (w : OpenWatch) (header : Header) → watch_of s number ≡ Some w → w.ask ≡ ask
    → from ≡ first_next (newest s.history) ask.start → pushed s number ≡ ok t (item.Created header) → Holds number ask from [] t
unfolding Holds
holds-created number ask from s t w header found asked begins e =
    let step : push_to s number w ≡ ok t (item.Created header) = sym (pushed-some s number w found) ∙ e in
    let next : ℕ = first_next (newest s.history) w.ask.start in
    let moved : State = with_next s number w next in
    let at : moved ≡ t =
    created_by (w.next == 0) (nat_lt w.next s.compacted) s number w moved s t (watch_header s w) (watch_header s w) header s.compacted (events_for s w) step in
    let here : next ≡ from = ap (λ (a : WatchAsk). first_next (newest s.history) a.start) asked ∙ sym begins in
    let Held : State → Type 0 = λ u. (v : OpenWatch) × Stands number ask from [] u v in
    subst Held at (
      record w { next = next },
      record {
        found = watch-moved s number w next found;
        asked = asked;
        told = rw here (ap (map bare) (sym (watched-none s.history ask from)));
        reached = rw here (omega arith);
        within = inl here;
      },
    )

holds-other : (number : ℕ) (ask : WatchAsk) (from : ℕ) (es : List Event) (s t : State) → Holds number ask from es s → LeavesWatch number s t → Holds number ask from es t
unfolding Holds
holds-other number ask from es s t (w, h) l = (
  w,
  record {
    found = l.same_watch ∙ h.found;
    asked = h.asked;
    told = h.told ∙ ap (map bare) (still h.within);
    reached = h.reached;
    within = still_within h.within;
  },
)
  where
    still : (w.next ≡ from) ⊎ (w.next ≤ newest s.history + 1) → watched (up_to_revision s.history (w.next - 1)) ask from ≡ watched (up_to_revision t.history (w.next - 1)) ask from
    still (inl e) = rw e (watched-none s.history ask from ∙ sym (watched-none t.history ask from))
    still (inr e) =
        let within : w.next - 1 - 1 ≤ length s.history = omega arith in
        let front : take (w.next - 1 - 1) (s.history ++ l.grown.0) ≡ take (w.next - 1 - 1) s.history = take-append-le (w.next - 1 - 1) s.history l.grown.0 within in
        ap (λ (g : History). watched g ask from) (sym (ap (take (w.next - 1 - 1)) l.grown.1 ∙ front))

    still_within : (w.next ≡ from) ⊎ (w.next ≤ newest s.history + 1) → (w.next ≡ from) ⊎ (w.next ≤ newest t.history + 1)
    still_within (inl e) = inl e
    still_within (inr e) = inr (let long : length t.history ≡ length s.history + length l.grown.0 = ap length l.grown.1 ∙ length-append s.history l.grown.0 in omega arith)

-- the events of a push are those that the history has from the watch's next on
events_are : (s : State) (w : OpenWatch) → map bare (events_for s w) ≡ map bare (watched s.history w.ask w.next)
events_are s w = bare-told s.compacted w.ask (watched s.history w.ask w.next)

none_due : (s : State) (w : OpenWatch) → events_for s w ≡ [] → watched s.history w.ask w.next ≡ []
none_due s w e = map_none (told_event s.compacted w.ask) (watched s.history w.ask w.next) e

some_due : (s : State) (w : OpenWatch) → (x : Event) × (rest : List Event) × (events_for s w ≡ x ∷ rest) → newest s.history < w.next → ⊥
some_due s w (x, rest, e) far =
    let none : watched s.history w.ask w.next ≡ [] = watched-past s.history w.ask w.next far in
    let gone : events_for s w ≡ [] = ap (map (told_event s.compacted w.ask)) none in
    cc

holds-events : (number : ℕ) (ask : WatchAsk) (from : ℕ) (es fs : List Event) (s t : State) (header : Header) → Holds number ask from es s
    → pushed s number ≡ ok t (item.Events header fs) → Holds number ask from (es ++ fs) t
unfolding Holds
holds-events number ask from es fs s t header (w, h) e =
    let step : push_to s number w ≡ ok t (item.Events header fs) = sym (pushed-some s number w h.found) ∙ e in
    let batch = events_by (w.next == 0) (nat_lt w.next s.compacted) s number w (with_next s number w (first_next (newest s.history) w.ask.start)) s t (watch_header s w) (watch_header s w) header s.compacted (events_for s w) fs step in
    let near : w.next ≤ newest s.history = elim (cases_lt (newest s.history) w.next) [ inl far ↦ absurd (some_due s w batch.some_events far) | inr close ↦ close ] in
    let within : w.next ≤ newest s.history + 1 = omega arith in
    let cut = batched s.history w.ask from w.next h.reached within in
    let ends_at : next_after w.next (events_for s w) ≡ next_after w.next (watched s.history w.ask w.next) = next-told s.compacted w.ask w.next (watched s.history w.ask w.next) in
    let Held : State → Type 0 = λ u. (v : OpenWatch) × Stands number ask from (es ++ fs) u v in
    subst Held batch.moves (
      record w { next = next_after w.next (events_for s w) },
      record {
        found = watch-moved s number w (next_after w.next (events_for s w)) h.found;
        asked = h.asked;
        told =
            map_append bare es fs
            ∙ ap (λ (xs : List Event). map bare es ++ map bare xs) (sym batch.same_events)
            ∙ ap (λ (xs : List Event). xs ++ map bare (events_for s w)) h.told
            ∙ ap (λ (xs : List Event). map bare (watched (up_to_revision s.history (w.next - 1)) ask from) ++ xs) (events_are s w)
            ∙ ap (λ (a : WatchAsk). map bare (watched (up_to_revision s.history (w.next - 1)) ask from) ++ map bare (watched s.history a w.next)) h.asked
            ∙ sym (map_append bare (watched (up_to_revision s.history (w.next - 1)) ask from) (watched s.history ask w.next))
            ∙ ap (map bare) (due h.asked cut.joined)
            ∙ ap (λ (m : ℕ). map bare (watched (up_to_revision s.history (m - 1)) ask from)) (sym ends_at);
        reached = rw ends_at (let least : w.next ≤ next_after w.next (watched s.history w.ask w.next) = cut.least in let reached : from ≤ w.next = h.reached in omega arith);
        within = inr (rw ends_at cut.most);
      },
    )
  where
    due : w.ask ≡ ask
        → watched (up_to_revision s.history (next_after w.next (watched s.history w.ask w.next) - 1)) w.ask from ≡ watched (up_to_revision s.history (w.next - 1)) w.ask from ++ watched s.history w.ask w.next
        → watched (up_to_revision s.history (w.next - 1)) ask from ++ watched s.history ask w.next ≡ watched (up_to_revision s.history (next_after w.next (watched s.history w.ask w.next) - 1)) ask from
    due a j =
        let Joined : WatchAsk → Type 0 = λ b.
        watched (up_to_revision s.history (w.next - 1)) b from ++ watched s.history b w.next ≡ watched (up_to_revision s.history (next_after w.next (watched s.history w.ask w.next) - 1)) b from in
        subst Joined a (sym j)

-- where nothing is due, what was told is what the history has up to any later revision
all_told : (h : History) (ask : WatchAsk) (from next : ℕ) → from ≤ next → watched h ask next ≡ [] → watched (up_to_revision h (next - 1)) ask from ≡ watched h ask from
all_told h ask from next e none =
    sym (append-nil (watched (up_to_revision h (next - 1)) ask from))
    ∙ ap (λ (xs : List Event). watched (up_to_revision h (next - 1)) ask from ++ xs) (sym none)
    ∙ sym (watched-cut h ask from next e)

up_to_all : (h : History) (k : ℕ) → k ≡ newest h → up_to_revision h k ≡ h
up_to_all h k e = let f : k - 1 ≡ length h = omega arith in rw f (take-length h)

-- the next of a watch that is told how far it has come
gone_on : (h : History) (ask : WatchAsk) (from next : ℕ) → from ≤ next → watched h ask next ≡ []
    → watched (up_to_revision h (next - 1)) ask from ≡ watched (up_to_revision h (max next (newest h + 1) - 1)) ask from
gone_on h ask from next e none =
    elim (cases_lt next (newest h + 1)) [
      | inl low ↦
          let at : max next (newest h + 1) - 1 ≡ newest h = omega arith in
          all_told h ask from next e none ∙ ap (λ (g : History). watched g ask from) (sym (up_to_all h (max next (newest h + 1) - 1) at))
      | inr high ↦
          let at : max next (newest h + 1) ≡ next = omega arith in
          ap (λ (m : ℕ). watched (up_to_revision h (m - 1)) ask from) (sym at)
    ]

still_due : (h : History) (from next : ℕ) → (next ≡ from) ⊎ (next ≤ newest h + 1) → (max next (newest h + 1) ≡ from) ⊎ (max next (newest h + 1) ≤ newest h + 1)
still_due h from next (inr e) = inr (omega arith)
still_due h from next (inl e) =
    elim (cases_lt next (newest h + 1)) [ inl low ↦ inr (omega arith) | inr high ↦ inl (omega arith) ]

-- a synced watch has nothing due
synced_none : (s : State) (w : OpenWatch) (ask : WatchAsk) → is_synced s w ≡ true → w.ask ≡ ask → watched s.history ask w.next ≡ []
synced_none s w ask synced asked =
    let empty : events_for s w ≡ [] = nil_is (events_for s w) (last_true (not (w.next == 0)) (not (nat_lt w.next s.compacted)) (is_nil (events_for s w)) synced) in
    ap (λ (a : WatchAsk). watched s.history a w.next) (sym asked) ∙ none_due s w empty

holds-progress : (number : ℕ) (ask : WatchAsk) (from : ℕ) (es fs : List Event) (s t : State) (header : Header) → Holds number ask from es s
    → progressed s number ≡ ok t (item.Events header fs) → Holds number ask from (es ++ fs) t
unfolding Holds
holds-progress number ask from es fs s t header (w, h) e =
    let step : progress_to s number w ≡ ok t (item.Events header fs) = sym (progressed-some s number w h.found) ∙ e in
    let next : ℕ = max w.next (newest s.history + 1) in
    let moved : State = with_next s number w next in
    let told = progress_by (not w.ask.progress) (is_synced s w) s w moved t (watch_header s w) header fs (fault.NotAsked number) (fault.NotSynced w.next (newest s.history)) refl step in
    let none = synced_none s w ask told.synced h.asked in
    let Held : State → Type 0 = λ u. (v : OpenWatch) × Stands number ask from (es ++ fs) u v in
    subst Held told.moves (
      record w { next = next },
      record {
        found = watch-moved s number w next h.found;
        asked = h.asked;
        told =
            ap (λ (xs : List Event). map bare (es ++ xs)) told.no_events
            ∙ ap (map bare) (append-nil es)
            ∙ h.told
            ∙ ap (map bare) (gone_on s.history ask from w.next h.reached none);
        reached = let reached : from ≤ w.next = h.reached in omega arith;
        within = still_due s.history from w.next h.within;
      },
    )

-- runs

holds : (number : ℕ) (ask : WatchAsk) (from : ℕ) (es : List Event) (t : State) → Told number ask from es t → Holds number ask from es t
holds number ask from _ _ (created s t w header found asked begins e) = holds-created number ask from s t w header found asked begins e
holds number ask from _ _ (other s t es r l) = holds-other number ask from es s t (holds number ask from es s r) l
holds number ask from _ _ (events_pushed s t es fs header r e) = holds-events number ask from es fs s t header (holds number ask from es s r) e
holds number ask from _ _ (progress_told s t es fs header r e) = holds-progress number ask from es fs s t header (holds number ask from es s r) e

first_of : (number : ℕ) (ask : WatchAsk) (from : ℕ) (es : List Event) (t : State) → Holds number ask from es t → AreFirst t.history ask from es
unfolding Holds
first_of number ask from es t (w, h) = (w.next - 1, h.told)

pub tell_each_once : TellEachOnce
tell_each_once number from ask es t r = first_of number ask from es t (holds number ask from es t r)

all_of : (number : ℕ) (ask : WatchAsk) (from : ℕ) (es : List Event) (t : State) → Holds number ask from es t → pushed t number ≡ Err (fault.NothingToPush number)
    → map bare es ≡ map bare (watched t.history ask from)
unfolding Holds
all_of number ask from es t (w, h) e =
    let step : push_to t number w ≡ Err (fault.NothingToPush number) = sym (pushed-some t number w h.found) ∙ e in
    let empty : events_for t w ≡ [] =
    nothing_by (w.next == 0) (nat_lt w.next t.compacted) t number w (with_next t number w (first_next (newest t.history) w.ask.start)) t (watch_header t w) (watch_header t w) t.compacted (events_for t w) (fault.NothingToPush number) step in
    let none : watched t.history ask w.next ≡ [] = ap (λ (a : WatchAsk). watched t.history a w.next) (sym h.asked) ∙ none_due t w empty in
    h.told ∙ ap (map bare) (all_told t.history ask from w.next h.reached none)

pub tell_all : TellAll
tell_all number from ask es t r e = all_of number ask from es t (holds number ask from es t r) e

up_to_next : (number : ℕ) (ask : WatchAsk) (from : ℕ) (es : List Event) (t : State) (w : OpenWatch) → Holds number ask from es t → watch_of t number ≡ Some w
    → map bare es ≡ map bare (watched (up_to_revision t.history (w.next - 1)) ask from)
unfolding Holds
up_to_next number ask from es t w (v, h) e =
    let is : v ≡ w = same_watch v w (sym h.found ∙ e) in
    subst (λ (u : OpenWatch). map bare es ≡ map bare (watched (up_to_revision t.history (u.next - 1)) ask from)) is h.told

pub tell_up_to_next : TellUpToNext
tell_up_to_next number from ask es t w r e = up_to_next number ask from es t w (holds number ask from es t r) e

progress_of : (number : ℕ) (ask : WatchAsk) (from : ℕ) (es fs : List Event) (s t : State) (header : Header) → Holds number ask from es s
    → progressed s number ≡ ok t (item.Events header fs) → IsProgress ask from es s header fs
unfolding Holds
progress_of number ask from es fs s t header (w, h) e =
    let step : progress_to s number w ≡ ok t (item.Events header fs) = sym (progressed-some s number w h.found) ∙ e in
    let moved : State = with_next s number w (max w.next (newest s.history + 1)) in
    let told = progress_by (not w.ask.progress) (is_synced s w) s w moved t (watch_header s w) header fs (fault.NotAsked number) (fault.NotSynced w.next (newest s.history)) refl step in
    record {
      empty = told.no_events;
      newest_told = ap (λ (x : Header). x.revision) (sym told.headed);
      all = h.told ∙ ap (map bare) (all_told s.history ask from w.next h.reached (synced_none s w ask told.synced h.asked));
    }

pub progress_is_true : ProgressIsTrue
progress_is_true number from ask es fs s t header r e = progress_of number ask from es fs s t header (holds number ask from es s r) e
