-- Event by event: what is told without the namespace tells the history's event at its place, with the record before it.
use Rattle.std.proofs.Common.{◌≡◌, ℕ, ◌+◌, ◌-◌, ◌≤◌, Bool, true, false, not, cond, ◌&&◌, ◌||◌, nat_le, nat_lt, List, [], ◌∷◌, ◌++◌, append-nil, append_assoc, map, filter, take, drop, length, length-append, Option, None, Some, Ok, Err, refl, ap, sym, subst, ◌∙◌, arith}
use Rattle.std.proofs.lemmas.Bool.Decides.{nat_tests}
use Rattle.std.proofs.lemmas.List.{map-append, take-append-drop}
use Rattle.std.proofs.lemmas.List.Elements.{filter-append}
use Rattle.std.specs.Option.{option_map}
use Rattle.etcd_types.specs.declared.key_range.KeyRange.{KeyRange}
use Rattle.etcd_types.specs.declared.record.Header.{Header}
use Rattle.etcd_types.specs.declared.record.Kv.{Kv}
use Rattle.etcd_types.specs.declared.request.WatchAsk.{WatchAsk}
use Rattle.etcd_types.specs.declared.watch.Change.{Change}
use Rattle.etcd_types.specs.declared.watch.Change.TheVariants as change
use Rattle.etcd_types.specs.declared.watch.Event.{Event}
use Rattle.etcd_types.specs.declared.watch.WatchItem.{WatchItem}
use Rattle.etcd_types.specs.declared.watch.WatchItem.TheVariants as item
use Rattle.proxy_model.specs.Unwrapped.{Unwrapped, ◌>>=◌, each, record_without, prev_without, change_without, event_without, events_without}
use Rattle.script_text.specs.declared.item.Item.{Item}
use Rattle.store_model.specs.Events.{events, events_after, change_revision, event_revision, change_passes, passes, visible_prev, told_event, watch_events}
use Rattle.store_model.specs.History.{History, newest}
use Rattle.watch_model.specs.Queues.{item_events, is_for, chosen}
use Rattle.watch_model.specs.Delivery.{shown_event, shown_events}
use Rattle.watch_model.specs.Story.{is_between, changes}
use Rattle.watch_laws.proofs.Between.{none_before}
use Rattle.watch_laws.proofs.Histories.{after_rises, events-append, events_are}
use Rattle.world_model.specs.Received.{stored_record, stored_change, TellsPrev}
use Rattle.held_laws.proofs.Pushes.{Whole, WasTold}
use Rattle.held_laws.proofs.Stories.{PassesAll}
use Rattle.held_laws.proofs.Telling.{record_is, change_is}

-- each of these tells the one at its place, and there are as many
abbrev pub TellsEach : List Item → Bool → List ℕ → List Event → List Event → Type 0
TellsEach items asked namespace [] [] = Unit {0}
TellsEach items asked namespace [] (e ∷ es) = ⊥
TellsEach items asked namespace (t ∷ ts) [] = ⊥
TellsEach items asked namespace (t ∷ ts) (e ∷ es) = ((stored_change namespace t.change ≡ e.change) × TellsPrev items asked namespace t.prev e) × TellsEach items asked namespace ts es

pub tells-append : (items : List Item) (asked : Bool) (namespace : List ℕ) (ts us es fs : List Event) → TellsEach items asked namespace ts es → TellsEach items asked namespace us fs → TellsEach items asked namespace (ts ++ us) (es ++ fs)
tells-append items asked namespace [] us [] fs h k = k
tells-append items asked namespace [] us (e ∷ es) fs h k = absurd h
tells-append items asked namespace (t ∷ ts) us [] fs h k = absurd h
tells-append items asked namespace (t ∷ ts) us (e ∷ es) fs h k = (h.0, tells-append items asked namespace ts us es fs h.1 k)

pub tells_changes : (items : List Item) (asked : Bool) (namespace : List ℕ) (ts es : List Event) → TellsEach items asked namespace ts es → map (stored_change namespace) (changes ts) ≡ changes es
tells_changes items asked namespace [] [] h = refl
tells_changes items asked namespace [] (e ∷ es) h = absurd h
tells_changes items asked namespace (t ∷ ts) [] h = absurd h
tells_changes items asked namespace (t ∷ ts) (e ∷ es) h = λ i. h.0.0 i ∷ tells_changes items asked namespace ts es h.1 i

-- ---- the events that a message tells

-- by their place in the history
changes_map : (p : Change → Bool) (es : List Event) → changes (filter (λ e. p e.change) es) ≡ filter p (changes es)
changes_map p [] = refl
changes_map p (e ∷ es) = elim (p e.change) as (λ b. changes (cond b (e ∷ filter (λ e. p e.change) es) (filter (λ e. p e.change) es)) ≡ cond b (e.change ∷ filter p (changes es)) (filter p (changes es))) [
  | true ↦ ap (λ (l : List Change). e.change ∷ l) (changes_map p es)
  | false ↦ changes_map p es
]

pub fewer_left : {X : Type 0} (p : X → Bool) (xs : List X) → length (filter p xs) ≤ length xs
fewer_left p [] = omega arith
fewer_left p (x ∷ xs) = elim (p x) as (λ b. length (cond b (x ∷ filter p xs) (filter p xs)) ≤ length (x ∷ xs)) [
  | true ↦ (let l = fewer_left p xs in omega (arith, l))
  | false ↦ (let l = fewer_left p xs in omega (arith, l))
]

-- where none is left out, all are there
pub all_left : {X : Type 0} (p : X → Bool) (xs : List X) → length (filter p xs) ≡ length xs → filter p xs ≡ xs
all_left p [] e = refl
all_left p (x ∷ xs) e = by (p x) refl (all_left p xs)
  where
    by : (b : Bool) → p x ≡ b → (length (filter p xs) ≡ length xs → filter p xs ≡ xs) → filter p (x ∷ xs) ≡ x ∷ xs
    by true q ih =
        let whole : filter p (x ∷ xs) ≡ x ∷ filter p xs = ap (λ b. cond b (x ∷ filter p xs) (filter p xs)) q in
        let l : length (x ∷ filter p xs) ≡ length (x ∷ xs) = sym (ap length whole) ∙ e in
        whole ∙ ap (λ ys. x ∷ ys) (ih (omega (arith, l)))
    by false q ih =
        let less : filter p (x ∷ xs) ≡ filter p xs = ap (λ b. cond b (x ∷ filter p xs) (filter p xs)) q in
        let l : length (filter p xs) ≡ length (x ∷ xs) = sym (ap length less) ∙ e in
        let m = fewer_left p xs in
        absurd (omega (arith, l, m))

none_left : {X : Type 0} (xs : List X) → length xs ≡ 0 → xs ≡ []
none_left [] e = refl
none_left (x ∷ xs) e = absurd (omega (arith, e))

twice : {X : Type 0} (p : X → Bool) (xs : List X) → filter p (filter p xs) ≡ filter p xs
twice p [] = refl
twice p (x ∷ xs) = by (p x) refl (twice p xs)
  where
    by : (b : Bool) → p x ≡ b → filter p (filter p xs) ≡ filter p xs → filter p (cond (p x) (x ∷ filter p xs) (filter p xs)) ≡ cond (p x) (x ∷ filter p xs) (filter p xs)
    by true q ih = ap (λ b. filter p (cond b (x ∷ filter p xs) (filter p xs))) q ∙ ap (λ b. cond b (x ∷ filter p (filter p xs)) (filter p (filter p xs))) q ∙ ap (λ ys. x ∷ ys) ih ∙ ap (λ b. cond b (x ∷ filter p xs) (filter p xs)) (sym q)
    by false q ih = ap (λ b. filter p (cond b (x ∷ filter p xs) (filter p xs))) q ∙ ih ∙ ap (λ b. cond b (x ∷ filter p xs) (filter p xs)) (sym q)

-- from a revision to below another
abbrev pub in_span : ℕ → ℕ → Event → Bool
in_span from below e = is_between from below e.change

-- the events of a history that goes on, from a revision to behind the newest
pub span_is : (now more : History) (range : KeyRange) (n : ℕ) → filter (in_span n (newest now + 1)) (events_after range [] (now ++ more)) ≡ events now range n
span_is now more range n =
    ap (filter p) whole ∙ filter-append p (a ++ l) c ∙ (λ i. split i ++ none_behind i) ∙ append-nil l
  where
    b : ℕ
    b = newest now + 1

    p : Event → Bool
    p = in_span n (newest now + 1)

    a : List Event
    a = events_after range [] (take (n - 2) now)

    l : List Event
    l = events now range n

    c : List Event
    c = events_after range now more

    first : events_after range [] now ≡ a ++ l
    first = ap (events_after range []) (sym (take-append-drop (n - 2) now)) ∙ events-append range [] (take (n - 2) now) (drop (n - 2) now)

    whole : events_after range [] (now ++ more) ≡ (a ++ l) ++ c
    whole = events-append range [] now more ∙ ap (λ (x : List Event). x ++ events_after range now more) first

    told : changes l ≡ filter (is_between n (newest now + 1)) (changes (a ++ l))
    told = events_are now range n ∙ ap (λ (x : List Event). filter (is_between n (newest now + 1)) (changes x)) first

    inside : filter (is_between n (newest now + 1)) (changes l) ≡ changes l
    inside = ap (filter (is_between n (newest now + 1))) told ∙ twice (is_between n (newest now + 1)) (changes (a ++ l)) ∙ sym told

    length_changes : (es : List Event) → length (changes es) ≡ length es
    length_changes [] = refl
    length_changes (e ∷ es) = (let k = length_changes es in omega (arith, k))

    all_l : filter p l ≡ l
    all_l = all_left p l (sym (length_changes (filter p l)) ∙ ap length (changes_map (is_between n (newest now + 1)) l ∙ inside) ∙ length_changes l)

    no_a : filter p a ≡ []
    no_a =
        let both : changes l ≡ filter (is_between n (newest now + 1)) (changes a) ++ filter (is_between n (newest now + 1)) (changes l) =
        told ∙ ap (filter (is_between n (newest now + 1))) (map-append (λ (e : Event). e.change) a l) ∙ filter-append (is_between n (newest now + 1)) (changes a) (changes l) in
        let lens : length (changes l) ≡ length (filter (is_between n (newest now + 1)) (changes a) ++ changes l) = ap length (both ∙ ap (λ (x : List Change). filter (is_between n (newest now + 1)) (changes a) ++ x) inside) in
        let app = length-append (filter (is_between n (newest now + 1)) (changes a)) (changes l) in
        let zero' : length (filter (is_between n (newest now + 1)) (changes a)) ≡ 0 = omega (arith, lens, app) in
        none_left (filter p a) (sym (length_changes (filter p a)) ∙ ap length (changes_map (is_between n (newest now + 1)) a) ∙ zero')

    split : filter p (a ++ l) ≡ l
    split = filter-append p a l ∙ (λ i. no_a i ++ all_l i)

    none_behind : filter p c ≡ []
    none_behind =
        let none : filter (is_between n (newest now + 1)) (changes c) ≡ [] = none_before n (newest now + 1) (newest now + 1) (changes c) (after_rises range now more (newest now + 1) (omega arith)) (omega arith) in
        none_left (filter p c) (sym (length_changes (filter p c)) ∙ ap length (changes_map (is_between n (newest now + 1)) c ∙ none))

-- ---- a message, event by event

bound : {A B : Type 0} (r : Unwrapped A) (g : A → Unwrapped B) (y : B) → (r >>= g) ≡ Ok y → (x : A) × (r ≡ Ok x) × (g x ≡ Ok y)
bound (Ok x) g y e = (x, refl, e)
bound (Err k) g y e = absurd (cc)

ok_is : {A : Type 0} (x y : A) → ◌≡◌ {A = Unwrapped A} (Ok x) (Ok y) → x ≡ y
ok_is x y e = cc

visible : (compacted revision : ℕ) (o : Option Kv) (kv : Kv) → visible_prev compacted revision o ≡ Some kv → o ≡ Some kv
visible compacted revision None kv e = absurd (cc)
visible compacted revision (Some v) kv e = elim (nat_lt compacted revision || nat_le compacted v.modified) as (λ b. cond b (Some v) None ≡ Some kv → Some v ≡ Some kv) [ true ↦ λ f. f | false ↦ λ f. absurd (cc) ] e

-- the record before, as it is told, where the event stands in the message
prev_told : (items : List Item) (namespace : List ℕ) (i : WatchItem) (compacted : ℕ) (front back : List Event) (e m : Event) (u : Option Kv) → WasTold items i compacted → item_events i ≡ front ++ m ∷ back → m.change ≡ e.change
    → (o : Option Kv) → visible_prev compacted (event_revision e) e.prev ≡ o → prev_without namespace o ≡ Ok u → TellsPrev items true namespace u e
prev_told items namespace i compacted front back e m None told at same None seen' f = λ n. record {
  before = told.before;
  stream = told.stream;
  message = i;
  after = told.after;
  pushed = told.pushed;
  front = front;
  event = m;
  back = back;
  events = at;
  same = same;
  gone = ap (λ (c : ℕ). visible_prev c (event_revision e) e.prev) told.compaction ∙ seen';
}
prev_told items namespace i compacted front back e m (Some kv) told at same None seen' f = absurd (cc)
prev_told items namespace i compacted front back e m None told at same (Some kv) seen' f =
    let a = bound (record_without namespace kv) (λ kv. Ok (Some kv)) None f in
    let none : Some a.0 ≡ None = ok_is (Some a.0) None a.2 in absurd (cc)
prev_told items namespace i compacted front back e m (Some v) told at same (Some kv) seen' f =
    let a = bound (record_without namespace kv) (λ kv. Ok (Some kv)) (Some v) f in
    let one : Some a.0 ≡ Some v = ok_is (Some a.0) (Some v) a.2 in
    ap (option_map (stored_record namespace)) (sym one) ∙ ap (λ (x : Kv). Some x) (record_is namespace kv a.0 a.1) ∙ sym (visible compacted (event_revision e) e.prev kv seen')

event_told : (items : List Item) (namespace : List ℕ) (i : WatchItem) (compacted : ℕ) (ask : WatchAsk) (front back : List Event) (e u : Event) → ask.prev_kv ≡ true → WasTold items i compacted
    → item_events i ≡ front ++ told_event compacted ask e ∷ back → event_without namespace (told_event compacted ask e) ≡ Ok u
    → (stored_change namespace u.change ≡ e.change) × TellsPrev items true namespace u.prev e
event_told items namespace i compacted ask front back e u asked told at h =
    let m = told_event compacted ask e in
    let a = bound (change_without namespace m.change) (λ change. prev_without namespace m.prev >>= λ prev. Ok (record { change = change; prev = prev })) u h in
    let b = bound (prev_without namespace m.prev) (λ prev. Ok (record { change = a.0; prev = prev })) u a.2 in
    let one : record { change = a.0; prev = b.0 } ≡ u = ok_is (record { change = a.0; prev = b.0 }) u b.2 in
    let prev : m.prev ≡ visible_prev compacted (event_revision e) e.prev = ap (λ c. cond c (visible_prev compacted (event_revision e) e.prev) None) asked in (
      ap (λ (x : Event). stored_change namespace x.change) (sym one) ∙ change_is namespace e.change a.0 a.1,
      subst (λ (x : Event). TellsPrev items true namespace x.prev e) one (prev_told items namespace i compacted front back e m b.0 told at refl m.prev (sym prev) b.1),
    )

-- all events of the message
events_told : (items : List Item) (namespace : List ℕ) (i : WatchItem) (compacted : ℕ) (ask : WatchAsk) (front es us : List Event) → ask.prev_kv ≡ true → WasTold items i compacted
    → item_events i ≡ front ++ map (told_event compacted ask) es → events_without namespace (map (told_event compacted ask) es) ≡ Ok us → TellsEach items true namespace us es
events_told items namespace i compacted ask front [] us asked told at h = subst (λ (us : List Event). TellsEach items true namespace us []) (ok_is [] us h) tt
events_told items namespace i compacted ask front (e ∷ es) us asked told at h =
    let m = told_event compacted ask e in
    let rest = map (told_event compacted ask) es in
    let a = bound (event_without namespace m) (λ y. each (event_without namespace) rest >>= λ ys. Ok (y ∷ ys)) us h in
    let b = bound (each (event_without namespace) rest) (λ ys. Ok (a.0 ∷ ys)) us a.2 in
    subst (λ (us : List Event). TellsEach items true namespace us (e ∷ es)) (ok_is (a.0 ∷ b.0) us b.2) (
      event_told items namespace i compacted ask front rest e a.0 asked told at a.1,
      events_told items namespace i compacted ask (front ++ m ∷ []) es b.0 asked told (at ∙ sym (append_assoc front (m ∷ []) rest)) b.1,
    )

all_pass : (ask : WatchAsk) → PassesAll ask → (es : List Event) → filter (passes ask) es ≡ es
all_pass ask p [] = refl
all_pass ask p (e ∷ es) = ap (λ b. cond b (e ∷ filter (passes ask) es) (filter (passes ask) es)) (one e.change) ∙ ap (λ (l : List Event). e ∷ l) (all_pass ask p es)
  where
    one : (c : Change) → change_passes ask c ≡ true
    one (change.Put kv) = ap not p.puts
    one (change.Delete key modified) = ap not p.deletes

-- what a message tells a proxy's stream of the range
pub message_tells : (whole : Whole) (namespace : List ℕ) (ask : WatchAsk) (n compacted : ℕ) (h : Header) (es us : List Event) (now more : History) → PassesAll ask → whole.history ≡ now ++ more → watch_events now compacted ask n ≡ es
    → WasTold whole.items (item.Events h es) compacted → events_without namespace es ≡ Ok us
    → TellsEach whole.items true namespace us (filter (in_span n (newest now + 1)) (events_after ask.range [] whole.history))
message_tells whole namespace ask n compacted h es us now more p w q told u =
    let l = events now ask.range n in
    let same : map (told_event compacted ask) l ≡ es = ap (map (told_event compacted ask)) (sym (all_pass ask p l)) ∙ q in
    subst (TellsEach whole.items true namespace us) (sym (ap (λ (g : History). filter (in_span n (newest now + 1)) (events_after ask.range [] g)) w ∙ span_is now more ask.range n))
    (events_told whole.items namespace (item.Events h es) compacted ask [] l us p.records told (sym same) (ap (events_without namespace) same ∙ u))

-- ---- what a watch is given of it

-- told and history go by the same test
same_test : (namespace : List ℕ) (ask : WatchAsk) (own : ℕ) (t e : Event) → stored_change namespace t.change ≡ e.change → is_for ask own t ≡ is_for ask own e
same_test namespace ask own t e h = by t.change h
  where
    by : (c : Change) → stored_change namespace c ≡ e.change → (nat_le own (change_revision c) && change_passes ask c) ≡ (nat_le own (change_revision e.change) && change_passes ask e.change)
    by (change.Put kv) h = ap (λ (c : Change). nat_le own (change_revision c) && change_passes ask c) h
    by (change.Delete key modified) h = ap (λ (c : Change). nat_le own (change_revision c) && change_passes ask c) h

shown_tells : (items : List Item) (namespace : List ℕ) (asked : Bool) (t e : Event) → (stored_change namespace t.change ≡ e.change) × TellsPrev items true namespace t.prev e
    → (stored_change namespace (shown_event asked t).change ≡ e.change) × TellsPrev items asked namespace (shown_event asked t).prev e
shown_tells items namespace true t e h = h
shown_tells items namespace false t e h = (h.0, refl)

pub given_tells : (items : List Item) (namespace : List ℕ) (ask : WatchAsk) (own : ℕ) (ts es : List Event) → TellsEach items true namespace ts es → TellsEach items ask.prev_kv namespace (shown_events ask (chosen ask own ts)) (chosen ask own es)
given_tells items namespace ask own [] [] h = tt
given_tells items namespace ask own [] (e ∷ es) h = absurd h
given_tells items namespace ask own (t ∷ ts) [] h = absurd h
given_tells items namespace ask own (t ∷ ts) (e ∷ es) h =
    subst (λ b. TellsEach items ask.prev_kv namespace (shown_events ask (cond b (t ∷ chosen ask own ts) (chosen ask own ts))) (cond (is_for ask own e) (e ∷ chosen ask own es) (chosen ask own es))) (sym (same_test namespace ask own t e h.0.0))
    (elim (is_for ask own e) as (λ b. TellsEach items ask.prev_kv namespace (shown_events ask (cond b (t ∷ chosen ask own ts) (chosen ask own ts))) (cond b (e ∷ chosen ask own es) (chosen ask own es))) [
      | true ↦ (shown_tells items namespace ask.prev_kv t e h.0, given_tells items namespace ask own ts es h.1)
      | false ↦ given_tells items namespace ask own ts es h.1
    ])

and_no : (b : Bool) → (b && false) ≡ false
and_no true = refl
and_no false = refl

and_no' : (a b : Bool) → (b && (a && false)) ≡ false
and_no' true b = and_no b
and_no' false b = and_no b

-- from its own next on, those that it asked for
pub chosen_span : (ask : WatchAsk) (own n b : ℕ) → n ≤ own → (es : List Event) → chosen ask own (filter (in_span n b) es) ≡ filter (passes ask) (filter (in_span own b) es)
chosen_span ask own n b l [] = refl
chosen_span ask own n b l (e ∷ es) = by (change_revision e.change) (passes ask e) refl (chosen_span ask own n b l es)
  where
    -- the tests of one event
    test : (r : ℕ) (x : Bool) → ((nat_le n r && nat_lt r b) && (nat_le own r && x)) ≡ ((nat_le own r && nat_lt r b) && x)
    test r true = by_le (nat_le own r) refl
      where
        low : nat_le own r ≡ true → nat_le n r ≡ true
        low e = grind (arith, nat_tests)

        by_le : (c : Bool) → nat_le own r ≡ c → ((nat_le n r && nat_lt r b) && (nat_le own r && true)) ≡ ((nat_le own r && nat_lt r b) && true)
        by_le true q = ap (λ x. (x && nat_lt r b) && (nat_le own r && true)) (low q) ∙ ap (λ x. (true && nat_lt r b) && (x && true)) q ∙ ap (λ x. (x && nat_lt r b) && true) (sym q)
        by_le false q = ap (λ x. (nat_le n r && nat_lt r b) && (x && true)) q ∙ and_no (nat_le n r && nat_lt r b) ∙ ap (λ x. (x && nat_lt r b) && true) (sym q)
    test r false = and_no' (nat_le own r) (nat_le n r && nat_lt r b) ∙ sym (and_no (nat_le own r && nat_lt r b))

    two : (p q r s : Bool) (xs ys : List Event) → (p && q) ≡ (r && s) → xs ≡ ys → (cond p (cond q (e ∷ xs) xs) xs) ≡ cond r (cond s (e ∷ ys) ys) ys
    two true q true s xs ys f g = (λ i. cond (f i) (e ∷ g i) (g i))
    two true q false s xs ys f g = (λ i. cond (f i) (e ∷ g i) (g i))
    two false q true s xs ys f g = (λ i. cond (f i) (e ∷ g i) (g i))
    two false q false s xs ys f g = g

    pull : (p : Bool) (g : Event → Bool) (xs : List Event) → filter g (cond p (e ∷ xs) xs) ≡ cond p (cond (g e) (e ∷ filter g xs) (filter g xs)) (filter g xs)
    pull true g xs = refl
    pull false g xs = refl

    by : (r : ℕ) (x : Bool) → passes ask e ≡ x → chosen ask own (filter (in_span n b) es) ≡ filter (passes ask) (filter (in_span own b) es)
        → chosen ask own (cond (in_span n b e) (e ∷ filter (in_span n b) es) (filter (in_span n b) es)) ≡ filter (passes ask) (cond (in_span own b e) (e ∷ filter (in_span own b) es) (filter (in_span own b) es))
    by r x q ih =
        pull (in_span n b e) (is_for ask own) (filter (in_span n b) es)
        ∙ two (in_span n b e) (is_for ask own e) (in_span own b e) (passes ask e) (chosen ask own (filter (in_span n b) es)) (filter (passes ask) (filter (in_span own b) es)) (test (change_revision e.change) (passes ask e)) ih
        ∙ sym (pull (in_span own b e) (passes ask) (filter (in_span own b) es))
