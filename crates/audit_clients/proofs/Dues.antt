-- A watch's events of a history from a revision on, and those of a history that goes on.
use Rattle.std.proofs.Common.{◌≡◌, ℕ, suc, ◌<◌, ◌≤◌, ◌+◌, ◌-◌, Bool, true, false, cond, ◌&&◌, nat_le, nat_lt, List, [], ◌∷◌, ◌++◌, length, min, take, drop, map, filter, refl, sym, ◌∙◌, ap, subst, arith}
use Rattle.std.proofs.lemmas.Bool.{leb-false, leb-true, lt-leb, ltb-true}
use Rattle.std.proofs.lemmas.List.{drop_all, length-take, length-take-le, take-append-drop}
use Rattle.std.proofs.lemmas.List.Elements.{filter-append}
use Rattle.etcd_types.specs.declared.key_range.KeyRange.{KeyRange}
use Rattle.etcd_types.specs.declared.request.WatchAsk.{WatchAsk}
use Rattle.etcd_types.specs.declared.watch.Change.{Change}
use Rattle.etcd_types.specs.declared.watch.Event.{Event}
use Rattle.etcd_types.proofs.Bools.{and_second}
use Rattle.proxy_model.specs.Prefixes.{under}
use Rattle.store_model.specs.Events.{event_revision, events, events_after, passes, told_event, watch_events}
use Rattle.store_model.specs.History.{History, newest}
use Rattle.store_model.specs.State.{State}
use Rattle.watch_laws.proofs.Histories.{after_rises, events-append, events_are}
use Rattle.watch_model.specs.Joining.{watched_range}
use Rattle.watch_model.specs.Story.{changes, is_between}
use Rattle.world_model.specs.Received.{history_events, is_from}
use Rattle.audit_model.specs.Takes.{is_front, tells_front}
use Rattle.audit_clients.specs.Spots.{spot_behind}
use Rattle.audit_clients.specs.Stored.{with_prev}
use Rattle.audit_clients.proofs.HistoryEvents.{all_told, from_begin, passing_so, swapped}
use Rattle.audit_clients.proofs.Kept.{front_still}
use Rattle.audit_clients.proofs.Spots.{Rises, all_from, filtered, goes_on, rising, twice_from}
use Rattle.audit_clients.proofs.StoreGrows.{GoesOn}

-- ---- from a revision on

few : {A : Type 0} (p : A → Bool) (xs : List A) → length (filter p xs) ≤ length xs
few p [] = omega arith
few p (x ∷ xs) = by (p x) (few p xs)
  where
    by : (b : Bool) → length (filter p xs) ≤ length xs → length (cond b (x ∷ filter p xs) (filter p xs)) ≤ length (x ∷ xs)
    by true h = omega (arith, h)
    by false h = omega (arith, h)

abbrev behind_first : List Change → List Change
behind_first [] = []
behind_first (c ∷ cs) = cs

-- where all changes are of revisions below one, none is from that on
none_from : (b q : ℕ) (es : List Event) → b ≤ q → changes es ≡ filter (is_between 0 b) (changes es) → filter (is_from q) es ≡ []
none_from b q [] l h = refl
none_from b q (e ∷ es) l h = by (is_between 0 b e.change) refl h (none_from b q es l)
  where
    rest : List Change
    rest = filter (is_between 0 b) (changes es)

    below : nat_le 0 (event_revision e) && nat_lt (event_revision e) b ≡ true → event_revision e < q
    below k =
        let m : event_revision e < b = ltb-true (event_revision e) b (and_second (nat_le 0 (event_revision e)) (nat_lt (event_revision e) b) k) in
        omega (arith, m, l)

    by : (t : Bool) → is_between 0 b e.change ≡ t → e.change ∷ changes es ≡ cond (is_between 0 b e.change) (e.change ∷ rest) rest → (changes es ≡ rest → filter (is_from q) es ≡ []) → filter (is_from q) (e ∷ es) ≡ []
    by true k g more =
        ap (λ (t : Bool). cond t (e ∷ filter (is_from q) es) (filter (is_from q) es)) (lt-leb q (event_revision e) (below k))
        ∙ more (ap behind_first (g ∙ ap (λ (t : Bool). cond t (e.change ∷ rest) rest) k))
    by false k g more =
        let size : length (e.change ∷ changes es) ≡ length rest = ap length (g ∙ ap (λ (t : Bool). cond t (e.change ∷ rest) rest) k) in
        let less : length rest ≤ length (changes es) = few (is_between 0 b) (changes es) in
        absurd (too_long (length (changes es)) (length rest) size less)
      where
        too_long : (m n : ℕ) → suc m ≡ n → n ≤ m → ⊥
        too_long m n e k = omega (arith, e, k)

all_below : (range : KeyRange) (g : History) → changes (events_after range [] g) ≡ filter (is_between 0 (newest g + 1)) (changes (events_after range [] g))
all_below range g = ap changes (sym (from_begin range g)) ∙ events_are g range 0

from_revision : (h : History) (range : KeyRange) (r : ℕ) → filter (is_from r) (events_after range [] h) ≡ events h range r
from_revision h range r = ap (filter (is_from r)) first ∙ filter-append (is_from r) before later ∙ (λ i. none i ++ all i)
  where
    before : List Event
    before = events_after range [] (take (r - 2) h)

    later : List Event
    later = events h range r

    first : events_after range [] h ≡ before ++ later
    first = ap (events_after range []) (sym (take-append-drop (r - 2) h)) ∙ events-append range [] (take (r - 2) h) (drop (r - 2) h)

    none : filter (is_from r) before ≡ []
    none = by (nat_le 2 r) refl
      where
        by : (t : Bool) → nat_le 2 r ≡ t → filter (is_from r) before ≡ []
        by true k =
            let low : 2 ≤ r = leb-true 2 r k in
            let size : length (take (r - 2) h) ≡ min (r - 2) (length h) = length-take (r - 2) h in
            none_from (newest (take (r - 2) h) + 1) r before (omega (arith, low, size)) (all_below range (take (r - 2) h))
        by false k =
            let low : r < 2 = leb-false 2 r k in
            let zero' : r - 2 ≡ 0 = omega (arith, low) in
            ap (λ (n : ℕ). filter (is_from r) (events_after range [] (take n h))) zero'

    all : filter (is_from r) later ≡ later
    all = by (nat_le (r - 2) (length h)) refl
      where
        by : (t : Bool) → nat_le (r - 2) (length h) ≡ t → filter (is_from r) later ≡ later
        by true k =
            let long : length (take (r - 2) h) ≡ r - 2 = length-take-le (r - 2) h (leb-true (r - 2) (length h) k) in
            all_from r later (rising r later (after_rises range (take (r - 2) h) (drop (r - 2) h) r (omega (arith, long))))
        by false k =
            let short : length h < r - 2 = leb-false (r - 2) (length h) k in
            let nothing : drop (r - 2) h ≡ [] = drop_all (r - 2) h (omega (arith, short)) in
            ap (λ (xs : History). filter (is_from r) (events_after range (take (r - 2) h) xs)) nothing ∙ sym (ap (events_after range (take (r - 2) h)) nothing)

-- what the store's own watch is told from a revision on, of what is from the start on
pub told_from : (h : History) (p : List ℕ) (ask : WatchAsk) (start from : ℕ) → from ≤ start → filter (is_from start) (watch_events h 0 (with_prev p ask) from) ≡ history_events h p ask start
told_from h p ask start from l =
    let range = under p (watched_range ask.range) in
    let all : List Event = events_after range [] h in
    ap (filter (is_from start)) (all_told p ask (filter (passes (with_prev p ask)) (events h range from)) ∙ passing_so p ask (events h range from))
    ∙ swapped (is_from start) (passes ask) (events h range from)
    ∙ ap (filter (passes ask)) (ap (filter (is_from start)) (sym (from_revision h range from)) ∙ twice_from from start all l)

pub told_at : (h : History) (p : List ℕ) (ask : WatchAsk) (start : ℕ) → watch_events h 0 (with_prev p ask) start ≡ history_events h p ask start
told_at h p ask start =
    let range = under p (watched_range ask.range) in
    all_told p ask (filter (passes (with_prev p ask)) (events h range start))
    ∙ passing_so p ask (events h range start)
    ∙ ap (filter (passes ask)) (sym (from_revision h range start))

-- ---- all events of a watch

abbrev pub all_events : History → List ℕ → WatchAsk → List Event
all_events h p ask = filter (passes ask) (events_after (under p (watched_range ask.range)) [] h)

pub all_rise : (h : History) (p : List ℕ) (ask : WatchAsk) → Rises 0 (all_events h p ask)
all_rise h p ask =
    let range = under p (watched_range ask.range) in
    filtered (passes ask) 0 (events_after range [] h) (rising 0 (events_after range [] h) (after_rises range [] h 0 (omega arith)))

pub by_revision : (h : History) (p : List ℕ) (ask : WatchAsk) (start : ℕ) → filter (is_from start) (all_events h p ask) ≡ history_events h p ask start
by_revision h p ask start = swapped (is_from start) (passes ask) (events_after (under p (watched_range ask.range)) [] h)

-- ---- a history that goes on

grows : (h more : History) (p : List ℕ) (ask : WatchAsk) (start : ℕ)
    → history_events (h ++ more) p ask start ≡ history_events h p ask start ++ filter (passes ask) (filter (is_from start) (events_after (under p (watched_range ask.range)) h more))
grows h more p ask start =
    let range = under p (watched_range ask.range) in
    let now = events_after range [] h in
    let later = events_after range h more in
    ap (λ (es : List Event). filter (passes ask) (filter (is_from start) es)) (events-append range [] h more)
    ∙ ap (filter (passes ask)) (filter-append (is_from start) now later)
    ∙ filter-append (passes ask) (filter (is_from start) now) (filter (is_from start) later)

pub still_front : (s t : State) (p : List ℕ) (ask : WatchAsk) (start : ℕ) (got : List Event) → GoesOn s t → is_front s p ask start got ≡ true → is_front t p ask start got ≡ true
still_front s t p ask start got g f =
    subst (λ (es : List Event). tells_front ask.prev_kv t.compacted p got es ≡ true)
    (sym (ap (λ (h : History). history_events h p ask start) g.history ∙ grows s.history g.more p ask start))
    (front_still ask.prev_kv s.compacted t.compacted p got (history_events s.history p ask start) _ g.compacted f)

-- ---- a watch that stands behind what it took

pub front_from : (s : State) (p : List ℕ) (ask : WatchAsk) (start : ℕ) (spot : ℕ × ℕ) (got new : List Event) → is_front s p ask start got ≡ true → spot ≡ spot_behind (start, 0) got
    → is_front s p ask start (got ++ new) ≡ tells_front ask.prev_kv s.compacted p new (drop spot.1 (history_events s.history p ask spot.0))
front_from s p ask start spot got new f is =
    ap (tells_front ask.prev_kv s.compacted p (got ++ new)) (sym (by_revision s.history p ask start))
    ∙ goes_on ask.prev_kv s.compacted p (all_events s.history p ask) start spot got new (all_rise s.history p ask)
    (ap (tells_front ask.prev_kv s.compacted p got) (by_revision s.history p ask start) ∙ f) is
    ∙ ap (λ (es : List Event). tells_front ask.prev_kv s.compacted p new (drop spot.1 es)) (by_revision s.history p ask spot.0)
