-- What the store tells a watch at once is a batch of its range from its next on, of revisions that the history has.
use Rattle.std.proofs.Common.{◌≡◌, ◌⊎◌, inl, inr, ℕ, zero, suc, ◌+◌, ◌-◌, ◌≤◌, nat_le, Bool, true, false, cond, ◌&&◌, List, [], ◌∷◌, ◌++◌, length, map, filter, take, drop, Option, None, Some, refl, sym, ◌∙◌, ap, subst, arith}
use Rattle.std.proofs.lemmas.Bool.Decides.{nat_tests}
use Rattle.etcd_types.specs.declared.key_range.KeyRange.{KeyRange}
use Rattle.etcd_types.specs.declared.record.Kv.{Kv}
use Rattle.etcd_types.specs.declared.request.WatchAsk.{WatchAsk}
use Rattle.etcd_types.specs.declared.watch.Event.{Event}
use Rattle.etcd_types.specs.Ranges.{contains}
use Rattle.store_model.specs.declared.history.KeyChange.{KeyChange}
use Rattle.store_model.specs.declared.history.KeyChange.TheVariants.{Put, Delete}
use Rattle.store_model.specs.Events.{event_of, events_of_changes, events_after, event_revision, passes, told_event, watch_events}
use Rattle.etcd_types.proofs.Bools.{and_first, and_second}
use Rattle.store_model.specs.Watches.{next_after}
use Rattle.store_model.specs.History.{History, changed_key, newest, with_revision}
use Rattle.store_model.specs.Records.{record_now}
use Rattle.watch_model.specs.Delivery.{is_batch, last_revision}
use Rattle.watch_model.specs.Delivery as delivery

-- a batch from this revision on, up to that one
pub record Spans (range : KeyRange) (from top : ℕ) (es : List Event) : Type 0 where
  pub batch : is_batch range from es ≡ true
  pub last : (r : ℕ) → r ≤ top → last_revision r es ≤ top

key_is : (revision : ℕ) (old : Option Kv) (c : KeyChange) → delivery.changed_key (event_of revision old c).change ≡ changed_key c
key_is revision None (Put key value lease) = refl
key_is revision (Some kv) (Put key value lease) = refl
key_is revision old (Delete key) = refl

revision_is : (revision : ℕ) (old : Option Kv) (c : KeyChange) → event_revision (event_of revision old c) ≡ revision
revision_is revision None (Put key value lease) = refl
revision_is revision (Some kv) (Put key value lease) = refl
revision_is revision old (Delete key) = refl

lower_is : (n m r : ℕ) → n ≤ m → nat_le m r ≡ true → nat_le n r ≡ true
lower_is n m r h k = grind (arith, nat_tests)

le_is : (n m : ℕ) → n ≤ m → nat_le n m ≡ true
le_is n m h = grind (arith, nat_tests)

lower : (range : KeyRange) (n m : ℕ) (es : List Event) → n ≤ m → is_batch range m es ≡ true → is_batch range n es ≡ true
lower range n m [] h b = refl
lower range n m (e ∷ es) h b = by (nat_le m (event_revision e)) (contains range (delivery.changed_key e.change)) (is_batch range (event_revision e) es) refl b
  where
    by : (x y z : Bool) → nat_le m (event_revision e) ≡ x → (x && y && z) ≡ true → (nat_le n (event_revision e) && y && z) ≡ true
    by true true true q t = ap (λ b. b && true && true) (lower_is n m (event_revision e) h q)
    by true true false q t = absurd (cc)
    by true false z q t = absurd (cc)
    by false y z q t = absurd (cc)

lower_span : (range : KeyRange) (n m top : ℕ) (es : List Event) → n ≤ m → Spans range m top es → Spans range n top es
lower_span range n m top es h s = record { batch = lower range n m es h s.batch; last = s.last }

-- one event of this revision before them
span_more : (range : KeyRange) (n r top : ℕ) (e : Event) (es : List Event) → event_revision e ≡ r → contains range (delivery.changed_key e.change) ≡ true → n ≤ r → r ≤ top → Spans range r top es → Spans range n top (e ∷ es)
span_more range n r top e es q c h k s = record {
  batch = ap (λ (i : ℕ). nat_le n i && contains range (delivery.changed_key e.change) && is_batch range i es) q ∙ ap (λ b. b && contains range (delivery.changed_key e.change) && is_batch range r es) (le_is n r h)
      ∙ ap (λ b. true && b && is_batch range r es) c ∙ s.batch;
  last = λ m l. subst (λ (i : ℕ). last_revision i es ≤ top) (sym q) (s.last r k);
}

-- ---- the changes of one revision, and of all

abbrev pub tell : ℕ → WatchAsk → List Event → List Event
tell compacted ask es = map (told_event compacted ask) (filter (passes ask) es)

changes_span : (compacted : ℕ) (ask : WatchAsk) (before : History) (made cs : List KeyChange) (rest : List Event) (n top : ℕ) → n ≤ newest before + 1 → newest before + 1 ≤ top → Spans ask.range (newest before + 1) top (tell compacted ask rest)
    → Spans ask.range n top (tell compacted ask (events_of_changes ask.range before made cs ++ rest))
changes_span compacted ask before made [] rest n top h k s = lower_span ask.range n (newest before + 1) top (tell compacted ask rest) h s
changes_span compacted ask before made (c ∷ cs) rest n top h k s =
    by (contains ask.range (changed_key c)) refl (λ m l. changes_span compacted ask before (made ++ c ∷ []) cs rest m top l k s)
  where
    more : List Event
    more = events_of_changes ask.range before (made ++ c ∷ []) cs

    e : Event
    e = event_of (newest before + 1) (record_now (with_revision before made) (changed_key c)) c

    r : ℕ
    r = newest before + 1

    itself : (i : ℕ) → i ≤ i
    itself i = omega (arith)

    there : contains ask.range (changed_key c) ≡ true → contains ask.range (delivery.changed_key e.change) ≡ true
    there t = ap (contains ask.range) (key_is r (record_now (with_revision before made) (changed_key c)) c) ∙ t

    passed : contains ask.range (changed_key c) ≡ true → ((m : ℕ) → m ≤ r → Spans ask.range m top (tell compacted ask (more ++ rest))) → (b : Bool) → Spans ask.range n top (map (told_event compacted ask) (cond b (e ∷ filter (passes ask) (more ++ rest)) (filter (passes ask) (more ++ rest))))
    passed t f true = span_more ask.range n r top (told_event compacted ask e) (tell compacted ask (more ++ rest)) (revision_is r (record_now (with_revision before made) (changed_key c)) c) (there t) h k (f r (itself r))
    passed t f false = f n h

    by : (b : Bool) → contains ask.range (changed_key c) ≡ b → ((m : ℕ) → m ≤ r → Spans ask.range m top (tell compacted ask (more ++ rest))) → Spans ask.range n top (tell compacted ask (cond b (e ∷ more) more ++ rest))
    by true t f = passed t f (passes ask e)
    by false t f = f n h

newest_more : (before : History) (cs : List KeyChange) → newest (before ++ cs ∷ []) ≡ newest before + 1
newest_more [] cs = refl
newest_more (x ∷ before) cs = let e = newest_more before cs in grind (arith, e)

after_span : (compacted : ℕ) (ask : WatchAsk) (before h : History) (n : ℕ) → n ≤ newest before + 1 → Spans ask.range n (newest before + length h) (tell compacted ask (events_after ask.range before h))
after_span compacted ask before [] n k = record { batch = refl; last = λ r l. l }
after_span compacted ask before (cs ∷ h) n k =
    let r = newest_more before cs in
    let rest = after_span compacted ask (before ++ cs ∷ []) h (newest before + 1) (omega (arith, r)) in
    let top : newest (before ++ cs ∷ []) + length h ≡ newest before + length (cs ∷ h) = grind (arith, r) in
    changes_span compacted ask before [] cs (events_after ask.range (before ++ cs ∷ []) h) n (newest before + length (cs ∷ h)) k (grind (arith))
    (subst (λ (t : ℕ). Spans ask.range (newest before + 1) t (tell compacted ask (events_after ask.range (before ++ cs ∷ []) h))) top rest)

-- ---- of a history, from a revision on

take_few : (n : ℕ) (h : History) → newest (take n h) + length (drop n h) ≡ newest h
take_few zero h = all_of h
  where
    all_of : (h : History) → newest (take 0 h) + length (drop 0 h) ≡ newest h
    all_of [] = refl
    all_of (x ∷ h) = grind (arith)
take_few (suc n) [] = refl
take_few (suc n) (x ∷ h) = let e = take_few n h in grind (arith, e)

taken_or_nothing : (n : ℕ) (h : History) → (length (take n h) ≡ n) ⊎ (drop n h ≡ [])
taken_or_nothing zero [] = inl refl
taken_or_nothing zero (x ∷ h) = inl refl
taken_or_nothing (suc n) [] = inr refl
taken_or_nothing (suc n) (x ∷ h) = elim (taken_or_nothing n h) [ inl e ↦ inl (grind (arith, e)) | inr e ↦ inr e ]

pub watched_span : (h : History) (compacted : ℕ) (ask : WatchAsk) (from : ℕ) → Spans ask.range from (newest h) (watch_events h compacted ask from)
watched_span h compacted ask from = by (taken_or_nothing (from - 2) h)
  where
    before : History
    before = take (from - 2) h

    rest : History
    rest = drop (from - 2) h

    none : {es : List Event} → es ≡ [] → Spans ask.range from (newest h) es
    none e = subst (Spans ask.range from (newest h)) (sym e) (record { batch = refl; last = λ r l. l })

    by : (length before ≡ from - 2) ⊎ (rest ≡ []) → Spans ask.range from (newest h) (tell compacted ask (events_after ask.range before rest))
    by (inl e) = subst (λ (t : ℕ). Spans ask.range from t (tell compacted ask (events_after ask.range before rest))) (take_few (from - 2) h) (after_span compacted ask before rest from (omega (arith, e)))
    by (inr e) = none (ap (λ (r : History). tell compacted ask (events_after ask.range before r)) e)

-- ---- the revision behind the last of them

pub next_is_last : (r : ℕ) (es : List Event) → next_after (r + 1) es ≡ last_revision r es + 1
next_is_last r [] = refl
next_is_last r (e ∷ es) = next_is_last (event_revision e) es

ends_later : (range : KeyRange) (n : ℕ) (es : List Event) → is_batch range n es ≡ true → n ≤ last_revision n es
ends_later range n [] b = omega (arith)
ends_later range n (e ∷ es) b =
    let p = and_first (nat_le n (event_revision e) && contains range (delivery.changed_key e.change)) (is_batch range (event_revision e) es) b in
    let here = at_least n (event_revision e) (and_first (nat_le n (event_revision e)) (contains range (delivery.changed_key e.change)) p) in
    let more = ends_later range (event_revision e) es (and_second (nat_le n (event_revision e) && contains range (delivery.changed_key e.change)) (is_batch range (event_revision e) es) b) in
    omega (arith, here, more)
  where
    at_least : (a b : ℕ) → nat_le a b ≡ true → a ≤ b
    at_least a b e = grind (arith, nat_tests)

pub last_later : (range : KeyRange) (n : ℕ) (e : Event) (es : List Event) → is_batch range n (e ∷ es) ≡ true → n ≤ last_revision (event_revision e) es
last_later range n e es b = ends_later range n (e ∷ es) b
