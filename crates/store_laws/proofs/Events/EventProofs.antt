-- The events of a history from one revision on, cut at another; and where a batch of events ends.
use Rattle.std.proofs.Common.{◌≡◌, ℕ, suc, zero, ◌+◌, ◌-◌, ◌≤◌, ◌<◌, Bool, true, false, cond, List, [], ◌∷◌, ◌++◌, Option, None, Some, length, take, drop, map, filter, refl, sym, ◌∙◌, ap, append_assoc, length-append, length-drop, ◌⊎◌, inl, inr, arith}
use Rattle.std.proofs.lemmas.List.{take-append-drop, drop-take, length-take}
use Rattle.std.proofs.lemmas.List.Elements.{filter-append}
use Rattle.etcd_types.specs.declared.record.Kv.{Kv}
use Rattle.etcd_types.specs.declared.key_range.KeyRange.{KeyRange}
use Rattle.etcd_types.specs.declared.request.WatchAsk.{WatchAsk}
use Rattle.etcd_types.specs.declared.watch.Event.{Event}
use Rattle.etcd_types.specs.Ranges.{contains}
use Rattle.store_model.specs.declared.history.KeyChange.{KeyChange}
use Rattle.store_model.specs.declared.history.KeyChange.TheVariants.{Put, Delete}
use Rattle.store_model.specs.History.{History, newest, up_to_revision, with_revision, changed_key}
use Rattle.store_model.specs.Records.{record_now}
use Rattle.store_model.specs.Events.{event_of, events_of_changes, events_after, event_revision, passes, told_event}
use Rattle.store_model.specs.Watches.{next_after}
use Rattle.store_laws.specs.Events.WatchRuns.{watched, bare}

-- cutting

events_after-append : (range : KeyRange) (before xs ys : History)
    → events_after range before (xs ++ ys) ≡ events_after range before xs ++ events_after range (before ++ xs) ys
events_after-append range before [] ys = ap (λ (h : History). events_after range h ys) (sym (append_nil before))
  where
    append_nil : (h : History) → h ++ [] ≡ h
    append_nil [] = refl
    append_nil (cs ∷ h) = ap (λ (g : History). cs ∷ g) (append_nil h)
events_after-append range before (cs ∷ xs) ys =
    ap (λ (es : List Event). events_of_changes range before [] cs ++ es)
    (events_after-append range (before ++ cs ∷ []) xs ys ∙ ap (λ (h : History). events_after range (before ++ cs ∷ []) xs ++ events_after range h ys) (append_assoc before (cs ∷ []) xs))
    ∙ sym (append_assoc (events_of_changes range before [] cs) (events_after range (before ++ cs ∷ []) xs) (events_after range (before ++ cs ∷ xs) ys))

-- drop a of the whole is drop a of the first b, and the rest
drop_cut : {A : Type 0} (a b : ℕ) (h : List A) → a ≤ b → drop a h ≡ drop a (take b h) ++ drop b h
drop_cut zero b h e = sym (take-append-drop b h)
drop_cut (suc a) zero h e = absurd (omega arith)
drop_cut (suc a) (suc b) [] e = refl
drop_cut (suc a) (suc b) (x ∷ h) e = let f : a ≤ b = omega arith in drop_cut a b h f

take_cut : {A : Type 0} (a b : ℕ) (h : List A) → a ≤ b → take a (take b h) ≡ take a h
take_cut zero b h e = refl
take_cut (suc a) zero h e = absurd (omega arith)
take_cut (suc a) (suc b) [] e = refl
take_cut (suc a) (suc b) (x ∷ h) e = let f : a ≤ b = omega arith in ap (λ (g : List _). x ∷ g) (take_cut a b h f)

drop_taken : {A : Type 0} (a : ℕ) (h : List A) → drop a (take a h) ≡ []
drop_taken zero h = refl
drop_taken (suc a) [] = refl
drop_taken (suc a) (x ∷ h) = drop_taken a h

drop_all : {A : Type 0} (a : ℕ) (h : List A) → length h ≤ a → drop a h ≡ []
drop_all zero [] e = refl
drop_all zero (x ∷ h) e = absurd (omega arith)
drop_all (suc a) [] e = refl
drop_all (suc a) (x ∷ h) e = let f : length h ≤ a = omega arith in drop_all a h f

events-cut : (h : History) (range : KeyRange) (a b : ℕ) → a ≤ b
    → events_after range (take a h) (drop a h) ≡ events_after range (take a h) (drop a (take b h)) ++ events_after range (take b h) (drop b h)
events-cut h range a b e =
    ap (λ (rest : History). events_after range (take a h) rest) (drop_cut a b h e)
    ∙ events_after-append range (take a h) (drop a (take b h)) (drop b h)
    ∙ ap (λ (before : History). events_after range (take a h) (drop a (take b h)) ++ events_after range before (drop b h)) rejoined
  where
    rejoined : take a h ++ drop a (take b h) ≡ take b h
    rejoined = ap (λ (before : History). before ++ drop a (take b h)) (sym (take_cut a b h e)) ∙ take-append-drop a (take b h)

pub watched-cut : (h : History) (ask : WatchAsk) (from next : ℕ) → from ≤ next
    → watched h ask from ≡ watched (up_to_revision h (next - 1)) ask from ++ watched h ask next
watched-cut h ask from next e =
    let f : from - 2 ≤ next - 2 = omega arith in
    let same : next - 1 - 1 ≡ next - 2 = omega arith in
    rw same
    (ap (filter (passes ask)) (events-cut h ask.range (from - 2) (next - 2) f)
    ∙ filter-append (passes ask) (events_after ask.range (take (from - 2) h) (drop (from - 2) (take (next - 2) h))) (events_after ask.range (take (next - 2) h) (drop (next - 2) h))
    ∙ ap (λ (before : History). filter (passes ask) (events_after ask.range before (drop (from - 2) (take (next - 2) h))) ++ watched h ask next) (sym (take_cut (from - 2) (next - 2) h f)))

pub watched-none : (h : History) (ask : WatchAsk) (from : ℕ) → watched (up_to_revision h (from - 1)) ask from ≡ []
watched-none h ask from =
    let same : from - 1 - 1 ≡ from - 2 = omega arith in
    rw same
    (ap (λ (rest : History). filter (passes ask) (events_after ask.range (take (from - 2) (take (from - 2) h)) rest)) (drop_taken (from - 2) h))

pub watched-past : (h : History) (ask : WatchAsk) (next : ℕ) → newest h < next → watched h ask next ≡ []
watched-past h ask next e =
    let f : length h ≤ next - 2 = omega arith in
    ap (λ (rest : History). filter (passes ask) (events_after ask.range (take (next - 2) h) rest)) (drop_all (next - 2) h f)

-- where a batch ends

put_revision : (revision : ℕ) (old : Option Kv) (key value : List ℕ) (lease : ℕ) → event_revision (event_of revision old (Put key value lease)) ≡ revision
put_revision revision None key value lease = refl
put_revision revision (Some kv) key value lease = refl

pub change_is : (revision : ℕ) (old : Option Kv) (c : KeyChange) → event_revision (event_of revision old c) ≡ revision
change_is revision old (Put key value lease) = put_revision revision old key value lease
change_is revision old (Delete key) = refl

-- of events of one revision, the revision behind the last is that behind theirs, where there is one
OneRevision : ℕ → List Event → Type 0
OneRevision revision [] = Unit {0}
OneRevision revision (e ∷ es) = (event_revision e ≡ revision) × OneRevision revision es

one_either : (revision : ℕ) (b : Bool) (e : Event) (es : List Event) → event_revision e ≡ revision → OneRevision revision es → OneRevision revision (cond b (e ∷ es) es)
unfolding OneRevision
one_either revision true e es h k = (h, k)
one_either revision false e es h k = k

one-changes : (range : KeyRange) (before : History) (made cs : List KeyChange) → OneRevision (newest before + 1) (events_of_changes range before made cs)
unfolding OneRevision
one-changes range before made [] = tt
one-changes range before made (c ∷ cs) =
    one_either (newest before + 1) (contains range (changed_key c)) _ _
    (change_is (newest before + 1) (record_now (with_revision before made) (changed_key c)) c) (one-changes range before (made ++ c ∷ []) cs)

one-filter : (revision : ℕ) (p : Event → Bool) (es : List Event) → OneRevision revision es → OneRevision revision (filter p es)
unfolding OneRevision
one-filter revision p [] h = tt
one-filter revision p (e ∷ es) h = one_either revision (p e) e (filter p es) h.0 (one-filter revision p es h.1)

-- nothing, or up to behind that revision
ends_at : (revision n : ℕ) (es : List Event) → OneRevision revision es → ((es ≡ []) × (next_after n es ≡ n)) ⊎ (next_after n es ≡ revision + 1)
unfolding OneRevision
ends_at revision n [] h = inl (refl, refl)
ends_at revision n (e ∷ []) h = inr (ap (λ (r : ℕ). r + 1) h.0)
ends_at revision n (e ∷ f ∷ es) h =
    elim (ends_at revision (event_revision e + 1) (f ∷ es) h.1) [
      | inl none ↦ absurd (cc)
      | inr last ↦ inr last
    ]

next_after-append : (n : ℕ) (xs ys : List Event) → next_after n (xs ++ ys) ≡ next_after (next_after n xs) ys
next_after-append n [] ys = refl
next_after-append n (x ∷ xs) ys = next_after-append (event_revision x + 1) xs ys

-- the events of the revisions behind `before`, that pass
pub passing : WatchAsk → History → History → List Event
passing ask before rest = filter (passes ask) (events_after ask.range before rest)

-- what was found of a batch that begins at or below a revision: it ends behind its last event, and none is behind that
pub record Ends (ask : WatchAsk) (n : ℕ) (before rest : History) : Type 0 where
  pub least : n ≤ next_after n (passing ask before rest)
  pub most : next_after n (passing ask before rest) ≤ length before + 2 + length rest
  pub whole : passing ask before (take (next_after n (passing ask before rest) - (length before + 2)) rest) ≡ passing ask before rest

append_none : {A : Type 0} (xs ys : List A) → xs ≡ [] → ys ≡ [] → [] ≡ xs ++ ys
append_none xs ys e f = rw (e, f) refl

-- of the first revision's events F and the rest's E: the cut behind the last event leaves both
whole_by : (ask : WatchAsk) (before : History) (cs : List KeyChange) (rest : History) (m q : ℕ) (fs es : List Event)
    → fs ≡ filter (passes ask) (events_of_changes ask.range before [] cs)
    → es ≡ passing ask (before ++ cs ∷ []) rest
    → m - (length before + 2) ≡ q → m - (length before + 3) ≡ q - 1
    → (q ≡ zero → fs ≡ [])
    → passing ask (before ++ cs ∷ []) (take (q - 1) rest) ≡ es
    → passing ask before (take q (cs ∷ rest)) ≡ fs ++ es
unfolding passing
whole_by ask before cs rest m zero fs es f e a b n w = append_none fs es (n refl) (sym w)
whole_by ask before cs rest m (suc q) fs es f e a b n w =
    let same : suc q - 1 ≡ q = omega arith in
    filter-append (passes ask) (events_of_changes ask.range before [] cs) (events_after ask.range (before ++ cs ∷ []) (take q rest))
    ∙ ap (λ (xs : List Event). xs ++ filter (passes ask) (events_after ask.range (before ++ cs ∷ []) (take q rest))) (sym f)
    ∙ ap (λ (ys : List Event). fs ++ ys) (rw same at w)

length_snoc : (before : History) (cs : List KeyChange) → length (before ++ cs ∷ []) ≡ length before + 1
length_snoc before cs = length-append before (cs ∷ [])

ends_step : (ask : WatchAsk) (n m : ℕ) (before : History) (cs : List KeyChange) (rest : History) (fs es : List Event)
    → fs ≡ filter (passes ask) (events_of_changes ask.range before [] cs) → es ≡ passing ask (before ++ cs ∷ []) rest
    → passing ask before (cs ∷ rest) ≡ fs ++ es → m ≡ next_after n (fs ++ es)
    → n ≤ length before + 2 → ((fs ≡ []) × (next_after n fs ≡ n)) ⊎ (next_after n fs ≡ newest before + 1 + 1)
    → next_after n fs ≤ m → m ≤ length before + 3 + length rest
    → passing ask (before ++ cs ∷ []) (take (m - (length before + 3)) rest) ≡ es
    → Ends ask n before (cs ∷ rest)
ends_step ask n m before cs rest fs es f g joined is low how least most whole =
    let at : next_after n (passing ask before (cs ∷ rest)) ≡ m = ap (next_after n) joined ∙ sym is in
    record {
      least = rw at (begins how);
      most = rw at (let long : length (cs ∷ rest) ≡ length rest + 1 = refl_suc (length rest) in rw long (omega arith));
      whole =
          rw (at, joined)
          (whole_by ask before cs rest m (m - (length before + 2)) fs es f g refl (omega arith) (none how)
          (let same : m - (length before + 2) - 1 ≡ m - (length before + 3) = omega arith in rw same whole));
    }
  where
    refl_suc : (k : ℕ) → suc k ≡ k + 1
    refl_suc k = omega arith

    begins : ((fs ≡ []) × (next_after n fs ≡ n)) ⊎ (next_after n fs ≡ newest before + 1 + 1) → n ≤ m
    begins (inl (none, stays)) = omega arith
    begins (inr last) = omega arith

    none : ((fs ≡ []) × (next_after n fs ≡ n)) ⊎ (next_after n fs ≡ newest before + 1 + 1) → m - (length before + 2) ≡ zero → fs ≡ []
    none (inl (nothing, stays)) z = nothing
    none (inr last) z = absurd (omega arith)

pub ends : (ask : WatchAsk) (n : ℕ) (before rest : History) → n ≤ length before + 2 → Ends ask n before rest
unfolding passing
ends ask n before [] e = record { least = omega arith; most = omega arith; whole = nothing (n - (length before + 2)) }
  where
    nothing : (k : ℕ) → passing ask before (take k []) ≡ []
    nothing zero = refl
    nothing (suc k) = refl
ends ask n before (cs ∷ rest) e =
    let fs : List Event = filter (passes ask) (events_of_changes ask.range before [] cs) in
    let es : List Event = passing ask (before ++ cs ∷ []) rest in
    let how = ends_at (newest before + 1) n fs (one-filter (newest before + 1) (passes ask) (events_of_changes ask.range before [] cs) (one-changes ask.range before [] cs)) in
    let long : length (before ++ cs ∷ []) ≡ length before + 1 = length_snoc before cs in
    let later = ends ask (next_after n fs) (before ++ cs ∷ []) rest (rw long (from_how fs how)) in
    let m = next_after (next_after n fs) es in
    ends_step ask n m before cs rest fs es refl refl
    (filter-append (passes ask) (events_of_changes ask.range before [] cs) (events_after ask.range (before ++ cs ∷ []) rest))
    (sym (next_after-append n fs es)) e how later.least (rw_most fs es later.most) (rw_whole fs es later.whole)
  where
    from_how : (fs : List Event) → ((fs ≡ []) × (next_after n fs ≡ n)) ⊎ (next_after n fs ≡ newest before + 1 + 1) → next_after n fs ≤ length before + 1 + 2
    from_how fs (inl (none, stays)) = omega arith
    from_how fs (inr last) = omega arith

    rw_most : (fs es : List Event) → next_after (next_after n fs) es ≤ length (before ++ cs ∷ []) + 2 + length rest → next_after (next_after n fs) es ≤ length before + 3 + length rest
    rw_most fs es h = let long : length (before ++ cs ∷ []) ≡ length before + 1 = length_snoc before cs in omega arith

    rw_whole : (fs es : List Event) → passing ask (before ++ cs ∷ []) (take (next_after (next_after n fs) es - (length (before ++ cs ∷ []) + 2)) rest) ≡ es
        → passing ask (before ++ cs ∷ []) (take (next_after (next_after n fs) es - (length before + 3)) rest) ≡ es
    rw_whole fs es h =
        let long : length (before ++ cs ∷ []) ≡ length before + 1 = length_snoc before cs in
        let same : length (before ++ cs ∷ []) + 2 ≡ length before + 3 = omega arith in
        rw same at h

-- a batch from `next` on: the events up to behind it are those before it, and the batch
pub record Batched (h : History) (ask : WatchAsk) (from next m : ℕ) : Type 0 where
  pub least : next ≤ m
  pub most : m ≤ newest h + 1
  pub joined : watched (up_to_revision h (m - 1)) ask from ≡ watched (up_to_revision h (next - 1)) ask from ++ watched h ask next

pub batched : (h : History) (ask : WatchAsk) (from next : ℕ) → from ≤ next → next ≤ newest h + 1 → Batched h ask from next (next_after next (watched h ask next))
unfolding passing
batched h ask from next e within =
    let before : History = take (next - 2) h in
    let rest : History = drop (next - 2) h in
    let m : ℕ = next_after next (watched h ask next) in
    let here : next - 2 ≤ length h = omega arith in
    let long : length before ≡ next - 2 = omega (arith, length-take (next - 2) h) in
    let left : length rest ≡ length h - (next - 2) = omega (arith, length-drop (next - 2) h) in
    let found = ends ask next before rest (omega arith) in
    let least : next ≤ m = found.least in
    record {
      least = least;
      most = let most : m ≤ length before + 2 + length rest = found.most in omega arith;
      joined =
          watched-cut (up_to_revision h (m - 1)) ask from next e
          ∙ rejoin h ask from next m least
          (let same_cut : m - (length before + 2) ≡ m - 2 - (next - 2) = omega arith in rw same_cut at found.whole);
    }
  where
    rejoin : (h : History) (ask : WatchAsk) (from next m : ℕ) → next ≤ m
        → filter (passes ask) (events_after ask.range (take (next - 2) h) (take (m - 2 - (next - 2)) (drop (next - 2) h))) ≡ watched h ask next
        → watched (up_to_revision (up_to_revision h (m - 1)) (next - 1)) ask from ++ watched (up_to_revision h (m - 1)) ask next
        ≡ watched (up_to_revision h (next - 1)) ask from ++ watched h ask next
    rejoin h ask from next m e whole =
        let f : next - 2 ≤ m - 2 = omega arith in
        let a : next - 1 - 1 ≡ next - 2 = omega arith in
        let b : m - 1 - 1 ≡ m - 2 = omega arith in
        let c : next - 2 + (m - 2 - (next - 2)) ≡ m - 2 = omega arith in
        let front : take (next - 2) (take (m - 2) h) ≡ take (next - 2) h = take_cut (next - 2) (m - 2) h f in
        let behind : drop (next - 2) (take (m - 2) h) ≡ take (m - 2 - (next - 2)) (drop (next - 2) h) =
        ap (λ (k : ℕ). drop (next - 2) (take k h)) (sym c) ∙ drop-take (next - 2) (m - 2 - (next - 2)) h in
        rw (a, b)
        (ap (λ (g : History). watched g ask from ++ filter (passes ask) (events_after ask.range (take (next - 2) (take (m - 2) h)) (drop (next - 2) (take (m - 2) h)))) front
        ∙ ap (λ (g : History). watched (take (next - 2) h) ask from ++ filter (passes ask) (events_after ask.range g (drop (next - 2) (take (m - 2) h)))) front
        ∙ ap (λ (g : History). watched (take (next - 2) h) ask from ++ filter (passes ask) (events_after ask.range (take (next - 2) h) g)) behind
        ∙ ap (λ (xs : List Event). watched (take (next - 2) h) ask from ++ xs) whole)

-- events as they are told, without what comes before

pub bare-told : (compacted : ℕ) (ask : WatchAsk) (es : List Event) → map bare (map (told_event compacted ask) es) ≡ map bare es
bare-told compacted ask [] = refl
bare-told compacted ask (e ∷ es) = ap (λ (rest : List Event). bare e ∷ rest) (bare-told compacted ask es)

pub next-told : (compacted : ℕ) (ask : WatchAsk) (n : ℕ) (es : List Event) → next_after n (map (told_event compacted ask) es) ≡ next_after n es
next-told compacted ask n [] = refl
next-told compacted ask n (e ∷ es) = next-told compacted ask (event_revision e + 1) es
