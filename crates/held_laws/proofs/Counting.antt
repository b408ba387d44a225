-- Items that each tell what the history has between two revisions, and that together have all changes from a start on, tell those very
-- events, each at its place.
use Rattle.std.proofs.Common.{◌≡◌, ℕ, Bool, true, false, cond, List, [], ◌∷◌, ◌++◌, append_assoc, append-nil, map, filter, length, length-append, refl, ap, sym, subst, ◌∙◌, arith}
use Rattle.std.proofs.lemmas.List.{map-append}
use Rattle.std.proofs.lemmas.List.Elements.{filter-append}
use Rattle.etcd_types.specs.declared.request.WatchAsk.{WatchAsk}
use Rattle.etcd_types.specs.declared.watch.Change.{Change}
use Rattle.etcd_types.specs.declared.watch.Event.{Event}
use Rattle.etcd_types.specs.declared.watch.WatchItem.{WatchItem}
use Rattle.etcd_types.specs.declared.watch.WatchItem.TheVariants as item
use Rattle.proxy_model.specs.Prefixes.{under}
use Rattle.script_text.specs.declared.item.Item.{Item}
use Rattle.store_model.specs.Events.{events_after, passes}
use Rattle.watch_model.specs.Queues.{item_events, queued_events}
use Rattle.watch_model.specs.Story.{is_between, changes}
use Rattle.world_model.specs.Received.{stored_change, TellsPrev, TellsFront}
use Rattle.held_laws.proofs.Pushes.{Whole}
use Rattle.held_laws.proofs.Records.{TellsEach, tells-append, tells_changes, fewer_left, all_left, in_span}
use Rattle.held_laws.proofs.Told.{ItemTold, AllTold}

none_left : {X : Type 0} (xs : List X) → length xs ≡ 0 → xs ≡ []
none_left [] e = refl
none_left (x ∷ xs) e = absurd (omega (arith, e))

-- tests in either order
either_order : {X : Type 0} (p q : X → Bool) (xs : List X) → filter p (filter q xs) ≡ filter q (filter p xs)
either_order p q [] = refl
either_order p q (x ∷ xs) = by (p x) refl (q x) refl (either_order p q xs)
  where
    by : (b : Bool) → p x ≡ b → (c : Bool) → q x ≡ c → filter p (filter q xs) ≡ filter q (filter p xs)
        → filter p (cond (q x) (x ∷ filter q xs) (filter q xs)) ≡ filter q (cond (p x) (x ∷ filter p xs) (filter p xs))
    by true e true f ih =
        ap (λ c. filter p (cond c (x ∷ filter q xs) (filter q xs))) f ∙ ap (λ b. cond b (x ∷ filter p (filter q xs)) (filter p (filter q xs))) e ∙ ap (λ l. x ∷ l) ih
        ∙ ap (λ c. cond c (x ∷ filter q (filter p xs)) (filter q (filter p xs))) (sym f) ∙ ap (λ b. filter q (cond b (x ∷ filter p xs) (filter p xs))) (sym e)
    by true e false f ih =
        ap (λ c. filter p (cond c (x ∷ filter q xs) (filter q xs))) f ∙ ih
        ∙ ap (λ c. cond c (x ∷ filter q (filter p xs)) (filter q (filter p xs))) (sym f) ∙ ap (λ b. filter q (cond b (x ∷ filter p xs) (filter p xs))) (sym e)
    by false e true f ih =
        ap (λ c. filter p (cond c (x ∷ filter q xs) (filter q xs))) f ∙ ap (λ b. cond b (x ∷ filter p (filter q xs)) (filter p (filter q xs))) e ∙ ih ∙ ap (λ b. filter q (cond b (x ∷ filter p xs) (filter p xs))) (sym e)
    by false e false f ih = ap (λ c. filter p (cond c (x ∷ filter q xs) (filter q xs))) f ∙ ih ∙ ap (λ b. filter q (cond b (x ∷ filter p xs) (filter p xs))) (sym e)

-- all of a list pass a test that goes by the change where the changes are those of a filtered list
same_pass : (p : Change → Bool) (ms es : List Event) → changes ms ≡ changes (filter (λ e. p e.change) es) → filter (λ e. p e.change) ms ≡ ms
same_pass p ms es e = all_left (λ (x : Event). p x.change) ms (sym (lengths (filter (λ x. p x.change) ms)) ∙ ap length (by_change ms ∙ ap (filter p) e ∙ pass_twice es ∙ sym e) ∙ lengths ms)
  where
    lengths : (es : List Event) → length (changes es) ≡ length es
    lengths [] = refl
    lengths (x ∷ es) = (let k = lengths es in omega (arith, k))

    by_change : (es : List Event) → changes (filter (λ x. p x.change) es) ≡ filter p (changes es)
    by_change [] = refl
    by_change (x ∷ es) = elim (p x.change) as (λ b. changes (cond b (x ∷ filter (λ x. p x.change) es) (filter (λ x. p x.change) es)) ≡ cond b (x.change ∷ filter p (changes es)) (filter p (changes es))) [
      | true ↦ ap (λ (l : List Change). x.change ∷ l) (by_change es)
      | false ↦ by_change es
    ]

    pass_twice : (es : List Event) → filter p (changes (filter (λ x. p x.change) es)) ≡ changes (filter (λ x. p x.change) es)
    pass_twice es = ap (filter p) (by_change es) ∙ twice (changes es) ∙ sym (by_change es)
      where
        twice : (cs : List Change) → filter p (filter p cs) ≡ filter p cs
        twice [] = refl
        twice (c ∷ cs) = one (p c) refl (twice cs)
          where
            one : (b : Bool) → p c ≡ b → filter p (filter p cs) ≡ filter p cs → filter p (cond (p c) (c ∷ filter p cs) (filter p cs)) ≡ cond (p c) (c ∷ filter p cs) (filter p cs)
            one true q ih = ap (λ b. filter p (cond b (c ∷ filter p cs) (filter p cs))) q ∙ ap (λ b. cond b (c ∷ filter p (filter p cs)) (filter p (filter p cs))) q ∙ ap (λ l. c ∷ l) ih ∙ ap (λ b. cond b (c ∷ filter p cs) (filter p cs)) (sym q)
            one false q ih = ap (λ b. filter p (cond b (c ∷ filter p cs) (filter p cs))) q ∙ ih ∙ ap (λ b. cond b (c ∷ filter p cs) (filter p cs)) (sym q)

-- Of all events (`es`): those of one span stand as the middle of those of another, where the changes are theirs.
in_the_middle : (p q : Change → Bool) (es left middle right : List Event) → filter (λ e. q e.change) es ≡ left ++ middle ++ right → changes middle ≡ changes (filter (λ e. p e.change) es) → middle ≡ filter (λ e. p e.change) es
in_the_middle p q es left middle right whole same =
    let P : Event → Bool = λ e. p e.change in
    let Q : Event → Bool = λ e. q e.change in
    let mine = same_pass p middle es same in
    let parts : filter P (filter Q es) ≡ filter P left ++ filter P middle ++ filter P right = ap (filter P) whole ∙ filter-append P (left ++ middle) right ∙ ap (λ (l : List Event). l ++ filter P right) (filter-append P left middle) in
    let here : filter P (filter Q es) ≡ filter P left ++ middle ++ filter P right = parts ∙ ap (λ (l : List Event). filter P left ++ l ++ filter P right) mine in
    let order : filter Q (filter P es) ≡ filter P left ++ middle ++ filter P right = sym (either_order P Q es) ∙ here in
    let a = length-append (filter P left ++ middle) (filter P right) in
    let b = length-append (filter P left) middle in
    let c = fewer_left Q (filter P es) in
    let d : length middle ≡ length (filter P es) = sym (lengths middle) ∙ ap length same ∙ lengths (filter P es) in
    let l : length (filter Q (filter P es)) ≡ length (filter P left ++ middle ++ filter P right) = ap length order in
    let none_before' : filter P left ≡ [] = none_left (filter P left) (omega (arith, a, b, c, d, l)) in
    let none_behind : filter P right ≡ [] = none_left (filter P right) (omega (arith, a, b, c, d, l)) in
    let all : filter Q (filter P es) ≡ filter P es = all_left Q (filter P es) (omega (arith, a, b, c, d, l)) in
    sym (sym all ∙ order ∙ (λ i. none_before' i ++ middle ++ none_behind i) ∙ append-nil middle)
  where
    lengths : (es : List Event) → length (changes es) ≡ length es
    lengths [] = refl
    lengths (x ∷ es) = (let k = lengths es in omega (arith, k))

-- a list whose changes are those of two lists is two lists
pub record Splits (xs : List Event) (cs ds : List Change) : Type 0 where
  pub front : List Event
  pub back : List Event
  pub whole : xs ≡ front ++ back
  pub first : changes front ≡ cs
  pub second : changes back ≡ ds

splits : (xs : List Event) (cs ds : List Change) → changes xs ≡ cs ++ ds → Splits xs cs ds
splits xs [] ds e = record { front = []; back = xs; whole = refl; first = refl; second = e }
splits [] (c ∷ cs) ds e = absurd (no_cons c (cs ++ ds) e)
  where
    no_cons : (c : Change) (cs : List Change) → [] ≡ c ∷ cs → ⊥
    no_cons c cs e = cc
splits (x ∷ xs) (c ∷ cs) ds e =
    let k = splits xs cs ds (rest x.change c (changes xs) (cs ++ ds) e) in
    record { front = x ∷ k.front; back = k.back; whole = ap (λ (l : List Event). x ∷ l) k.whole; first = (λ i. head x.change c (changes xs) (cs ++ ds) e i ∷ k.first i); second = k.second }
  where
    rest : (c d : Change) (cs ds : List Change) → c ∷ cs ≡ d ∷ ds → cs ≡ ds
    rest c d cs ds e = cc

    head : (c d : Change) (cs ds : List Change) → c ∷ cs ≡ d ∷ ds → c ≡ d
    head c d cs ds e = cc

-- of a watch: all its items, behind those whose events stand as `left`
walk : (whole : Whole) (namespace : List ℕ) (ask : WatchAsk) (s n : ℕ) (left : List Event) (is : List WatchItem) (rest : List Event) → AllTold whole namespace ask is
    → filter (passes ask) (filter (in_span s n) (events_after (under namespace ask.range) [] whole.history)) ≡ left ++ rest → changes rest ≡ map (stored_change namespace) (changes (queued_events is))
    → TellsEach whole.items ask.prev_kv namespace (queued_events is) rest
walk whole namespace ask s n left [] [] h w e = tt
walk whole namespace ask s n left [] (r ∷ rest) h w e = absurd (no_change r.change (changes rest) e)
  where
    no_change : (c : Change) (cs : List Change) → c ∷ cs ≡ [] → ⊥
    no_change c cs e = cc
walk whole namespace ask s n left (i ∷ is) rest h w e =
    let es = item_events i in
    let cut' : changes rest ≡ map (stored_change namespace) (changes es) ++ map (stored_change namespace) (changes (queued_events is)) =
    e ∙ ap (map (stored_change namespace)) (map-append (λ (x : Event). x.change) es (queued_events is)) ∙ map-append (stored_change namespace) (changes es) (changes (queued_events is)) in
    let k = splits rest (map (stored_change namespace) (changes es)) (map (stored_change namespace) (changes (queued_events is))) cut' in
    let all : filter (passes ask) (filter (in_span s n) (events_after (under namespace ask.range) [] whole.history)) ≡ left ++ (k.front ++ k.back) = w ∙ ap (λ (l : List Event). left ++ l) k.whole in
    let later = walk whole namespace ask s n (left ++ k.front) is k.back h.1 (all ∙ sym (append_assoc left k.front k.back)) k.second in
    subst (TellsEach whole.items ask.prev_kv namespace (es ++ queued_events is)) (sym k.whole)
    (tells-append whole.items ask.prev_kv namespace es (queued_events is) k.front k.back (here i k.front k.back h.0 (all ∙ sym (append_assoc left k.front k.back)) k.first) later)
  where
    nothing : (front : List Event) → changes front ≡ [] → TellsEach whole.items ask.prev_kv namespace [] front
    nothing [] e = tt
    nothing (x ∷ front) e = absurd (no_change x.change (changes front) e)
      where
        no_change : (c : Change) (cs : List Change) → c ∷ cs ≡ [] → ⊥
        no_change c cs e = cc

    both_tests : (a b : ℕ) → filter (passes ask) (filter (in_span a b) (events_after (under namespace ask.range) [] whole.history))
        ≡ filter (λ e. is_between a b e.change) (filter (passes ask) (events_after (under namespace ask.range) [] whole.history))
    both_tests a b = either_order (passes ask) (in_span a b) (events_after (under namespace ask.range) [] whole.history)

    here : (i : WatchItem) (front back : List Event) → ItemTold whole namespace ask i → filter (passes ask) (filter (in_span s n) (events_after (under namespace ask.range) [] whole.history)) ≡ (left ++ front) ++ back
        → changes front ≡ map (stored_change namespace) (changes (item_events i)) → TellsEach whole.items ask.prev_kv namespace (item_events i) front
    here (item.Created g) front back t w e = nothing front e
    here (item.Canceled g c) front back t w e = nothing front e
    here (item.Events g []) front back t w e = nothing front e
    here (item.Events g (x ∷ xs)) front back t w e =
        let told = t.2 in
        let same : changes front ≡ changes (filter (λ e. is_between t.0 t.1 e.change) (filter (passes ask) (events_after (under namespace ask.range) [] whole.history))) =
        e ∙ tells_changes whole.items ask.prev_kv namespace (x ∷ xs) _ told ∙ ap changes (both_tests t.0 t.1) in
        let is = in_the_middle (is_between t.0 t.1) (is_between s n) (filter (passes ask) (events_after (under namespace ask.range) [] whole.history)) left front back (sym (both_tests s n) ∙ w) same in
        subst (TellsEach whole.items ask.prev_kv namespace (x ∷ xs)) (both_tests t.0 t.1 ∙ sym is) told

pub all_tell : (whole : Whole) (namespace : List ℕ) (ask : WatchAsk) (s n : ℕ) (is : List WatchItem) → AllTold whole namespace ask is
    → map (stored_change namespace) (changes (queued_events is)) ≡ changes (filter (passes ask) (filter (in_span s n) (events_after (under namespace ask.range) [] whole.history)))
    → TellsEach whole.items ask.prev_kv namespace (queued_events is) (filter (passes ask) (filter (in_span s n) (events_after (under namespace ask.range) [] whole.history)))
all_tell whole namespace ask s n is h e = walk whole namespace ask s n [] is (filter (passes ask) (filter (in_span s n) (events_after (under namespace ask.range) [] whole.history))) h refl (sym e)

-- as the law on transcripts says it
pub tells_front : (items : List Item) (ask : WatchAsk) (asked : Bool) (namespace : List ℕ) (ts es : List Event) → asked ≡ ask.prev_kv → TellsEach items asked namespace ts es → TellsFront items ask namespace ts es
tells_front items ask asked namespace [] es b h = tt
tells_front items ask asked namespace (t ∷ ts) [] b h = absurd h
tells_front items ask asked namespace (t ∷ ts) (e ∷ es) b h =
    (record { same_change = h.0.0; true_prev = subst (λ (c : Bool). TellsPrev items c namespace t.prev e) b h.0.1 }, tells_front items ask asked namespace ts es b h.1)
