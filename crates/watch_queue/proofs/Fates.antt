-- What becomes of a watch at a batch, staged and then committed, is what the delivery says.
use Rattle.std.proofs.Common.{◌≡◌, ℕ, zero, suc, max, Bool, true, false, cond, List, [], ◌∷◌, ◌++◌, map, length, take, drop, get_or, set, Result, Ok, Err, OnOk, refl, ap, sym, ◌∙◌, arith, ◌&&◌, nat_le, ◌+◌}
use Rattle.etcd_types.specs.declared.record.Header.{Header}
use Rattle.etcd_types.specs.declared.request.WatchAsk.{WatchAsk}
use Rattle.etcd_types.specs.declared.watch.Event.{Event}
use Rattle.etcd_types.specs.declared.watch.WatchItem.TheVariants as item
use Rattle.watch_queue.specs.Queued.{Queued, committed, progressed as queue_progressed}
use Rattle.watch_model.specs.Queues.{is_for, chosen, would_pass, with_progress, is_progress_last}
use Rattle.watch_queue.proofs.Heads.{put_behind}
use Rattle.etcd_types.specs.declared.watch.WatchItem.{WatchItem}
use Rattle.watch_queue.specs.declared.fate.Fate.{Fate}
use Rattle.watch_queue.specs.declared.fate.Fate.TheVariants as f
use Rattle.watch_model.specs.declared.place.WatchPlace.TheVariants as place
use Rattle.watch_queue.specs.declared.watching.Watching.{Watching}
use Rattle.watch_model.specs.State.{Watch}
use Rattle.watch_queue.specs.Watching.{shown}
use Rattle.watch_model.specs.Lookups.{is_in, member_changed}
use Rattle.watch_model.specs.Delivery.{shown_event, shown_events, queued, given_batch, progressed}
use Rattle.watch_queue.specs.Fates.{takes_progress, prepared_progress, progressed_to, fate_of, fate, prepared_as, prepared, delivered_as, delivered_to}

pub all_shown : (es : List Event) → map (shown_event true) es ≡ es
all_shown [] = refl
all_shown (e ∷ es) = ap (λ (l : List Event). e ∷ l) (all_shown es)

one_shown : (ask : WatchAsk) (own : ℕ) (asked : Bool) (e : Event) (es : List Event) (b : Bool) → chosen ask own (map (shown_event asked) es) ≡ map (shown_event asked) (chosen ask own es)
    → cond b (shown_event asked e ∷ chosen ask own (map (shown_event asked) es)) (chosen ask own (map (shown_event asked) es)) ≡ map (shown_event asked) (cond b (e ∷ chosen ask own es) (chosen ask own es))
one_shown ask own asked e es true h = ap (λ (l : List Event). shown_event asked e ∷ l) h
one_shown ask own asked e es false h = h

pub chosen-shown : (ask : WatchAsk) (own : ℕ) (asked : Bool) (es : List Event) → chosen ask own (map (shown_event asked) es) ≡ map (shown_event asked) (chosen ask own es)
chosen-shown ask own asked [] = refl
chosen-shown ask own true (e ∷ es) = one_shown ask own true e es (is_for ask own e) (chosen-shown ask own true es)
chosen-shown ask own false (e ∷ es) = one_shown ask own false e es (is_for ask own e) (chosen-shown ask own false es)

pub fate-in : (n next : ℕ) (es : List Event) (v : Watch) → is_in n v.place ≡ true → fate n next es v ≡ fate_of v (shown_events v.ask (chosen v.ask (max v.next next) es))
fate-in n next es v e = ap (λ b. cond b (fate_of v (shown_events v.ask (chosen v.ask (max v.next next) es))) f.Stays) e

pub fate_none : (v : Watch) (xs : List Event) → length xs ≡ 0 → fate_of v xs ≡ f.Stays
fate_none v [] e = refl
fate_none v (x ∷ xs) e = absurd (omega arith)

pub fate_some : (v : Watch) (xs : List Event) → (length xs ≡ 0 → ⊥) → fate_of v xs ≡ cond (would_pass v.queue (length xs)) f.Splits f.Takes
fate_some v [] e = absurd (e refl)
fate_some v (x ∷ xs) e = refl

-- the events that were counted, at what code names them
pub counted : (n next count m : ℕ) (es cs : List Event) (v : Watch) → count ≡ length (chosen v.ask m cs) → cs ≡ shown_events v.ask es → m ≡ max v.next next
    → count ≡ length (shown_events v.ask (chosen v.ask (max v.next next) es))
counted n next count m es cs v c e k = c ∙ (λ i. length (chosen v.ask (k i) (e i))) ∙ ap length (chosen-shown v.ask (max v.next next) v.ask.prev_kv es)

pub stays : (n next count : ℕ) (es : List Event) (v : Watch) → is_in n v.place ≡ true → count ≡ length (shown_events v.ask (chosen v.ask (max v.next next) es)) → count ≡ 0 → f.Stays ≡ fate n next es v
stays n next count es v i c z = sym (fate-in n next es v i ∙ fate_none v (shown_events v.ask (chosen v.ask (max v.next next) es)) (sym c ∙ z))

pub comes : (n next count : ℕ) (es : List Event) (v : Watch) → is_in n v.place ≡ true → count ≡ length (shown_events v.ask (chosen v.ask (max v.next next) es)) → (count ≡ 0 → ⊥)
    → fate n next es v ≡ cond (would_pass v.queue count) f.Splits f.Takes
comes n next count es v i c z =
    fate-in n next es v i ∙ fate_some v (shown_events v.ask (chosen v.ask (max v.next next) es)) (λ k. z (c ∙ k)) ∙ ap (λ (k : ℕ). cond (would_pass v.queue k) f.Splits f.Takes) (sym c)

-- what was staged, where it is to be queued
pub staged_is : {A E : Type 0} (r : Result A E) (n next m : ℕ) (header : Header) (es cs : List Event) (w : Watching) (q : Queued)
    → f.Takes ≡ fate n next es (shown w) → q.items ≡ w.queue.items → OnOk r (q.staged ≡ item.Events header (chosen w.ask m cs) ∷ []) → cs ≡ shown_events w.ask es → m ≡ max w.next next
    → OnOk r (record w { queue = q } ≡ prepared n next header es w)
staged_is (Ok x) n next m header es cs w q t i s e k =
    let xs = shown_events w.ask (chosen w.ask (max w.next next) es) in
    let same : chosen w.ask m cs ≡ xs = (λ j. chosen w.ask (k j) (e j)) ∙ chosen-shown w.ask (max w.next next) w.ask.prev_kv es in
    (λ j. record w { queue = record { items = i j; staged = s j } })
    ∙ ap (λ (l : List Event). record w { queue = record { items = w.queue.items; staged = item.Events header l ∷ [] } }) same
    ∙ ap (prepared_as header xs w) t
staged_is (Err x) n next m header es cs w q t i s e k = tt

-- What is staged and then committed is what is delivered.

committed_is : (own : ℕ) (header : Header) (xs : List Event) (w : Watching) (g : Fate) → g ≡ fate_of (shown w) xs → shown (delivered_as own (prepared_as header xs w g) g) ≡ queued header own xs (shown w)
committed_is own header [] w g e = rw e refl
committed_is own header (x ∷ xs) w g e =
    rw e (elim (would_pass w.queue.items (length (x ∷ xs))) as (λ b.
    shown (delivered_as own (prepared_as header (x ∷ xs) w (cond b f.Splits f.Takes)) (cond b f.Splits f.Takes))
    ≡ cond b (record (shown w) { next = own; place = place.Split }) (record (shown w) { queue = w.queue.items ++ item.Events header (x ∷ xs) ∷ [] })) [ true ↦ refl | false ↦ refl ])

prepared_shown : (header : Header) (xs : List Event) (w : Watching) (g : Fate) → shown (prepared_as header xs w g) ≡ shown w
prepared_shown header xs w f.Stays = refl
prepared_shown header xs w f.Takes = refl
prepared_shown header xs w f.Splits = refl

pub delivered_is : (n next : ℕ) (header : Header) (es : List Event) (w : Watching) → shown (delivered_to n next es (prepared n next header es w)) ≡ member_changed n (given_batch next header es) (shown w)
delivered_is n next header es w =
    let own = max w.next next in
    let xs = shown_events w.ask (chosen w.ask own es) in
    let g = fate n next es (shown w) in
    let v = prepared_as header xs w g in
    ap (λ (x : Watch). shown (delivered_as (max x.next next) v (fate n next es x))) (prepared_shown header xs w g)
    ∙ elim (is_in n w.place) as (λ b. shown (delivered_as own (prepared_as header xs w (cond b (fate_of (shown w) xs) f.Stays)) (cond b (fate_of (shown w) xs) f.Stays)) ≡ cond b (queued header own xs (shown w)) (shown w)) [
      | true ↦ committed_is own header xs w (fate_of (shown w) xs) refl
      | false ↦ refl
    ]

-- The same of all watches.

pub all_delivered : (n next : ℕ) (header : Header) (es : List Event) (ws : List Watching)
    → map shown (map (delivered_to n next es) (map (prepared n next header es) ws)) ≡ map (member_changed n (given_batch next header es)) (map shown ws)
all_delivered n next header es [] = refl
all_delivered n next header es (w ∷ ws) = λ i. delivered_is n next header es w i ∷ all_delivered n next header es ws i

-- Some of the watches made ready.

pub prepared_kept : (n next : ℕ) (header : Header) (es : List Event) (w : Watching) → shown (prepared n next header es w) ≡ shown w
prepared_kept n next header es w = prepared_shown header (shown_events w.ask (chosen w.ask (max w.next next) es)) w (fate n next es (shown w))

pub half_shown : (g : Watching → Watching) → ((w : Watching) → shown (g w) ≡ shown w) → (i : ℕ) (ws : List Watching) → map shown (map g (take i ws) ++ drop i ws) ≡ map shown ws
half_shown g k zero ws = refl
half_shown g k (suc i) [] = refl
half_shown g k (suc i) (w ∷ ws) = λ j. k w j ∷ half_shown g k i ws j

pub set_shown : (ws : List Watching) (i : ℕ) (x y : Watching) → y ≡ get_or ws i y → shown x ≡ shown y → map shown (set ws i x) ≡ map shown ws
set_shown [] zero x y e s = refl
set_shown [] (suc i) x y e s = refl
set_shown (w ∷ ws) zero x y e s = λ j. (s ∙ ap shown e) j ∷ map shown ws
set_shown (w ∷ ws) (suc i) x y e s = ap (λ (l : List Watch). shown w ∷ l) (set_shown ws i x y e s)

-- A message without events, staged and then committed.

pub progress_kept : (n next : ℕ) (header : Header) (w : Watching) → shown (prepared_progress n next header w) ≡ shown w
progress_kept n next header w =
    elim (takes_progress n next header (shown w)) as (λ b. shown (cond b (record w { queue = record { items = w.queue.items; staged = item.Events header [] ∷ [] } }) w) ≡ shown w) [ true ↦ refl | false ↦ refl ]

queued_progress : (header : Header) (is : List WatchItem) → (queue_progressed (record { items = is; staged = item.Events header [] ∷ [] }) header).items ≡ with_progress is (item.Events header [])
queued_progress header is =
    elim (is_progress_last is) as (λ b. is_progress_last is ≡ b → (cond b (record { items = with_progress is (item.Events header []); staged = [] }) (committed (record { items = is; staged = item.Events header [] ∷ [] }))).items ≡ with_progress is (item.Events header [])) [
      | true ↦ λ e. refl
      | false ↦ λ e. sym (put_behind is (item.Events header []) e)
    ] refl

abbrev with_staged : Header → Bool → Watching → Watching
with_staged header b w = cond b (record w { queue = record { items = w.queue.items; staged = item.Events header [] ∷ [] } }) w

by_tests : (header : Header) (w : Watching) (a c : Bool)
    → shown (cond (a && c) (record (with_staged header (a && c) w) { queue = queue_progressed (with_staged header (a && c) w).queue header }) (with_staged header (a && c) w))
    ≡ cond a (cond c (record (shown w) { queue = with_progress w.queue.items (item.Events header []) }) (shown w)) (shown w)
by_tests header w true true = λ i. record (shown w) { queue = queued_progress header w.queue.items i }
by_tests header w true false = refl
by_tests header w false c = refl

pub progress_is : (n next : ℕ) (header : Header) (w : Watching) → shown (progressed_to n next header (prepared_progress n next header w)) ≡ member_changed n (progressed next header) (shown w)
progress_is n next header w =
    let v = prepared_progress n next header w in
    ap (λ (x : Watch). shown (cond (takes_progress n next header x) (record v { queue = queue_progressed v.queue header }) v)) (progress_kept n next header w)
    ∙ by_tests header w (is_in n w.place) (w.ask.progress && nat_le (max w.next next) (header.revision + 1))

pub all_progressed : (n next : ℕ) (header : Header) (ws : List Watching)
    → map shown (map (progressed_to n next header) (map (prepared_progress n next header) ws)) ≡ map (member_changed n (progressed next header)) (map shown ws)
all_progressed n next header [] = refl
all_progressed n next header (w ∷ ws) = λ i. progress_is n next header w i ∷ all_progressed n next header ws i
