-- The store pushes a message into a leasing stream by a generated script, and it is delivered at once.
use Rattle.std.proofs.Common.{◌≡◌, ℕ, ◌+◌, ◌-◌, ◌≤◌, ◌<◌, ◌^◌, ◌==◌, max, nat_lt, Bool, true, false, not, cond, ◌||◌, List, [], ◌∷◌, length, Option, None, Some, is_ok, Ok, refl, sym, ◌∙◌, ap, subst, arith}
use Rattle.std.proofs.lemmas.Bool.Decides.{nat_tests}
use Rattle.std.proofs.Common.{length-set}
use Rattle.etcd_types.specs.declared.record.Kv.{Kv}
use Rattle.etcd_types.specs.declared.watch.Change.{Change}
use Rattle.etcd_types.specs.declared.watch.Change.TheVariants as change
use Rattle.etcd_types.specs.declared.watch.Event.{Event}
use Rattle.etcd_types.specs.declared.watch.WatchItem.{WatchItem}
use Rattle.etcd_types.specs.declared.watch.WatchItem.TheVariants as message
use Rattle.proxy_model.specs.Limits.{capped}
use Rattle.proxy_model.specs.Unwrapped.{Unwrapped, ◌>>=◌, each, event_without, item_without}
use Rattle.proxy_model.specs.Upstream.{Upstream, created, advance}
use Rattle.store_model.specs.declared.watch.OpenWatch.{OpenWatch}
use Rattle.store_model.specs.Events.{event_revision}
use Rattle.store_model.specs.History.{newest}
use Rattle.store_model.specs.State.{State}
use Rattle.store_model.specs.Watches.{watch_of, with_next, first_next, next_after, watch_header, events_for, push_events, push_to, for_watch, pushed}
use Rattle.watch_model.specs.Delivery.{is_batch, last_revision}
use Rattle.core_model.specs.LeasingStream.{told_revision}
use Rattle.generated_laws.proofs.Batches.{Spans, watched_span, next_is_last, last_later}
use Rattle.generated_laws.proofs.Events.{CanTell}
use Rattle.held_laws.proofs.Kept.{nth_itself, nth_other}
use Rattle.generated_laws.specs.Worlds.{Agree, begins, goes}

-- ---- without a namespace a message is as it was

each_itself : {A : Type 0} (f : A → Unwrapped A) → ((x : A) → f x ≡ Ok x) → (xs : List A) → each f xs ≡ Ok xs
each_itself f h [] = refl
each_itself f h (x ∷ xs) = ap (λ r. r >>= λ y. each f xs >>= λ ys. Ok (y ∷ ys)) (h x) ∙ ap (λ r. r >>= λ ys. Ok (x ∷ ys)) (each_itself f h xs)

event_itself : (e : Event) → event_without [] e ≡ Ok e
event_itself e = by e.change e.prev
  where
    by : (c : Change) (p : Option Kv) → event_without [] (record { change = c; prev = p }) ≡ Ok (record { change = c; prev = p })
    by (change.Put kv) None = refl
    by (change.Put kv) (Some old) = refl
    by (change.Delete key modified) None = refl
    by (change.Delete key modified) (Some old) = refl

pub item_itself : (i : WatchItem) → item_without [] i ≡ Ok i
item_itself (message.Created h) = refl
item_itself (message.Events h es) = ap (λ r. r >>= λ us. Ok (message.Events h us)) (each_itself (event_without []) event_itself es)
item_itself (message.Canceled h compaction) = refl

-- ---- what the store has for the watch

-- revisions that the numbers of a proxy tell
abbrev pub IsShort : State → Type 0
IsShort s = newest s.history < 2 ^ 62

-- what stands of the stream behind the message, and what is to hold of the store's watch then
abbrev pub AgreesAfter : State → ℕ → OpenWatch → Upstream → WatchItem → Type 0
AgreesAfter t number v u (message.Created h) = (w : OpenWatch) × (watch_of t number ≡ Some w) × (w.ask ≡ v.ask) × Agree w (created u h.revision)
AgreesAfter t number v u (message.Events h es) = (w : OpenWatch) × (watch_of t number ≡ Some w) × (w.ask ≡ v.ask) × Agree w (advance u (told_revision h es))
AgreesAfter t number v u (message.Canceled h compaction) = Unit {0}

pub record Message (s : State) (number : ℕ) (v : OpenWatch) (u : Upstream) : Type 0 where
  pub after : State
  pub message : WatchItem
  pub pushed : pushed s number ≡ Ok (after, message)
  pub history : after.history ≡ s.history
  pub others : (q : ℕ) → (q == number) ≡ false → watch_of after q ≡ watch_of s q
  pub many : length after.watches ≡ length s.watches
  pub can : CanTell u message
  pub agrees : AgreesAfter after number v u message

-- before its created message

not_zero : (n : ℕ) → (n + 1 == 0) ≡ false
not_zero n = grind (arith, nat_tests)

fits : (n : ℕ) → n < 2 ^ 62 → n + 1 ≡ capped (n + 1)
fits n h = omega (arith, h)

first_agrees : (n next : ℕ) → n < 2 ^ 62 → ((first_next n next == 0) ≡ false) × (first_next n next ≡ cond (next == 0) (capped (n + 1)) next)
first_agrees n next h = by (next == 0) refl
  where
    by : (b : Bool) → (next == 0) ≡ b → ((cond b (n + 1) next == 0) ≡ false) × (cond b (n + 1) next ≡ cond b (capped (n + 1)) next)
    by true e = (not_zero n, fits n h)
    by false e = (e, refl)

zero_test : (n : ℕ) → n ≡ 0 → (n == 0) ≡ true
zero_test n e = grind (arith, nat_tests, e)

created_message : (s : State) (number : ℕ) (v : OpenWatch) (u : Upstream) → IsShort s → watch_of s number ≡ Some v → v.next ≡ 0 → u.created ≡ false → v.ask.start ≡ u.next → Message s number v u
unfolding pushed
created_message s number v u h at z c a = record {
  after = with_next s number v next;
  message = message.Created (watch_header s v);
  pushed = ap (λ (o : Option OpenWatch). for_watch number o (push_to s number)) at
      ∙ ap (λ b. cond b (Ok (with_next s number v next, message.Created (watch_header s v))) (cond (nat_lt v.next s.compacted) (Ok (s, message.Canceled (watch_header s v) s.compacted)) (push_events s number v (events_for s v)))) (zero_test v.next z);
  history = refl;
  others = λ q n. nth_other s.watches number q v (record v { next = next }) at n;
  many = length-set s.watches (number - 1) (record v { next = next });
  can = c;
  agrees = (record v { next = next }, nth_itself s.watches number v (record v { next = next }) at, refl, goes (ap (λ (n : ℕ). first_next (newest s.history) n == 0) a ∙ g.0) (ap (first_next (newest s.history)) a ∙ g.1));
}
  where
    next : ℕ
    next = first_next (newest s.history) v.ask.start

    g : ((first_next (newest s.history) u.next == 0) ≡ false) × (first_next (newest s.history) u.next ≡ cond (u.next == 0) (capped (newest s.history + 1)) u.next)
    g = first_agrees (newest s.history) u.next h

-- behind it

readable : (a b : Bool) → a ≡ false → b ≡ true → not (a || not b) ≡ true
readable a b e f = ap (λ x. not (x || not b)) e ∙ ap (λ x. not (not x)) f

highest : (n l : ℕ) → n ≤ l → l < 2 ^ 62 → l + 1 ≡ max n (capped (l + 1))
highest n l h k = omega (arith, h, k)

events_message : (s : State) (number : ℕ) (v : OpenWatch) (u : Upstream) (e : Event) (es : List Event) → IsShort s → watch_of s number ≡ Some v → v.ask.range ≡ u.range → (v.next == 0) ≡ false → v.next ≡ u.next → nat_lt v.next s.compacted ≡ false
    → events_for s v ≡ e ∷ es → Message s number v u
unfolding pushed
events_message s number v u e es h at r z n b q = record {
  after = with_next s number v next;
  message = message.Events (watch_header s v) (e ∷ es);
  pushed = ap (λ (o : Option OpenWatch). for_watch number o (push_to s number)) at
      ∙ ap (λ c. cond c (Ok (with_next s number v (first_next (newest s.history) v.ask.start), message.Created (watch_header s v))) (cond (nat_lt v.next s.compacted) (Ok (s, message.Canceled (watch_header s v) s.compacted)) (push_events s number v (events_for s v)))) z
      ∙ ap (λ c. cond c (Ok (s, message.Canceled (watch_header s v) s.compacted)) (push_events s number v (events_for s v))) b
      ∙ ap (push_events s number v) q;
  history = refl;
  others = λ i d. nth_other s.watches number i v (record v { next = next }) at d;
  many = length-set s.watches (number - 1) (record v { next = next });
  can = readable (u.next == 0) (is_batch u.range u.next (e ∷ es)) (ap (λ (i : ℕ). i == 0) (sym n) ∙ z) batch;
  agrees = (record v { next = next }, nth_itself s.watches number v (record v { next = next }) at, refl, goes (ap (λ (i : ℕ). i == 0) ends ∙ not_zero last) (ends ∙ highest u.next last (last_later u.range u.next e es batch) (let l = span.last 0 (omega (arith)) in let k = h in omega (arith, l, k))));
}
  where
    next : ℕ
    next = next_after v.next (e ∷ es)

    last : ℕ
    last = last_revision (event_revision e) es

    ends : next ≡ last + 1
    ends = next_is_last (event_revision e) es

    span : Spans v.ask.range v.next (newest s.history) (e ∷ es)
    span = subst (Spans v.ask.range v.next (newest s.history)) q (watched_span s.history s.compacted v.ask v.next)

    batch : is_batch u.range u.next (e ∷ es) ≡ true
    batch = ap (λ k. is_batch k u.next (e ∷ es)) (sym r) ∙ ap (λ (i : ℕ). is_batch v.ask.range i (e ∷ es)) (sym n) ∙ span.batch

nothing_pushed : (s : State) (number : ℕ) (v : OpenWatch) → watch_of s number ≡ Some v → (v.next == 0) ≡ false → nat_lt v.next s.compacted ≡ false → events_for s v ≡ [] → is_ok (pushed s number) ≡ true → ⊥
unfolding pushed
nothing_pushed s number v at z b q ok =
    let e : pushed s number ≡ push_events s number v [] =
    ap (λ (o : Option OpenWatch). for_watch number o (push_to s number)) at
    ∙ ap (λ c. cond c (Ok (with_next s number v (first_next (newest s.history) v.ask.start), message.Created (watch_header s v))) (cond (nat_lt v.next s.compacted) (Ok (s, message.Canceled (watch_header s v) s.compacted)) (push_events s number v (events_for s v)))) z
    ∙ ap (λ c. cond c (Ok (s, message.Canceled (watch_header s v) s.compacted)) (push_events s number v (events_for s v))) b
    ∙ ap (push_events s number v) q in
    let t : false ≡ true = sym (ap is_ok e) ∙ ok in cc

cancelled_message : (s : State) (number : ℕ) (v : OpenWatch) (u : Upstream) → watch_of s number ≡ Some v → (v.next == 0) ≡ false → nat_lt v.next s.compacted ≡ true → Message s number v u
unfolding pushed
cancelled_message s number v u at z b = record {
  after = s;
  message = message.Canceled (watch_header s v) s.compacted;
  pushed = ap (λ (o : Option OpenWatch). for_watch number o (push_to s number)) at
      ∙ ap (λ c. cond c (Ok (with_next s number v (first_next (newest s.history) v.ask.start), message.Created (watch_header s v))) (cond (nat_lt v.next s.compacted) (Ok (s, message.Canceled (watch_header s v) s.compacted)) (push_events s number v (events_for s v)))) z
      ∙ ap (λ c. cond c (Ok (s, message.Canceled (watch_header s v) s.compacted)) (push_events s number v (events_for s v))) b;
  history = refl;
  others = λ q n. refl;
  many = refl;
  can = tt;
  agrees = tt;
}

-- of a watch that agrees with the proxy's stream, where the store has a message for it
pub message_of : (s : State) (number : ℕ) (v : OpenWatch) (u : Upstream) → IsShort s → watch_of s number ≡ Some v → v.ask.range ≡ u.range → Agree v u → is_ok (pushed s number) ≡ true → Message s number v u
message_of s number v u h at r (begins z c a) ok = created_message s number v u h at z c a
message_of s number v u h at r (goes z n) ok = by_compaction (nat_lt v.next s.compacted) refl
  where
    by_events : nat_lt v.next s.compacted ≡ false → (es : List Event) → events_for s v ≡ es → Message s number v u
    by_events b [] q = absurd (nothing_pushed s number v at z b q ok)
    by_events b (e ∷ es) q = events_message s number v u e es h at r z n b q

    by_compaction : (b : Bool) → nat_lt v.next s.compacted ≡ b → Message s number v u
    by_compaction true b = cancelled_message s number v u at z b
    by_compaction false b = by_events b (events_for s v) refl
