-- What the store pushes on a stream: first that it was created; then each message tells all events of its range from where the last one
-- ended, or that there is none, or that they were compacted.
use Rattle.std.proofs.Common.{◌≡◌, inl, inr, ℕ, zero, suc, ◌+◌, ◌-◌, ◌<◌, max, Bool, true, false, not, cond, ◌&&◌, ◌==◌, nat_lt, List, [], ◌∷◌, ◌++◌, set, slice_get, Option, None, Some, Ok, Err, refl, sym, subst, arith}
use Rattle.std.proofs.lemmas.Bool.Decides.{nat_tests}
use Rattle.etcd_types.specs.declared.record.Header.{Header}
use Rattle.etcd_types.specs.declared.request.WatchAsk.{WatchAsk}
use Rattle.etcd_types.specs.declared.watch.Event.{Event}
use Rattle.etcd_types.specs.declared.watch.WatchItem.{WatchItem}
use Rattle.etcd_types.specs.declared.watch.WatchItem.TheVariants as item
use Rattle.store_model.specs.declared.watch.OpenWatch.{OpenWatch}
use Rattle.store_model.specs.Events.{watch_events}
use Rattle.store_model.specs.History.{History, newest}
use Rattle.store_model.specs.State.{State}
use Rattle.store_model.specs.Watches.{Pushed, watch_of, with_next, first_next, next_after, watch_header, events_for, push_events, push_to, for_watch, pushed, is_nil, is_synced, progress_to, progressed}
use Rattle.script_text.specs.declared.item.Item.{Item}
use Rattle.script_text.specs.declared.item.Item.TheVariants as pushed_item
use Rattle.world_model.specs.Answers.{seen}
use Rattle.world_laws.proofs.Effects.{IsPushed}

-- A whole transcript, and the history that it made.
pub record Whole : Type 0 where
  pub history : History
  pub items : List Item

-- this message was pushed, when this was the store's compaction
pub record WasTold (items : List Item) (i : WatchItem) (compacted : ℕ) : Type 0 where
  pub before : List Item
  pub stream : ℕ
  pub after : List Item
  pub pushed : items ≡ before ++ pushed_item.Pushed stream i ∷ after
  pub compaction : (seen before).store.compacted ≡ compacted

-- In a history that goes on to `whole`: this message takes a watch that was asked for so from this next to that one.
pub data Says (whole : Whole) (ask : WatchAsk) : ℕ → WatchItem → ℕ → Type 0 where
  begins : (h : Header) (now more : History) → whole.history ≡ now ++ more → h.revision ≡ newest now → Says whole ask 0 (item.Created h) (first_next (newest now) ask.start)
  tells : (h : Header) (n compacted : ℕ) (e : Event) (es : List Event) (now more : History) → whole.history ≡ now ++ more → (n == 0) ≡ false → watch_events now compacted ask n ≡ e ∷ es → WasTold whole.items (item.Events h (e ∷ es)) compacted
      → Says whole ask n (item.Events h (e ∷ es)) (next_after n (e ∷ es))
  reaches : (h : Header) (n compacted : ℕ) (now more : History) → whole.history ≡ now ++ more → (n == 0) ≡ false → watch_events now compacted ask n ≡ [] → h.revision ≡ newest now
      → Says whole ask n (item.Events h []) (max n (newest now + 1))
  ends : (h : Header) (n compacted : ℕ) → (n == 0) ≡ false → n < compacted → WasTold whole.items (item.Canceled h compacted) compacted → Says whole ask n (item.Canceled h compacted) n

-- one message after the other
abbrev pub SaysAll : Whole → WatchAsk → ℕ → List WatchItem → ℕ → Type 0
SaysAll whole ask n [] m = n ≡ m
SaysAll whole ask n (i ∷ is) m = (k : ℕ) × Says whole ask n i k × SaysAll whole ask k is m

pub says-push : (whole : Whole) (ask : WatchAsk) (n m k : ℕ) (is : List WatchItem) (i : WatchItem) → SaysAll whole ask n is m → Says whole ask m i k → SaysAll whole ask n (is ++ i ∷ []) k
says-push whole ask n m k [] i h s = (k, subst (λ (j : ℕ). Says whole ask j i k) (sym h) s, refl)
says-push whole ask n m k (j ∷ is) i h s = (h.0, h.1, says-push whole ask h.0 m k is i h.2 s)

-- ---- a watch that is told

set_at : (ws : List OpenWatch) (k : ℕ) (w v : OpenWatch) → slice_get ws k ≡ Some w → slice_get (set ws k v) k ≡ Some v
set_at [] k w v e = absurd (cc)
set_at (x ∷ ws) zero w v e = refl
set_at (x ∷ ws) (suc k) w v e = set_at ws k w v e

pub watch_moved : (s : State) (number : ℕ) (w : OpenWatch) (next : ℕ) → watch_of s number ≡ Some w → watch_of (with_next s number w next) number ≡ Some (record w { next = next })
watch_moved s number w next e = by (number == 0) e
  where
    by : (b : Bool) → cond b None (slice_get s.watches (number - 1)) ≡ Some w → cond b None (slice_get (set s.watches (number - 1) (record w { next = next })) (number - 1)) ≡ Some (record w { next = next })
    by true e = absurd (cc)
    by false e = set_at s.watches (number - 1) w (record w { next = next }) e

-- the store behind a message of the watch, which it takes to its next
pub record Said (whole : Whole) (t : State) (number : ℕ) (w : OpenWatch) (i : WatchItem) : Type 0 where
  pub next : ℕ
  pub watch : watch_of t number ≡ Some (record w { next = next })
  pub says : Says whole w.ask w.next i next

-- where it was told at this compaction
abbrev SaidOf : Whole → ℕ → OpenWatch → ℕ → Pushed → Type 0
SaidOf whole number w compacted (Ok p) = WasTold whole.items p.1 compacted → Said whole p.0 number w p.1
SaidOf whole number w compacted (Err why) = Unit {0}

either_so : {A : Type 0} (P : A → Type 0) (b : Bool) (x y : A) → (b ≡ true → P x) → (b ≡ false → P y) → P (cond b x y)
either_so P true x y f g = f refl
either_so P false x y f g = g refl

zero_is : (n : ℕ) → (n == 0) ≡ true → n ≡ 0
zero_is n e = grind (arith, nat_tests)

less_is : (n m : ℕ) → nat_lt n m ≡ true → n < m
less_is n m e = grind (arith, nat_tests)

events_say : (whole : Whole) (s : State) (more : History) (number : ℕ) (w : OpenWatch) (es : List Event) → whole.history ≡ s.history ++ more → watch_of s number ≡ Some w → (w.next == 0) ≡ false → events_for s w ≡ es
    → SaidOf whole number w s.compacted (push_events s number w es)
events_say whole s more number w [] e at z q = tt
events_say whole s more number w (x ∷ es) e at z q = λ told. record {
  next = next_after w.next (x ∷ es);
  watch = watch_moved s number w (next_after w.next (x ∷ es)) at;
  says = tells (watch_header s w) w.next s.compacted x es s.history more e z q told;
}

push_says : (whole : Whole) (s : State) (more : History) (number : ℕ) (w : OpenWatch) → whole.history ≡ s.history ++ more → watch_of s number ≡ Some w → SaidOf whole number w s.compacted (push_to s number w)
push_says whole s more number w e at =
    either_so (SaidOf whole number w s.compacted) (w.next == 0) _ _
    (λ z told. record {
      next = first_next (newest s.history) w.ask.start;
      watch = watch_moved s number w (first_next (newest s.history) w.ask.start) at;
      says = subst (λ (n : ℕ). Says whole w.ask n (item.Created (watch_header s w)) (first_next (newest s.history) w.ask.start)) (sym (zero_is w.next z)) (begins (watch_header s w) s.history more e refl);
    })
    (λ z. either_so (SaidOf whole number w s.compacted) (nat_lt w.next s.compacted) _ _
    (λ b told. record { next = w.next; watch = at; says = ends (watch_header s w) w.next s.compacted z (less_is w.next s.compacted b) told })
    (λ b. events_say whole s more number w (events_for s w) e at z refl))

three : (a b c : Bool) → (not a && not b && c) ≡ true → (a ≡ false) × (c ≡ true)
three true b c e = absurd (cc)
three false true c e = absurd (cc)
three false false c e = (refl, e)

nil_is : (es : List Event) → is_nil es ≡ true → es ≡ []
nil_is [] e = refl
nil_is (x ∷ es) e = absurd (cc)

progress_says : (whole : Whole) (s : State) (more : History) (number : ℕ) (w : OpenWatch) → whole.history ≡ s.history ++ more → watch_of s number ≡ Some w → SaidOf whole number w s.compacted (progress_to s number w)
progress_says whole s more number w e at =
    either_so (SaidOf whole number w s.compacted) (not w.ask.progress) _ _ (λ b. tt)
    (λ b. either_so (SaidOf whole number w s.compacted) (is_synced s w) _ _
    (λ q told.
    let k = three (w.next == 0) (nat_lt w.next s.compacted) (is_nil (events_for s w)) q in
    record {
      next = max w.next (newest s.history + 1);
      watch = watch_moved s number w (max w.next (newest s.history + 1)) at;
      says = reaches (watch_header s w) w.next s.compacted s.history more e k.0 (nil_is (events_for s w) k.1) refl;
    })
    (λ q. tt))

pushed_says : (whole : Whole) (s : State) (more : History) (number : ℕ) (w : OpenWatch) → whole.history ≡ s.history ++ more → watch_of s number ≡ Some w → SaidOf whole number w s.compacted (pushed s number)
unfolding pushed
pushed_says whole s more number w e at = subst (λ (o : Option OpenWatch). SaidOf whole number w s.compacted (for_watch number o (push_to s number))) (sym at) (push_says whole s more number w e at)

progressed_says : (whole : Whole) (s : State) (more : History) (number : ℕ) (w : OpenWatch) → whole.history ≡ s.history ++ more → watch_of s number ≡ Some w → SaidOf whole number w s.compacted (progressed s number)
unfolding progressed
progressed_says whole s more number w e at = subst (λ (o : Option OpenWatch). SaidOf whole number w s.compacted (for_watch number o (progress_to s number))) (sym at) (progress_says whole s more number w e at)

pub push_said : (whole : Whole) (s t : State) (more : History) (number : ℕ) (w : OpenWatch) (i : WatchItem) → whole.history ≡ s.history ++ more → watch_of s number ≡ Some w → IsPushed s number t i → WasTold whole.items i s.compacted
    → Said whole t number w i
push_said whole s t more number w i e at (inl p) = subst (SaidOf whole number w s.compacted) p (pushed_says whole s more number w e at)
push_said whole s t more number w i e at (inr p) = subst (SaidOf whole number w s.compacted) p (progressed_says whole s more number w e at)
