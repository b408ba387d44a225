-- What the store has for a stream is told by the kind of the message: a push never gives a message without events, and a progress
-- gives no other.
use Rattle.std.proofs.Common.{◌≡◌, ℕ, ◌==◌, Bool, true, false, cond, not, nat_lt, List, [], ◌∷◌, Option, None, Some, Ok, Err, refl, subst}
use Rattle.etcd_types.specs.declared.watch.Event.{Event}
use Rattle.etcd_types.specs.declared.watch.WatchItem.{WatchItem}
use Rattle.etcd_types.specs.declared.watch.WatchItem.TheVariants.{Created, Events, Canceled}
use Rattle.store_model.specs.declared.watch.OpenWatch.{OpenWatch}
use Rattle.store_model.specs.State.{State}
use Rattle.store_model.specs.Watches.{Pushed, watch_of, push_events, push_to, for_watch, pushed, is_synced, progress_to, progressed, events_for}
use Rattle.world_model.specs.Answers.{message_by}

abbrev no_events : List Event → Bool
no_events [] = true
no_events (e ∷ es) = false

abbrev without_events : WatchItem → Bool
without_events (Created h) = false
without_events (Events h es) = no_events es
without_events (Canceled h compaction) = false

-- no message, or one with this answer
abbrev is_if_any : Bool → Pushed → Type 0
is_if_any b (Ok p) = without_events p.1 ≡ b
is_if_any b (Err why) = Unit {0}

events_have : (s : State) (number : ℕ) (w : OpenWatch) (es : List Event) → is_if_any false (push_events s number w es)
events_have s number w [] = tt
events_have s number w (e ∷ es) = refl

choice : (b c : Bool) (x y : Pushed) → is_if_any b x → is_if_any b y → is_if_any b (cond c x y)
choice b true x y f g = f
choice b false x y f g = g

push_has : (s : State) (number : ℕ) (o : Option OpenWatch) → is_if_any false (for_watch number o (push_to s number))
push_has s number None = tt
push_has s number (Some w) =
    choice false (w.next == 0) _ _ refl (choice false (nat_lt w.next s.compacted) _ _ refl (events_have s number w (events_for s w)))

pushed_has : (s : State) (number : ℕ) → is_if_any false (pushed s number)
unfolding pushed
pushed_has s number = push_has s number (watch_of s number)

progress_has : (s : State) (number : ℕ) (o : Option OpenWatch) → is_if_any true (for_watch number o (progress_to s number))
progress_has s number None = tt
progress_has s number (Some w) =
    choice true (not w.ask.progress) _ _ tt (choice true (is_synced s w) _ _ refl tt)

progressed_has : (s : State) (number : ℕ) → is_if_any true (progressed s number)
unfolding progressed
progressed_has s number = progress_has s number (watch_of s number)

told_of : (b : Bool) (k : Pushed) (after : State) (i : WatchItem) → k ≡ Ok (after, i) → is_if_any b k → without_events i ≡ b
told_of b k after i e h = subst (is_if_any b) e h

by_push : (s after : State) (number : ℕ) (i : WatchItem) → without_events i ≡ false → pushed s number ≡ Ok (after, i) → message_by s number i ≡ Ok (after, i)
by_push s after number (Created h) n e = e
by_push s after number (Events h []) n e = absurd (cc)
by_push s after number (Events h (x ∷ xs)) n e = e
by_push s after number (Canceled h compaction) n e = e

pub pushed_so : (s after : State) (number : ℕ) (i : WatchItem) → pushed s number ≡ Ok (after, i) → message_by s number i ≡ Ok (after, i)
pushed_so s after number i e = by_push s after number i (told_of false (pushed s number) after i e (pushed_has s number)) e

by_progress : (s after : State) (number : ℕ) (i : WatchItem) → without_events i ≡ true → progressed s number ≡ Ok (after, i) → message_by s number i ≡ Ok (after, i)
by_progress s after number (Created h) n e = absurd (cc)
by_progress s after number (Events h []) n e = e
by_progress s after number (Events h (x ∷ xs)) n e = absurd (cc)
by_progress s after number (Canceled h compaction) n e = absurd (cc)

pub progressed_so : (s after : State) (number : ℕ) (i : WatchItem) → progressed s number ≡ Ok (after, i) → message_by s number i ≡ Ok (after, i)
progressed_so s after number i e = by_progress s after number i (told_of true (progressed s number) after i e (progressed_has s number)) e
