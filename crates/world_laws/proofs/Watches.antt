-- What a step of the store leaves: as many watches, unless it opens one.
use Rattle.std.proofs.Common.{◌≡◌, ℕ, ◌-◌, ◌==◌, ◌||◌, Bool, true, false, cond, not, nat_lt, List, [], ◌∷◌, length, Option, None, Some, Result, Ok, Err, refl, sym, ◌⊎◌, inl, inr}
use Rattle.std.proofs.lemmas.List.{length-set}
use Rattle.etcd_types.specs.declared.watch.Event.{Event}
use Rattle.store_model.specs.declared.store_fault.StoreFault.{StoreFault}
use Rattle.store_model.specs.declared.watch.OpenWatch.{OpenWatch}
use Rattle.store_model.specs.History.{newest}
use Rattle.store_model.specs.Leases.{expired}
use Rattle.store_model.specs.Members.{lacks_member, applied}
use Rattle.store_model.specs.State.{State, applied_by}
use Rattle.store_model.specs.Transactions.{has_lease}
use Rattle.store_laws.specs.Lives.Lives.{StoreStep, expires, applies, pushes, progresses, state_or, pushed_or, stepped}
use Rattle.store_model.specs.Watches.{Pushed, watch_of, push_events, push_to, for_watch, pushed, is_synced, progress_to, progressed, events_for}

-- a store as it was, or after one step of its life
abbrev pub Moves : State → State → Type 0
Moves s t = (t ≡ s) ⊎ ((e : StoreStep) × (t ≡ stepped s e))

-- where a message was pushed, there are as many watches as before
abbrev KeepsWatches : State → Pushed → Type 0
KeepsWatches s (Ok p) = length p.0.watches ≡ length s.watches
KeepsWatches s (Err why) = Unit {0}

choice : (s : State) (b : Bool) (x y : Pushed) → KeepsWatches s x → KeepsWatches s y → KeepsWatches s (cond b x y)
choice s true x y f g = f
choice s false x y f g = g

events_keep : (s : State) (number : ℕ) (w : OpenWatch) (es : List Event) → KeepsWatches s (push_events s number w es)
events_keep s number w [] = tt
events_keep s number w (e ∷ es) = length-set s.watches (number - 1) _

push_keeps : (s : State) (number : ℕ) (o : Option OpenWatch) → KeepsWatches s (for_watch number o (push_to s number))
push_keeps s number None = tt
push_keeps s number (Some w) =
    choice s (w.next == 0) _ _ (length-set s.watches (number - 1) _) (choice s (nat_lt w.next s.compacted) _ _ refl (events_keep s number w (events_for s w)))

-- and the store made that step
abbrev pub KeepsStore : State → Pushed → Type 0
KeepsStore s (Ok p) = (length p.0.watches ≡ length s.watches) × Moves s p.0
KeepsStore s (Err why) = Unit {0}

by_step : (s : State) (e : StoreStep) (k : Pushed) → stepped s e ≡ pushed_or s k → KeepsWatches s k → KeepsStore s k
by_step s e (Ok p) same h = (h, inr (e, sym same))
by_step s e (Err why) same h = tt

pushes_watches : (s : State) (number : ℕ) → KeepsWatches s (pushed s number)
unfolding pushed
pushes_watches s number = push_keeps s number (watch_of s number)

pub pushes_keep : (s : State) (number : ℕ) → KeepsStore s (pushed s number)
pushes_keep s number = by_step s (pushes number) (pushed s number) refl (pushes_watches s number)

told_keeps : (s : State) (number : ℕ) (o : Option OpenWatch) → KeepsWatches s (for_watch number o (progress_to s number))
told_keeps s number None = tt
told_keeps s number (Some w) =
    choice s (not w.ask.progress) _ _ tt (choice s (is_synced s w) _ _ (length-set s.watches (number - 1) _) tt)

progress_watches : (s : State) (number : ℕ) → KeepsWatches s (progressed s number)
unfolding progressed
progress_watches s number = told_keeps s number (watch_of s number)

pub progress_keeps : (s : State) (number : ℕ) → KeepsStore s (progressed s number)
progress_keeps s number = by_step s (progresses number) (progressed s number) refl (progress_watches s number)

abbrev LeavesWatches : State → Result State StoreFault → Type 0
LeavesWatches s (Ok t) = t.watches ≡ s.watches
LeavesWatches s (Err why) = Unit {0}

either : (s : State) (b : Bool) (x y : Result State StoreFault) → LeavesWatches s x → LeavesWatches s y → LeavesWatches s (cond b x y)
either s true x y f g = f
either s false x y f g = g

abbrev pub LeavesStore : State → Result State StoreFault → Type 0
LeavesStore s (Ok t) = (t.watches ≡ s.watches) × Moves s t
LeavesStore s (Err why) = Unit {0}

by_other : (s : State) (e : StoreStep) (r : Result State StoreFault) → stepped s e ≡ state_or s r → LeavesWatches s r → LeavesStore s r
by_other s e (Ok t) same h = (h, inr (e, sym same))
by_other s e (Err why) same h = tt

expiries_watches : (s : State) (lease : ℕ) → LeavesWatches s (expired s lease)
unfolding expired
expiries_watches s lease = either s (has_lease s.leases lease) _ _ refl tt

pub expiries_leave : (s : State) (lease : ℕ) → LeavesStore s (expired s lease)
expiries_leave s lease = by_other s (expires lease) (expired s lease) refl (expiries_watches s lease)

applies_watches : (s : State) (member revision : ℕ) → LeavesWatches s (applied s member revision)
unfolding applied
applies_watches s member revision =
    either s (lacks_member s member) _ _ tt (either s (nat_lt revision (applied_by s member) || nat_lt (newest s.history) revision) _ _ tt refl)

pub applies_leave : (s : State) (member revision : ℕ) → LeavesStore s (applied s member revision)
applies_leave s member revision = by_other s (applies member revision) (applied s member revision) refl (applies_watches s member revision)
