-- What other steps leave to a watch: its place in the list, and a history that has only grown.
use Rattle.std.proofs.Common.{◌≡◌, ℕ, suc, zero, ◌+◌, ◌-◌, ◌<◌, ◌==◌, nat_lt, max, not, Bool, true, false, cond, ◌||◌, List, [], ◌∷◌, ◌++◌, Option, None, Some, Ok, Err, set, slice_get, map, refl, sym, ap, subst, ◌⊎◌, inl, inr, arith}
use Rattle.std.proofs.lemmas.List.{append-nil}
use Rattle.etcd_types.specs.declared.watch.Event.{Event}
use Rattle.etcd_types.specs.declared.watch.WatchItem.{WatchItem}
use Rattle.etcd_types.specs.declared.watch.WatchItem.TheVariants as item
use Rattle.store_model.specs.declared.history.KeyChange.{KeyChange}
use Rattle.store_model.specs.declared.watch.OpenWatch.{OpenWatch}
use Rattle.store_model.specs.declared.store_fault.StoreFault.{StoreFault}
use Rattle.store_model.specs.declared.store_fault.StoreFault.TheVariants as fault
use Rattle.store_model.specs.History.{History, newest, with_revision}
use Rattle.store_model.specs.State.{State, applied_by}
use Rattle.store_model.specs.Members.{lacks_member, applied}
use Rattle.store_model.specs.Transactions.{deletion, has_lease}
use Rattle.store_model.specs.Leases.{attached, ended, expired}
use Rattle.store_model.specs.Watches.{watch_of, with_next, first_next, next_after, events_for, for_watch, Pushed, push_events, push_to, progress_to, is_synced, watch_header, pushed, progressed}
use Rattle.store_model.specs.Step.{exec}
use Rattle.store_laws.specs.Requests.Requests.{GainsOneRevision}
use Rattle.store_laws.proofs.Events.Messages.{ok, same_states}
use Rattle.store_laws.specs.Events.WatchRuns.{LeavesWatch, RequestsLeaveWatches, ExpiriesLeaveWatches, AppliesLeaveWatches, OpeningsLeaveWatches, MessagesLeaveOtherWatches}
use Rattle.store_laws.proofs.Requests.RequestProofs.{whole-exec}

Grown : History → History → Type 0
Grown h g = (more : History) × (g ≡ h ++ more)

grown-revision : (h : History) (made : List KeyChange) → Grown h (with_revision h made)
unfolding Grown
grown-revision h [] = ([], sym (append-nil h))
grown-revision h (c ∷ cs) = ((c ∷ cs) ∷ [], refl)

grown-from : (s t : State) → GainsOneRevision s t → Grown s.history t.history
grown-from s t g = subst (λ (h : History). Grown s.history h) (sym g.1) (grown-revision s.history g.0)

watch_in : List OpenWatch → ℕ → Option OpenWatch
watch_in ws number = cond (number == 0) None (slice_get ws (number - 1))

-- the same watches, and a history that has grown
leaves : (s t : State) (number : ℕ) → Grown s.history t.history → t.watches ≡ s.watches → LeavesWatch number s t
unfolding Grown watch_in
leaves s t number g w = record { grown = g; same_watch = ap (λ (ws : List OpenWatch). watch_in ws number) w }

pub requests_leave_watches : RequestsLeaveWatches
requests_leave_watches s member q number =
    leaves s (exec s member q).0 number (grown-from s (exec s member q).0 (whole-exec s member q).gains) (whole-exec s member q).watches

ended_by : (s t : State) (lease number : ℕ) (known : Bool) → cond known (Ok (ended s lease)) (Err (fault.NoSuchLease lease)) ≡ Ok t → LeavesWatch number s t
ended_by s t lease number true e =
    let same_state : ended s lease ≡ t = cc in
    subst (λ (u : State). LeavesWatch number s u) same_state
    (leaves s (ended s lease) number (grown-revision s.history (map deletion (attached s.history lease))) refl)
ended_by s t lease number false e = absurd (cc)

pub expiries_leave_watches : ExpiriesLeaveWatches
unfolding expired
expiries_leave_watches s t lease number e = ended_by s t lease number (has_lease s.leases lease) e

same_history : (h : History) → Grown h h
unfolding Grown
same_history h = ([], sym (append-nil h))

applied_to : (s u t : State) (number : ℕ) (lacks bad : Bool) (f g : StoreFault) → u.history ≡ s.history → u.watches ≡ s.watches
    → cond lacks (Err f) (cond bad (Err g) (Ok u)) ≡ Ok t → LeavesWatch number s t
applied_to s u t number true bad f g h w e = absurd (cc)
applied_to s u t number false true f g h w e = absurd (cc)
applied_to s u t number false false f g h w e =
    let same_state : u ≡ t = cc in
    subst (λ (v : State). LeavesWatch number s v) same_state
    (leaves s u number (subst (λ (k : History). Grown s.history k) (sym h) (same_history s.history)) w)

pub applies_leave_watches : AppliesLeaveWatches
unfolding applied
applies_leave_watches s t member revision number e =
    applied_to s (record s { applied = set s.applied (member - 1) revision }) t number (lacks_member s member) (nat_lt revision (applied_by s member) || nat_lt (newest s.history) revision)
    (fault.NoSuchMember member) (fault.BadApply (applied_by s member) (newest s.history)) refl refl e

get_front : {A : Type 0} (xs ys : List A) (i : ℕ) (x : A) → slice_get xs i ≡ Some x → slice_get (xs ++ ys) i ≡ slice_get xs i
get_front [] ys i x e = absurd (cc)
get_front (z ∷ xs) ys zero x e = refl
get_front (z ∷ xs) ys (suc i) x e = get_front xs ys i x e

front_by : (none : Bool) (ws vs : List OpenWatch) (i : ℕ) (w : OpenWatch) → cond none None (slice_get ws i) ≡ Some w
    → cond none None (slice_get (ws ++ vs) i) ≡ cond none None (slice_get ws i)
front_by true ws vs i w e = refl
front_by false ws vs i w e = get_front ws vs i w e

pub openings_leave_watches : OpeningsLeaveWatches
unfolding Grown
openings_leave_watches s member ask number w e =
    record {
      grown = same_history s.history;
      same_watch = front_by (number == 0) s.watches (record { member = member; ask = ask; next = 0 } ∷ []) (number - 1) w e;
    }

-- a message moves its own watch on, or nothing

Moves : ℕ → State → State → Type 0
Moves number s t = (s ≡ t) ⊎ ((w : OpenWatch) × (k : ℕ) × (watch_of s number ≡ Some w) × (with_next s number w k ≡ t))

push_moves : (first behind : Bool) (s : State) (number k : ℕ) (w : OpenWatch) (t : State) (a b c : WatchItem) (es : List Event) → watch_of s number ≡ Some w
    → cond first (ok (with_next s number w k) a) (cond behind (ok s b) (push_events s number w es)) ≡ ok t c → Moves number s t
unfolding Moves
push_moves true behind s number k w t a b c es f e = inr (w, k, f, same_states (with_next s number w k) t a c e)
push_moves false true s number k w t a b c es f e = inl (same_states s t b c e)
push_moves false false s number k w t a b c [] f e = absurd (cc)
push_moves false false s number k w t a b c (x ∷ es) f e =
    inr (w, next_after w.next (x ∷ es), f, same_states (with_next s number w (next_after w.next (x ∷ es))) t (item.Events (watch_header s w) (x ∷ es)) c e)

progress_moves : (unasked synced : Bool) (s : State) (number k : ℕ) (w : OpenWatch) (t : State) (a c : WatchItem) (f g : StoreFault) → watch_of s number ≡ Some w
    → cond unasked (Err f) (cond synced (ok (with_next s number w k) a) (Err g)) ≡ ok t c → Moves number s t
unfolding Moves
progress_moves true synced s number k w t a c f g q e = absurd (cc)
progress_moves false true s number k w t a c f g q e = inr (w, k, q, same_states (with_next s number w k) t a c e)
progress_moves false false s number k w t a c f g q e = absurd (cc)

found_moves : (s t : State) (number : ℕ) (i : WatchItem) (o : Option OpenWatch) (step : OpenWatch → Pushed) → watch_of s number ≡ o
    → ((w : OpenWatch) → watch_of s number ≡ Some w → step w ≡ ok t i → Moves number s t) → for_watch number o step ≡ ok t i → Moves number s t
found_moves s t number i None step q h e = absurd (cc)
found_moves s t number i (Some w) step q h e = h w q e

pushed_moves : (s t : State) (number : ℕ) (i : WatchItem) → pushed s number ≡ ok t i → Moves number s t
unfolding pushed
pushed_moves s t number i e =
    found_moves s t number i (watch_of s number) (push_to s number) refl
    (λ w f g. push_moves (w.next == 0) (nat_lt w.next s.compacted) s number (first_next (newest s.history) w.ask.start) w t (item.Created (watch_header s w)) (item.Canceled (watch_header s w) s.compacted) i (events_for s w) f g)
    e

progressed_moves : (s t : State) (number : ℕ) (i : WatchItem) → progressed s number ≡ ok t i → Moves number s t
unfolding progressed
progressed_moves s t number i e =
    found_moves s t number i (watch_of s number) (progress_to s number) refl
    (λ w f g. progress_moves (not w.ask.progress) (is_synced s w) s number (max w.next (newest s.history + 1)) w t (item.Events (watch_header s w) []) i (fault.NotAsked number) (fault.NotSynced w.next (newest s.history)) f g)
    e

watches_moved : (s t : State) (number : ℕ) → Moves number s t → (ws : List OpenWatch) × (record s { watches = ws } ≡ t)
unfolding Moves
watches_moved s t number (inl e) = (s.watches, e)
watches_moved s t number (inr (w, k, f, e)) = (set s.watches (number - 1) (record w { next = k }), e)

-- so of the store it moves the watches alone
pub message_moves : (s t : State) (i : WatchItem) (number : ℕ) → (pushed s number ≡ Ok (t, i)) ⊎ (progressed s number ≡ Ok (t, i))
    → (ws : List OpenWatch) × (record s { watches = ws } ≡ t)
message_moves s t i number (inl e) = watches_moved s t number (pushed_moves s t number i e)
message_moves s t i number (inr e) = watches_moved s t number (progressed_moves s t number i e)

get_other : {A : Type 0} (xs : List A) (i j : ℕ) (y : A) → (i ≡ j → ⊥) → slice_get (set xs i y) j ≡ slice_get xs j
get_other [] i j y n = refl
get_other (x ∷ xs) zero zero y n = absurd (n refl)
get_other (x ∷ xs) zero (suc j) y n = refl
get_other (x ∷ xs) (suc i) zero y n = refl
get_other (x ∷ xs) (suc i) (suc j) y n = get_other xs i j y (λ e. n (ap suc e))

other_by : (none : Bool) (ws : List OpenWatch) (i j : ℕ) (v : OpenWatch) → (none ≡ false → i ≡ j → ⊥)
    → cond none None (slice_get (set ws i v) j) ≡ cond none None (slice_get ws j)
other_by true ws i j v n = refl
other_by false ws i j v n = get_other ws i j v (n refl)

-- a watch that is found has a number above 0
found_number : (ws : List OpenWatch) (number : ℕ) (w : OpenWatch) → watch_in ws number ≡ Some w → 0 < number
unfolding watch_in
found_number ws zero w e = absurd (cc)
found_number ws (suc n) w e = omega arith

above_zero : (number : ℕ) → number == 0 ≡ false → 0 < number
above_zero zero e = absurd (cc)
above_zero (suc n) e = omega arith

other_left : (s t : State) (other number : ℕ) → (other ≡ number → ⊥) → Moves other s t → LeavesWatch number s t
unfolding Moves watch_in
other_left s t other number n (inl e) = subst (λ (u : State). LeavesWatch number s u) e (leaves s s number (same_history s.history) refl)
other_left s t other number n (inr (w, k, f, e)) =
    subst (λ (u : State). LeavesWatch number s u) e
    (record {
      grown = let g : Grown s.history s.history = same_history s.history in unfold Grown in g;
      same_watch =
          other_by (number == 0) s.watches (other - 1) (number - 1) (record w { next = k })
          (λ z q. let a : 0 < other = found_number s.watches other w f in let b : 0 < number = above_zero number z in n (omega arith));
    })

pub messages_leave_other_watches : MessagesLeaveOtherWatches
messages_leave_other_watches s t i other number n (inl e) = other_left s t other number n (pushed_moves s t other i e)
messages_leave_other_watches s t i other number n (inr e) = other_left s t other number n (progressed_moves s t other i e)
