-- The watches of a store under a namespace.
use Rattle.std.proofs.Common.{◌≡◌, ℕ, zero, suc, ◌+◌, ◌-◌, Bool, true, false, cond, not, ◌&&◌, ◌||◌, set, ◌==◌, nat_lt, nat_le, max, List, [], ◌∷◌, ◌++◌, take, drop, map, filter, slice_get, Option, None, Some, Result, Ok, Err, refl, sym, ◌∙◌, ap}
use Rattle.std.specs.List.{list_all}
use Rattle.std.proofs.lemmas.List.{map-append, take-map, map-set, length-map}
use Rattle.etcd_types.specs.declared.record.Kv.{Kv}
use Rattle.etcd_types.specs.declared.key_range.KeyRange.{KeyRange}
use Rattle.etcd_types.specs.declared.request.WatchAsk.{WatchAsk}
use Rattle.etcd_types.specs.declared.watch.Change.{Change}
use Rattle.etcd_types.specs.declared.watch.Change.TheVariants as event
use Rattle.etcd_types.specs.declared.watch.Event.{Event}
use Rattle.etcd_types.specs.declared.watch.WatchItem.TheVariants as item
use Rattle.etcd_types.specs.Keys.{is_empty}
use Rattle.etcd_types.specs.Ranges.{contains}
use Rattle.store_model.specs.declared.history.KeyChange.{KeyChange}
use Rattle.store_model.specs.declared.history.KeyChange.TheVariants.{Put, Delete}
use Rattle.store_model.specs.declared.watch.OpenWatch.{OpenWatch}
use Rattle.store_model.specs.History.{History, newest, with_revision, changed_key}
use Rattle.store_model.specs.Records.{record_now}
use Rattle.store_model.specs.declared.store_fault.StoreFault.{StoreFault}
use Rattle.store_model.specs.declared.store_fault.StoreFault.TheVariants as fault
use Rattle.store_model.specs.Members.{lacks_member, applied}
use Rattle.store_model.specs.State.{State, applied_by, header}
use Rattle.store_model.specs.Events.{event_of, events_of_changes, events_after, events, event_revision, passes, change_passes, change_revision, visible_prev, told_event, watch_events}
use Rattle.store_model.specs.Watches.{Pushed, watch_of, with_next, first_next, next_after, watch_header, events_for, push_events, push_to, is_nil, is_synced, progress_to, for_watch, pushed, progressed}
use Rattle.std.specs.Option.{option_map}
use Rattle.etcd_types.proofs.Bools.{and_first, and_second, not_true}
use Rattle.proxy_model.specs.Wrapped.{watch_under}
use Rattle.store_laws.specs.Lives.TestedKeys.{has_key, have_keys}
use Rattle.namespace_laws.specs.Stored.Stored.{stored_after, stored, stored_change, stored_changes, stored_history, stored_prev, stored_watch}
use Rattle.namespace_laws.specs.Stored.StoredWatches.{stored_event_change, stored_event, stored_events, stored_pushed, StartsAreStored, OpeningsAreStored, PushesAreStored, ProgressIsStored, AppliesAreStored}
use Rattle.namespace_laws.proofs.Stored.Keys.{pushed2, Like, like_under}
use Rattle.namespace_laws.proofs.Stored.Records.{put_under_is, records_are_stored, with_revision-under, newest-under}

pub starts_are_stored : StartsAreStored
starts_are_stored ns members = refl

pub openings_are_stored : OpeningsAreStored
openings_are_stored ns s member ask =
    λ i. (
      record (stored ns s) { watches = sym (map-append (stored_watch ns) s.watches (record { member = member; ask = ask; next = 0 } ∷ [])) i },
      length-map s.watches (stored_watch ns) i + 1,
    )

-- events

event_under : (ns : List ℕ) (revision : ℕ) (old : Option Kv) (c : KeyChange) → event_of revision (stored_prev ns old) (stored_change ns c) ≡ stored_event ns (event_of revision old c)
event_under ns revision old (Put key value lease) = λ i. record { change = event.Put (put_under_is ns old key value lease revision i); prev = stored_prev ns old }
event_under ns revision old (Delete key) = refl

key_under : (ns : List ℕ) (c : KeyChange) → changed_key (stored_change ns c) ≡ ns ++ changed_key c
key_under ns (Put key value lease) = refl
key_under ns (Delete key) = refl

one_event : (ns : List ℕ) (before : History) (made : List KeyChange) (c : KeyChange)
    → event_of (newest (stored_history ns before) + 1) (record_now (with_revision (stored_history ns before) (stored_changes ns made)) (changed_key (stored_change ns c))) (stored_change ns c)
    ≡ stored_event ns (event_of (newest before + 1) (record_now (with_revision before made) (changed_key c)) c)
one_event ns before made c =
    (λ i. event_of (newest-under ns before i + 1) (record_now (with_revision-under ns before made i) (key_under ns c i)) (stored_change ns c))
    ∙ ap (λ (old : Option Kv). event_of (newest before + 1) old (stored_change ns c)) (records_are_stored ns (with_revision before made) (changed_key c))
    ∙ event_under ns (newest before + 1) (record_now (with_revision before made) (changed_key c)) c

chosen : (ns : List ℕ) (t : Bool) (e : Event) (es : List Event) → cond t (stored_event ns e ∷ stored_events ns es) (stored_events ns es) ≡ stored_events ns (cond t (e ∷ es) es)
chosen ns true e es = refl
chosen ns false e es = refl

changes_events : (ns : List ℕ) (big r : KeyRange) (before : History) (made cs : List KeyChange) → Like ns big r → have_keys cs ≡ true
    → events_of_changes big (stored_history ns before) (stored_changes ns made) (stored_changes ns cs) ≡ stored_events ns (events_of_changes r before made cs)
changes_events ns big r before made [] l k = refl
changes_events ns big r before made (c ∷ cs) l k =
    let rest : events_of_changes big (stored_history ns before) (stored_changes ns made ++ stored_change ns c ∷ []) (stored_changes ns cs) ≡ stored_events ns (events_of_changes r before (made ++ c ∷ []) cs) =
    ap (λ (m : List KeyChange). events_of_changes big (stored_history ns before) m (stored_changes ns cs)) (sym (map-append (stored_change ns) made (c ∷ [])))
    ∙ changes_events ns big r before (made ++ c ∷ []) cs l (and_second (has_key c) _ k) in
    let test : contains big (changed_key (stored_change ns c)) ≡ contains r (changed_key c) =
    ap (contains big) (key_under ns c) ∙ l (changed_key c) (not_true (is_empty (changed_key c)) (and_first (has_key c) _ k)) in
    (λ i. cond (test i) (one_event ns before made c i ∷ rest i) (rest i))
    ∙ chosen ns (contains r (changed_key c)) (event_of (newest before + 1) (record_now (with_revision before made) (changed_key c)) c) (events_of_changes r before (made ++ c ∷ []) cs)

after_events : (ns : List ℕ) (big r : KeyRange) (before h : History) → Like ns big r → list_all have_keys h ≡ true
    → events_after big (stored_history ns before) (stored_history ns h) ≡ stored_events ns (events_after r before h)
after_events ns big r before [] l k = refl
after_events ns big r before (cs ∷ h) l k =
    (λ i. changes_events ns big r before [] cs l (and_first (have_keys cs) _ k) i ++ events_after big (sym (map-append (stored_changes ns) before (cs ∷ [])) i) (stored_history ns h))
    ∙ ap (λ (es : List Event). stored_events ns (events_of_changes r before [] cs) ++ es) (after_events ns big r (before ++ cs ∷ []) h l (and_second (have_keys cs) _ k))
    ∙ sym (map-append (stored_event ns) (events_of_changes r before [] cs) (events_after r (before ++ cs ∷ []) h))

dropped_under : (ns : List ℕ) (n : ℕ) (h : History) → drop n (stored_history ns h) ≡ stored_history ns (drop n h)
dropped_under ns zero h = refl
dropped_under ns (suc n) [] = refl
dropped_under ns (suc n) (cs ∷ h) = dropped_under ns n h

all_dropped : (n : ℕ) (h : History) → list_all have_keys h ≡ true → list_all have_keys (drop n h) ≡ true
all_dropped zero h k = k
all_dropped (suc n) [] k = refl
all_dropped (suc n) (cs ∷ h) k = all_dropped n h (and_second (have_keys cs) _ k)

events_under : (ns : List ℕ) (h : History) (r : KeyRange) (big : KeyRange) (from : ℕ) → Like ns big r → list_all have_keys h ≡ true → events (stored_history ns h) big from ≡ stored_events ns (events h r from)
events_under ns h r big from l k =
    (λ i. events_after big (take-map (stored_changes ns) (from - 2) h i) (dropped_under ns (from - 2) h i))
    ∙ after_events ns big r (take (from - 2) h) (drop (from - 2) h) l (all_dropped (from - 2) h k)

change_passes_under : (ns : List ℕ) (ask : WatchAsk) (c : Change) → change_passes (watch_under ns ask) (stored_event_change ns c) ≡ change_passes ask c
change_passes_under ns ask (event.Put kv) = refl
change_passes_under ns ask (event.Delete key modified) = refl

passing : (ns : List ℕ) (ask : WatchAsk) (es : List Event) → filter (passes (watch_under ns ask)) (stored_events ns es) ≡ stored_events ns (filter (passes ask) es)
passing ns ask [] = refl
passing ns ask (e ∷ es) =
    (λ i. cond (change_passes_under ns ask e.change i) (stored_event ns e ∷ passing ns ask es i) (passing ns ask es i)) ∙ chosen ns (passes ask e) e (filter (passes ask) es)

revision_under : (ns : List ℕ) (c : Change) → change_revision (stored_event_change ns c) ≡ change_revision c
revision_under ns (event.Put kv) = refl
revision_under ns (event.Delete key modified) = refl

prev_by : (ns : List ℕ) (t : Bool) (old : Option Kv) → cond t (stored_prev ns old) None ≡ stored_prev ns (cond t old None)
prev_by ns true old = refl
prev_by ns false old = refl

visible_under : (ns : List ℕ) (compacted revision : ℕ) (old : Option Kv) → visible_prev compacted revision (stored_prev ns old) ≡ stored_prev ns (visible_prev compacted revision old)
visible_under ns compacted revision None = refl
visible_under ns compacted revision (Some kv) = prev_by ns (nat_lt compacted revision || nat_le compacted kv.modified) (Some kv)

told_under : (ns : List ℕ) (compacted : ℕ) (ask : WatchAsk) (es : List Event) → map (told_event compacted (watch_under ns ask)) (stored_events ns es) ≡ stored_events ns (map (told_event compacted ask) es)
told_under ns compacted ask [] = refl
told_under ns compacted ask (e ∷ es) =
    let prev : cond ask.prev_kv (visible_prev compacted (event_revision (stored_event ns e)) (stored_prev ns e.prev)) None ≡ stored_prev ns (cond ask.prev_kv (visible_prev compacted (event_revision e) e.prev) None) =
    (λ i. cond ask.prev_kv (visible_prev compacted (revision_under ns e.change i) (stored_prev ns e.prev)) None)
    ∙ ap (λ (o : Option Kv). cond ask.prev_kv o None) (visible_under ns compacted (event_revision e) e.prev)
    ∙ prev_by ns ask.prev_kv (visible_prev compacted (event_revision e) e.prev) in
    λ i. record { change = stored_event_change ns e.change; prev = prev i } ∷ told_under ns compacted ask es i

watched_under : (ns : List ℕ) (h : History) (compacted : ℕ) (ask : WatchAsk) (from : ℕ) → list_all have_keys h ≡ true
    → watch_events (stored_history ns h) compacted (watch_under ns ask) from ≡ stored_events ns (watch_events h compacted ask from)
watched_under ns h compacted ask from k =
    ap (λ (es : List Event). map (told_event compacted (watch_under ns ask)) (filter (passes (watch_under ns ask)) es)) (events_under ns h ask.range (watch_under ns ask).range from (like_under ns ask.range) k)
    ∙ ap (map (told_event compacted (watch_under ns ask))) (passing ns ask (events h ask.range from))
    ∙ told_under ns compacted ask (filter (passes ask) (events h ask.range from))

-- pushes

next_under : (ns : List ℕ) (s : State) (number : ℕ) (w : OpenWatch) (next : ℕ) → with_next (stored ns s) number (stored_watch ns w) next ≡ stored ns (with_next s number w next)
next_under ns s number w next = λ i. record (stored ns s) { watches = sym (map-set (stored_watch ns) s.watches (number - 1) (record w { next = next })) i }

after_under : (ns : List ℕ) (next : ℕ) (es : List Event) → next_after next (stored_events ns es) ≡ next_after next es
after_under ns next [] = refl
after_under ns next (e ∷ es) = ap (λ (n : ℕ). next_after (n + 1) (stored_events ns es)) (revision_under ns e.change) ∙ after_under ns (event_revision e + 1) es

header_under : (ns : List ℕ) (s : State) (w : OpenWatch) → watch_header (stored ns s) (stored_watch ns w) ≡ watch_header s w
header_under ns s w = ap (header w.member) (newest-under ns s.history)

push_events_under : (ns : List ℕ) (s : State) (number : ℕ) (w : OpenWatch) (es : List Event) → push_events (stored ns s) number (stored_watch ns w) (stored_events ns es) ≡ stored_pushed ns (push_events s number w es)
push_events_under ns s number w [] = refl
push_events_under ns s number w (e ∷ es) =
    (λ i. Ok (with_next (stored ns s) number (stored_watch ns w) (after_under ns w.next (e ∷ es) i), item.Events (header_under ns s w i) (stored_events ns (e ∷ es))))
    ∙ (λ i. Ok (next_under ns s number w (next_after w.next (e ∷ es)) i, item.Events (watch_header s w) (stored_events ns (e ∷ es))))

push_to_under : (ns : List ℕ) (s : State) (number : ℕ) (w : OpenWatch) → list_all have_keys s.history ≡ true → push_to (stored ns s) number (stored_watch ns w) ≡ stored_pushed ns (push_to s number w)
push_to_under ns s number w k =
    let first : Pushed = Ok (with_next s number w (first_next (newest s.history) w.ask.start), item.Created (watch_header s w)) in
    let behind : Pushed = Ok (s, item.Canceled (watch_header s w) s.compacted) in
    let es = events_for s w in
    (λ i. cond (w.next == 0) (Ok (with_next (stored ns s) number (stored_watch ns w) (first_next (newest-under ns s.history i) w.ask.start), item.Created (header_under ns s w i)))
    (cond (nat_lt w.next s.compacted) (Ok (stored ns s, item.Canceled (header_under ns s w i) s.compacted)) (push_events (stored ns s) number (stored_watch ns w) (watched_under ns s.history s.compacted w.ask w.next k i))))
    ∙ (λ i. cond (w.next == 0) (Ok (next_under ns s number w (first_next (newest s.history) w.ask.start) i, item.Created (watch_header s w)))
    (cond (nat_lt w.next s.compacted) (Ok (stored ns s, item.Canceled (watch_header s w) s.compacted)) (push_events_under ns s number w es i)))
    ∙ pushed2 (stored_pushed ns) (w.next == 0) (nat_lt w.next s.compacted) first behind (push_events s number w es)

got_under : {A B : Type 0} (f : A → B) (xs : List A) (i : ℕ) → slice_get (map f xs) i ≡ option_map f (slice_get xs i)
got_under f [] i = refl
got_under f (x ∷ xs) zero = refl
got_under f (x ∷ xs) (suc i) = got_under f xs i

watch_by : (ns : List ℕ) (t : Bool) (o : Option OpenWatch) → cond t None (option_map (stored_watch ns) o) ≡ option_map (stored_watch ns) (cond t None o)
watch_by ns true o = refl
watch_by ns false o = refl

watch_of_under : (ns : List ℕ) (s : State) (number : ℕ) → watch_of (stored ns s) number ≡ option_map (stored_watch ns) (watch_of s number)
watch_of_under ns s number =
    ap (cond (number == 0) None) (got_under (stored_watch ns) s.watches (number - 1)) ∙ watch_by ns (number == 0) (slice_get s.watches (number - 1))

for_watch_under : (ns : List ℕ) (s : State) (number : ℕ) (o : Option OpenWatch) → list_all have_keys s.history ≡ true
    → for_watch number (option_map (stored_watch ns) o) (push_to (stored ns s) number) ≡ stored_pushed ns (for_watch number o (push_to s number))
for_watch_under ns s number None k = refl
for_watch_under ns s number (Some w) k = push_to_under ns s number w k

pub pushes_are_stored : PushesAreStored
unfolding pushed
pushes_are_stored ns s number k =
    ap (λ (o : Option OpenWatch). for_watch number o (push_to (stored ns s) number)) (watch_of_under ns s number) ∙ for_watch_under ns s number (watch_of s number) k

-- progress, and what members apply

nil_under : (ns : List ℕ) (es : List Event) → is_nil (stored_events ns es) ≡ is_nil es
nil_under ns [] = refl
nil_under ns (e ∷ es) = refl

synced_under : (ns : List ℕ) (s : State) (w : OpenWatch) → list_all have_keys s.history ≡ true → is_synced (stored ns s) (stored_watch ns w) ≡ is_synced s w
synced_under ns s w k =
    ap (λ (es : List Event). not (w.next == 0) && not (nat_lt w.next s.compacted) && is_nil es) (watched_under ns s.history s.compacted w.ask w.next k)
    ∙ ap (λ (b : Bool). not (w.next == 0) && not (nat_lt w.next s.compacted) && b) (nil_under ns (events_for s w))

progress_to_under : (ns : List ℕ) (s : State) (number : ℕ) (w : OpenWatch) → list_all have_keys s.history ≡ true → progress_to (stored ns s) number (stored_watch ns w) ≡ stored_pushed ns (progress_to s number w)
progress_to_under ns s number w k =
    let unasked : Pushed = Err (fault.NotAsked number) in
    let told : Pushed = Ok (with_next s number w (max w.next (newest s.history + 1)), item.Events (watch_header s w) []) in
    let behind : Pushed = Err (fault.NotSynced w.next (newest s.history)) in
    (λ i. cond (not w.ask.progress) (Err (fault.NotAsked number))
    (cond (synced_under ns s w k i) (Ok (with_next (stored ns s) number (stored_watch ns w) (max w.next (newest-under ns s.history i + 1)), item.Events (header_under ns s w i) [])) (Err (fault.NotSynced w.next (newest-under ns s.history i)))))
    ∙ (λ i. cond (not w.ask.progress) (Err (fault.NotAsked number))
    (cond (is_synced s w) (Ok (next_under ns s number w (max w.next (newest s.history + 1)) i, item.Events (watch_header s w) [])) (Err (fault.NotSynced w.next (newest s.history)))))
    ∙ pushed2 (stored_pushed ns) (not w.ask.progress) (is_synced s w) unasked told behind

for_progress_under : (ns : List ℕ) (s : State) (number : ℕ) (o : Option OpenWatch) → list_all have_keys s.history ≡ true
    → for_watch number (option_map (stored_watch ns) o) (progress_to (stored ns s) number) ≡ stored_pushed ns (for_watch number o (progress_to s number))
for_progress_under ns s number None k = refl
for_progress_under ns s number (Some w) k = progress_to_under ns s number w k

pub progress_is_stored : ProgressIsStored
unfolding progressed
progress_is_stored ns s number k =
    ap (λ (o : Option OpenWatch). for_watch number o (progress_to (stored ns s) number)) (watch_of_under ns s number) ∙ for_progress_under ns s number (watch_of s number) k

pub applies_are_stored : AppliesAreStored
unfolding applied
applies_are_stored ns s member revision =
    let lacks : Result State StoreFault = Err (fault.NoSuchMember member) in
    let bad : Result State StoreFault = Err (fault.BadApply (applied_by s member) (newest s.history)) in
    let done : Result State StoreFault = Ok (record s { applied = set s.applied (member - 1) revision }) in
    (λ i. cond (lacks_member s member) (Err (fault.NoSuchMember member))
    (cond (nat_lt revision (applied_by s member) || nat_lt (newest-under ns s.history i) revision) (Err (fault.BadApply (applied_by s member) (newest-under ns s.history i))) (Ok (record (stored ns s) { applied = set s.applied (member - 1) revision }))))
    ∙ pushed2 (stored_after ns) (lacks_member s member) (nat_lt revision (applied_by s member) || nat_lt (newest s.history) revision) lacks bad done
