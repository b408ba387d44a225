-- What a message of a watch says of the step that sent it.
use Rattle.std.proofs.Common.{◌≡◌, ℕ, Bool, true, false, cond, List, [], ◌∷◌, Ok, Err, refl, ap}
use Rattle.etcd_types.specs.declared.record.Header.{Header}
use Rattle.etcd_types.specs.declared.watch.Event.{Event}
use Rattle.etcd_types.specs.declared.watch.WatchItem.{WatchItem}
use Rattle.etcd_types.specs.declared.watch.WatchItem.TheVariants as item
use Rattle.store_model.specs.declared.watch.OpenWatch.{OpenWatch}
use Rattle.store_model.specs.declared.store_fault.StoreFault.{StoreFault}
use Rattle.store_model.specs.State.{State}
use Rattle.store_model.specs.Watches.{with_next, next_after, Pushed, push_events, is_synced, watch_header}

-- what stands in two messages

state_or : State → Pushed → State
state_or d (Ok p) = p.0
state_or d (Err e) = d

item_or : WatchItem → Pushed → WatchItem
item_or d (Ok p) = p.1
item_or d (Err e) = d

abbrev pub ok : State → WatchItem → Pushed
ok s i = Ok (s, i)

pub same_states : (s t : State) (i j : WatchItem) → ok s i ≡ ok t j → s ≡ t
unfolding state_or
same_states s t i j e = ap (state_or s) e

pub same_items : (s t : State) (i j : WatchItem) → ok s i ≡ ok t j → i ≡ j
unfolding item_or
same_items s t i j e = ap (item_or i) e

-- what a push tells

pub created_by : (first behind : Bool) (s : State) (number : ℕ) (w : OpenWatch) (moved stayed t : State) (a b header : Header) (compacted : ℕ) (es : List Event)
    → cond first (ok moved (item.Created a)) (cond behind (ok stayed (item.Canceled b compacted)) (push_events s number w es)) ≡ ok t (item.Created header)
    → moved ≡ t
created_by true behind s number w moved stayed t a b header compacted es e = same_states moved t (item.Created a) (item.Created header) e
created_by false true s number w moved stayed t a b header compacted es e =
    absurd (let f : item.Canceled b compacted ≡ item.Created header = same_items stayed t (item.Canceled b compacted) (item.Created header) e in cc)
created_by false false s number w moved stayed t a b header compacted [] e = absurd (cc)
created_by false false s number w moved stayed t a b header compacted (x ∷ es) e =
    absurd (let f : item.Events (watch_header s w) (x ∷ es) ≡ item.Created header = same_items (with_next s number w (next_after w.next (x ∷ es))) t (item.Events (watch_header s w) (x ∷ es)) (item.Created header) e in cc)

pub record TellsBatch (s : State) (number : ℕ) (w : OpenWatch) (t : State) (es fs : List Event) : Type 0 where
  pub same_events : es ≡ fs
  pub some_events : (x : Event) × (rest : List Event) × (es ≡ x ∷ rest)
  pub moves : with_next s number w (next_after w.next es) ≡ t

pub events_by : (first behind : Bool) (s : State) (number : ℕ) (w : OpenWatch) (moved stayed t : State) (a b header : Header) (compacted : ℕ) (es fs : List Event)
    → cond first (ok moved (item.Created a)) (cond behind (ok stayed (item.Canceled b compacted)) (push_events s number w es)) ≡ ok t (item.Events header fs)
    → TellsBatch s number w t es fs
events_by true behind s number w moved stayed t a b header compacted es fs e =
    absurd (let f : item.Created a ≡ item.Events header fs = same_items moved t (item.Created a) (item.Events header fs) e in cc)
events_by false true s number w moved stayed t a b header compacted es fs e =
    absurd (let f : item.Canceled b compacted ≡ item.Events header fs = same_items stayed t (item.Canceled b compacted) (item.Events header fs) e in cc)
events_by false false s number w moved stayed t a b header compacted [] fs e = absurd (cc)
events_by false false s number w moved stayed t a b header compacted (x ∷ es) fs e =
    let next : State = with_next s number w (next_after w.next (x ∷ es)) in
    let items : item.Events (watch_header s w) (x ∷ es) ≡ item.Events header fs = same_items next t (item.Events (watch_header s w) (x ∷ es)) (item.Events header fs) e in
    record {
      same_events = cc;
      some_events = (x, es, refl);
      moves = same_states next t (item.Events (watch_header s w) (x ∷ es)) (item.Events header fs) e;
    }

pub nothing_by : (first behind : Bool) (s : State) (number : ℕ) (w : OpenWatch) (moved stayed : State) (a b : Header) (compacted : ℕ) (es : List Event) (f : StoreFault)
    → cond first (ok moved (item.Created a)) (cond behind (ok stayed (item.Canceled b compacted)) (push_events s number w es)) ≡ Err f → es ≡ []
nothing_by true behind s number w moved stayed a b compacted es f e = absurd (cc)
nothing_by false true s number w moved stayed a b compacted es f e = absurd (cc)
nothing_by false false s number w moved stayed a b compacted [] f e = refl
nothing_by false false s number w moved stayed a b compacted (x ∷ es) f e = absurd (cc)

pub record TellsProgress (s : State) (w : OpenWatch) (moved t : State) (a header : Header) (fs : List Event) : Type 0 where
  pub synced : is_synced s w ≡ true
  pub no_events : fs ≡ []
  pub headed : a ≡ header
  pub moves : moved ≡ t

pub progress_by : (unasked synced : Bool) (s : State) (w : OpenWatch) (moved t : State) (a header : Header) (fs : List Event) (f g : StoreFault) → is_synced s w ≡ synced
    → cond unasked (Err f) (cond synced (ok moved (item.Events a [])) (Err g)) ≡ ok t (item.Events header fs) → TellsProgress s w moved t a header fs
progress_by true synced s w moved t a header fs f g q e = absurd (cc)
progress_by false true s w moved t a header fs f g q e =
    let items : item.Events a [] ≡ item.Events header fs = same_items moved t (item.Events a []) (item.Events header fs) e in
    record { synced = q; no_events = cc; headed = cc; moves = same_states moved t (item.Events a []) (item.Events header fs) e }
progress_by false false s w moved t a header fs f g q e = absurd (cc)
