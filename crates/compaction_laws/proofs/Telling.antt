-- What watches are told of two histories of which the same is kept.
use Rattle.std.proofs.Common.{◌≡◌, ℕ, ◌+◌, Bool, true, false, cond, List, [], ◌∷◌, ◌++◌, Option, None, Some, map, filter, refl, sym, ◌∙◌, ap, subst}
use Rattle.etcd_types.specs.declared.record.Kv.{Kv}
use Rattle.etcd_types.specs.declared.request.WatchAsk.{WatchAsk}
use Rattle.etcd_types.specs.declared.watch.Event.{Event}
use Rattle.etcd_types.specs.declared.watch.Change.{Change}
use Rattle.etcd_types.specs.declared.watch.Change.TheVariants as event
use Rattle.etcd_types.specs.Keys.{same}
use Rattle.etcd_types.specs.Records.{after_put}
use Rattle.etcd_types.proofs.KeyOrder.{same-itself}
use Rattle.store_model.specs.declared.history.KeyChange.{KeyChange}
use Rattle.store_model.specs.declared.history.KeyChange.TheVariants.{Put, Delete}
use Rattle.store_model.specs.History.{History, changed_key}
use Rattle.store_model.specs.Records.{after_change, after_changes}
use Rattle.store_model.specs.Events.{event_of, event_revision, change_passes, passes, visible_prev, told_event}
use Rattle.compaction_model.specs.declared.version.Version.{Version}
use Rattle.compaction_model.specs.Versions.{versions_in, versions_from}
use Rattle.compaction_model.specs.Places.{changed_keys}
use Rattle.compaction_model.proofs.VersionProofs.{other_key}

-- two events that every watch is told alike
abbrev pub IsToldAs : ℕ → Event → Event → Type 0
IsToldAs c x y = (x.change ≡ y.change) × (visible_prev c (event_revision x) x.prev ≡ visible_prev c (event_revision y) y.prev)

abbrev pub AreToldAs : ℕ → List Event → List Event → Type 0
AreToldAs c [] [] = Unit {0}
AreToldAs c [] (y ∷ ys) = ⊥
AreToldAs c (x ∷ xs) [] = ⊥
AreToldAs c (x ∷ xs) (y ∷ ys) = IsToldAs c x y × AreToldAs c xs ys

-- an event that every watch is told alike comes or is left out alike
told_one : (c : ℕ) (ask : WatchAsk) (x y : Event) (xs ys : List Event) → IsToldAs c x y
    → map (told_event c ask) (filter (passes ask) xs) ≡ map (told_event c ask) (filter (passes ask) ys)
    → map (told_event c ask) (filter (passes ask) (x ∷ xs)) ≡ map (told_event c ask) (filter (passes ask) (y ∷ ys))
told_one c ask x y xs ys e rest =
    by_pass (change_passes ask x.change)
    ∙ ap (λ (p : Bool). map (told_event c ask) (cond p (y ∷ filter (passes ask) ys) (filter (passes ask) ys))) (ap (change_passes ask) e.0)
  where
    same_event : told_event c ask x ≡ told_event c ask y
    same_event = λ i. record { change = e.0 i; prev = cond ask.prev_kv (e.1 i) None }

    by_pass : (p : Bool)
        → map (told_event c ask) (cond p (x ∷ filter (passes ask) xs) (filter (passes ask) xs)) ≡ map (told_event c ask) (cond p (y ∷ filter (passes ask) ys) (filter (passes ask) ys))
    by_pass true =
        ap (λ (z : Event). z ∷ map (told_event c ask) (filter (passes ask) xs)) same_event ∙ ap (λ (zs : List Event). told_event c ask y ∷ zs) rest
    by_pass false = rest

pub told_same : (c : ℕ) (ask : WatchAsk) (xs ys : List Event) → AreToldAs c xs ys
    → map (told_event c ask) (filter (passes ask) xs) ≡ map (told_event c ask) (filter (passes ask) ys)
told_same c ask [] [] a = refl
told_same c ask [] (y ∷ ys) a = absurd a
told_same c ask (x ∷ xs) [] a = absurd a
told_same c ask (x ∷ xs) (y ∷ ys) a = told_one c ask x y xs ys a.0 (told_same c ask xs ys a.1)

pub told-append : (c : ℕ) (xs ys us vs : List Event) → AreToldAs c xs ys → AreToldAs c us vs → AreToldAs c (xs ++ us) (ys ++ vs)
told-append c [] [] us vs a b = b
told-append c [] (y ∷ ys) us vs a b = absurd a
told-append c (x ∷ xs) [] us vs a b = absurd a
told-append c (x ∷ xs) (y ∷ ys) us vs a b = (a.0, told-append c xs ys us vs a.1 b)

-- an event tells what its change left

left_change : ℕ → List ℕ → Option Kv → Change
left_change r k None = event.Delete k r
left_change r k (Some kv) = event.Put kv

change_left : (r : ℕ) (old : Option Kv) (x : KeyChange) → (event_of r old x).change ≡ left_change r (changed_key x) (after_change r (changed_key x) x old)
unfolding left_change
change_left r old (Put key value lease) = ap (λ (b : Bool). left_change r key (cond b (Some (after_put old key value lease r)) old)) (sym (same-itself key))
change_left r old (Delete key) = ap (λ (b : Bool). left_change r key (cond b None old)) (sym (same-itself key))

change_left_at : (r : ℕ) (k : List ℕ) (old : Option Kv) (x : KeyChange) → changed_key x ≡ k → (event_of r old x).change ≡ left_change r k (after_change r k x old)
change_left_at r k old x e = subst (λ (j : List ℕ). (event_of r old x).change ≡ left_change r j (after_change r j x old)) e (change_left r old x)

prev_old : (r : ℕ) (old : Option Kv) (x : KeyChange) → (event_of r old x).prev ≡ old
prev_old r old (Put key value lease) = refl
prev_old r old (Delete key) = refl

put_revision : (old : Option Kv) (k v : List ℕ) (lease r : ℕ) → (after_put old k v lease r).modified ≡ r
put_revision None k v lease r = refl
put_revision (Some kv) k v lease r = refl

revision_is : (r : ℕ) (old : Option Kv) (x : KeyChange) → event_revision (event_of r old x) ≡ r
revision_is r old (Put key value lease) = put_revision old key value lease r
revision_is r old (Delete key) = refl

prev_seen : (c r : ℕ) (old : Option Kv) (x : KeyChange) → visible_prev c (event_revision (event_of r old x)) (event_of r old x).prev ≡ visible_prev c r old
prev_seen c r old x =
    ap (λ n. visible_prev c n (event_of r old x).prev) (revision_is r old x) ∙ ap (visible_prev c r) (prev_old r old x)

pub told_by : (c r : ℕ) (k : List ℕ) (x d : KeyChange) (old before : Option Kv) → changed_key x ≡ k → changed_key d ≡ k
    → after_change r k x old ≡ after_change r k d before → visible_prev c r old ≡ visible_prev c r before
    → IsToldAs c (event_of r old x) (event_of r before d)
told_by c r k x d old before e f left seen = (
  change_left_at r k old x e ∙ ap (left_change r k) left ∙ sym (change_left_at r k before d f),
  prev_seen c r old x ∙ seen ∙ sym (prev_seen c r before d),
)

-- the versions to come of a key, where a change is taken off

left_first : List Version → Option Kv
left_first [] = None
left_first (v ∷ vs) = v.left

but_first : List Version → List Version
but_first [] = []
but_first (v ∷ vs) = vs

-- of this key
head_here : (r : ℕ) (k : List ℕ) (x : KeyChange) (cs : List KeyChange) (rest : History) (old : Option Kv) → same (changed_key x) k ≡ true
    → versions_from r k ((x ∷ cs) ∷ rest) old ≡ record { revision = r; left = after_change r k x old } ∷ versions_from r k (cs ∷ rest) (after_change r k x old)
head_here r k x cs rest old e =
    ap (λ (b : Bool). cond b (record { revision = r; left = after_change r k x old } ∷ versions_in r k cs (after_change r k x old)) (versions_in r k cs old)
    ++ versions_from (r + 1) k rest (after_changes r k cs (after_change r k x old))) e

-- of another key
head_other : (r : ℕ) (k : List ℕ) (x : KeyChange) (cs : List KeyChange) (rest : History) (old : Option Kv) → same (changed_key x) k ≡ false
    → versions_from r k ((x ∷ cs) ∷ rest) old ≡ versions_from r k (cs ∷ rest) (after_change r k x old)
head_other r k x cs rest old e =
    ap (λ (b : Bool). cond b (record { revision = r; left = after_change r k x old } ∷ versions_in r k cs (after_change r k x old)) (versions_in r k cs old)
    ++ versions_from (r + 1) k rest (after_changes r k cs (after_change r k x old))) e
    ∙ ap (λ (o : Option Kv). versions_in r k cs o ++ versions_from (r + 1) k rest (after_changes r k cs (after_change r k x old))) (sym (other_key r k x old e))

-- what is known of a key before two changes, and what behind them
pub record Coming (c r : ℕ) (k : List ℕ) (cs ds : List KeyChange) (rest others : History) (old before : Option Kv) : Type 0 where
  pub versions : versions_from r k (cs ∷ rest) old ≡ versions_from r k (ds ∷ others) before
  pub seen : visible_prev c r old ≡ visible_prev c r before

pub record Came (c r : ℕ) (k : List ℕ) (x d : KeyChange) (cs ds : List KeyChange) (rest others : History) (old before : Option Kv) : Type 0 where
  pub coming : Coming c r k cs ds rest others (after_change r k x old) (after_change r k d before)
  pub left : same (changed_key x) k ≡ true → after_change r k x old ≡ after_change r k d before

pub come : (c r : ℕ) (k : List ℕ) (x d : KeyChange) (cs ds : List KeyChange) (rest others : History) (old before : Option Kv)
    → changed_key x ≡ changed_key d → Coming c r k (x ∷ cs) (d ∷ ds) rest others old before → Came c r k x d cs ds rest others old before
unfolding left_first but_first
come c r k x d cs ds rest others old before e h = by_key (same (changed_key x) k) refl
  where
    by_key : (b : Bool) → same (changed_key x) k ≡ b → Came c r k x d cs ds rest others old before
    by_key true f =
        let g : same (changed_key d) k ≡ true = ap (λ (j : List ℕ). same j k) (sym e) ∙ f in
        let both = sym (head_here r k x cs rest old f) ∙ h.versions ∙ head_here r k d ds others before g in
        let left : after_change r k x old ≡ after_change r k d before = ap left_first both in
        record { coming = record { versions = ap but_first both; seen = ap (visible_prev c r) left }; left = λ t. left }
    by_key false f =
        let g : same (changed_key d) k ≡ false = ap (λ (j : List ℕ). same j k) (sym e) ∙ f in
        record {
          coming = record {
            versions = sym (head_other r k x cs rest old f) ∙ h.versions ∙ head_other r k d ds others before g;
            seen = ap (visible_prev c r) (other_key r k x old f) ∙ h.seen ∙ ap (visible_prev c r) (sym (other_key r k d before g));
          };
          left = λ t. absurd (cc);
        }

-- behind all changes of a revision
pub come_all : (r : ℕ) (k : List ℕ) (cs ds : List KeyChange) (rest others : History) (old before : Option Kv) → changed_keys cs ≡ changed_keys ds
    → versions_from r k (cs ∷ rest) old ≡ versions_from r k (ds ∷ others) before
    → versions_from (r + 1) k rest (after_changes r k cs old) ≡ versions_from (r + 1) k others (after_changes r k ds before)
unfolding but_first
come_all r k [] [] rest others old before e h = h
come_all r k [] (d ∷ ds) rest others old before e h = absurd (cc)
come_all r k (x ∷ cs) [] rest others old before e h = absurd (cc)
come_all r k (x ∷ cs) (d ∷ ds) rest others old before e h =
    let first : changed_key x ≡ changed_key d = cc in
    let more : changed_keys cs ≡ changed_keys ds = cc in
    come_all r k cs ds rest others (after_change r k x old) (after_change r k d before) more (by_key first (same (changed_key x) k) refl)
  where
    by_key : changed_key x ≡ changed_key d → (b : Bool) → same (changed_key x) k ≡ b
        → versions_from r k (cs ∷ rest) (after_change r k x old) ≡ versions_from r k (ds ∷ others) (after_change r k d before)
    by_key first true f =
        let g : same (changed_key d) k ≡ true = ap (λ (j : List ℕ). same j k) (sym first) ∙ f in
        ap but_first (sym (head_here r k x cs rest old f) ∙ h ∙ head_here r k d ds others before g)
    by_key first false f =
        let g : same (changed_key d) k ≡ false = ap (λ (j : List ℕ). same j k) (sym first) ∙ f in
        sym (head_other r k x cs rest old f) ∙ h ∙ head_other r k d ds others before g
