-- The records before events: what the history has before the event's revision, after the changes that come first in that revision.
use Rattle.std.proofs.Common.{◌≡◌, ℕ, ◌+◌, ◌-◌, Bool, true, false, cond, ◌||◌, nat_lt, nat_le, List, [], ◌∷◌, ◌++◌, length, take, drop, Option, None, Some, filter, refl, sym, ◌∙◌, ap, subst, ◌⊎◌, inl, inr, arith, zero, suc, map}
use Rattle.std.specs.List.{All, list_all, list_any}
use Rattle.std.proofs.lemmas.List.{take-append-drop}
use Rattle.std.proofs.lemmas.List.Elements.{All-nil, All-cons, All-append, All-filter, All-map, All-weaker}
use Rattle.std.proofs.lemmas.Bool.{cond-false}
use Rattle.etcd_types.specs.declared.record.Kv.{Kv}
use Rattle.etcd_types.specs.declared.key_range.KeyRange.{KeyRange}
use Rattle.etcd_types.specs.declared.request.WatchAsk.{WatchAsk}
use Rattle.etcd_types.specs.declared.watch.Event.{Event}
use Rattle.etcd_types.specs.Keys.{same}
use Rattle.etcd_types.specs.Ranges.{contains}
use Rattle.etcd_types.specs.Records.{after_put}
use Rattle.etcd_types.proofs.Bools.{and_first, and_second, not_true, or_first, or_none, or_second}
use Rattle.store_model.specs.declared.history.KeyChange.{KeyChange}
use Rattle.store_model.specs.declared.history.KeyChange.TheVariants.{Put, Delete}
use Rattle.store_model.specs.History.{History, newest, up_to_revision, with_revision, changed_key}
use Rattle.store_model.specs.Records.{after_change, after_changes, record_now, record_at}
use Rattle.store_model.specs.FirstRefusals.{has_twins}
use Rattle.store_model.specs.Events.{event_of, events_of_changes, events_after, events, event_revision, passes, visible_prev, told_event}
use Rattle.store_model.proofs.HistoryLemmas.{record_now-with_revision}
use Rattle.store_laws.specs.Events.Previous.{change_key, HasPrevious, PreviousAreEarlier, changes_once, IsPrevious, PreviousAreExact}
use Rattle.store_laws.proofs.Events.EventProofs.{change_is}
use Rattle.store_laws.proofs.Requests.RangeProofs.{keyed-now}

-- a record after the changes of a revision is the one before, or was made by them

Either : ℕ → Option Kv → Option Kv → Type 0
Either revision old new = (kv : Kv) → new ≡ Some kv → (old ≡ Some kv) ⊎ (kv.modified ≡ revision)

put_modified : (old : Option Kv) (k v : List ℕ) (lease revision : ℕ) → (after_put old k v lease revision).modified ≡ revision
put_modified None k v lease revision = refl
put_modified (Some kv) k v lease revision = refl

either_by : (revision : ℕ) (b : Bool) (old x y : Option Kv) → Either revision old x → Either revision old y → Either revision old (cond b x y)
either_by revision true old x y f g = f
either_by revision false old x y f g = g

either-change : (revision : ℕ) (k : List ℕ) (c : KeyChange) (old now : Option Kv) → Either revision old now → Either revision old (after_change revision k c now)
unfolding Either
either-change revision k (Put key value lease) old now h =
    either_by revision (same key k) old _ now (λ kv e. inr (let is : kv ≡ after_put now k value lease revision = cc in ap (λ (x : Kv). x.modified) is ∙ put_modified now k value lease revision)) h
either-change revision k (Delete key) old now h = either_by revision (same key k) old None now (λ kv e. absurd (cc)) h

either-changes : (revision : ℕ) (k : List ℕ) (cs : List KeyChange) (old now : Option Kv) → Either revision old now → Either revision old (after_changes revision k cs now)
either-changes revision k [] old now h = h
either-changes revision k (c ∷ cs) old now h = either-changes revision k cs old (after_change revision k c now) (either-change revision k c old now h)

either-seen : (before : History) (k : List ℕ) (made : List KeyChange) → Either (newest before + 1) (record_now before k) (record_now (with_revision before made) k)
unfolding Either
either-seen before k made kv e =
    let next : length before + 2 ≡ newest before + 1 = omega arith in
    either-changes (newest before + 1) k made (record_now before k) (record_now before k) (λ x f. inl f) kv
    (ap (λ (revision : ℕ). after_changes revision k made (record_now before k)) (sym next) ∙ sym (record_now-with_revision before k made) ∙ e)

-- of an event of the history

record IsAfter (h : History) (e : Event) : Type 0 where
  keyed : (kv : Kv) → e.prev ≡ Some kv → kv.key ≡ change_key e.change
  earlier : (kv : Kv) → e.prev ≡ Some kv → (record_at h (event_revision e - 1) kv.key ≡ Some kv) ⊎ (kv.modified ≡ event_revision e)

put_key_is : (old : Option Kv) (k v : List ℕ) (lease revision : ℕ) → (after_put old k v lease revision).key ≡ k
put_key_is None k v lease revision = refl
put_key_is (Some kv) k v lease revision = refl

key_is : (revision : ℕ) (old : Option Kv) (c : KeyChange) → change_key (event_of revision old c).change ≡ changed_key c
key_is revision old (Put key value lease) = put_key_is old key value lease revision
key_is revision old (Delete key) = refl

prev_is : (revision : ℕ) (old : Option Kv) (c : KeyChange) → (event_of revision old c).prev ≡ old
prev_is revision old (Put key value lease) = refl
prev_is revision old (Delete key) = refl

take_all_before : (before rest : History) → take (length before) (before ++ rest) ≡ before
take_all_before [] rest = refl
take_all_before (cs ∷ before) rest = ap (λ (h : History). cs ∷ h) (take_all_before before rest)

-- the history as it was before the revision behind `before`
was_before : (h before rest : History) → before ++ rest ≡ h → up_to_revision h (newest before + 1 - 1) ≡ before
was_before h before rest e =
    let n : newest before + 1 - 1 - 1 ≡ length before = omega arith in
    ap (λ (k : ℕ). take k h) n ∙ ap (take (length before)) (sym e) ∙ take_all_before before rest

after_one : (h before rest : History) (made : List KeyChange) (c : KeyChange) → before ++ rest ≡ h
    → IsAfter h (event_of (newest before + 1) (record_now (with_revision before made) (changed_key c)) c)
after_one h before rest made c e =
    let old = record_now (with_revision before made) (changed_key c) in
    let is = event_of (newest before + 1) old c in
    let at : event_revision is ≡ newest before + 1 = change_is (newest before + 1) old c in
    record {
      keyed = λ kv f. keyed-now (with_revision before made) (changed_key c) kv (sym (prev_is (newest before + 1) old c) ∙ f) ∙ sym (key_is (newest before + 1) old c);
      earlier = λ kv f. moved kv at (sym (prev_is (newest before + 1) old c) ∙ f);
    }
  where
    moved : (kv : Kv) → event_revision (event_of (newest before + 1) (record_now (with_revision before made) (changed_key c)) c) ≡ newest before + 1 → record_now (with_revision before made) (changed_key c) ≡ Some kv
        → (record_at h (event_revision (event_of (newest before + 1) (record_now (with_revision before made) (changed_key c)) c) - 1) kv.key ≡ Some kv)
        ⊎ (kv.modified ≡ event_revision (event_of (newest before + 1) (record_now (with_revision before made) (changed_key c)) c))
    moved kv at f =
        let key = keyed-now (with_revision before made) (changed_key c) kv f in
        let earlier : (record_now before (changed_key c) ≡ Some kv) ⊎ (kv.modified ≡ newest before + 1) =
        (let seen = either-seen before (changed_key c) made in unfold Either in seen kv f) in
        elim earlier [
          | inl there ↦
              inl (ap (λ (n : ℕ). record_at h (n - 1) kv.key) at ∙ ap (λ (g : History). record_now g kv.key) (was_before h before rest e) ∙ ap (record_now before) key ∙ there)
          | inr now ↦ inr (now ∙ sym at)
        ]

after_either : (h : History) (b : Bool) (e : Event) (es : List Event) → IsAfter h e → All (IsAfter h) es → All (IsAfter h) (cond b (e ∷ es) es)
after_either h true e es f g = All-cons (IsAfter h) e es f g
after_either h false e es f g = g

after-changes : (range : KeyRange) (h before rest : History) (made cs : List KeyChange) → before ++ rest ≡ h → All (IsAfter h) (events_of_changes range before made cs)
after-changes range h before rest made [] e = All-nil (IsAfter h)
after-changes range h before rest made (c ∷ cs) e =
    after_either h (contains range (changed_key c)) _ _ (after_one h before rest made c e) (after-changes range h before rest (made ++ c ∷ []) cs e)

append_one : (before : History) (cs : List KeyChange) (rest : History) → (before ++ cs ∷ []) ++ rest ≡ before ++ cs ∷ rest
append_one [] cs rest = refl
append_one (ds ∷ before) cs rest = ap (λ (g : History). ds ∷ g) (append_one before cs rest)

after-revisions : (range : KeyRange) (h before rest : History) → before ++ rest ≡ h → All (IsAfter h) (events_after range before rest)
after-revisions range h before [] e = All-nil (IsAfter h)
after-revisions range h before (cs ∷ rest) e =
    All-append (IsAfter h) (events_of_changes range before [] cs) (events_after range (before ++ cs ∷ []) rest)
    (after-changes range h before (cs ∷ rest) [] cs e)
    (after-revisions range h (before ++ cs ∷ []) rest (append_one before cs rest ∙ e))

-- as it is told

visible_same : (compacted revision : ℕ) (o : Option Kv) (kv : Kv) → visible_prev compacted revision o ≡ Some kv → o ≡ Some kv
visible_same compacted revision None kv e = absurd (cc)
visible_same compacted revision (Some old) kv e = by_test (nat_lt compacted revision || nat_le compacted old.modified) e
  where
    by_test : (t : Bool) → cond t (Some old) None ≡ Some kv → Some old ≡ Some kv
    by_test true f = f
    by_test false f = absurd (cc)

told_prev : (asked : Bool) (compacted revision : ℕ) (o : Option Kv) (kv : Kv) → cond asked (visible_prev compacted revision o) None ≡ Some kv → (asked ≡ true) × (o ≡ Some kv)
told_prev true compacted revision o kv e = (refl, visible_same compacted revision o kv e)
told_prev false compacted revision o kv e = absurd (cc)

told_after : (h : History) (compacted : ℕ) (ask : WatchAsk) (e : Event) → IsAfter h e → HasPrevious h ask (told_event compacted ask e)
told_after h compacted ask e a =
    record {
      asked = λ kv f. (told_prev ask.prev_kv compacted (event_revision e) e.prev kv f).0;
      keyed = λ kv f. a.keyed kv (told_prev ask.prev_kv compacted (event_revision e) e.prev kv f).1;
      earlier = λ kv f. a.earlier kv (told_prev ask.prev_kv compacted (event_revision e) e.prev kv f).1;
    }

pub previous_are_earlier : PreviousAreEarlier
previous_are_earlier h compacted ask from =
    let told = filter (passes ask) (events h ask.range from) in
    All-map (HasPrevious h ask) (told_event compacted ask) told
    (All-weaker (IsAfter h) (λ e. HasPrevious h ask (told_event compacted ask e)) (told_after h compacted ask) told
    (All-filter (passes ask) (IsAfter h) (events h ask.range from)
    (after-revisions ask.range h (take (from - 2) h) (drop (from - 2) h) (take-append-drop (from - 2) h))))

-- where a revision changes a key once, the changes before this one leave its key alone

untouched_one : (revision : ℕ) (k : List ℕ) (c : KeyChange) (old : Option Kv) → same (changed_key c) k ≡ false → after_change revision k c old ≡ old
untouched_one revision k (Put key value lease) old e = cond-false (same key k) _ old e
untouched_one revision k (Delete key) old e = cond-false (same key k) _ old e

untouched : (revision : ℕ) (k : List ℕ) (cs : List KeyChange) (old : Option Kv) → list_any (λ c. same (changed_key c) k) cs ≡ false → after_changes revision k cs old ≡ old
untouched revision k [] old e = refl
untouched revision k (c ∷ cs) old e =
    untouched revision k cs (after_change revision k c old) (or_second (same (changed_key c) k) _ e) ∙ untouched_one revision k c old (or_first (same (changed_key c) k) _ e)

none_of : (q : List ℕ → Bool) (made cs : List KeyChange) (c : KeyChange) → list_any q (map changed_key (made ++ c ∷ cs)) ≡ false → q (changed_key c) ≡ false
none_of q [] cs c e = or_first (q (changed_key c)) _ e
none_of q (m ∷ made) cs c e = none_of q made cs c (or_second (q (changed_key m)) _ e)

not_made : (made cs : List KeyChange) (c : KeyChange) → has_twins (map changed_key (made ++ c ∷ cs)) ≡ false → list_any (λ m. same (changed_key m) (changed_key c)) made ≡ false
not_made [] cs c e = refl
not_made (m ∷ made) cs c e =
    or_none (same (changed_key m) (changed_key c)) _ (none_of (same (changed_key m)) made cs c (or_first (list_any (same (changed_key m)) (map changed_key (made ++ c ∷ cs))) _ e))
    (not_made made cs c (or_second (list_any (same (changed_key m)) (map changed_key (made ++ c ∷ cs))) _ e))

IsBefore : History → Event → Type 0
IsBefore h e = e.prev ≡ record_at h (event_revision e - 1) (change_key e.change)

before_one : (h before rest : History) (made cs : List KeyChange) (c : KeyChange) → before ++ rest ≡ h → has_twins (map changed_key (made ++ c ∷ cs)) ≡ false
    → IsBefore h (event_of (newest before + 1) (record_now (with_revision before made) (changed_key c)) c)
unfolding IsBefore
before_one h before rest made cs c e twins =
    let k = changed_key c in
    let old = record_now (with_revision before made) k in
    prev_is (newest before + 1) old c
    ∙ record_now-with_revision before k made
    ∙ untouched (length before + 2) k made (record_now before k) (not_made made cs c twins)
    ∙ ap (λ (g : History). record_now g k) (sym (was_before h before rest e))
    ∙ (λ i. record_at h (sym (change_is (newest before + 1) old c) i - 1) (sym (key_is (newest before + 1) old c) i))

before_either : (h : History) (b : Bool) (e : Event) (es : List Event) → IsBefore h e → All (IsBefore h) es → All (IsBefore h) (cond b (e ∷ es) es)
before_either h true e es f g = All-cons (IsBefore h) e es f g
before_either h false e es f g = g

joined : (made : List KeyChange) (c : KeyChange) (cs : List KeyChange) → (made ++ c ∷ []) ++ cs ≡ made ++ c ∷ cs
joined [] c cs = refl
joined (m ∷ made) c cs = ap (λ (ds : List KeyChange). m ∷ ds) (joined made c cs)

before-changes : (range : KeyRange) (h before rest : History) (made cs : List KeyChange) → before ++ rest ≡ h → has_twins (map changed_key (made ++ cs)) ≡ false
    → All (IsBefore h) (events_of_changes range before made cs)
before-changes range h before rest made [] e twins = All-nil (IsBefore h)
before-changes range h before rest made (c ∷ cs) e twins =
    before_either h (contains range (changed_key c)) _ _ (before_one h before rest made cs c e twins)
    (before-changes range h before rest (made ++ c ∷ []) cs e (subst (λ (ds : List KeyChange). has_twins (map changed_key ds) ≡ false) (sym (joined made c cs)) twins))

before-revisions : (range : KeyRange) (h before rest : History) → before ++ rest ≡ h → list_all changes_once rest ≡ true → All (IsBefore h) (events_after range before rest)
before-revisions range h before [] e once = All-nil (IsBefore h)
before-revisions range h before (cs ∷ rest) e once =
    All-append (IsBefore h) (events_of_changes range before [] cs) (events_after range (before ++ cs ∷ []) rest)
    (before-changes range h before (cs ∷ rest) [] cs e (not_true (has_twins (map changed_key cs)) (and_first (changes_once cs) _ once)))
    (before-revisions range h (before ++ cs ∷ []) rest (append_one before cs rest ∙ e) (and_second (changes_once cs) _ once))

once_behind : (n : ℕ) (h : History) → list_all changes_once h ≡ true → list_all changes_once (drop n h) ≡ true
once_behind zero h e = e
once_behind (suc n) [] e = refl
once_behind (suc n) (cs ∷ h) e = once_behind n h (and_second (changes_once cs) _ e)

pub previous_are_exact : PreviousAreExact
unfolding IsBefore
previous_are_exact h compacted ask from once =
    let told = filter (passes ask) (events h ask.range from) in
    All-map (IsPrevious h compacted ask) (told_event compacted ask) told
    (All-weaker (IsBefore h) (λ e. IsPrevious h compacted ask (told_event compacted ask e)) (λ e b. ap (λ (o : Option Kv). cond ask.prev_kv (visible_prev compacted (event_revision e) o) None) b) told
    (All-filter (passes ask) (IsBefore h) (events h ask.range from)
    (before-revisions ask.range h (take (from - 2) h) (drop (from - 2) h) (take-append-drop (from - 2) h) (once_behind (from - 2) h once))))
