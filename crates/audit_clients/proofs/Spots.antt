-- A watch that stands behind the events that it took goes on with those that come from there.
use Rattle.std.proofs.Common.{◌≡◌, ℕ, ◌<◌, ◌≤◌, ◌+◌, ◌==◌, Bool, true, false, cond, ◌&&◌, nat_le, List, [], ◌∷◌, ◌++◌, append_assoc, length, length-append, drop, filter, Option, refl, sym, ◌∙◌, ap, subst, eqb-true, arith}
use Rattle.std.proofs.lemmas.Bool.{le-leb, leb-true, leb-false, lt-leb}
use Rattle.std.proofs.lemmas.Bool.Decides.{nat_tests}
use Rattle.std.proofs.lemmas.List.Elements.{filter-append}
use Rattle.etcd_types.specs.declared.watch.Change.{Change}
use Rattle.etcd_types.specs.declared.watch.Change.TheVariants as change
use Rattle.etcd_types.specs.declared.watch.Event.{Event}
use Rattle.etcd_types.proofs.Bools.{and_first, and_second}
use Rattle.store_model.specs.Events.{change_revision, event_revision}
use Rattle.watch_model.specs.Story.{changes, rises}
use Rattle.world_model.specs.Received.{is_from, stored_change}
use Rattle.equal_values.specs.Messages.{same_change}
use Rattle.equal_values.proofs.Values.{change-equal}
use Rattle.audit_model.specs.Takes.{tells_event, tells_front, tells_prev}
use Rattle.audit_clients.specs.Spots.{next_spot, spot_behind}

-- ---- events of which the revisions don't fall

abbrev pub Rises : ℕ → List Event → Type 0
Rises from [] = Unit {0}
Rises from (e ∷ es) = (from ≤ event_revision e) × Rises (event_revision e) es

pub rising : (from : ℕ) (es : List Event) → rises from (changes es) ≡ true → Rises from es
rising from [] h = tt
rising from (e ∷ es) h =
    let first = nat_le from (event_revision e) in
    let rest = rises (event_revision e) (changes es) in
    (leb-true from (event_revision e) (and_first first rest h), rising (event_revision e) es (and_second first rest h))

lower : (a b : ℕ) (es : List Event) → a ≤ b → Rises b es → Rises a es
lower a b [] l r = tt
lower a b (e ∷ es) l r = (let h = r.0 in omega (arith, l, h), r.1)

pub filtered : (p : Event → Bool) (from : ℕ) (es : List Event) → Rises from es → Rises from (filter p es)
filtered p from [] r = tt
filtered p from (e ∷ es) r = by (p e) (filtered p (event_revision e) es r.1)
  where
    by : (b : Bool) → Rises (event_revision e) (filter p es) → Rises from (cond b (e ∷ filter p es) (filter p es))
    by true h = (r.0, h)
    by false h = lower from (event_revision e) (filter p es) r.0 h

pub all_from : (from : ℕ) (es : List Event) → Rises from es → filter (is_from from) es ≡ es
all_from from [] r = refl
all_from from (e ∷ es) r =
    ap (λ (b : Bool). cond b (e ∷ filter (is_from from) es) (filter (is_from from) es)) (le-leb from (event_revision e) r.0)
    ∙ ap (λ (l : List Event). e ∷ l) (all_from from es (lower from (event_revision e) es r.0 r.1))

pub from_rises : (from low : ℕ) (es : List Event) → Rises low es → Rises from (filter (is_from from) es)
from_rises from low [] r = tt
from_rises from low (e ∷ es) r = by (nat_le from (event_revision e)) refl (from_rises from (event_revision e) es r.1)
  where
    by : (b : Bool) → nat_le from (event_revision e) ≡ b → Rises from (filter (is_from from) es) → Rises from (cond b (e ∷ filter (is_from from) es) (filter (is_from from) es))
    by true h rest = (leb-true from (event_revision e) h, filtered (is_from from) (event_revision e) es r.1)
    by false h rest = rest

pub twice_from : (r q : ℕ) (es : List Event) → r ≤ q → filter (is_from q) (filter (is_from r) es) ≡ filter (is_from q) es
twice_from r q [] l = refl
twice_from r q (e ∷ es) l = by (nat_le r (event_revision e)) (nat_le q (event_revision e)) refl refl (twice_from r q es l)
  where
    some : List Event
    some = filter (is_from r) es

    by : (b c : Bool) → nat_le r (event_revision e) ≡ b → nat_le q (event_revision e) ≡ c → filter (is_from q) some ≡ filter (is_from q) es
        → filter (is_from q) (cond b (e ∷ some) some) ≡ cond c (e ∷ filter (is_from q) es) (filter (is_from q) es)
    by true c h k same = ap (λ (t : Bool). cond t (e ∷ filter (is_from q) some) (filter (is_from q) some)) k ∙ (λ i. cond c (e ∷ same i) (same i))
    by false false h k same = same
    by false true h k same =
        let early : event_revision e < r = leb-false r (event_revision e) h in
        let late : q ≤ event_revision e = leb-true q (event_revision e) k in
        absurd (omega (arith, early, late, l))

abbrev AreUpTo : ℕ → List Event → Type 0
AreUpTo r [] = Unit {0}
AreUpTo r (e ∷ es) = (event_revision e ≤ r) × AreUpTo r es

none_from : (r q : ℕ) (es : List Event) → r < q → AreUpTo r es → filter (is_from q) es ≡ []
none_from r q [] l h = refl
none_from r q (e ∷ es) l h =
    let early : event_revision e < q = let k = h.0 in omega (arith, k, l) in
    ap (λ (b : Bool). cond b (e ∷ filter (is_from q) es) (filter (is_from q) es)) (lt-leb q (event_revision e) early) ∙ none_from r q es l h.1

one_more : (r : ℕ) (es : List Event) (e : Event) → AreUpTo r es → event_revision e ≤ r → AreUpTo r (es ++ e ∷ [])
one_more r [] e h l = (l, tt)
one_more r (x ∷ es) e h l = (h.0, one_more r es e h.1 l)

behind : (from : ℕ) (pre : List Event) (e : Event) (rest : List Event) → Rises from (pre ++ e ∷ rest) → (from ≤ event_revision e) × Rises (event_revision e) rest
behind from [] e rest r = r
behind from (x ∷ pre) e rest r =
    let h = behind (event_revision x) pre e rest r.1 in
    let low : from ≤ event_revision x = r.0 in
    let high : event_revision x ≤ event_revision e = h.0 in
    (omega (arith, low, high), h.1)

-- ---- a watch that stands before `rest`

pub record At (all : List Event) (spot : ℕ × ℕ) (rest : List Event) : Type 0 where
  pub pre : List Event
  pub split : filter (is_from spot.0) all ≡ pre ++ rest
  pub count : length pre ≡ spot.1
  pub low : AreUpTo spot.0 pre

at_start : (all : List Event) (start : ℕ) → At all (start, 0) (filter (is_from start) all)
at_start all start = record { pre = []; split = refl; count = refl; low = tt }

apart : (a b : ℕ) → a ≤ b → (b == a) ≡ false → a < b
apart a b l e = grind (arith, nat_tests)

at_next : (all : List Event) (spot : ℕ × ℕ) (e : Event) (rest : List Event) → Rises 0 all → At all spot (e ∷ rest) → At all (next_spot spot (event_revision e)) rest
at_next all spot e rest r a = by (event_revision e == spot.0) refl
  where
    q : ℕ
    q = event_revision e

    by : (b : Bool) → (q == spot.0) ≡ b → At all (cond b (spot.0, spot.1 + 1) (q, 1)) rest
    by true h =
        let same : q ≡ spot.0 = eqb-true q spot.0 h in
        record {
          pre = a.pre ++ e ∷ [];
          split = a.split ∙ sym (append_assoc a.pre (e ∷ []) rest);
          count = length-append a.pre (e ∷ []) ∙ ap (λ (n : ℕ). n + 1) a.count;
          low = one_more spot.0 a.pre e a.low (omega (arith, same));
        }
    by false h =
        let on : (spot.0 ≤ q) × Rises q rest = behind spot.0 a.pre e rest (subst (Rises spot.0) a.split (from_rises spot.0 0 all r)) in
        let later : spot.0 < q = apart spot.0 q on.0 h in
        record {
          pre = e ∷ [];
          split =
              sym (twice_from spot.0 q all on.0)
              ∙ ap (filter (is_from q)) a.split
              ∙ filter-append (is_from q) a.pre (e ∷ rest)
              ∙ (λ i. none_from spot.0 q a.pre later a.low i ++ all_from q (e ∷ rest) (omega arith, on.1) i);
          count = refl;
          low = (omega arith, tt);
        }

-- ---- what is told is of the same revisions

stored_revision : (namespace : List ℕ) (c : Change) → change_revision (stored_change namespace c) ≡ change_revision c
stored_revision namespace (change.Put kv) = refl
stored_revision namespace (change.Delete key modified) = refl

pub told_revision : (flag : Bool) (compacted : ℕ) (namespace : List ℕ) (t e : Event) → tells_event flag compacted namespace t e ≡ true → event_revision t ≡ event_revision e
told_revision flag compacted namespace t e h =
    let change = same_change (stored_change namespace t.change) e.change in
    let prev = tells_prev flag compacted namespace t.prev e in
    sym (stored_revision namespace t.change) ∙ ap change_revision (change-equal (stored_change namespace t.change) e.change (and_first change prev h))

took : (flag : Bool) (compacted : ℕ) (namespace : List ℕ) (all : List Event) (spot : ℕ × ℕ) (got due : List Event) → Rises 0 all → At all spot due
    → tells_front flag compacted namespace got due ≡ true → At all (spot_behind spot got) (drop (length got) due)
took flag compacted namespace all spot [] due r a h = a
took flag compacted namespace all spot (t ∷ ts) [] r a h = absurd (cc)
took flag compacted namespace all spot (t ∷ ts) (e ∷ es) r a h =
    let one = tells_event flag compacted namespace t e in
    let more = tells_front flag compacted namespace ts es in
    let same : event_revision t ≡ event_revision e = told_revision flag compacted namespace t e (and_first one more h) in
    subst (λ (q : ℕ). At all (spot_behind (next_spot spot q) ts) (drop (length ts) es)) (sym same)
    (took flag compacted namespace all (next_spot spot (event_revision e)) ts es r (at_next all spot e es r a) (and_second one more h))

and_three : (x a b : Bool) → x && (a && b) ≡ (x && a) && b
and_three true a b = refl
and_three false a b = refl

front_parts : (flag : Bool) (compacted : ℕ) (namespace : List ℕ) (got new due : List Event)
    → tells_front flag compacted namespace (got ++ new) due ≡ tells_front flag compacted namespace got due && tells_front flag compacted namespace new (drop (length got) due)
front_parts flag compacted namespace [] new due = refl
front_parts flag compacted namespace (t ∷ ts) new [] = refl
front_parts flag compacted namespace (t ∷ ts) new (e ∷ es) =
    let one = tells_event flag compacted namespace t e in
    ap (λ (b : Bool). one && b) (front_parts flag compacted namespace ts new es)
    ∙ and_three one (tells_front flag compacted namespace ts es) (tells_front flag compacted namespace new (drop (length ts) es))

drop_front : (pre rest : List Event) → drop (length pre) (pre ++ rest) ≡ rest
drop_front [] rest = refl
drop_front (x ∷ pre) rest = drop_front pre rest

-- what comes behind these is what comes from where the watch stands
pub left_from : (flag : Bool) (compacted : ℕ) (namespace : List ℕ) (all : List Event) (start : ℕ) (got : List Event) → Rises 0 all → tells_front flag compacted namespace got (filter (is_from start) all) ≡ true
    → drop (spot_behind (start, 0) got).1 (filter (is_from (spot_behind (start, 0) got).0) all) ≡ drop (length got) (filter (is_from start) all)
left_from flag compacted namespace all start got r told =
    ap (drop (spot_behind (start, 0) got).1) stands.split
    ∙ ap (λ (n : ℕ). drop n (stands.pre ++ drop (length got) due)) (sym stands.count)
    ∙ drop_front stands.pre (drop (length got) due)
  where
    due : List Event
    due = filter (is_from start) all

    stands : At all (spot_behind (start, 0) got) (drop (length got) due)
    stands = took flag compacted namespace all (start, 0) got due r (at_start all start) told

-- what a watch takes behind these is compared from where it stands
pub goes_on : (flag : Bool) (compacted : ℕ) (namespace : List ℕ) (all : List Event) (start : ℕ) (spot : ℕ × ℕ) (got new : List Event) → Rises 0 all
    → tells_front flag compacted namespace got (filter (is_from start) all) ≡ true → spot ≡ spot_behind (start, 0) got
    → tells_front flag compacted namespace (got ++ new) (filter (is_from start) all) ≡ tells_front flag compacted namespace new (drop spot.1 (filter (is_from spot.0) all))
goes_on flag compacted namespace all start spot got new r told is =
    front_parts flag compacted namespace got new (filter (is_from start) all)
    ∙ ap (λ (b : Bool). b && tells_front flag compacted namespace new (drop (length got) (filter (is_from start) all))) told
    ∙ ap (tells_front flag compacted namespace new)
    (sym (left_from flag compacted namespace all start got r told) ∙ (λ i. drop (sym is i).1 (filter (is_from (sym is i).0) all)))
