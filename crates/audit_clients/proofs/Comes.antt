-- Whether a watch took all of its events up to a revision, by where it stands.
use Rattle.std.proofs.Common.{◌≡◌, ℕ, zero, suc, ◌<◌, ◌≤◌, ◌+◌, ◌==◌, Bool, true, false, cond, ◌&&◌, ◌||◌, nat_le, nat_lt, List, [], ◌∷◌, length, drop, map, filter, zip, refl, sym, ◌∙◌, ap, subst, eqb-true, arith}
use Rattle.std.specs.List.{list_all}
use Rattle.std.proofs.lemmas.Bool.{le-leb, le-ltb, leb-true, leb-false, lt-leb, lt-ltb}
use Rattle.std.proofs.lemmas.Bool.Decides.{nat_tests}
use Rattle.etcd_types.specs.declared.request.WatchAsk.{WatchAsk}
use Rattle.etcd_types.specs.declared.watch.Change.{Change}
use Rattle.etcd_types.specs.declared.watch.Event.{Event}
use Rattle.etcd_types.proofs.Bools.{and_first, and_second}
use Rattle.equal_values.specs.Lists.{same_all}
use Rattle.equal_values.specs.Messages.{same_change}
use Rattle.store_model.specs.Events.{event_revision}
use Rattle.store_model.specs.State.{State}
use Rattle.world_model.specs.Received.{history_events, is_from, is_up_to, stored_change}
use Rattle.audit_model.specs.Takes.{has_all_up_to, is_front, tells_event, tells_front, tells_prev}
use Rattle.audit_clients.specs.Spots.{are_behind, has_come, next_spot, spot_behind}
use Rattle.audit_clients.proofs.Dues.{all_events, all_rise, by_revision}
use Rattle.audit_clients.proofs.Spots.{Rises, from_rises, left_from, told_revision}

-- ---- the same changes

same_next : (m n : ℕ) → (suc m == suc n) ≡ (m == n)
same_next m n = grind (arith, nat_tests)

none_is_next : (n : ℕ) → (0 == suc n) ≡ false
none_is_next n = grind (arith, nat_tests)

next_is_none : (n : ℕ) → (suc n == 0) ≡ false
next_is_none n = grind (arith, nat_tests)

fewer : {A : Type 0} (test : A → A → Bool) (y : A) (ys : List A) → same_all test [] (y ∷ ys) ≡ false
fewer test y ys = ap (λ (b : Bool). b && list_all (λ p. test p.0 p.1) (zip [] (y ∷ ys))) (none_is_next (length ys))

longer : {A : Type 0} (test : A → A → Bool) (x : A) (xs : List A) → same_all test (x ∷ xs) [] ≡ false
longer test x xs = ap (λ (b : Bool). b && list_all (λ p. test p.0 p.1) (zip (x ∷ xs) [])) (next_is_none (length xs))

swap_tests : (a b c : Bool) → a && (b && c) ≡ b && (a && c)
swap_tests true b c = refl
swap_tests false true c = refl
swap_tests false false c = refl

same_first : {A : Type 0} (test : A → A → Bool) (x y : A) (xs ys : List A) → same_all test (x ∷ xs) (y ∷ ys) ≡ test x y && same_all test xs ys
same_first test x y xs ys =
    ap (λ (b : Bool). b && (test x y && list_all (λ p. test p.0 p.1) (zip xs ys))) (same_next (length xs) (length ys))
    ∙ swap_tests (length xs == length ys) (test x y) (list_all (λ p. test p.0 p.1) (zip xs ys))

-- ---- events up to a revision

abbrev told_changes : List ℕ → List Event → List Change
told_changes namespace es = map (λ e. stored_change namespace e.change) es

abbrev changes_of : List Event → List Change
changes_of es = map (λ e. e.change) es

none_up_to : (r from : ℕ) (es : List Event) → r < from → Rises from es → filter (is_up_to r) es ≡ []
none_up_to r from [] l h = refl
none_up_to r from (e ∷ es) l h =
    let late : r < event_revision e = let k = h.0 in omega (arith, k, l) in
    ap (λ (b : Bool). cond b (e ∷ filter (is_up_to r) es) (filter (is_up_to r) es)) (lt-leb (event_revision e) r late) ∙ none_up_to r (event_revision e) es late h.1

-- nothing is all that comes up to a revision where nothing does
nothing_is_all : (r from : ℕ) (due : List Event) → Rises from due → same_all same_change [] (changes_of (filter (is_up_to r) due)) ≡ are_behind r due
nothing_is_all r from [] h = refl
nothing_is_all r from (e ∷ es) h = by (nat_le (event_revision e) r) refl
  where
    by : (b : Bool) → nat_le (event_revision e) r ≡ b → same_all same_change [] (changes_of (cond b (e ∷ filter (is_up_to r) es) (filter (is_up_to r) es))) ≡ nat_lt r (event_revision e)
    by true k = fewer same_change e.change (changes_of (filter (is_up_to r) es)) ∙ sym (le-ltb r (event_revision e) (leb-true (event_revision e) r k))
    by false k =
        let late : r < event_revision e = leb-false (event_revision e) r k in
        ap (λ (xs : List Event). same_all same_change [] (changes_of xs)) (none_up_to r (event_revision e) es late h.1) ∙ sym (lt-ltb r (event_revision e) late)

abbrev All : Bool → ℕ → List ℕ → ℕ → List Event → List Event → Type 0
All flag compacted namespace r got due =
    same_all same_change (told_changes namespace got) (changes_of (filter (is_up_to r) due)) ≡ list_all (is_up_to r) got && are_behind r (drop (length got) due)

took_all : (flag : Bool) (compacted : ℕ) (namespace : List ℕ) (r from : ℕ) (got due : List Event) → Rises from due → tells_front flag compacted namespace got due ≡ true → All flag compacted namespace r got due
took_all flag compacted namespace r from [] due h f = nothing_is_all r from due h
took_all flag compacted namespace r from (t ∷ ts) [] h f = absurd (cc)
took_all flag compacted namespace r from (t ∷ ts) (e ∷ es) h f =
    by (nat_le (event_revision e) r) refl (took_all flag compacted namespace r (event_revision e) ts es h.1 (and_second one more f))
  where
    one : Bool
    one = tells_event flag compacted namespace t e

    more : Bool
    more = tells_front flag compacted namespace ts es

    same : event_revision t ≡ event_revision e
    same = told_revision flag compacted namespace t e (and_first one more f)

    equal : same_change (stored_change namespace t.change) e.change ≡ true
    equal = and_first (same_change (stored_change namespace t.change) e.change) (tells_prev flag compacted namespace t.prev e) (and_first one more f)

    up_to : (b : Bool) → nat_le (event_revision e) r ≡ b → nat_le (event_revision t) r ≡ b
    up_to b k = ap (λ (q : ℕ). nat_le q r) same ∙ k

    by : (b : Bool) → nat_le (event_revision e) r ≡ b → All flag compacted namespace r ts es
        → same_all same_change (stored_change namespace t.change ∷ told_changes namespace ts) (changes_of (cond b (e ∷ filter (is_up_to r) es) (filter (is_up_to r) es)))
        ≡ (nat_le (event_revision t) r && list_all (is_up_to r) ts) && are_behind r (drop (length ts) es)
    by true k rest =
        same_first same_change (stored_change namespace t.change) e.change (told_changes namespace ts) (changes_of (filter (is_up_to r) es))
        ∙ ap (λ (b : Bool). b && same_all same_change (told_changes namespace ts) (changes_of (filter (is_up_to r) es))) equal
        ∙ rest
        ∙ sym (ap (λ (b : Bool). (b && list_all (is_up_to r) ts) && are_behind r (drop (length ts) es)) (up_to true k))
    by false k rest =
        let late : r < event_revision e = leb-false (event_revision e) r k in
        ap (λ (xs : List Event). same_all same_change (stored_change namespace t.change ∷ told_changes namespace ts) (changes_of xs)) (none_up_to r (event_revision e) es late h.1)
        ∙ longer same_change (stored_change namespace t.change) (told_changes namespace ts)
        ∙ sym (ap (λ (b : Bool). (b && list_all (is_up_to r) ts) && are_behind r (drop (length ts) es)) (up_to false k))

-- ---- by where the watch stands

told_rises : (flag : Bool) (compacted : ℕ) (namespace : List ℕ) (from : ℕ) (got due : List Event) → Rises from due → tells_front flag compacted namespace got due ≡ true → Rises from got
told_rises flag compacted namespace from [] due h f = tt
told_rises flag compacted namespace from (t ∷ ts) [] h f = absurd (cc)
told_rises flag compacted namespace from (t ∷ ts) (e ∷ es) h f =
    let one = tells_event flag compacted namespace t e in
    let more = tells_front flag compacted namespace ts es in
    let same : event_revision t ≡ event_revision e = told_revision flag compacted namespace t e (and_first one more f) in (
      subst (λ (q : ℕ). from ≤ q) (sym same) h.0,
      subst (λ (q : ℕ). Rises q ts) (sym same) (told_rises flag compacted namespace (event_revision e) ts es h.1 (and_second one more f)),
    )

abbrev is_behind : ℕ × ℕ → ℕ → Bool
is_behind spot r = spot.1 == 0 || nat_le spot.0 r

some_counted : (n : ℕ) → (n + 1 == 0) ≡ false
some_counted n = grind (arith, nat_tests)

and_true : (b : Bool) → b && true ≡ b
and_true true = refl
and_true false = refl

and_false : (b : Bool) → b && false ≡ false
and_false true = refl
and_false false = refl

or_true : (b : Bool) → b || true ≡ true
or_true true = refl
or_true false = refl

-- a later event that comes up to the revision says that of the earlier ones
earlier : (z : Bool) (s q r : ℕ) (rest : Bool) → s ≤ q → nat_le q r && rest ≡ (z || nat_le s r) && (nat_le q r && rest)
earlier z s q r rest l = by (nat_le q r) refl
  where
    by : (b : Bool) → nat_le q r ≡ b → b && rest ≡ (z || nat_le s r) && (b && rest)
    by true k =
        let high : q ≤ r = leb-true q r k in
        sym (ap (λ (b : Bool). b && rest) (ap (λ (b : Bool). z || b) (le-leb s r (omega (arith, l, high))) ∙ or_true z))
    by false k = sym (and_false (z || nat_le s r))

come_behind : (r : ℕ) (spot : ℕ × ℕ) (got : List Event) → Rises spot.0 got → is_behind (spot_behind spot got) r ≡ is_behind spot r && list_all (is_up_to r) got
come_behind r spot [] h = sym (and_true (is_behind spot r))
come_behind r spot (e ∷ es) h = by (event_revision e == spot.0) refl (λ s k. come_behind r s es k)
  where
    q : ℕ
    q = event_revision e

    by : (b : Bool) → (q == spot.0) ≡ b → ((s : ℕ × ℕ) → Rises s.0 es → is_behind (spot_behind s es) r ≡ is_behind s r && list_all (is_up_to r) es)
        → is_behind (spot_behind (cond b (spot.0, spot.1 + 1) (q, 1)) es) r ≡ is_behind spot r && (nat_le q r && list_all (is_up_to r) es)
    by true k rest =
        let same : q ≡ spot.0 = eqb-true q spot.0 k in
        rest (spot.0, spot.1 + 1) (subst (λ (n : ℕ). Rises n es) same h.1)
        ∙ ap (λ (b : Bool). (b || nat_le spot.0 r) && list_all (is_up_to r) es) (some_counted spot.1)
        ∙ ap (λ (n : ℕ). nat_le n r && list_all (is_up_to r) es) (sym same)
        ∙ earlier (spot.1 == 0) spot.0 q r (list_all (is_up_to r) es) h.0
    by false k rest = rest (q, 1) h.1 ∙ earlier (spot.1 == 0) spot.0 q r (list_all (is_up_to r) es) h.0

-- a watch that stands behind what it took has all up to the revision, or not
pub all_come : (s : State) (p : List ℕ) (ask : WatchAsk) (start : ℕ) (spot : ℕ × ℕ) (got : List Event) (r : ℕ) → is_front s p ask start got ≡ true → spot ≡ spot_behind (start, 0) got
    → has_all_up_to s p ask start got r ≡ has_come spot r (drop spot.1 (history_events s.history p ask spot.0))
all_come s p ask start spot got r f is =
    ap (λ (es : List Event). same_all same_change (told_changes p got) (changes_of (filter (is_up_to r) es))) (sym (by_revision s.history p ask start))
    ∙ took_all ask.prev_kv s.compacted p r start got due rise told
    ∙ (λ i. sym (come_behind r (start, 0) got (told_rises ask.prev_kv s.compacted p start got due rise told)) i && are_behind r (sym left i))
    ∙ (λ i. has_come (sym is i) r (drop (sym is i).1 (filter (is_from (sym is i).0) all)))
    ∙ ap (λ (es : List Event). has_come spot r (drop spot.1 es)) (by_revision s.history p ask spot.0)
  where
    all : List Event
    all = all_events s.history p ask

    due : List Event
    due = filter (is_from start) all

    rise : Rises start due
    rise = from_rises start 0 all (all_rise s.history p ask)

    told : tells_front ask.prev_kv s.compacted p got due ≡ true
    told = ap (tells_front ask.prev_kv s.compacted p got) (by_revision s.history p ask start) ∙ f

    left : drop (spot_behind (start, 0) got).1 (filter (is_from (spot_behind (start, 0) got).0) all) ≡ drop (length got) due
    left = left_from ask.prev_kv s.compacted p all start got (all_rise s.history p ask) told
