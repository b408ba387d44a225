-- The kept versions answer as all do, and they are enough for the next step.
use Rattle.std.proofs.Common.{◌≡◌, ℕ, ◌+◌, ◌≤◌, ◌<◌, ◌==◌, nat_lt, Bool, true, false, cond, List, [], ◌∷◌, ◌++◌, Option, None, Some, refl, sym, ◌∙◌, ap, arith, ltb-true, ltb-false, lt-ltb, eqb-true, eq-eqb}
use Rattle.std.proofs.lemmas.List.{append-nil}
use Rattle.std.proofs.lemmas.Bool.Decides.{nat_tests}
use Rattle.etcd_types.specs.declared.record.Kv.{Kv}
use Rattle.etcd_types.specs.Keys.{same}
use Rattle.store_model.specs.declared.history.KeyChange.{KeyChange}
use Rattle.store_model.specs.History.{newest, changed_key}
use Rattle.store_model.specs.Records.{after_change, record_now}
use Rattle.compaction_model.specs.declared.version.Version.{Version}
use Rattle.compaction_model.specs.Versions.{versions_in, versions, last_left, up_to, held_left, held_of, held_list, kept_with, kept, kept_versions}
use Rattle.compaction_model.specs.KeyLaws.{KeptGiveNow, KeptGiveEarlier, KeptGrow, KeptAgain}
use Rattle.compaction_model.proofs.VersionProofs.{up_to-yes, versions_give_records, versions_give_earlier, versions_grow}

-- what is held is a put, and stands below the compaction
unfoldable pub IsHeld : ℕ → Option Version → Type 0
IsHeld c None = Unit {0}
IsHeld c (Some v) = (v.revision < c) × (held_of v ≡ Some v)

left_of : Option Version → Option Kv
left_of None = None
left_of (Some v) = v.left

held-left : (v : Version) (o : Option Kv) → v.left ≡ o → left_of (held_left v o) ≡ o
unfolding left_of
held-left v None e = refl
held-left v (Some kv) e = e

pub held_is_held : (c : ℕ) (v : Version) → v.revision < c → IsHeld c (held_of v)
unfolding IsHeld
held_is_held c v e = by v.left refl
  where
    by : (o : Option Kv) → v.left ≡ o → IsHeld c (held_left v o)
    by None f = tt
    by (Some kv) f = (e, ap (λ (o : Option Kv). held_left v o) f)

-- the kept versions give what all give, where what is held is what was left before them
kept_reads : (c r : ℕ) (held : Option Version) (vs : List Version) → c ≤ r → IsHeld c held
    → last_left (up_to r (kept_with c held vs)) None ≡ last_left (up_to r vs) (left_of held)
unfolding IsHeld left_of
kept_reads c r None [] le h = refl
kept_reads c r (Some w) [] le h =
    let f : w.revision ≤ r = omega (arith, le, h.0) in
    ap (λ (ws : List Version). last_left ws None) (up_to-yes r w [] f)
kept_reads c r held (v ∷ vs) le h = by (λ o g. kept_reads c r o vs le g) (nat_lt v.revision c) refl
  where
    seen : v.revision ≤ r → (old : Option Kv) → last_left (up_to r (v ∷ vs)) old ≡ last_left (up_to r vs) v.left
    seen e old = ap (λ (ws : List Version). last_left ws old) (up_to-yes r v vs e)

    before : (held : Option Version) → IsHeld c held → last_left (up_to r (held_list held ++ v ∷ vs)) None ≡ last_left (up_to r (v ∷ vs)) (left_of held)
    before None h = refl
    before (Some w) h =
        let f : w.revision ≤ r = omega (arith, le, h.0) in
        ap (λ (ws : List Version). last_left ws None) (up_to-yes r w (v ∷ vs) f)

    at : (b : Bool) → (v.revision == c) ≡ b
        → last_left (up_to r (cond b (v ∷ vs) (held_list held ++ v ∷ vs))) None ≡ last_left (up_to r (v ∷ vs)) (left_of held)
    at true e =
        let same_one : v.revision ≡ c = eqb-true v.revision c e in
        let f : v.revision ≤ r = omega (arith, same_one, le) in
        seen f None ∙ sym (seen f (left_of held))
    at false e = before held h

    by : ((o : Option Version) → IsHeld c o → last_left (up_to r (kept_with c o vs)) None ≡ last_left (up_to r vs) (left_of o)) → (b : Bool) → nat_lt v.revision c ≡ b
        → last_left (up_to r (cond b (kept_with c (held_of v) vs) (cond (v.revision == c) (v ∷ vs) (held_list held ++ v ∷ vs)))) None
        ≡ last_left (up_to r (v ∷ vs)) (left_of held)
    by rest true e =
        let lt : v.revision < c = ltb-true v.revision c e in
        let f : v.revision ≤ r = omega (arith, lt, le) in
        rest (held_of v) (held_is_held c v lt)
        ∙ ap (λ (o : Option Kv). last_left (up_to r vs) o) (held-left v v.left refl)
        ∙ sym (seen f (left_of held))
    by rest false e = at (v.revision == c) refl

pub kept_give_earlier : KeptGiveEarlier
unfolding IsHeld left_of
kept_give_earlier h c r k le = kept_reads c r None (versions h k) le tt ∙ versions_give_earlier h r k

-- the same with no bound
kept_last : (c : ℕ) (held : Option Version) (vs : List Version) → last_left (kept_with c held vs) None ≡ last_left vs (left_of held)
unfolding left_of
kept_last c None [] = refl
kept_last c (Some w) [] = refl
kept_last c held (v ∷ vs) = by (kept_last c (held_of v) vs) (nat_lt v.revision c) (v.revision == c)
  where
    before : (held : Option Version) → last_left (held_list held ++ v ∷ vs) None ≡ last_left vs v.left
    before None = refl
    before (Some w) = refl

    by : last_left (kept_with c (held_of v) vs) None ≡ last_left vs (left_of (held_of v)) → (b e : Bool)
        → last_left (cond b (kept_with c (held_of v) vs) (cond e (v ∷ vs) (held_list held ++ v ∷ vs))) None ≡ last_left vs v.left
    by rest true e = rest ∙ ap (λ (o : Option Kv). last_left vs o) (held-left v v.left refl)
    by rest false true = refl
    by rest false false = before held

pub kept_give_now : KeptGiveNow
unfolding left_of
kept_give_now h c k = kept_last c None (versions h k) ∙ versions_give_records h k

-- growing

-- all stand behind the compaction
AreBehind : ℕ → List Version → Type 0
AreBehind c [] = Unit {0}
AreBehind c (v ∷ vs) = (c < v.revision) × AreBehind c vs

in_behind : (c revision : ℕ) (k : List ℕ) (cs : List KeyChange) (old : Option Kv) → c < revision → AreBehind c (versions_in revision k cs old)
unfolding AreBehind
in_behind c revision k [] old e = tt
in_behind c revision k (d ∷ cs) old e = by (λ o. in_behind c revision k cs o e) (same (changed_key d) k)
  where
    after : Option Kv
    after = after_change revision k d old

    by : ((o : Option Kv) → AreBehind c (versions_in revision k cs o)) → (b : Bool) → AreBehind c (cond b (record { revision = revision; left = after } ∷ versions_in revision k cs after) (versions_in revision k cs old))
    by rest true = (e, rest after)
    by rest false = rest old

not_lt : (a c : ℕ) → c ≤ a → nat_lt a c ≡ false
not_lt a c e = grind (arith, nat_tests)

not_eq : (a c : ℕ) → c < a → (a == c) ≡ false
not_eq a c e = grind (arith, nat_tests)

kept_behind : (c : ℕ) (held : Option Version) (ws : List Version) → AreBehind c ws → kept_with c held ws ≡ held_list held ++ ws
unfolding AreBehind
kept_behind c held [] a = sym (append-nil (held_list held))
kept_behind c held (w ∷ ws) a =
    let le : c ≤ w.revision = omega (arith, a.0) in
    ap (λ (b : Bool). cond b (kept_with c (held_of w) ws) (cond (w.revision == c) (w ∷ ws) (held_list held ++ w ∷ ws))) (not_lt w.revision c le)
    ∙ ap (λ (b : Bool). cond b (w ∷ ws) (held_list held ++ w ∷ ws)) (not_eq w.revision c a.0)

kept_grows : (c : ℕ) (held : Option Version) (vs ws : List Version) → AreBehind c ws → kept_with c held (vs ++ ws) ≡ kept_with c held vs ++ ws
kept_grows c held [] ws a = kept_behind c held ws a
kept_grows c held (v ∷ vs) ws a = by (kept_grows c (held_of v) vs ws a) (nat_lt v.revision c) (v.revision == c)
  where
    before : (held : Option Version) → held_list held ++ v ∷ (vs ++ ws) ≡ (held_list held ++ v ∷ vs) ++ ws
    before None = refl
    before (Some w) = refl

    by : kept_with c (held_of v) (vs ++ ws) ≡ kept_with c (held_of v) vs ++ ws → (b e : Bool)
        → cond b (kept_with c (held_of v) (vs ++ ws)) (cond e (v ∷ (vs ++ ws)) (held_list held ++ v ∷ (vs ++ ws)))
        ≡ cond b (kept_with c (held_of v) vs) (cond e (v ∷ vs) (held_list held ++ v ∷ vs)) ++ ws
    by rest true e = rest
    by rest false true = refl
    by rest false false = before held

pub kept_grow : KeptGrow
kept_grow h c k made le =
    let lt : c < newest h + 1 = omega (arith, le) in
    ap (λ (vs : List Version). kept c vs) (versions_grow h k made)
    ∙ kept_grows c None (versions h k) (versions_in (newest h + 1) k made (record_now h k)) (in_behind c (newest h + 1) k made (record_now h k) lt)
    ∙ ap (λ (o : Option Kv). kept_versions h c k ++ versions_in (newest h + 1) k made o) (sym (kept_give_now h c k))

-- compacting again

kept_lt : (c : ℕ) (held : Option Version) (v : Version) (vs : List Version) → v.revision < c → kept_with c held (v ∷ vs) ≡ kept_with c (held_of v) vs
kept_lt c held v vs e =
    ap (λ (b : Bool). cond b (kept_with c (held_of v) vs) (cond (v.revision == c) (v ∷ vs) (held_list held ++ v ∷ vs))) (lt-ltb v.revision c e)

-- what is held goes on being held
kept_held : (d : ℕ) (held : Option Version) (vs : List Version) → IsHeld d held → kept_with d None (held_list held ++ vs) ≡ kept_with d held vs
unfolding IsHeld
kept_held d None vs h = refl
kept_held d (Some w) vs h = kept_lt d None w vs h.0 ∙ ap (λ (o : Option Version). kept_with d o vs) h.1

held_later : (c d : ℕ) (held : Option Version) → c ≤ d → IsHeld c held → IsHeld d held
unfolding IsHeld
held_later c d None le h = tt
held_later c d (Some w) le h = (omega (arith, le, h.0), h.1)

kept_twice : (c d : ℕ) (held : Option Version) (vs : List Version) → c ≤ d → IsHeld c held → kept_with d None (kept_with c held vs) ≡ kept_with d held vs
kept_twice c d held [] le h = ap (λ (ws : List Version). kept_with d None ws) (sym (append-nil (held_list held))) ∙ kept_held d held [] (held_later c d held le h)
kept_twice c d held (v ∷ vs) le h = by (λ o g. kept_twice c d o vs le g) (nat_lt v.revision c) refl
  where
    -- at the revision of the first compaction nothing was held on
    forgets : v.revision ≡ c → kept_with d None (v ∷ vs) ≡ kept_with d held (v ∷ vs)
    forgets e = less (nat_lt v.revision d) refl
      where
        equal : (b : Bool) → (v.revision == d) ≡ b → nat_lt v.revision d ≡ false
            → cond b (v ∷ vs) (v ∷ vs) ≡ cond b (v ∷ vs) (held_list held ++ v ∷ vs)
        equal true f g = refl
        equal false f g =
            let ge : d ≤ v.revision = ltb-false v.revision d g in
            let is : v.revision ≡ d = omega (arith, ge, e, le) in
            let yes : (v.revision == d) ≡ true = eq-eqb v.revision d is in
            absurd (cc)

        less : (b : Bool) → nat_lt v.revision d ≡ b
            → cond b (kept_with d (held_of v) vs) (cond (v.revision == d) (v ∷ vs) (v ∷ vs))
            ≡ cond b (kept_with d (held_of v) vs) (cond (v.revision == d) (v ∷ vs) (held_list held ++ v ∷ vs))
        less true f = refl
        less false f = equal (v.revision == d) refl f

    at : (b : Bool) → (v.revision == c) ≡ b → kept_with d None (cond b (v ∷ vs) (held_list held ++ v ∷ vs)) ≡ kept_with d held (v ∷ vs)
    at true e = forgets (eqb-true v.revision c e)
    at false e = kept_held d held (v ∷ vs) (held_later c d held le h)

    by : ((o : Option Version) → IsHeld c o → kept_with d None (kept_with c o vs) ≡ kept_with d o vs) → (b : Bool) → nat_lt v.revision c ≡ b
        → kept_with d None (cond b (kept_with c (held_of v) vs) (cond (v.revision == c) (v ∷ vs) (held_list held ++ v ∷ vs))) ≡ kept_with d held (v ∷ vs)
    by rest true e =
        let lt : v.revision < c = ltb-true v.revision c e in
        let lt' : v.revision < d = omega (arith, lt, le) in
        rest (held_of v) (held_is_held c v lt) ∙ sym (kept_lt d held v vs lt')
    by rest false e = at (v.revision == c) refl

pub kept_again : KeptAgain
unfolding IsHeld
kept_again h c d k le = sym (kept_twice c d None (versions h k) le tt)
