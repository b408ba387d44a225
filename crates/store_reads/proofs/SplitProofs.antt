-- The kept versions of a key are those before a revision, and behind them those that the revisions from there on make.
use Rattle.std.proofs.Common.{◌≡◌, ℕ, zero, suc, ◌+◌, ◌-◌, ◌≤◌, ◌<◌, ◌==◌, nat_lt, nat_le, Bool, true, false, cond, List, [], ◌∷◌, ◌++◌, Option, None, Some, length, take, drop, refl, sym, ◌∙◌, ap, subst, arith, append_assoc, eq-eqb, ltb-true, ltb-false, length-take-le}
use Rattle.std.specs.List.{slice_get}
use Rattle.std.proofs.lemmas.List.{append-nil, take-append-drop}
use Rattle.std.proofs.lemmas.List.Elements.{filter-append}
use Rattle.std.proofs.lemmas.Bool.Decides.{nat_tests}
use Rattle.etcd_types.specs.declared.record.Kv.{Kv}
use Rattle.etcd_types.specs.Keys.{same}
use Rattle.store_model.specs.declared.history.KeyChange.{KeyChange}
use Rattle.store_model.specs.History.{History, changed_key}
use Rattle.store_model.specs.Records.{after_change, after_changes, record_now}
use Rattle.compaction_model.specs.declared.version.Version.{Version}
use Rattle.compaction_model.specs.Versions.{versions_in, versions_from, versions, last_left, up_to, is_up_to, held_left, held_of, held_list, kept_with, kept_versions}
use Rattle.compaction_model.proofs.KeptProofs.{kept_give_earlier}
use Rattle.compaction_model.proofs.LaterProofs.{versions_from-append}
use Rattle.store_reads.specs.Places.{IsFirstFrom}

abbrev pub AllBelow : ℕ → List Version → Type 0
AllBelow r [] = Unit {0}
AllBelow r (v ∷ vs) = (v.revision < r) × AllBelow r vs

abbrev pub AllFrom : ℕ → List Version → Type 0
AllFrom r [] = Unit {0}
AllFrom r (v ∷ vs) = (r ≤ v.revision) × AllFrom r vs

below-append : (r : ℕ) (us vs : List Version) → AllBelow r us → AllBelow r vs → AllBelow r (us ++ vs)
below-append r [] vs a b = b
below-append r (u ∷ us) vs a b = (a.0, below-append r us vs a.1 b)

from-append : (r : ℕ) (us vs : List Version) → AllFrom r us → AllFrom r vs → AllFrom r (us ++ vs)
from-append r [] vs a b = b
from-append r (u ∷ us) vs a b = (a.0, from-append r us vs a.1 b)

pub in_below : (r revision : ℕ) (k : List ℕ) (cs : List KeyChange) (old : Option Kv) → revision < r → AllBelow r (versions_in revision k cs old)
in_below r revision k [] old e = tt
in_below r revision k (c ∷ cs) old e = by_key (λ o. in_below r revision k cs o e) (same (changed_key c) k)
  where
    after : Option Kv
    after = after_change revision k c old

    by_key : ((o : Option Kv) → AllBelow r (versions_in revision k cs o)) → (b : Bool)
        → AllBelow r (cond b (record { revision = revision; left = after } ∷ versions_in revision k cs after) (versions_in revision k cs old))
    by_key rest true = (e, rest after)
    by_key rest false = rest old

in_from : (r revision : ℕ) (k : List ℕ) (cs : List KeyChange) (old : Option Kv) → r ≤ revision → AllFrom r (versions_in revision k cs old)
in_from r revision k [] old e = tt
in_from r revision k (c ∷ cs) old e = by_key (λ o. in_from r revision k cs o e) (same (changed_key c) k)
  where
    after : Option Kv
    after = after_change revision k c old

    by_key : ((o : Option Kv) → AllFrom r (versions_in revision k cs o)) → (b : Bool)
        → AllFrom r (cond b (record { revision = revision; left = after } ∷ versions_in revision k cs after) (versions_in revision k cs old))
    by_key rest true = (e, rest after)
    by_key rest false = rest old

all_below : (r revision : ℕ) (k : List ℕ) (h : History) (old : Option Kv) → length h + revision ≤ r → AllBelow r (versions_from revision k h old)
all_below r revision k [] old e = tt
all_below r revision k (cs ∷ h) old e =
    let f : revision < r = omega (arith, e) in
    let g : length h + (revision + 1) ≤ r = omega (arith, e) in
    below-append r (versions_in revision k cs old) (versions_from (revision + 1) k h (after_changes revision k cs old)) (in_below r revision k cs old f)
    (all_below r (revision + 1) k h (after_changes revision k cs old) g)

all_from : (r revision : ℕ) (k : List ℕ) (h : History) (old : Option Kv) → r ≤ revision → AllFrom r (versions_from revision k h old)
all_from r revision k [] old e = tt
all_from r revision k (cs ∷ h) old e =
    let f : r ≤ revision + 1 = omega (arith, e) in
    from-append r (versions_in revision k cs old) (versions_from (revision + 1) k h (after_changes revision k cs old)) (in_from r revision k cs old e)
    (all_from r (revision + 1) k h (after_changes revision k cs old) f)

-- the split

abbrev pub StartsAt : ℕ → List Version → Type 0
StartsAt c [] = ⊥
StartsAt c (v ∷ vs) = v.revision ≡ c

pub record Split (c r : ℕ) (vs ws : List Version) : Type 0 where
  pub front : List Version
  pub is : vs ≡ front ++ ws
  pub below : AllBelow r front
  -- nothing is held before a version of the compaction's own revision
  pub bare : r ≡ c → StartsAt c ws → front ≡ []

abbrev HeldBelow : ℕ → Option Version → Type 0
HeldBelow r None = Unit {0}
HeldBelow r (Some v) = v.revision < r

held_below : (r : ℕ) (v : Version) → v.revision < r → HeldBelow r (held_of v)
held_below r v e = by_left v.left
  where
    by_left : (o : Option Kv) → HeldBelow r (held_left v o)
    by_left None = tt
    by_left (Some kv) = e

held_all : (r : ℕ) (held : Option Version) → HeldBelow r held → AllBelow r (held_list held)
held_all r None h = tt
held_all r (Some v) h = (h, tt)

not_starting : (c : ℕ) (v : Version) → (v.revision == c) ≡ false → v.revision ≡ c → ⊥
not_starting c v e s = let f : (v.revision == c) ≡ true = eq-eqb v.revision c s in cc

kept_splits : (c r : ℕ) (held : Option Version) (us ws : List Version) → c ≤ r → HeldBelow r held → AllBelow r us → AllFrom r ws
    → Split c r (kept_with c held (us ++ ws)) ws
kept_splits c r held [] [] le h b f = record { front = held_list held; is = sym (append-nil (held_list held)); below = held_all r held h; bare = λ e s. absurd s }
kept_splits c r held [] (w ∷ ws) le h b f = by_below (nat_lt w.revision c) refl
  where
    by_equal : (t : Bool) → (w.revision == c) ≡ t → Split c r (cond t (w ∷ ws) (held_list held ++ w ∷ ws)) (w ∷ ws)
    by_equal true e = record { front = []; is = refl; below = tt; bare = λ g s. refl }
    by_equal false e = record { front = held_list held; is = refl; below = held_all r held h; bare = λ g s. absurd (not_starting c w e s) }

    by_below : (t : Bool) → nat_lt w.revision c ≡ t
        → Split c r (cond t (kept_with c (held_of w) ws) (cond (w.revision == c) (w ∷ ws) (held_list held ++ w ∷ ws))) (w ∷ ws)
    by_below true e = let lt : w.revision < c = ltb-true w.revision c e in let ge : r ≤ w.revision = f.0 in absurd (omega (arith, lt, ge, le))
    by_below false e = by_equal (w.revision == c) refl
kept_splits c r held (u ∷ us) ws le h b f = by_below (λ o g. kept_splits c r o us ws le g b.1 f) (nat_lt u.revision c) refl
  where
    never : nat_lt u.revision c ≡ false → r ≡ c → ⊥
    never e g = let ge : c ≤ u.revision = ltb-false u.revision c e in let lt : u.revision < r = b.0 in omega (arith, ge, lt, g)

    by_equal : nat_lt u.revision c ≡ false → (t : Bool) → Split c r (cond t (u ∷ (us ++ ws)) (held_list held ++ u ∷ (us ++ ws))) ws
    by_equal e true = record { front = u ∷ us; is = refl; below = b; bare = λ g s. absurd (never e g) }
    by_equal e false =
        record {
          front = held_list held ++ u ∷ us;
          is = sym (append_assoc (held_list held) (u ∷ us) ws);
          below = below-append r (held_list held) (u ∷ us) (held_all r held h) b;
          bare = λ g s. absurd (never e g);
        }

    by_below : ((o : Option Version) → HeldBelow r o → Split c r (kept_with c o (us ++ ws)) ws) → (t : Bool) → nat_lt u.revision c ≡ t
        → Split c r (cond t (kept_with c (held_of u) (us ++ ws)) (cond (u.revision == c) (u ∷ (us ++ ws)) (held_list held ++ u ∷ (us ++ ws)))) ws
    by_below rest true e = rest (held_of u) (held_below r u b.0)
    by_below rest false e = by_equal e (u.revision == c)

-- the versions that the revisions from r on make
abbrev pub coming : History → ℕ → List ℕ → List Version
coming h r k = versions_from r k (drop (r - 2) h) (record_now (take (r - 2) h) k)

pub coming_from : (h : History) (r : ℕ) (k : List ℕ) → AllFrom r (coming h r k)
coming_from h r k = all_from r r k (drop (r - 2) h) (record_now (take (r - 2) h) k) (omega arith)

pub splits : (h : History) (c r : ℕ) (k : List ℕ) → 2 ≤ r → c ≤ r → r - 2 ≤ length h → Split c r (kept_versions h c k) (coming h r k)
splits h c r k first le within =
    let long : length (take (r - 2) h) ≡ r - 2 = length-take-le (r - 2) h within in
    let here : length (take (r - 2) h) + 2 ≡ r = omega (arith, long, first) in
    let up : length (take (r - 2) h) + 2 ≤ r = omega (arith, here) in
    let past : List Version = versions_from 2 k (take (r - 2) h) None in
    let whole : versions h k ≡ past ++ coming h r k =
    ap (λ (g : History). versions g k) (sym (take-append-drop (r - 2) h))
    ∙ versions_from-append 2 k (take (r - 2) h) (drop (r - 2) h) None
    ∙ ap (λ m. past ++ versions_from m k (drop (r - 2) h) (record_now (take (r - 2) h) k)) here
    in
    subst (λ (vs : List Version). Split c r (kept_with c None vs) (coming h r k)) (sym whole)
    (kept_splits c r None past (coming h r k) le tt (all_below r 2 k (take (r - 2) h) None up) (coming_from h r k))

-- what the versions before leave, behind the compaction

up_to-below : (r : ℕ) (vs : List Version) → AllBelow r vs → up_to (r - 1) vs ≡ vs
up_to-below r [] a = refl
up_to-below r (v ∷ vs) a = by_test (nat_le v.revision (r - 1)) (is v.revision r a.0) (up_to-below r vs a.1)
  where
    is : (a r : ℕ) → a < r → nat_le a (r - 1) ≡ true
    is a r e = grind (arith, nat_tests)

    by_test : (b : Bool) → b ≡ true → up_to (r - 1) vs ≡ vs → cond b (v ∷ up_to (r - 1) vs) (up_to (r - 1) vs) ≡ v ∷ vs
    by_test true e rest = ap (λ (ws : List Version). v ∷ ws) rest
    by_test false e rest = absurd (cc)

up_to-from : (r : ℕ) (vs : List Version) → 1 ≤ r → AllFrom r vs → up_to (r - 1) vs ≡ []
up_to-from r [] one a = refl
up_to-from r (v ∷ vs) one a = by_test (nat_le v.revision (r - 1)) (is_not v.revision r one a.0) (up_to-from r vs one a.1)
  where
    is_not : (a r : ℕ) → 1 ≤ r → r ≤ a → nat_le a (r - 1) ≡ false
    is_not a r e f = grind (arith, nat_tests)

    by_test : (b : Bool) → b ≡ false → up_to (r - 1) vs ≡ [] → cond b (v ∷ up_to (r - 1) vs) (up_to (r - 1) vs) ≡ []
    by_test true e rest = absurd (cc)
    by_test false e rest = rest

pub front_leaves : (h : History) (c r : ℕ) (k : List ℕ) → 2 ≤ r → c < r → (s : Split c r (kept_versions h c k) (coming h r k))
    → last_left s.front None ≡ record_now (take (r - 2) h) k
front_leaves h c r k first lt s =
    let one : 1 ≤ r = omega (arith, first) in
    let le : c ≤ r - 1 = omega (arith, lt) in
    let back : r - 1 - 1 ≡ r - 2 = omega arith in
    ap (λ (vs : List Version). last_left vs None)
    (sym (append-nil s.front) ∙ ap (λ (vs : List Version). vs ++ []) (sym (up_to-below r s.front s.below))
    ∙ ap (λ (vs : List Version). up_to (r - 1) s.front ++ vs) (sym (up_to-from r (coming h r k) one (coming_from h r k)))
    ∙ sym (filter-append (is_up_to (r - 1)) s.front (coming h r k)) ∙ ap (up_to (r - 1)) (sym s.is))
    ∙ kept_give_earlier h c (r - 1) k le ∙ ap (λ n. record_now (take n h) k) back

-- the place between the two is the only one

first_is : (r : ℕ) (front ws : List Version) (place : ℕ) → AllBelow r front → AllFrom r ws → IsFirstFrom r (front ++ ws) place → place ≡ length front
first_is r [] ws zero b f i = refl
first_is r [] [] (suc n) b f i = let w = i.within in absurd (omega (arith, w))
first_is r [] (w ∷ ws) (suc n) b f i = absurd (never (w ∷ ws) n f (omega (arith, i.within)) (λ v e. i.earlier n v (omega arith) e))
  where
    never : (ws : List Version) (n : ℕ) → AllFrom r ws → n < length ws → ((v : Version) → slice_get ws n ≡ Some v → v.revision < r) → ⊥
    never [] n a lt e = omega (arith, lt)
    never (w ∷ ws) zero a lt e = let g = e w refl in let l = a.0 in omega (arith, g, l)
    never (w ∷ ws) (suc n) a lt e = never ws n a.1 (omega (arith, lt)) e
first_is r (u ∷ us) ws zero b f i = let g = i.later u refl in let l = b.0 in absurd (omega (arith, g, l))
first_is r (u ∷ us) ws (suc n) b f i =
    ap suc
    (first_is r us ws n b.1 f (record {
      within = let w = i.within in omega (arith, w);
      earlier = λ m v e g. i.earlier (suc m) v (omega (arith, e)) g;
      later = λ v e. i.later v e;
    }))

pub first_place : (c r : ℕ) (vs ws : List Version) (place : ℕ) → (s : Split c r vs ws) → AllFrom r ws → IsFirstFrom r vs place → place ≡ length s.front
first_place c r vs ws place s f i = first_is r s.front ws place s.below f (subst (λ (us : List Version). IsFirstFrom r us place) s.is i)
