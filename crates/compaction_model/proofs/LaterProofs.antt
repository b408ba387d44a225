-- The versions from a revision on.
use Rattle.std.proofs.Common.{◌≡◌, ℕ, ◌+◌, ◌≤◌, ◌<◌, ◌==◌, nat_lt, nat_le, Bool, true, false, cond, List, [], ◌∷◌, ◌++◌, Option, None, Some, length, take, drop, refl, sym, ◌∙◌, ap, append_assoc, arith, suc, length-take-le, ltb-true}
use Rattle.std.proofs.lemmas.List.{take-append-drop}
use Rattle.std.proofs.lemmas.List.Elements.{filter-append}
use Rattle.std.proofs.lemmas.Bool.Decides.{nat_tests}
use Rattle.etcd_types.specs.declared.record.Kv.{Kv}
use Rattle.etcd_types.specs.Keys.{same}
use Rattle.store_model.specs.declared.history.KeyChange.{KeyChange}
use Rattle.store_model.specs.History.{History, changed_key}
use Rattle.store_model.specs.Records.{after_change, after_changes, after_revisions, record_now}
use Rattle.compaction_model.specs.declared.version.Version.{Version}
use Rattle.compaction_model.specs.Versions.{versions_in, versions_from, versions, is_from, from_on, held_of, held_list, kept_with}
use Rattle.compaction_model.specs.KeyLaws.{VersionsFromRevision, KeptHaveLater}
use Rattle.compaction_model.proofs.KeptProofs.{IsHeld, held_is_held}

from_yes : (r : ℕ) (v : Version) (vs : List Version) → r ≤ v.revision → from_on r (v ∷ vs) ≡ v ∷ from_on r vs
from_yes r v vs e = ap (λ (b : Bool). cond b (v ∷ from_on r vs) (from_on r vs)) (is r v.revision e)
  where
    is : (a b : ℕ) → a ≤ b → nat_le a b ≡ true
    is a b f = grind (arith, nat_tests)

from_no : (r : ℕ) (v : Version) (vs : List Version) → v.revision < r → from_on r (v ∷ vs) ≡ from_on r vs
from_no r v vs e = ap (λ (b : Bool). cond b (v ∷ from_on r vs) (from_on r vs)) (is_not r v.revision e)
  where
    is_not : (a b : ℕ) → b < a → nat_le a b ≡ false
    is_not a b f = grind (arith, nat_tests)

in_stay : (r revision : ℕ) (k : List ℕ) (cs : List KeyChange) (old : Option Kv) → r ≤ revision → from_on r (versions_in revision k cs old) ≡ versions_in revision k cs old
in_stay r revision k [] old e = refl
in_stay r revision k (c ∷ cs) old e = by_key (λ o. in_stay r revision k cs o e) (same (changed_key c) k)
  where
    after : Option Kv
    after = after_change revision k c old

    by_key : ((o : Option Kv) → from_on r (versions_in revision k cs o) ≡ versions_in revision k cs o) → (b : Bool)
        → from_on r (cond b (record { revision = revision; left = after } ∷ versions_in revision k cs after) (versions_in revision k cs old))
        ≡ cond b (record { revision = revision; left = after } ∷ versions_in revision k cs after) (versions_in revision k cs old)
    by_key rest true = from_yes r (record { revision = revision; left = after }) (versions_in revision k cs after) e
        ∙ ap (λ (vs : List Version). record { revision = revision; left = after } ∷ vs) (rest after)
    by_key rest false = rest old

in_go : (r revision : ℕ) (k : List ℕ) (cs : List KeyChange) (old : Option Kv) → revision < r → from_on r (versions_in revision k cs old) ≡ []
in_go r revision k [] old e = refl
in_go r revision k (c ∷ cs) old e = by_key (λ o. in_go r revision k cs o e) (same (changed_key c) k)
  where
    after : Option Kv
    after = after_change revision k c old

    by_key : ((o : Option Kv) → from_on r (versions_in revision k cs o) ≡ []) → (b : Bool)
        → from_on r (cond b (record { revision = revision; left = after } ∷ versions_in revision k cs after) (versions_in revision k cs old)) ≡ []
    by_key rest true = from_no r (record { revision = revision; left = after }) (versions_in revision k cs after) e ∙ rest after
    by_key rest false = rest old

all_stay : (r revision : ℕ) (k : List ℕ) (h : History) (old : Option Kv) → r ≤ revision → from_on r (versions_from revision k h old) ≡ versions_from revision k h old
all_stay r revision k [] old e = refl
all_stay r revision k (cs ∷ h) old e =
    let f : r ≤ revision + 1 = omega (arith, e) in
    filter-append (is_from r) (versions_in revision k cs old) (versions_from (revision + 1) k h (after_changes revision k cs old))
    ∙ ap (λ (vs : List Version). vs ++ from_on r (versions_from (revision + 1) k h (after_changes revision k cs old))) (in_stay r revision k cs old e)
    ∙ ap (λ (vs : List Version). versions_in revision k cs old ++ vs) (all_stay r (revision + 1) k h (after_changes revision k cs old) f)

all_go : (r revision : ℕ) (k : List ℕ) (h : History) (old : Option Kv) → length h + revision ≤ r → from_on r (versions_from revision k h old) ≡ []
all_go r revision k [] old e = refl
all_go r revision k (cs ∷ h) old e =
    let f : revision < r = omega (arith, e) in
    let g : length h + (revision + 1) ≤ r = omega (arith, e) in
    filter-append (is_from r) (versions_in revision k cs old) (versions_from (revision + 1) k h (after_changes revision k cs old))
    ∙ ap (λ (vs : List Version). vs ++ from_on r (versions_from (revision + 1) k h (after_changes revision k cs old))) (in_go r revision k cs old f)
    ∙ all_go r (revision + 1) k h (after_changes revision k cs old) g

pub versions_from-append : (revision : ℕ) (k : List ℕ) (h g : History) (old : Option Kv)
    → versions_from revision k (h ++ g) old ≡ versions_from revision k h old ++ versions_from (length h + revision) k g (after_revisions revision k h old)
versions_from-append revision k [] g old = let e : 0 + revision ≡ revision = omega arith in rw e refl
versions_from-append revision k (cs ∷ h) g old =
    let e : suc (length h) + revision ≡ length h + (revision + 1) = omega arith in
    let new = after_changes revision k cs old in
    ap (λ (vs : List Version). versions_in revision k cs old ++ vs) (versions_from-append (revision + 1) k h g new)
    ∙ sym (append_assoc (versions_in revision k cs old) (versions_from (revision + 1) k h new) (versions_from (length h + (revision + 1)) k g (after_revisions (revision + 1) k h new)))
    ∙ ap (λ n. (versions_in revision k cs old ++ versions_from (revision + 1) k h new) ++ versions_from n k g (after_revisions (revision + 1) k h new)) (sym e)

pub versions_from_revision : VersionsFromRevision
versions_from_revision h n k e =
    let long : length (take n h) ≡ n = length-take-le n h e in
    let here : length (take n h) + 2 ≡ n + 2 = omega (arith, long) in
    let le : length (take n h) + 2 ≤ n + 2 = omega (arith, long) in
    let up : n + 2 ≤ n + 2 = omega arith in
    ap (λ (g : History). from_on (n + 2) (versions g k)) (sym (take-append-drop n h))
    ∙ ap (from_on (n + 2)) (versions_from-append 2 k (take n h) (drop n h) None)
    ∙ ap (λ m. from_on (n + 2) (versions_from 2 k (take n h) None ++ versions_from m k (drop n h) (record_now (take n h) k))) here
    ∙ filter-append (is_from (n + 2)) (versions_from 2 k (take n h) None) (versions_from (n + 2) k (drop n h) (record_now (take n h) k))
    ∙ ap (λ (vs : List Version). vs ++ from_on (n + 2) (versions_from (n + 2) k (drop n h) (record_now (take n h) k))) (all_go (n + 2) 2 k (take n h) None le)
    ∙ all_stay (n + 2) (n + 2) k (drop n h) (record_now (take n h) k) up

-- what is kept, from a revision on

kept_from : (c r : ℕ) (held : Option Version) (vs : List Version) → c ≤ r → IsHeld c held → from_on r (kept_with c held vs) ≡ from_on r vs
unfolding IsHeld
kept_from c r None [] le h = refl
kept_from c r (Some w) [] le h = let f : w.revision < r = omega (arith, le, h.0) in from_no r w [] f
kept_from c r held (v ∷ vs) le h = by_below (λ o g. kept_from c r o vs le g) (nat_lt v.revision c) refl
  where
    before : (held : Option Version) → IsHeld c held → from_on r (held_list held ++ v ∷ vs) ≡ from_on r (v ∷ vs)
    before None h = refl
    before (Some w) h = let f : w.revision < r = omega (arith, le, h.0) in from_no r w (v ∷ vs) f

    by_equal : (b : Bool) → from_on r (cond b (v ∷ vs) (held_list held ++ v ∷ vs)) ≡ from_on r (v ∷ vs)
    by_equal true = refl
    by_equal false = before held h

    by_below : ((o : Option Version) → IsHeld c o → from_on r (kept_with c o vs) ≡ from_on r vs) → (b : Bool) → nat_lt v.revision c ≡ b
        → from_on r (cond b (kept_with c (held_of v) vs) (cond (v.revision == c) (v ∷ vs) (held_list held ++ v ∷ vs))) ≡ from_on r (v ∷ vs)
    by_below rest true e =
        let lt : v.revision < c = ltb-true v.revision c e in
        let f : v.revision < r = omega (arith, lt, le) in
        rest (held_of v) (held_is_held c v lt) ∙ sym (from_no r v vs f)
    by_below rest false e = by_equal (v.revision == c)

pub kept_have_later : KeptHaveLater
unfolding IsHeld
kept_have_later h c r k le = kept_from c r None (versions h k) le tt
