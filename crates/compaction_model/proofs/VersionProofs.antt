-- The versions of a key give the record that the history leaves, now and at a revision.
use Rattle.std.proofs.Common.{◌≡◌, ℕ, zero, suc, ◌+◌, ◌-◌, ◌≤◌, ◌<◌, nat_le, Bool, true, false, cond, List, [], ◌∷◌, ◌++◌, Option, None, Some, length, take, refl, sym, ◌∙◌, ap, append_assoc, arith, le-leb}
use Rattle.std.proofs.lemmas.List.{append-nil}
use Rattle.std.proofs.lemmas.List.Elements.{filter-append}
use Rattle.std.proofs.lemmas.Bool.Decides.{nat_tests}
use Rattle.etcd_types.specs.declared.record.Kv.{Kv}
use Rattle.etcd_types.specs.Keys.{same}
use Rattle.etcd_types.specs.Records.{after_put}
use Rattle.store_model.specs.declared.history.KeyChange.{KeyChange}
use Rattle.store_model.specs.declared.history.KeyChange.TheVariants.{Put, Delete}
use Rattle.store_model.specs.History.{History, changed_key}
use Rattle.store_model.specs.Records.{after_change, after_changes, after_revisions, record_now}
use Rattle.compaction_model.specs.declared.version.Version.{Version}
use Rattle.compaction_model.specs.Versions.{versions_in, versions_from, versions, last_left, up_to, is_up_to}
use Rattle.compaction_model.specs.KeyLaws.{VersionsGiveRecords, VersionsGiveEarlier, VersionsGrow}

-- reading

pub last_left-append : (vs ws : List Version) (old : Option Kv) → last_left (vs ++ ws) old ≡ last_left ws (last_left vs old)
last_left-append [] ws old = refl
last_left-append (v ∷ vs) ws old = last_left-append vs ws v.left

-- a change of another key leaves the record
pub other_key : (revision : ℕ) (k : List ℕ) (c : KeyChange) (old : Option Kv) → same (changed_key c) k ≡ false → after_change revision k c old ≡ old
other_key revision k (Put key value lease) old e = ap (λ (b : Bool). cond b (Some (after_put old k value lease revision)) old) e
other_key revision k (Delete key) old e = ap (λ (b : Bool). cond b None old) e

pub last_in : (revision : ℕ) (k : List ℕ) (cs : List KeyChange) (old : Option Kv) → last_left (versions_in revision k cs old) old ≡ after_changes revision k cs old
last_in revision k [] old = refl
last_in revision k (c ∷ cs) old = by (λ o. last_in revision k cs o) (same (changed_key c) k) refl
  where
    after : Option Kv
    after = after_change revision k c old

    by : ((o : Option Kv) → last_left (versions_in revision k cs o) o ≡ after_changes revision k cs o) → (b : Bool) → same (changed_key c) k ≡ b
        → last_left (cond b (record { revision = revision; left = after } ∷ versions_in revision k cs after) (versions_in revision k cs old)) old ≡ after_changes revision k cs after
    by rest true e = rest after
    by rest false e = rest old ∙ ap (λ (o : Option Kv). after_changes revision k cs o) (sym (other_key revision k c old e))

last_from : (revision : ℕ) (k : List ℕ) (h : History) (old : Option Kv) → last_left (versions_from revision k h old) old ≡ after_revisions revision k h old
last_from revision k [] old = refl
last_from revision k (cs ∷ h) old =
    last_left-append (versions_in revision k cs old) (versions_from (revision + 1) k h (after_changes revision k cs old)) old
    ∙ ap (λ (o : Option Kv). last_left (versions_from (revision + 1) k h (after_changes revision k cs old)) o) (last_in revision k cs old)
    ∙ last_from (revision + 1) k h (after_changes revision k cs old)

pub versions_give_records : VersionsGiveRecords
versions_give_records h k = last_from 2 k h None

-- reading at a revision

pub up_to-yes : (r : ℕ) (v : Version) (vs : List Version) → v.revision ≤ r → up_to r (v ∷ vs) ≡ v ∷ up_to r vs
up_to-yes r v vs e = ap (λ (b : Bool). cond b (v ∷ up_to r vs) (up_to r vs)) (le-leb v.revision r e)

not_le : (a r : ℕ) → r < a → nat_le a r ≡ false
not_le a r e = grind (arith, nat_tests)

up_to-no : (r : ℕ) (v : Version) (vs : List Version) → r < v.revision → up_to r (v ∷ vs) ≡ up_to r vs
up_to-no r v vs e = ap (λ (b : Bool). cond b (v ∷ up_to r vs) (up_to r vs)) (not_le v.revision r e)

in_passes : (r revision : ℕ) (k : List ℕ) (cs : List KeyChange) (old : Option Kv) → revision ≤ r → up_to r (versions_in revision k cs old) ≡ versions_in revision k cs old
in_passes r revision k [] old e = refl
in_passes r revision k (c ∷ cs) old e = by (λ o. in_passes r revision k cs o e) (same (changed_key c) k)
  where
    after : Option Kv
    after = after_change revision k c old

    by : ((o : Option Kv) → up_to r (versions_in revision k cs o) ≡ versions_in revision k cs o) → (b : Bool)
        → up_to r (cond b (record { revision = revision; left = after } ∷ versions_in revision k cs after) (versions_in revision k cs old))
        ≡ cond b (record { revision = revision; left = after } ∷ versions_in revision k cs after) (versions_in revision k cs old)
    by rest true = up_to-yes r (record { revision = revision; left = after }) (versions_in revision k cs after) e
        ∙ ap (λ (vs : List Version). record { revision = revision; left = after } ∷ vs) (rest after)
    by rest false = rest old

in_fails : (r revision : ℕ) (k : List ℕ) (cs : List KeyChange) (old : Option Kv) → r < revision → up_to r (versions_in revision k cs old) ≡ []
in_fails r revision k [] old e = refl
in_fails r revision k (c ∷ cs) old e = by (λ o. in_fails r revision k cs o e) (same (changed_key c) k)
  where
    after : Option Kv
    after = after_change revision k c old

    by : ((o : Option Kv) → up_to r (versions_in revision k cs o) ≡ []) → (b : Bool)
        → up_to r (cond b (record { revision = revision; left = after } ∷ versions_in revision k cs after) (versions_in revision k cs old)) ≡ []
    by rest true = up_to-no r (record { revision = revision; left = after }) (versions_in revision k cs after) e ∙ rest after
    by rest false = rest old

from_fails : (r revision : ℕ) (k : List ℕ) (h : History) (old : Option Kv) → r < revision → up_to r (versions_from revision k h old) ≡ []
from_fails r revision k [] old e = refl
from_fails r revision k (cs ∷ h) old e =
    let f : r < revision + 1 = omega (arith, e) in
    filter-append (is_up_to r) (versions_in revision k cs old) (versions_from (revision + 1) k h (after_changes revision k cs old))
    ∙ ap (λ (vs : List Version). vs ++ up_to r (versions_from (revision + 1) k h (after_changes revision k cs old))) (in_fails r revision k cs old e)
    ∙ from_fails r (revision + 1) k h (after_changes revision k cs old) f

-- of the revisions from here on the first n are those up to r
from_upto : (n r revision : ℕ) (k : List ℕ) (h : History) (old : Option Kv) → r + 1 ≡ revision + n
    → up_to r (versions_from revision k h old) ≡ versions_from revision k (take n h) old
from_upto zero r revision k h old e = let f : r < revision = omega (arith, e) in from_fails r revision k h old f
from_upto (suc n) r revision k [] old e = refl
from_upto (suc n) r revision k (cs ∷ h) old e =
    let le : revision ≤ r = omega (arith, e) in
    let next : r + 1 ≡ (revision + 1) + n = omega (arith, e) in
    filter-append (is_up_to r) (versions_in revision k cs old) (versions_from (revision + 1) k h (after_changes revision k cs old))
    ∙ ap (λ (vs : List Version). vs ++ up_to r (versions_from (revision + 1) k h (after_changes revision k cs old))) (in_passes r revision k cs old le)
    ∙ ap (λ (vs : List Version). versions_in revision k cs old ++ vs) (from_upto n r (revision + 1) k h (after_changes revision k cs old) next)

pub versions_give_earlier : VersionsGiveEarlier
versions_give_earlier h zero k = let f : 0 < 2 = omega arith in ap (λ (vs : List Version). last_left vs None) (from_fails 0 2 k h None f)
versions_give_earlier h (suc r) k =
    let f : suc r + 1 ≡ 2 + (suc r - 1) = omega arith in
    ap (λ (vs : List Version). last_left vs None) (from_upto (suc r - 1) (suc r) 2 k h None f)
    ∙ versions_give_records (take (suc r - 1) h) k

-- growing

from_snoc : (revision : ℕ) (k : List ℕ) (h : History) (cs : List KeyChange) (old : Option Kv)
    → versions_from revision k (h ++ cs ∷ []) old ≡ versions_from revision k h old ++ versions_in (length h + revision) k cs (after_revisions revision k h old)
from_snoc revision k [] cs old = let e : 0 + revision ≡ revision = omega arith in rw e (append-nil (versions_in revision k cs old))
from_snoc revision k (ds ∷ h) cs old =
    let e : suc (length h) + revision ≡ length h + (revision + 1) = omega arith in
    let old' = after_changes revision k ds old in
    ap (λ (vs : List Version). versions_in revision k ds old ++ vs) (from_snoc (revision + 1) k h cs old')
    ∙ sym (append_assoc (versions_in revision k ds old) (versions_from (revision + 1) k h old') (versions_in (length h + (revision + 1)) k cs (after_revisions (revision + 1) k h old')))
    ∙ ap (λ n. (versions_in revision k ds old ++ versions_from (revision + 1) k h old') ++ versions_in n k cs (after_revisions (revision + 1) k h old')) (sym e)

pub versions_grow : VersionsGrow
versions_grow h k [] = sym (append-nil (versions h k))
versions_grow h k (c ∷ cs) =
    let e : length h + 2 ≡ (length h + 1) + 1 = omega arith in
    from_snoc 2 k h (c ∷ cs) None
    ∙ ap (λ n. versions h k ++ versions_in n k (c ∷ cs) (record_now h k)) e
