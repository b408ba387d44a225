-- What is kept, with one more change of the revision that a request is making.
use Rattle.std.proofs.Common.{◌≡◌, ℕ, ◌+◌, Bool, true, false, cond, List, [], ◌∷◌, ◌++◌, Option, None, refl, sym, ◌∙◌, ap, append_assoc}
use Rattle.etcd_types.specs.declared.record.Kv.{Kv}
use Rattle.etcd_types.specs.Keys.{same}
use Rattle.store_model.specs.declared.history.KeyChange.{KeyChange}
use Rattle.store_model.specs.History.{newest, with_revision, changed_key}
use Rattle.store_model.specs.Records.{after_change, after_changes}
use Rattle.compaction_model.specs.declared.version.Version.{Version}
use Rattle.compaction_model.specs.Versions.{versions_in, last_left, kept_versions}
use Rattle.compaction_model.specs.KeyLaws.{KeptGrowByChange}
use Rattle.compaction_model.proofs.VersionProofs.{other_key, last_left-append, last_in}
use Rattle.compaction_model.proofs.KeptProofs.{kept_grow}

pub versions_in-append : (revision : ℕ) (k : List ℕ) (cs ds : List KeyChange) (old : Option Kv)
    → versions_in revision k (cs ++ ds) old ≡ versions_in revision k cs old ++ versions_in revision k ds (after_changes revision k cs old)
versions_in-append revision k [] ds old = refl
versions_in-append revision k (c ∷ cs) ds old = by_key (λ o. versions_in-append revision k cs ds o) (same (changed_key c) k) refl
  where
    after : Option Kv
    after = after_change revision k c old

    by_key : ((o : Option Kv) → versions_in revision k (cs ++ ds) o ≡ versions_in revision k cs o ++ versions_in revision k ds (after_changes revision k cs o))
        → (b : Bool) → same (changed_key c) k ≡ b
        → cond b (record { revision = revision; left = after } ∷ versions_in revision k (cs ++ ds) after) (versions_in revision k (cs ++ ds) old)
        ≡ cond b (record { revision = revision; left = after } ∷ versions_in revision k cs after) (versions_in revision k cs old) ++ versions_in revision k ds (after_changes revision k cs after)
    by_key rest true e = ap (λ (vs : List Version). record { revision = revision; left = after } ∷ vs) (rest after)
    by_key rest false e =
        rest old ∙ ap (λ (o : Option Kv). versions_in revision k cs old ++ versions_in revision k ds (after_changes revision k cs o)) (sym (other_key revision k c old e))

pub kept_grow_by_change : KeptGrowByChange
kept_grow_by_change h c k made change le =
    kept_grow h c k (made ++ change ∷ []) le
    ∙ ap (λ (vs : List Version). kept_versions h c k ++ vs) (versions_in-append (newest h + 1) k made (change ∷ []) old)
    ∙ sym (append_assoc (kept_versions h c k) (versions_in (newest h + 1) k made old) (versions_in (newest h + 1) k (change ∷ []) now))
    ∙ ap (λ (vs : List Version). vs ++ versions_in (newest h + 1) k (change ∷ []) now) (sym (kept_grow h c k made le))
    ∙ ap (λ (o : Option Kv). kept_versions (with_revision h made) c k ++ versions_in (newest h + 1) k (change ∷ []) o) (sym left)
  where
    old : Option Kv
    old = last_left (kept_versions h c k) None

    now : Option Kv
    now = after_changes (newest h + 1) k made old

    left : last_left (kept_versions (with_revision h made) c k) None ≡ now
    left =
        ap (λ (vs : List Version). last_left vs None) (kept_grow h c k made le)
        ∙ last_left-append (kept_versions h c k) (versions_in (newest h + 1) k made old) None
        ∙ last_in (newest h + 1) k made old
