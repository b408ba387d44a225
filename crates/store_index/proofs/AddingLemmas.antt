-- The changes of a revision, added and taken back.
use Rattle.std.proofs.Common.{◌≡◌, ℕ, ◌≤◌, Bool, true, false, cond, List, [], ◌∷◌, ◌++◌, Option, None, Some, length, take, refl, sym, ◌∙◌, ap, append_assoc, length-append, arith}
use Rattle.std.proofs.Math.Seq.{take-append_seam}
use Rattle.std.proofs.lemmas.List.{append-nil, length-map, take-map}
use Rattle.std.specs.Option.{unwrap_or}
use Rattle.std.specs.Ordering.{nat_cmp}
use Rattle.std.specs.Cmp.Lexicographic.{slice_cmp}
use Rattle.std.specs.Map.{set_value}
use Rattle.std.specs.BTreeMap.{is_at, insert_entry}
use Rattle.etcd_types.specs.declared.record.Kv.{Kv}
use Rattle.etcd_types.specs.Keys.{same}
use Rattle.etcd_types.specs.Records.{after_put}
use Rattle.etcd_types.proofs.KeyOrder.{same-equal, same-itself}
use Rattle.store_model.specs.declared.history.KeyChange.{KeyChange}
use Rattle.store_model.specs.declared.history.KeyChange.TheVariants.{Put, Delete}
use Rattle.store_model.specs.History.{changed_key}
use Rattle.store_model.specs.Records.{after_change}
use Rattle.compaction_model.specs.declared.version.Version.{Version}
use Rattle.compaction_model.specs.Versions.{versions_in, last_left}
use Rattle.compaction_model.specs.Places.{changed_keys}
use Rattle.compaction_model.proofs.VersionProofs.{last_left-append}
use Rattle.store_index.specs.Maps.{Entries, versions_of, found, added_at, taken, HaveVersions}
use Rattle.store_index.specs.Adding.{version_from, version_of, with_change, added_all, taken_all, with_changes}
use Rattle.store_index.proofs.EntryLemmas.{versions-added, added-HaveVersions, taken-added}

pub added_all-push : (r : ℕ) (cs : List KeyChange) (c : KeyChange) (es : Entries) → added_all r (cs ++ c ∷ []) es ≡ with_change r c (added_all r cs es)
added_all-push r [] c es = refl
added_all-push r (d ∷ cs) c es = added_all-push r cs c (with_change r d es)

pub taken_all-push : (ks : List (List ℕ)) (k : List ℕ) (es : Entries) → taken_all (ks ++ k ∷ []) es ≡ taken_all ks (taken_all (k ∷ []) es)
taken_all-push [] k es = refl
taken_all-push (j ∷ ks) k es = ap (λ (fs : Entries). taken j fs) (taken_all-push ks k es)

pub added_all-HaveVersions : (r : ℕ) (cs : List KeyChange) (es : Entries) → HaveVersions es → HaveVersions (added_all r cs es)
added_all-HaveVersions r [] es h = h
added_all-HaveVersions r (c ∷ cs) es h = added_all-HaveVersions r cs (with_change r c es) (added-HaveVersions (changed_key c) (version_of r c es) es h)

pub taken-added_all : (r : ℕ) (cs : List KeyChange) (es : Entries) → HaveVersions es → taken_all (changed_keys cs) (added_all r cs es) ≡ es
taken-added_all r [] es h = refl
taken-added_all r (c ∷ cs) es h =
    ap (λ (fs : Entries). taken (changed_key c) fs) (taken-added_all r cs (with_change r c es) (added-HaveVersions (changed_key c) (version_of r c es) es h))
    ∙ taken-added (changed_key c) (version_of r c es) es h

-- the keys of the changes that were passed
pub keys_passed : (keys : List (List ℕ)) (changes passed left : List KeyChange) (n : ℕ) → keys ≡ changed_keys changes → passed ++ left ≡ changes → n ≡ length passed
    → (take n keys ≡ changed_keys passed) × (n ≤ length keys)
keys_passed keys changes passed left n of_all all count =
    let whole : keys ≡ changed_keys (passed ++ left) = of_all ∙ ap changed_keys (sym all) in
    let long : length keys ≡ length (passed ++ left) = ap length whole ∙ length-map (passed ++ left) changed_key in (
      (λ i. take (count i) (whole i)) ∙ take-map changed_key (length passed) (passed ++ left) ∙ ap changed_keys (take-append_seam passed left),
      omega (arith, long, count, length-append passed left),
    )

-- what a change leaves is what its record becomes

made_by : (r : ℕ) (c : KeyChange) (old : Option Kv) → version_from r c old ≡ record { revision = r; left = after_change r (changed_key c) c old }
made_by r (Put key value lease) old =
    ap (λ (b : Bool). record { revision = r; left = cond b (Some (after_put old key value lease r)) old }) (sym (same-itself key))
made_by r (Delete key) old = ap (λ (b : Bool). record { revision = r; left = cond b None old }) (sym (same-itself key))

-- a version behind those that were found, and a first one

pub change_found : (r : ℕ) (c : KeyChange) (es : Entries) (vs : List Version) → found (changed_key c) es ≡ Some vs
    → with_change r c es ≡ set_value (is_at (slice_cmp nat_cmp (changed_key c))) es (vs ++ version_from r c (last_left vs None) ∷ [])
change_found r c es vs e =
    ap (λ (o : Option (List Version)). added_at (changed_key c) (version_from r c (last_left (unwrap_or o []) None)) es o) e

pub change_missing : (r : ℕ) (c : KeyChange) (es : Entries) → found (changed_key c) es ≡ None
    → with_change r c es ≡ insert_entry (slice_cmp nat_cmp) es (changed_key c) (version_from r c None ∷ [])
change_missing r c es e =
    ap (λ (o : Option (List Version)). added_at (changed_key c) (version_from r c (last_left (unwrap_or o []) None)) es o) e

pub changes-added : (r : ℕ) (cs : List KeyChange) (es : Entries) (k : List ℕ) → versions_of (added_all r cs es) k ≡ with_changes r cs (versions_of es k) k
changes-added r [] es k = sym (append-nil (versions_of es k))
changes-added r (c ∷ cs) es k = changes-added r cs (with_change r c es) k ∙ by_key (same (changed_key c) k) refl
  where
    old : Option Kv
    old = last_left (versions_of es k) None

    first : versions_of (with_change r c es) k ≡ cond (same (changed_key c) k) (versions_of es (changed_key c) ++ version_of r c es ∷ []) (versions_of es k)
    first = versions-added (changed_key c) (version_of r c es) es k

    by_key : (b : Bool) → same (changed_key c) k ≡ b
        → with_changes r cs (versions_of (with_change r c es) k) k
        ≡ versions_of es k ++ cond b (record { revision = r; left = after_change r k c old } ∷ versions_in r k cs (after_change r k c old)) (versions_in r k cs old)
    by_key true e =
        ap (λ (vs : List Version). with_changes r cs vs k)
        (first ∙ ap (λ (b : Bool). cond b (versions_of es (changed_key c) ++ version_of r c es ∷ []) (versions_of es k)) e
        ∙ ap (λ (v : Version). versions_of es (changed_key c) ++ v ∷ []) (made_by r c (last_left (versions_of es (changed_key c)) None))
        ∙ ap (λ (j : List ℕ). versions_of es j ++ record { revision = r; left = after_change r j c (last_left (versions_of es j) None) } ∷ []) (same-equal (changed_key c) k e))
        ∙ ap (λ (o : Option Kv). (versions_of es k ++ record { revision = r; left = after_change r k c old } ∷ []) ++ versions_in r k cs o)
        (last_left-append (versions_of es k) (record { revision = r; left = after_change r k c old } ∷ []) None)
        ∙ append_assoc (versions_of es k) (record { revision = r; left = after_change r k c old } ∷ []) (versions_in r k cs (after_change r k c old))
    by_key false e =
        ap (λ (vs : List Version). with_changes r cs vs k)
        (first ∙ ap (λ (b : Bool). cond b (versions_of es (changed_key c) ++ version_of r c es ∷ []) (versions_of es k)) e)
