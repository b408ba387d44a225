-- The records of a range with a running request's changes: what the entries made of them read.
use Rattle.std.proofs.Common.{◌≡◌, ℕ, ◌+◌, Bool, true, false, cond, List, [], ◌∷◌, ◌++◌, Option, None, Some, Contains, ◌⊎◌, inl, inr, refl, sym, ◌∙◌, ap, subst, length, arith}
use Rattle.std.proofs.lemmas.List.{take_more}
use Rattle.std.proofs.lemmas.List.Elements.{Contains-append_left, Contains-append_right, Contains-append_cases, Contains-push, Contains-push_cases}
use Rattle.etcd_types.specs.declared.record.Kv.{Kv}
use Rattle.etcd_types.specs.declared.key_range.KeyRange.{KeyRange}
use Rattle.etcd_types.specs.Keys.{same}
use Rattle.etcd_types.specs.Ranges.{contains}
use Rattle.etcd_types.proofs.KeyOrder.{same-equal, same-itself}
use Rattle.store_model.specs.declared.history.KeyChange.{KeyChange}
use Rattle.store_model.specs.History.{History, newest, with_revision}
use Rattle.store_model.specs.Records.{after_changes, record_now}
use Rattle.store_model.specs.Ranges.{records_now}
use Rattle.store_model.proofs.HistoryLemmas.{record_now-with_revision}
use Rattle.store_laws.proofs.Requests.RangeProofs.{keyed-now, ranges_are_exact}
use Rattle.compaction_model.specs.declared.version.Version.{Version}
use Rattle.compaction_model.specs.Versions.{last_left, versions_in}
use Rattle.compaction_model.proofs.VersionProofs.{last_left-append, last_in}
use Rattle.store_index.specs.Maps.{Entries, AreOrdered, versions_of, HaveVersions, left_by, shown_by}
use Rattle.store_index.specs.Adding.{added_all, with_changes}
use Rattle.store_index.specs.Seen.{with_record, with_records}
use Rattle.store_index.proofs.EntryLemmas.{versions-added, added-HaveVersions}
use Rattle.store_index.proofs.AddingLemmas.{changes-added}
use Rattle.store_index.proofs.ListedRecords.{listings_are_ranges}

pub with_records-push : (kvs : List Kv) (kv : Kv) (es : Entries) → with_records (kvs ++ kv ∷ []) es ≡ with_record kv (with_records kvs es)
with_records-push [] kv es = refl
with_records-push (x ∷ kvs) kv es = with_records-push kvs kv (with_record x es)

pub with_records-HaveVersions : (kvs : List Kv) (es : Entries) → HaveVersions es → HaveVersions (with_records kvs es)
with_records-HaveVersions [] es h = h
with_records-HaveVersions (kv ∷ kvs) es h =
    with_records-HaveVersions kvs (with_record kv es) (added-HaveVersions kv.key (record { revision = kv.modified; left = Some kv }) es h)

-- the last of these records with this key, and else `old`
last_of : List ℕ → List Kv → Option Kv → Option Kv
last_of k [] old = old
last_of k (kv ∷ kvs) old = last_of k kvs (cond (same kv.key k) (Some kv) old)

record_added : (kv : Kv) (es : Entries) (k : List ℕ) → last_left (versions_of (with_record kv es) k) None ≡ cond (same kv.key k) (Some kv) (last_left (versions_of es k) None)
record_added kv es k =
    ap (λ (vs : List Version). last_left vs None) (versions-added kv.key (record { revision = kv.modified; left = Some kv }) es k) ∙ by_key (same kv.key k)
  where
    by_key : (b : Bool) → last_left (cond b (versions_of es kv.key ++ record { revision = kv.modified; left = Some kv } ∷ []) (versions_of es k)) None
        ≡ cond b (Some kv) (last_left (versions_of es k) None)
    by_key true = last_left-append (versions_of es kv.key) (record { revision = kv.modified; left = Some kv } ∷ []) None
    by_key false = refl

records_added : (kvs : List Kv) (es : Entries) (k : List ℕ) → last_left (versions_of (with_records kvs es) k) None ≡ last_of k kvs (last_left (versions_of es k) None)
unfolding last_of
records_added [] es k = refl
records_added (kv ∷ kvs) es k = records_added kvs (with_record kv es) k ∙ ap (last_of k kvs) (record_added kv es k)

-- that record is among them, or it is `old`, and none of them has the key

Missing : List ℕ → List Kv → Type 0
Missing k kvs = (kv : Kv) → Contains kvs kv → same kv.key k ≡ false

none_in : (x : Kv) → Contains [] x → ⊥
none_in x c = omega arith

missing_more : (k : List ℕ) (x : Kv) (kvs : List Kv) → same x.key k ≡ false → Missing k kvs → Missing k (x ∷ kvs)
unfolding Missing
missing_more k x kvs e m kv c =
    elim (Contains-append_cases (x ∷ []) kvs kv c) [
      | inl one ↦ elim (Contains-push_cases [] x kv one) [ inl n ↦ absurd (none_in kv n) | inr f ↦ ap (λ (y : Kv). same y.key k) (sym f) ∙ e ]
      | inr d ↦ m kv d
    ]

Found : List ℕ → List Kv → Option Kv → Option Kv → Type 0
Found k kvs old result = ((kv : Kv) × (result ≡ Some kv) × Contains kvs kv × (same kv.key k ≡ true)) ⊎ ((result ≡ old) × Missing k kvs)

last_found : (k : List ℕ) (kvs : List Kv) (old : Option Kv) → Found k kvs old (last_of k kvs old)
unfolding last_of Found Missing
last_found k [] old = inr (refl, λ kv c. absurd (none_in kv c))
last_found k (x ∷ kvs) old = by_key (same x.key k) refl (λ o. last_found k kvs o)
  where
    by_key : (b : Bool) → same x.key k ≡ b → ((o : Option Kv) → Found k kvs o (last_of k kvs o)) → Found k (x ∷ kvs) old (last_of k kvs (cond b (Some x) old))
    by_key true e next =
        elim (next (Some x)) [
          | inl f ↦ inl (f.0, f.1, Contains-append_right (x ∷ []) kvs f.0 f.2, f.3)
          | inr f ↦ inl (x, f.0, Contains-append_left (x ∷ []) kvs x (Contains-push [] x), e)
        ]
    by_key false e next =
        elim (next old) [
          | inl f ↦ inl (f.0, f.1, Contains-append_right (x ∷ []) kvs f.0 f.2, f.3)
          | inr f ↦ inr (f.0, missing_more k x kvs e f.1)
        ]

-- of the records of a range it is the record of the key
last_is_record : (h : History) (range : KeyRange) (k : List ℕ) → contains range k ≡ true → last_of k (records_now h range) None ≡ record_now h k
unfolding Found Missing
last_is_record h range k within =
    elim (last_found k (records_now h range) None) [
      | inl f ↦ f.1 ∙ sym ((ranges_are_exact h range f.0).0 f.2).0 ∙ ap (record_now h) (same-equal f.0.key k f.3)
      | inr f ↦ f.0 ∙ sym (by_record (record_now h k) refl f.1)
    ]
  where
    by_record : (o : Option Kv) → record_now h k ≡ o → Missing k (records_now h range) → o ≡ None
    by_record None e m = refl
    by_record (Some kv) e m =
        let key : kv.key ≡ k = keyed-now h k kv e in
        let there : Contains (records_now h range) kv = (ranges_are_exact h range kv).1 (ap (record_now h) key ∙ e, ap (contains range) key ∙ within) in
        let is_not : same kv.key k ≡ false = m kv there in
        let is : same kv.key k ≡ true = ap (λ (j : List ℕ). same j k) key ∙ same-itself k in
        absurd (cc)

-- with the changes added, they show what the range shows once the changes are made
pub seen_with_changes : (r : ℕ) (h : History) (range : KeyRange) (made : List KeyChange) (kvs : List Kv) (es : Entries) → r ≡ newest h + 1 → kvs ≡ records_now h range
    → es ≡ added_all r made (with_records kvs []) → AreOrdered es → shown_by (left_by None) range es ≡ records_now (with_revision h made) range
seen_with_changes r h range made kvs es next listed is ordered =
    listings_are_ranges es (left_by None) (with_revision h made) range ordered refl
    (λ k within.
    let seeds : Entries = with_records kvs [] in
    let next' : r ≡ length h + 2 = omega (arith, next) in
    ap (λ (fs : Entries). last_left (versions_of fs k) None) is
    ∙ ap (λ (vs : List Version). last_left vs None) (changes-added r made seeds k)
    ∙ last_left-append (versions_of seeds k) (versions_in r k made (last_left (versions_of seeds k) None)) None
    ∙ last_in r k made (last_left (versions_of seeds k) None)
    ∙ ap (after_changes r k made) (records_added kvs [] k ∙ ap (λ (rs : List Kv). last_of k rs None) listed ∙ last_is_record h range k within)
    ∙ ap (λ n. after_changes n k made (record_now h k)) next'
    ∙ sym (record_now-with_revision h k made))

pub nothing-HaveVersions : HaveVersions []
nothing-HaveVersions k e = cc
