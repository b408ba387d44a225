-- What an index holds, through its steps.
use Rattle.std.proofs.Common.{◌≡◌, ℕ, ◌+◌, ◌-◌, ◌≤◌, ◌<◌, List, [], ◌∷◌, ◌++◌, None, Some, length, take, drop, map, get_or, ◌==◌, Bool, true, refl, sym, ◌∙◌, ap, subst, arith}
use Rattle.std.proofs.Math.Logic.{∥∥₁_map}
use Rattle.std.proofs.Math.Seq.{take-append_seam}
use Rattle.std.proofs.lemmas.List.{length-append, get_or-drop, get_or-map}
use Rattle.etcd_types.specs.declared.key_range.KeyRange.{KeyRange}
use Rattle.store_model.specs.declared.history.KeyChange.{KeyChange}
use Rattle.store_model.specs.History.{History, newest, with_revision, up_to_revision}
use Rattle.store_model.specs.Records.{record_now}
use Rattle.store_model.specs.Ranges.{records_now, records_in}
use Rattle.compaction_model.specs.declared.version.Version.{Version}
use Rattle.compaction_model.specs.Versions.{last_left, up_to, kept, kept_versions}
use Rattle.compaction_model.specs.Places.{changed_keys, kept_places}
use Rattle.compaction_model.proofs.KeptProofs.{kept_give_now, kept_give_earlier, kept_grow, kept_again}
use Rattle.compaction_model.proofs.PlaceProofs.{places_grow, places_again}
use Rattle.store_index.specs.declared.index.Index.{Index}
use Rattle.store_index.specs.Maps.{Entries, AreOrdered, versions_of, left_by, shown_by}
use Rattle.store_index.specs.Adding.{added_all, with_changes}
use Rattle.store_index.specs.Kept.{Keeps, KeepsSome}
use Rattle.store_index.specs.Index.{HoldsKept}
use Rattle.store_index.proofs.AddingLemmas.{changes-added}
use Rattle.store_index.proofs.EntryLemmas.{not_none}
use Rattle.store_index.proofs.ListedRecords.{listings_are_ranges}

pub begins_empty : Keeps 1 0 [] [] []
begins_empty = record { same_newest = refl; past = omega arith; versions = λ k. refl; places = refl }

pub record_held : (i : Index) (h : History) (k : List ℕ) → HoldsKept i h → last_left (versions_of i.versions k) None ≡ record_now h k
record_held i h k holds = ap (λ (vs : List Version). last_left vs None) (holds.versions k) ∙ kept_give_now h i.compacted k

pub records_held : (i : Index) (h : History) (range : KeyRange) → HoldsKept i h → AreOrdered i.versions
    → shown_by (left_by None) range i.versions ≡ records_now h range
records_held i h range holds ordered = listings_are_ranges i.versions (left_by None) h range ordered refl (λ k within. record_held i h k holds)

pub earlier_held : (i : Index) (h : History) (range : KeyRange) (r : ℕ) → HoldsKept i h → AreOrdered i.versions → i.compacted ≤ r
    → shown_by (left_by (Some r)) range i.versions ≡ records_in h r range
earlier_held i h range r holds ordered le =
    listings_are_ranges i.versions (left_by (Some r)) (up_to_revision h r) range ordered refl
    (λ k within. ap (λ (vs : List Version). last_left (up_to r vs) None) (holds.versions k) ∙ kept_give_earlier h i.compacted r k le)

-- the same, of parts that are equal
pub keeps_as : (l m c d : ℕ) (es fs : Entries) (ps qs : List (List (List ℕ))) (h : History) → l ≡ m → c ≡ d → es ≡ fs → ps ≡ qs → Keeps l c es ps h → Keeps m d fs qs h
keeps_as l m c d es fs ps qs h n e v p k = record {
  same_newest = sym n ∙ k.same_newest;
  past = subst (λ x. x ≤ newest h) e k.past;
  versions = λ key. ap (λ (gs : Entries). versions_of gs key) (sym v) ∙ k.versions key ∙ ap (λ x. kept_versions h x key) e;
  places = sym p ∙ k.places ∙ ap (kept_places h) e;
}

pub some_as : (l m c d : ℕ) (es fs : Entries) (ps qs : List (List (List ℕ))) → l ≡ m → c ≡ d → es ≡ fs → ps ≡ qs → KeepsSome l c es ps → KeepsSome m d fs qs
some_as l m c d es fs ps qs n e v p k = ∥∥₁_map k (λ x. (x.0, keeps_as l m c d es fs ps qs x.0 n e v p x.1))

-- a further revision

grown : (l c : ℕ) (es : Entries) (ps : List (List (List ℕ))) (h : History) (d : KeyChange) (ds : List KeyChange) → Keeps l c es ps h
    → Keeps (l + 1) c (added_all (l + 1) (d ∷ ds) es) (ps ++ changed_keys (d ∷ ds) ∷ []) (with_revision h (d ∷ ds))
grown l c es ps h d ds k =
    let past : c ≤ newest h = k.past in
    let next : newest (with_revision h (d ∷ ds)) ≡ newest h + 1 = omega (arith, length-append h ((d ∷ ds) ∷ [])) in
    record {
      same_newest = ap (λ m. m + 1) k.same_newest ∙ sym next;
      past = omega (arith, past, next);
      versions = λ key.
          changes-added (l + 1) (d ∷ ds) es key
          ∙ ap (λ (vs : List Version). with_changes (l + 1) (d ∷ ds) vs key) (k.versions key)
          ∙ ap (λ m. with_changes (m + 1) (d ∷ ds) (kept_versions h c key) key) k.same_newest
          ∙ sym (kept_grow h c key (d ∷ ds) past);
      places = ap (λ qs. qs ++ changed_keys (d ∷ ds) ∷ []) k.places ∙ sym (places_grow h c d ds past);
    }

pub grown_by : (l c : ℕ) (es : Entries) (ps : List (List (List ℕ))) (h : History) (made : List KeyChange) → 0 < length made → Keeps l c es ps h
    → Keeps (l + 1) c (added_all (l + 1) made es) (ps ++ changed_keys made ∷ []) (with_revision h made)
grown_by l c es ps h [] some k = absurd (omega arith)
grown_by l c es ps h (d ∷ ds) some k = grown l c es ps h d ds k

pub some_grown : (l c : ℕ) (es : Entries) (ps : List (List (List ℕ))) (made : List KeyChange) → 0 < length made → KeepsSome l c es ps
    → KeepsSome (l + 1) c (added_all (l + 1) made es) (ps ++ changed_keys made ∷ [])
some_grown l c es ps made some k = ∥∥₁_map k (λ x. (with_revision x.0 made, grown_by l c es ps x.0 made some x.1))

-- a compaction

pub compacted_keeps : (l c d : ℕ) (es fs : Entries) (ps : List (List (List ℕ))) (h : History) → Keeps l c es ps h → c ≤ d → d ≤ l
    → ((k : List ℕ) → versions_of fs k ≡ kept d (versions_of es k)) → Keeps l d fs (drop (d - 2 - (c - 2)) ps) h
compacted_keeps l c d es fs ps h k le within v = record {
  same_newest = k.same_newest;
  past = subst (λ n. d ≤ n) k.same_newest within;
  versions = λ key. v key ∙ ap (kept d) (k.versions key) ∙ sym (kept_again h c d key le);
  places = ap (drop (d - 2 - (c - 2))) k.places ∙ sym (places_again h c d le);
}

pub some_compacted : (l c d : ℕ) (es fs : Entries) (ps : List (List (List ℕ))) → KeepsSome l c es ps → c ≤ d → d ≤ l
    → ((k : List ℕ) → versions_of fs k ≡ kept d (versions_of es k)) → KeepsSome l d fs (drop (d - 2 - (c - 2)) ps)
some_compacted l c d es fs ps k le within v = ∥∥₁_map k (λ x. (x.0, compacted_keeps l c d es fs ps x.0 x.1 le within v))

-- where the keys of a revision stand

pub place_of_revision : (l c r at : ℕ) (es : Entries) (ps : List (List (List ℕ))) (h : History) → Keeps l c es ps h → 2 ≤ r → r ≤ l → c - 2 + at ≡ r - 2
    → get_or ps at [] ≡ changed_keys (get_or h (r - 2) [])
place_of_revision l c r at es ps h k first last here =
    let latest : l ≡ length h + 1 = k.same_newest in
    let within : r - 2 < length h = omega (arith, latest, first, last) in
    ap (λ qs. get_or qs at []) k.places
    ∙ get_or-drop (c - 2) (map changed_keys h) at []
    ∙ ap (λ n. get_or (map changed_keys h) n []) here
    ∙ get_or-map changed_keys h (r - 2) [] [] within

-- what was put behind is taken back

pub taken_back : (ps new back : List (List (List ℕ))) (ks : List (List ℕ)) → new ≡ ps ++ ks ∷ [] → back ≡ take (length new - 1) new → back ≡ ps
taken_back ps new back ks is b =
    let long : length (ps ++ ks ∷ []) - 1 ≡ length ps = omega (arith, length-append ps (ks ∷ [])) in
    b ∙ ap (λ qs. take (length qs - 1) qs) is ∙ ap (λ n. take n (ps ++ ks ∷ [])) long ∙ take-append_seam ps (ks ∷ [])

-- a request that made no change sees the history

pub none_made : (h : History) (made : List KeyChange) → (length made == 0) ≡ true → h ≡ with_revision h made
none_made h [] e = refl
none_made h (d ∷ ds) e = let f = not_none (length ds) in absurd (cc)
