-- How many versions the entries of an index hold is how many are kept of the history.
use Rattle.std.proofs.Common.{◌≡◌, ℕ, ◌+◌, ◌≤◌, min, arith, true, false, List, [], ◌∷◌, ◌++◌, length, ◌⊎◌, inl, inr, refl, sym, ◌∙◌, ap}
use Rattle.std.specs.List.{All, flat_map}
use Rattle.std.specs.Map.{keys_of}
use Rattle.std.proofs.lemmas.List.Elements.{All-head, All-tail}
use Rattle.etcd_types.proofs.Bools.{true_or_false}
use Rattle.store_model.specs.History.{History}
use Rattle.store_model.specs.Leases.{all_keys}
use Rattle.store_model.specs.Ranges.{keys_in}
use Rattle.compaction_model.specs.declared.version.Version.{Version}
use Rattle.compaction_model.specs.Versions.{kept, kept_versions}
use Rattle.store_index.specs.Maps.{Entries, AreOrdered, versions_of}
use Rattle.store_index.specs.Leases.{has_key}
use Rattle.store_index.specs.Count.{count_kept}
use Rattle.store_index.specs.Kept.{Keeps}
use Rattle.store_index.proofs.Gathering.{Covers, same_gathered, ordered_rise}
use Rattle.store_index.proofs.HistoryKeys.{keys_rise, versions_known}
use Rattle.store_index.proofs.LeaseLemmas.{read_entries, missing}

all_gathered : (es fs : Entries) → All (λ e. versions_of es e.0 ≡ e.1) fs → flat_map (λ e. e.1) fs ≡ flat_map (versions_of es) (keys_of fs)
all_gathered es [] a = refl
all_gathered es (e ∷ fs) a = λ i. sym (All-head (λ f. versions_of es f.0 ≡ f.1) e fs a) i ++ all_gathered es fs (All-tail (λ f. versions_of es f.0 ≡ f.1) e fs a) i

entries_known : (h : History) (c : ℕ) (ks : List (List ℕ)) → Covers (kept_versions h c) ks (keys_in h all_keys)
entries_known h c ks = record { at = λ k i. elim (versions_known h k) [ inl e ↦ inl (ap (kept c) e) | inr b ↦ inr b ] }

history_covers : (latest c : ℕ) (es : Entries) (ps : List (List (List ℕ))) (h : History) → Keeps latest c es ps h → Covers (kept_versions h c) (keys_in h all_keys) (keys_of es)
history_covers latest c es ps h holds = record {
  at = λ k i.
      elim (true_or_false (has_key k (keys_of es))) [
        | inl there ↦ inr there
        | inr none ↦ inl (sym (holds.versions k) ∙ missing es k none)
      ];
}

pub entries_counted : (latest c : ℕ) (es : Entries) (ps : List (List (List ℕ))) (h : History) → Keeps latest c es ps h → AreOrdered es
    → length (flat_map (λ e. e.1) es) ≡ count_kept h c
entries_counted latest c es ps h holds ordered =
    ap length
    (all_gathered es es (read_entries es ordered)
    ∙ (λ i. flat_map (λ k. holds.versions k i) (keys_of es))
    ∙ same_gathered (kept_versions h c) (keys_of es) (keys_in h all_keys) (ordered_rise (keys_of es) ordered) (keys_rise h all_keys)
    (entries_known h c (keys_of es)) (history_covers latest c es ps h holds))

-- counting one entry after the other

pub counted_all : (count most total : ℕ) (left : Entries) → left ≡ [] → count ≤ most → min (count + length (flat_map (λ e. e.1) left)) most ≡ total → count ≡ total
counted_all count most total left none few e =
    let same : length (flat_map (λ (f : List ℕ × List Version). f.1) left) ≡ 0 = ap (λ (es : Entries). length (flat_map (λ f. f.1) es)) none in
    let all : count ≡ min (count + length (flat_map (λ (f : List ℕ × List Version). f.1) left)) most = omega (arith, same, few) in
    all ∙ e
