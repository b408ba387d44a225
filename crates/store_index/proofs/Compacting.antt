-- The entries of an ordered map after each list of versions was cut to what a compaction keeps, and the empty ones went.
use Rattle.std.proofs.Common.{◌≡◌, ℕ, ◌==◌, not, Bool, true, false, cond, List, [], ◌∷◌, Option, None, Some, length, map, filter, refl, sym, ◌∙◌, ap, subst}
use Rattle.std.specs.Option.{unwrap_or, option_map}
use Rattle.std.specs.Ordering.{nat_cmp, eq_by_cmp}
use Rattle.std.specs.Cmp.{eq_by_cmp_equiv}
use Rattle.std.specs.Cmp.Lexicographic.{slice_cmp}
use Rattle.std.specs.List.{IsDistinct}
use Rattle.std.specs.List.Sorted.{IsStrictlySortedBy}
use Rattle.std.specs.Map.{keys_of, lookup}
use Rattle.std.specs.Map.Calls.{RetainsPairs}
use Rattle.std.specs.BTreeMap.{is_at}
use Rattle.std.proofs.lemmas.Cmp.{nat_list_cmp_total}
use Rattle.std.proofs.lemmas.Map.Entries.{option_filter, lookup-filter-values}
use Rattle.std.proofs.lemmas.Map.Keys.{IsDistinct-from_sorted}
use Rattle.compaction_model.specs.declared.version.Version.{Version}
use Rattle.compaction_model.specs.Versions.{kept}
use Rattle.store_index.specs.Maps.{Entries, versions_of, found, HaveVersions}
use Rattle.store_index.proofs.EntryLemmas.{not_none}

-- the closure changes each value by g, and keeps what then passes p
pub retained : {F K X : Type 0} (T : F → K → X → Bool → X → F → Type 0) (p : X → Bool) (g : X → X) (f : F)
    → ((k : K) (v : X) (b : Bool) (w : X) (f' : F) → T f k v b w f' → (b ≡ p (g v)) × (w ≡ g v) × (f' ≡ f))
    → (es kept : List (K × X)) → RetainsPairs T f es kept → kept ≡ filter (λ e. p e.1) (map (λ e. (e.0, g e.1)) es)
retained T p g f same [] kept r = r
retained T p g f same (e ∷ es) kept (b, w, f', rest, call, runs, is) =
    let s = same e.0 e.1 b w f' call in
    let more = retained T p g f same es rest (subst (λ h. RetainsPairs T h es rest) s.2 runs) in
    is ∙ (λ i. cond (s.0 i) ((e.0, s.1 i) ∷ more i) (more i))

lookup-map : {K X : Type 0} (test : K → Bool) (g : X → X) (es : List (K × X)) → lookup test (map (λ e. (e.0, g e.1)) es) ≡ option_map g (lookup test es)
lookup-map test g [] = refl
lookup-map test g (e ∷ es) = by_test (test e.0) (lookup-map test g es)
  where
    by_test : (b : Bool) → lookup test (map (λ e. (e.0, g e.1)) es) ≡ option_map g (lookup test es)
        → cond b (Some (g e.1)) (lookup test (map (λ e. (e.0, g e.1)) es)) ≡ option_map g (cond b (Some e.1) (lookup test es))
    by_test true h = refl
    by_test false h = h

keys-map : {K X : Type 0} (g : X → X) (es : List (K × X)) → keys_of (map (λ e. (e.0, g e.1)) es) ≡ keys_of es
keys-map g [] = refl
keys-map g (e ∷ es) = ap (λ ks. e.0 ∷ ks) (keys-map g es)

abbrev pub is_there : List Version → Bool
is_there vs = not (length vs == 0)

read_through : (c : ℕ) (o : Option (List Version)) → unwrap_or (option_filter is_there (option_map (kept c) o)) [] ≡ kept c (unwrap_or o [])
read_through c None = refl
read_through c (Some vs) = by_list (kept c vs)
  where
    by_list : (ws : List Version) → unwrap_or (cond (is_there ws) (Some ws) None) [] ≡ ws
    by_list [] = refl
    by_list (w ∷ ws) = ap (λ (b : Bool). unwrap_or (cond (not b) (Some (w ∷ ws)) None) []) (not_none (length ws))

found_after : (c : ℕ) (es new : Entries) → IsStrictlySortedBy (slice_cmp nat_cmp) (keys_of es) → new ≡ filter (λ e. is_there e.1) (map (λ e. (e.0, kept c e.1)) es)
    → (k : List ℕ) → found k new ≡ option_filter is_there (option_map (kept c) (found k es))
found_after c es new sorted is k =
    ap (λ (fs : Entries). found k fs) is
    ∙ lookup-filter-values {eq = eq_by_cmp (slice_cmp nat_cmp)} (eq_by_cmp_equiv nat_list_cmp_total) is_there k (map (λ e. (e.0, kept c e.1)) es)
    (subst (IsDistinct (eq_by_cmp (slice_cmp nat_cmp))) (sym (keys-map (kept c) es)) (IsDistinct-from_sorted (slice_cmp nat_cmp) (keys_of es) sorted))
    ∙ ap (option_filter is_there) (lookup-map (is_at (slice_cmp nat_cmp k)) (kept c) es)

pub compacted : (c : ℕ) (es new : Entries) → IsStrictlySortedBy (slice_cmp nat_cmp) (keys_of es) → new ≡ filter (λ e. is_there e.1) (map (λ e. (e.0, kept c e.1)) es)
    → (k : List ℕ) → versions_of new k ≡ kept c (versions_of es k)
compacted c es new sorted is k = ap (λ o. unwrap_or o []) (found_after c es new sorted is k) ∙ read_through c (found k es)

pub compacted-HaveVersions : (c : ℕ) (es new : Entries) → IsStrictlySortedBy (slice_cmp nat_cmp) (keys_of es) → new ≡ filter (λ e. is_there e.1) (map (λ e. (e.0, kept c e.1)) es)
    → HaveVersions new
compacted-HaveVersions c es new sorted is k e = never (option_map (kept c) (found k es)) (sym (found_after c es new sorted is k) ∙ e)
  where
    none_left : (vs : List Version) → cond (is_there vs) (Some vs) None ≡ Some [] → ⊥
    none_left [] f = cc
    none_left (w ∷ ws) f = let there : Some (w ∷ ws) ≡ Some [] = ap (λ (b : Bool). cond (not b) (Some (w ∷ ws)) None) (sym (not_none (length ws))) ∙ f in cc

    never : (o : Option (List Version)) → option_filter is_there o ≡ Some [] → ⊥
    never None f = cc
    never (Some vs) f = none_left vs f
