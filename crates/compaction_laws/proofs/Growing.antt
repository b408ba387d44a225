-- What is kept of two histories stays the same with a further revision, and with a later compaction.
use Rattle.std.proofs.Common.{◌≡◌, ℕ, ◌+◌, ◌-◌, ◌≤◌, List, [], ◌∷◌, ◌++◌, None, length, drop, refl, sym, ◌∙◌, ap, arith, length-append}
use Rattle.store_model.specs.declared.history.KeyChange.{KeyChange}
use Rattle.store_model.specs.History.{History, newest, with_revision}
use Rattle.store_model.specs.State.{State}
use Rattle.compaction_model.specs.Versions.{last_left, versions_in, kept}
use Rattle.compaction_model.specs.Places.{changed_keys}
use Rattle.compaction_model.proofs.KeptProofs.{kept_grow, kept_again}
use Rattle.compaction_model.proofs.PlaceProofs.{places_grow, places_again}
use Rattle.compaction_laws.specs.Alike.{KeepSame, Alike}

pub keep_grown : (c : ℕ) (h g : History) → KeepSame c h g → (made : List KeyChange) → KeepSame c (with_revision h made) (with_revision g made)
keep_grown c h g a [] = a
keep_grown c h g a (d ∷ ds) =
    let more : length (h ++ (d ∷ ds) ∷ []) ≡ length h + 1 = length-append h ((d ∷ ds) ∷ []) in
    let most : length (g ++ (d ∷ ds) ∷ []) ≡ length g + 1 = length-append g ((d ∷ ds) ∷ []) in
    let same : length h + 1 ≡ length g + 1 = a.newest in
    let le : c ≤ length h + 1 = a.past in
    let past : c ≤ newest g = omega (arith, le, same) in
    record {
      past = omega (arith, le, more);
      newest = omega (arith, same, more, most);
      versions = λ k.
          kept_grow h c k (d ∷ ds) a.past
          ∙ (λ i. a.versions k i ++ versions_in (a.newest i + 1) k (d ∷ ds) (last_left (a.versions k i) None))
          ∙ sym (kept_grow g c k (d ∷ ds) past);
      places = places_grow h c d ds a.past ∙ ap (λ ks. ks ++ changed_keys (d ∷ ds) ∷ []) a.places ∙ sym (places_grow g c d ds past);
    }

pub keep_compacted : (c d : ℕ) (h g : History) → KeepSame c h g → c ≤ d → d ≤ newest h → KeepSame d h g
keep_compacted c d h g a le past = record {
  past = past;
  newest = a.newest;
  versions = λ k. kept_again h c d k le ∙ ap (kept d) (a.versions k) ∙ sym (kept_again g c d k le);
  places = places_again h c d le ∙ ap (drop (d - 2 - (c - 2))) a.places ∙ sym (places_again g c d le);
}

-- a state and itself on the other history
pub alike_on : (s : State) (g : History) → KeepSame s.compacted s.history g → Alike s (record s { history = g })
alike_on s g a = record { history = a; rest = refl }
