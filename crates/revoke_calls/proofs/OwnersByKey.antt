-- The owners by key, one after another.
use Rattle.std.proofs.Common.{◌≡◌, ℕ, ◌+◌, ◌<◌, Bool, true, false, cond, List, ◌∷◌, length, drop, get_or, filter, Some, refl, sym, ◌∙◌, ap}
use Rattle.std.proofs.lemmas.List.{drop_more}
use Rattle.proxy_model.specs.declared.ownership.Owner.{Owner}
use Rattle.proxy_model.specs.Keyed.{Keyed, with_at}
use Rattle.wait_model.specs.ForeignOwnership.{by_key}

-- one owner more
pub by_key_more : (p : Owner → Bool) (os : List Owner) (i : ℕ) (o : Owner) (found next last : Keyed Owner) → i < length os → o ≡ get_or os i o → next ≡ cond (p o) (with_at found o.key (Some o)) found → by_key found (filter p (drop i os)) ≡ last → by_key next (filter p (drop (i + 1) os)) ≡ last
by_key_more p os i o found next last l e n h =
    let rest = drop (i + 1) os in
    ap (λ (x : Keyed Owner). by_key x (filter p rest)) n ∙ of (p o) (filter p rest) ∙ ap (λ (x : Owner). by_key found (filter p (x ∷ rest))) e ∙ ap (λ (ys : List Owner). by_key found (filter p ys)) (sym (drop_more os i o l)) ∙ h
  where
    of : (b : Bool) (ys : List Owner) → by_key (cond b (with_at found o.key (Some o)) found) ys ≡ by_key found (cond b (o ∷ ys) ys)
    of true ys = refl
    of false ys = refl
