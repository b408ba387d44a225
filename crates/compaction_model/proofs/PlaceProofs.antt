-- The places of changes, with a further revision and with a later compaction.
use Rattle.std.proofs.Common.{◌≡◌, ◌+◌, ◌-◌, ◌≤◌, [], ◌∷◌, length, drop, map, sym, ◌∙◌, ap, arith}
use Rattle.std.proofs.lemmas.List.{map-append, length-map, drop-append-le, drop-drop}
use Rattle.compaction_model.specs.Places.{changed_keys}
use Rattle.compaction_model.specs.KeyLaws.{PlacesGrow, PlacesAgain}

pub places_grow : PlacesGrow
places_grow h c d ds le =
    let long : length (map changed_keys h) ≡ length h = length-map h changed_keys in
    let past : c ≤ length h + 1 = le in
    let within : c - 2 ≤ length (map changed_keys h) = omega (arith, past, long) in
    ap (drop (c - 2)) (map-append changed_keys h ((d ∷ ds) ∷ [])) ∙ drop-append-le (c - 2) (map changed_keys h) (changed_keys (d ∷ ds) ∷ []) within

pub places_again : PlacesAgain
places_again h c d le =
    let e : c - 2 + (d - 2 - (c - 2)) ≡ d - 2 = omega (arith, le) in
    ap (λ n. drop n (map changed_keys h)) (sym e) ∙ sym (drop-drop (d - 2 - (c - 2)) (c - 2) (map changed_keys h))
