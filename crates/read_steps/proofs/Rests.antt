-- What is left of a list at an index, and a list that stays.
use Rattle.std.proofs.Common.{◌≡◌, ℕ, ◌+◌, ◌<◌, ◌≤◌, List, [], ◌∷◌, drop, length, map, get_or, refl, sym, ◌∙◌, add-one, drop-cons}
use Rattle.std.proofs.Math.ListN.{drop_of_length-le}

pub rest_at : {A : Type 0} (xs : List A) (i : ℕ) (x : A) → i < length xs → x ≡ get_or xs i x → drop i xs ≡ x ∷ drop (i + 1) xs
rest_at xs i x b e = drop-cons xs i x b ∙ (λ j. sym e j ∷ drop (sym (add-one i) j) xs)

pub none_left : {A : Type 0} (xs : List A) (i : ℕ) → length xs ≤ i → drop i xs ≡ []
none_left xs i h = drop_of_length-le xs h

pub map_same : {A : Type 0} (f : A → A) (xs : List A) → ((x : A) → f x ≡ x) → map f xs ≡ xs
map_same f [] h = refl
map_same f (x ∷ xs) h = λ i. h x i ∷ map_same f xs h i
