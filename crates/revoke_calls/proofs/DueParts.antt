-- The first of due calls, write by write.
use Rattle.std.proofs.Common.{◌≡◌, ℕ, ◌+◌, ◌<◌, List, [], ◌∷◌, ◌++◌, length, drop, get_or, Option, Some, refl, sym, ◌∙◌, ap}
use Rattle.std.specs.List.{flat_map}
use Rattle.std.proofs.lemmas.List.{drop_more}
use Rattle.wait_model.specs.declared.due.DueCall.{DueCall}
use Rattle.wait_model.specs.declared.due.Place.{Place}
use Rattle.wait_model.specs.DueOrder.{sooner, soonest, earlier, earliest}
use Rattle.revoke_calls.specs.Dues.{places}

soonest-append : (first : Option DueCall) (xs ys : List DueCall) → soonest first (xs ++ ys) ≡ soonest (soonest first xs) ys
soonest-append first [] ys = refl
soonest-append first (x ∷ xs) ys = soonest-append (Some (sooner first x)) xs ys

-- one more of what is walked over
pub soonest-more : {A : Type 0} (f : A → List DueCall) (xs : List A) (i : ℕ) (x : A) (first next last : Option DueCall) → i < length xs → x ≡ get_or xs i x → next ≡ soonest first (f x) → soonest first (flat_map f (drop i xs)) ≡ last → soonest next (flat_map f (drop (i + 1) xs)) ≡ last
soonest-more f xs i x first next last l e n h =
    let rest = flat_map f (drop (i + 1) xs) in
    ap (λ o. soonest o rest) n ∙ sym (soonest-append first (f x) rest) ∙ ap (λ y. soonest first (f y ++ rest)) e ∙ ap (λ ys. soonest first (flat_map f ys)) (sym (drop_more xs i x l)) ∙ h

-- And the first of their places.

earliest-append : (first : Option Place) (xs ys : List DueCall) → earliest first (places (xs ++ ys)) ≡ earliest (earliest first (places xs)) (places ys)
earliest-append first [] ys = refl
earliest-append first (x ∷ xs) ys = earliest-append (Some (earlier first x.place)) xs ys

-- one more of what is walked over
pub earliest-more : {A : Type 0} (f : A → List DueCall) (xs : List A) (i : ℕ) (x : A) (first next last : Option Place) → i < length xs → x ≡ get_or xs i x → next ≡ earliest first (places (f x)) → earliest first (places (flat_map f (drop i xs))) ≡ last → earliest next (places (flat_map f (drop (i + 1) xs))) ≡ last
earliest-more f xs i x first next last l e n h =
    let rest = flat_map f (drop (i + 1) xs) in
    ap (λ o. earliest o (places rest)) n ∙ sym (earliest-append first (f x) rest) ∙ ap (λ y. earliest first (places (f y ++ rest))) e ∙ ap (λ ys. earliest first (places (flat_map f ys))) (sym (drop_more xs i x l)) ∙ h
