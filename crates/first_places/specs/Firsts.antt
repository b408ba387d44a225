-- Places that are kept while a list grows: for each pair the place of the first element that tells it, from the start of the pair's
-- first number on.
use Rattle.std.specs.Prelude.{◌≡◌, ◌<◌, ℕ, ◌+◌, Bool, not, ◌&&◌, if◌then◌else◌, List, [], ◌∷◌, length, drop, Option, None, Some, is_some}
use Rattle.first_places.specs.Places.{from_start, is_pair, place_at}

-- the place of the first element of which the test is so, where the list's own first one has this place
abbrev pub first_place : {A : Type 0} → (A → Bool) → ℕ → List A → Option ℕ
first_place test n [] = None
first_place test n (x ∷ xs) = if test x then Some n else first_place test (n + 1) xs

-- an element tells this pair
abbrev pub tells : {A : Type 0} → (A → Option (ℕ × ℕ)) → ℕ → ℕ → A → Bool
tells pair a b x = is_pair (pair x) a b

pub record Firsts {A : Type 0} (kept : List ((ℕ × ℕ) × ℕ)) (pair : A → Option (ℕ × ℕ)) (start : ℕ → ℕ) (xs : List A) : Type 0 where
  pub first : (a b : ℕ) → from_start (start a) (place_at kept a b) ≡ first_place (tells pair a b) (start a) (drop (start a) xs)
  pub within : (a b n : ℕ) → place_at kept a b ≡ Some n → n < length xs

-- what is kept for a pair once an element at this place tells it, or doesn't: a place from the start on stays
abbrev pub told_at : Bool → ℕ → ℕ → Option ℕ → Option ℕ
told_at told start place old = if told && not (is_some (from_start start old)) then Some place else old

-- the element at this place tells this pair, or none
abbrev pub Tells : Option (ℕ × ℕ) → (ℕ → ℕ) → ℕ → List ((ℕ × ℕ) × ℕ) → List ((ℕ × ℕ) × ℕ) → Type 0
Tells pair start place old new = (a b : ℕ) → place_at new a b ≡ told_at (is_pair pair a b) (start a) place (place_at old a b)
