-- A list of lists that is kept in one piece, beside the places where its parts end.
use Rattle.std.specs.Prelude.{◌≡◌, ◌≤◌, ℕ, ◌-◌, List, [], ◌∷◌, take, drop}

-- the parts, where the piece begins at this place: each goes from where the one before it ends to its own end
abbrev pub parts : {A : Type 0} → ℕ → List ℕ → List A → List (List A)
parts start [] xs = []
parts start (e ∷ es) xs = take (e - start) xs ∷ parts e es (drop (e - start) xs)

-- where the last part ends
abbrev pub last_end : ℕ → List ℕ → ℕ
last_end start [] = start
last_end start (e ∷ es) = last_end e es

-- the ends don't fall, and the last one is here
abbrev pub RunTo : ℕ → List ℕ → ℕ → Type 0
RunTo start [] here = start ≡ here
RunTo start (e ∷ es) here = (start ≤ e) × RunTo e es here
