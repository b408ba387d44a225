-- Rows by rising numbers, with edits that keep the order, and where a number stands among them.
use Rattle.std.specs.Prelude.{ℕ, zero, suc, ◌≤◌, ◌==◌, nat_lt, if◌then◌else◌, List, [], ◌∷◌, Option, None, Some}

-- none has a lower number
abbrev pub AreAbove : {X : Type 0} → (X → ℕ) → ℕ → List X → Type 0
AreAbove number n [] = Unit {0}
AreAbove number n (x ∷ xs) = (n ≤ number x) × AreAbove number n xs

-- the number of each is at least those before it
abbrev pub AreRising : {X : Type 0} → (X → ℕ) → List X → Type 0
AreRising number [] = Unit {0}
AreRising number (x ∷ xs) = AreAbove number (number x) xs × AreRising number xs

-- how many of the first ones have a lower number
abbrev pub place_in : {X : Type 0} → (X → ℕ) → ℕ → List X → ℕ
place_in number n [] = zero
place_in number n (x ∷ xs) = if nat_lt (number x) n then suc (place_in number n xs) else zero

-- with one more in its place
abbrev pub put_in : {X : Type 0} → (X → ℕ) → X → List X → List X
put_in number x [] = x ∷ []
put_in number x (y ∷ ys) = if nat_lt (number y) (number x) then y ∷ put_in number x ys else x ∷ y ∷ ys

-- without the first one of a number
abbrev pub taken_from : {X : Type 0} → (X → ℕ) → ℕ → List X → List X
taken_from number n [] = []
taken_from number n (x ∷ xs) = if number x == n then xs else x ∷ taken_from number n xs

-- the first one of a number
abbrev pub row_of : {X : Type 0} → (X → ℕ) → ℕ → List X → Option X
row_of number n [] = None
row_of number n (x ∷ xs) = if number x == n then Some x else row_of number n xs
