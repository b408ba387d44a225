-- Keys, as lists of bytes, and their order: from the left, where a prefix comes before what it begins.
use Rattle.std.specs.Prelude.{ℕ, Bool, true, false, ◌==◌, not, List, [], ◌∷◌}
use Rattle.std.specs.Ordering.{nat_cmp, is_le, is_eq}
use Rattle.std.specs.Cmp.Lexicographic.{slice_cmp}

-- a is b, or comes before it
abbrev pub up_to : List ℕ → List ℕ → Bool
up_to a b = is_le (slice_cmp nat_cmp a b)

abbrev pub before : List ℕ → List ℕ → Bool
before a b = not (up_to b a)

abbrev pub same : List ℕ → List ℕ → Bool
same a b = is_eq (slice_cmp nat_cmp a b)

abbrev pub is_empty : List ℕ → Bool
is_empty [] = true
is_empty (b ∷ bs) = false

-- one zero byte, which as an end stands above every key
abbrev pub is_zero : List ℕ → Bool
is_zero [] = false
is_zero (b ∷ []) = b == 0
is_zero (b ∷ c ∷ bs) = false
