-- Counts that are kept for pairs of numbers, each with the place at which it was made: one from before the start of the pair's first
-- number counts as none.
use Rattle.std.specs.Prelude.{◌≡◌, ◌<◌, ℕ, nat_le, if◌then◌else◌, List, Option, None, Some}
use Rattle.std.specs.BTreeMap.{is_at}
use Rattle.std.specs.Map.{lookup}
use Rattle.first_places.specs.Places.{is_pair, pair_cmp}

-- the place and the count that are kept for the pair
abbrev pub counted_at : List ((ℕ × ℕ) × (ℕ × ℕ)) → ℕ → ℕ → Option (ℕ × ℕ)
counted_at kept a b = lookup (is_at (pair_cmp (a, b))) kept

abbrev pub count_from : ℕ → Option (ℕ × ℕ) → ℕ
count_from start None = 0
count_from start (Some entry) = if nat_le start entry.0 then entry.1 else 0

-- the pair's count, from the start of its first number on
abbrev pub count_at : List ((ℕ × ℕ) × (ℕ × ℕ)) → (ℕ → ℕ) → ℕ → ℕ → ℕ
count_at kept start a b = count_from (start a) (counted_at kept a b)

-- each was made before this place
abbrev pub AreBefore : ℕ → List ((ℕ × ℕ) × (ℕ × ℕ)) → Type 0
AreBefore bound kept = (a b place count : ℕ) → counted_at kept a b ≡ Some (place, count) → place < bound

-- this count is kept for the pair, and nothing else changes
abbrev pub Puts : ℕ → ℕ → ℕ → ℕ → List ((ℕ × ℕ) × (ℕ × ℕ)) → List ((ℕ × ℕ) × (ℕ × ℕ)) → Type 0
Puts whose number place count old new =
    (a b : ℕ) → counted_at new a b ≡ (if is_pair (Some (whose, number)) a b then Some (place, count) else counted_at old a b)
