-- What is kept for pairs of numbers, and for numbers.
use Rattle.std.specs.Prelude.{ℕ, Bool, false, ◌==◌, ◌&&◌, nat_le, if◌then◌else◌, List, Option, None, Some}
use Rattle.std.specs.BTreeMap.{is_at}
use Rattle.std.specs.Map.{lookup}
use Rattle.std.specs.Option.{unwrap_or}
use Rattle.std.specs.Ordering.{nat_cmp, ordering_then}
use Rattle.std.specs.declared.cmp.Ordering.{Ordering}

abbrev pub pair_cmp : ℕ × ℕ → ℕ × ℕ → Ordering
pair_cmp x y = ordering_then (nat_cmp x.0 y.0) (nat_cmp x.1 y.1)

-- the place of the pair
abbrev pub place_at : List ((ℕ × ℕ) × ℕ) → ℕ → ℕ → Option ℕ
place_at kept a b = lookup (is_at (pair_cmp (a, b))) kept

-- the same, where it isn't before this start
abbrev pub from_start : ℕ → Option ℕ → Option ℕ
from_start start None = None
from_start start (Some place) = if nat_le start place then Some place else None

-- the pair is this one
abbrev pub is_pair : Option (ℕ × ℕ) → ℕ → ℕ → Bool
is_pair None a b = false
is_pair (Some pair) a b = pair.0 == a && pair.1 == b

-- the value at the number, or 0
abbrev pub value_at : List (ℕ × ℕ) → ℕ → ℕ
value_at kept k = unwrap_or (lookup (is_at (nat_cmp k)) kept) 0

-- the number is this one
abbrev pub is_number : Option ℕ → ℕ → Bool
is_number None k = false
is_number (Some n) k = n == k
