-- What a draw tells of the words that it gave.
use Rattle.std.specs.Prelude.{◌≡◌, ℕ, ◌+◌, nat_lt, Bool, true, false, if◌then◌else◌, not, ◌||◌, List, ◌++◌, take, length, Option, Some, None}

-- A draw that tells its words afterwards told them before, and gave these since. It may stop telling
abbrev pub Gives : Option (List ℕ) → Option (List ℕ) → List ℕ → Type 0
Gives old None words = Unit {0}
Gives None (Some after) words = ⊥
Gives (Some before) (Some after) words = after ≡ before ++ words

-- the words before this place, until they are used up
abbrev pub told : List ℕ → ℕ → Bool → Option (List ℕ)
told words at true = None
told words at false = Some (take at words)

-- the place after a draw at this one
abbrev pub next_place : List ℕ → ℕ → ℕ
next_place words at = if nat_lt at (length words) then at + 1 else at

-- whether a word was drawn once they were used up, after a draw at this place
abbrev pub is_dry : List ℕ → ℕ → Bool → Bool
is_dry words at dry = dry || not (nat_lt at (length words))
