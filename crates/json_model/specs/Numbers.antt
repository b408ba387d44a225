-- Numbers as decimal text.
use Rattle.std.specs.Prelude.{ℕ, ◌+◌, ◌^◌, ◌==◌, ◌&&◌, not, nat_lt, if◌then◌else◌, Bool, true, false, ℤ, pos, neg_ℤ, List, [], ◌∷◌, drop, Option, Some, None, option_map, option_and_then}
use Rattle.std.specs.Char.{is_ascii_digit}
use Rattle.std.specs.List.{list_all}
use Rattle.std.specs.Ordering.{int_eq}
use Rattle.std.specs.Str.Parse.{digits_value, starts_with_minus}

abbrev pub begins_well : List ℕ → Bool
begins_well [] = false
begins_well (d ∷ []) = true
begins_well (d ∷ e ∷ ds) = not (d == 48)

-- digits without a leading zero
abbrev pub is_canonical : List ℕ → Bool
is_canonical text = begins_well text && list_all is_ascii_digit text

abbrev pub below : ℕ → ℕ → Option ℕ
below limit n = if nat_lt n limit then Some n else None

-- the number below the limit that the text writes
abbrev pub decimal_of : ℕ → List ℕ → Option ℕ
decimal_of limit text = if is_canonical text then below limit (digits_value 10 text) else None

abbrev pub unless_zero : ℤ → Option ℤ
unless_zero z = if int_eq z (pos 0) then None else Some z

abbrev pub negative_of : ℕ → Option ℤ
negative_of n = unless_zero (neg_ℤ (pos n))

-- the number of 64 bits with a sign that the text writes; zero has no sign
abbrev pub signed_of : List ℕ → Option ℤ
signed_of text =
    if starts_with_minus text then option_and_then negative_of (decimal_of (2 ^ 63 + 1) (drop 1 text))
    else option_map pos (decimal_of (2 ^ 63) text)
