-- The words of scripts and transcripts: numbers, bytes and flags.
use Rattle.std.specs.Prelude.{ℕ, ◌-◌, ◌^◌, ◌/◌, ◌%◌, Bool, true, false, ◌&&◌, ◌||◌, ◌==◌, nat_lt, nat_le, if◌then◌else◌, List, [], ◌∷◌, Option, decimal, flat_map, bytes_eq}
use Rattle.std.specs.List.{list_all, list_any}
use Rattle.std.specs.Char.{is_ascii_alphanumeric}
use Rattle.std.specs.Fmt.{digit_glyph}
use Rattle.std.specs.Str.Parse.{digits_value}
use Rattle.percent_encoding.specs.Percent.{percent_decode}
use Rattle.text_model.specs.Forms.{Word, Form, one_word, respelled}

-- ---- numbers

abbrev pub is_within : ℕ → ℕ → ℕ → Bool
is_within low high n = nat_le low n && nat_le n high

-- canonical decimal, from `low` to `high`
abbrev pub number_within : ℕ → ℕ → Form ℕ
number_within low high =
    one_word decimal (respelled decimal (digits_value 10) (is_within low high)) (is_within low high)

abbrev pub max_number : ℕ
max_number = 2 ^ 63 - 1

abbrev pub number : Form ℕ
number = number_within 0 max_number

-- ---- bytes

-- a letter, a digit, `-`, `.`, `_` or `/`, which stands for itself
abbrev pub is_plain : ℕ → Bool
is_plain b = is_ascii_alphanumeric b || b == 45 || b == 46 || b == 95 || b == 47

-- `%` and two upper-case hexadecimal digits
abbrev pub escaped : ℕ → List ℕ
escaped b = 37 ∷ digit_glyph true (b / 16 % 16) ∷ digit_glyph true (b % 16) ∷ []

abbrev pub byte_text : ℕ → List ℕ
byte_text b = if is_plain b then b ∷ [] else escaped b

-- `~` for no bytes
unfoldable pub bytes_word : List ℕ → Word
bytes_word [] = 126 ∷ []
bytes_word (b ∷ bs) = flat_map byte_text (b ∷ bs)

abbrev pub bytes_guess : Word → List ℕ
bytes_guess w = if bytes_eq w (126 ∷ []) then [] else percent_decode w

abbrev pub are_bytes : List ℕ → Bool
are_bytes bs = list_all (λ b. nat_lt b 256) bs

unfoldable pub bytes : Form (List ℕ)
bytes = one_word bytes_word (respelled bytes_word bytes_guess are_bytes) are_bytes

-- ---- flags

abbrev pub letters : List (ℕ × Bool) → Word
letters [] = []
letters (l ∷ ls) = if l.1 then l.0 ∷ letters ls else letters ls

abbrev pub or_dash : Word → Word
or_dash [] = 45 ∷ []
or_dash (b ∷ bs) = b ∷ bs

-- the letters of the flags that are set, in this order, or `-` where none is
abbrev pub flags_word : List (ℕ × Bool) → Word
flags_word ls = or_dash (letters ls)

abbrev pub has : ℕ → Word → Bool
has letter w = list_any (λ b. b == letter) w

abbrev pub any_value : {A : Type 0} → A → Bool
any_value x = true

abbrev pub flag_word : ℕ → Bool → Word
flag_word a x = if x then a ∷ [] else 45 ∷ []

abbrev pub flag : ℕ → Form Bool
flag a = one_word (flag_word a) (respelled (flag_word a) (has a) any_value) any_value

abbrev pub two_flags_word : ℕ → ℕ → Bool × Bool → Word
two_flags_word a b x = flags_word ((a, x.0) ∷ (b, x.1) ∷ [])

abbrev pub two_flags : ℕ → ℕ → Form (Bool × Bool)
two_flags a b =
    one_word (two_flags_word a b) (respelled (two_flags_word a b) (λ w. (has a w, has b w)) any_value) any_value

abbrev pub three_flags_word : ℕ → ℕ → ℕ → Bool × Bool × Bool → Word
three_flags_word a b c x = flags_word ((a, x.0) ∷ (b, x.1) ∷ (c, x.2) ∷ [])

abbrev pub three_flags : ℕ → ℕ → ℕ → Form (Bool × Bool × Bool)
three_flags a b c =
    one_word (three_flags_word a b c) (respelled (three_flags_word a b c) (λ w. (has a w, has b w, has c w)) any_value) any_value

abbrev pub four_flags_word : ℕ → ℕ → ℕ → ℕ → Bool × Bool × Bool × Bool → Word
four_flags_word a b c d x = flags_word ((a, x.0) ∷ (b, x.1) ∷ (c, x.2) ∷ (d, x.3) ∷ [])

abbrev pub four_flags : ℕ → ℕ → ℕ → ℕ → Form (Bool × Bool × Bool × Bool)
four_flags a b c d =
    one_word (four_flags_word a b c d) (respelled (four_flags_word a b c d) (λ w. (has a w, has b w, has c w, has d w)) any_value) any_value
