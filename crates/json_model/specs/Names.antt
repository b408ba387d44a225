-- Names of fields. A list of names is a text, in which one space stands between two of them.
use Rattle.std.specs.Prelude.{ℕ, ◌==◌, ◌||◌, nat_lt, if◌then◌else◌, Bool, true, false, List, [], ◌∷◌, find, position, slice_get, Option, Some, None, is_some, option_and_then}
use Rattle.std.specs.Char.{to_ascii_uppercase}
use Rattle.std.specs.List.{slice_split}
use Rattle.std.specs.Str.{bytes_eq}

-- an empty text has no name
abbrev pub words : List ℕ → List (List ℕ)
words [] = []
words (b ∷ bs) = slice_split (λ c. c == 32) (b ∷ bs)

-- the lowerCamelCase name leaves out each `_` and raises the letter after it
abbrev pub camel_from : Bool → List ℕ → List ℕ
camel_from raised [] = []
camel_from raised (b ∷ bs) =
    if b == 95 then camel_from true bs else (if raised then to_ascii_uppercase b else b) ∷ camel_from false bs

abbrev pub camel : List ℕ → List ℕ
camel name = camel_from false name

-- the key is one of the field's two names
abbrev pub is_spelling : List ℕ → List ℕ → Bool
is_spelling key name = bytes_eq key name || bytes_eq key (camel name)

-- the field that the key names
abbrev pub field_of : List ℕ → List (List ℕ) → Option (List ℕ)
field_of key names = find (λ name. is_spelling key name) names

-- ---- an enum's names stand in a table, from number 0; numbers have one byte

abbrev pub one_byte : ℕ → Option ℕ
one_byte n = if nat_lt n 256 then Some n else None

abbrev pub name_at : ℕ → List ℕ → Option (List ℕ)
name_at n table = slice_get (words table) n

-- the number of a name
abbrev pub number_named : List ℕ → List ℕ → Option ℕ
number_named text table = option_and_then one_byte (position (λ name. bytes_eq text name) (words table))

abbrev pub if_named : List ℕ → ℕ → Option ℕ
if_named table n = if is_some (name_at n table) then Some n else None

-- a number that has a name
abbrev pub number_in : ℕ → List ℕ → Option ℕ
number_in n table = option_and_then (if_named table) (one_byte n)
