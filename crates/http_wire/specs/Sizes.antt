-- What a chunk's size line says (RFC 9112, section 7.1). A public law says that these lines are those of `httparse`'s grammar.
use Rattle.std.specs.Prelude.{ℕ, Bool, true, false, not, ◌&&◌, List, [], ◌∷◌, length, Option, None, Some, if◌then◌else◌, ◌==◌, nat_lt, nat_le}
use Rattle.std.specs.Char.{is_ascii_hexdigit}
use Rattle.std.specs.Str.Parse.{digits_value}
use Rattle.httparse.specs.Ascii.{line_feed, carriage_return, semicolon}
use Rattle.httparse.specs.Grammar.{skip_ows}

-- the hexadecimal digits at the front
abbrev pub leading_digits : List ℕ → List ℕ
leading_digits [] = []
leading_digits (b ∷ bs) = if is_ascii_hexdigit b then b ∷ leading_digits bs else []

-- what follows them
abbrev pub after_digits : List ℕ → List ℕ
after_digits [] = []
after_digits (b ∷ bs) = if is_ascii_hexdigit b then after_digits bs else b ∷ bs

-- just a line feed
abbrev pub is_feed : List ℕ → Bool
is_feed [] = false
is_feed (b ∷ bs) = b == line_feed && is_none_left bs
  where
    is_none_left : List ℕ → Bool
    is_none_left [] = true
    is_none_left (c ∷ cs) = false

-- any bytes but CR and LF, and then CR LF
abbrev pub is_extension_line : List ℕ → Bool
is_extension_line [] = false
is_extension_line (b ∷ bs) = if b == carriage_return then is_feed bs else not (b == line_feed) && is_extension_line bs

-- CR LF, or an extension after a semicolon
abbrev pub is_line_rest : List ℕ → Bool
is_line_rest [] = false
is_line_rest (b ∷ bs) = if b == carriage_return then is_feed bs else b == semicolon && is_extension_line bs

-- the size that a whole size line says: 1 to 16 hexadecimal digits, then spaces and tabs, then the rest of the line
abbrev pub size_of : List ℕ → Option ℕ
size_of line =
    let digits = leading_digits line in
    if nat_lt 0 (length digits) && nat_le (length digits) 16 && is_line_rest (skip_ows (after_digits line))
    then Some (digits_value 16 digits) else None
