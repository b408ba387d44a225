-- Where a head, a trailer or a size line ends, among all the bytes that come.
use Rattle.std.specs.Prelude.{ℕ, ◌+◌, List, [], ◌∷◌, length, Option, None, Some, if◌then◌else◌, ◌==◌, nat_lt, nat_le}
use Rattle.std.specs.Option.{option_map}
use Rattle.httparse.specs.Ascii.{line_feed, carriage_return}
use Rattle.http_wire.specs.declared.scan.Ending.{Ending}
use Rattle.http_wire.specs.declared.scan.Ending.TheVariants as ending
use Rattle.http_wire.specs.declared.limits.TheConstants.{HEAD_LIMIT}

-- the first of two that is there
abbrev pub first_of : Option ℕ → Option ℕ → Option ℕ
first_of None o = o
first_of (Some n) o = Some n

-- a line feed after a carriage return, which ends an empty line of two bytes
abbrev pub then_feed : List ℕ → Option ℕ
then_feed [] = None
then_feed (b ∷ bs) = if b == line_feed then Some 2 else None

-- how long the empty line at the front is, which is LF or CR LF
abbrev pub empty_line : List ℕ → Option ℕ
empty_line [] = None
empty_line (b ∷ bs) = if b == line_feed then Some 1 else (if b == carriage_return then then_feed bs else None)

-- so many bytes before it
abbrev pub later : ℕ → Option ℕ → Option ℕ
later count o = option_map (λ n. count + n) o

-- how long the line at the front is, its LF counted
abbrev pub line_length : List ℕ → Option ℕ
line_length [] = None
line_length (b ∷ bs) = if b == line_feed then Some 1 else later 1 (line_length bs)

-- how many bytes there are up to the end of the first empty line that follows a line feed
abbrev pub head_length : List ℕ → Option ℕ
head_length [] = None
head_length (b ∷ bs) = later 1 (if b == line_feed then first_of (empty_line bs) (head_length bs) else head_length bs)

-- the same for a trailer, which follows the line feed of a size line
abbrev pub trailer_length : List ℕ → Option ℕ
trailer_length bs = first_of (empty_line bs) (head_length bs)

-- the end that is found there: within the limit; beyond it, where a further byte is one too many; or cut off before
abbrev pub bounded : List ℕ → Option ℕ → Ending
bounded all (Some n) = if nat_le n HEAD_LIMIT then ending.At n else ending.Over
bounded all None = if nat_lt HEAD_LIMIT (length all) then ending.Over else ending.Cut

-- where a head ends
abbrev pub head_end : List ℕ → Ending
head_end all = bounded all (head_length all)

-- where a trailer ends
abbrev pub trailer_end : List ℕ → Ending
trailer_end all = bounded all (trailer_length all)

-- where a chunk's size line ends
abbrev pub line_end : List ℕ → Ending
line_end all = bounded all (line_length all)
