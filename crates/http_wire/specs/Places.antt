-- A scan for an end, which may be cut anywhere.
use Rattle.std.specs.Prelude.{◌≡◌, ℕ, ◌<◌, ◌≤◌, List, [], ◌∷◌, ◌++◌, length, drop, ⊤, Option, None, Some, if◌then◌else◌, ◌==◌}
use Rattle.std.specs.Io.KnownBytes.{IsAtEnd}
use Rattle.httparse.specs.Ascii.{line_feed}
use Rattle.http_wire.specs.declared.scan.Place.{Place}
use Rattle.http_wire.specs.declared.scan.Place.TheVariants.{Line, Inside, Start, Return}
use Rattle.http_wire.specs.declared.scan.Feed.{Feed}
use Rattle.http_wire.specs.declared.scan.Feed.TheVariants.{Last, Ended, Open}
use Rattle.http_wire.specs.declared.scan.Scan.{Scan}
use Rattle.http_wire.specs.declared.scan.Scan.TheVariants.{Found, More}
use Rattle.http_wire.specs.declared.scan.Ending.{Ending}
use Rattle.http_wire.specs.declared.scan.Ending.TheVariants as ending
use Rattle.http_wire.specs.declared.ends.Look.{Look}
use Rattle.http_wire.specs.declared.ends.Look.TheVariants.{Ends, On}
use Rattle.http_wire.specs.declared.limits.TheConstants.{HEAD_LIMIT}
use Rattle.http_wire.specs.Ends.{bounded, first_of, later, line_length, head_length, trailer_length}

-- a line feed at the front
abbrev pub feed_length : List ℕ → Option ℕ
feed_length [] = None
feed_length (b ∷ bs) = if b == line_feed then Some 1 else None

-- how many bytes there are up to the end, from a place on
abbrev pub length_from : Place → List ℕ → Option ℕ
length_from Line bs = line_length bs
length_from Inside bs = head_length bs
length_from Start bs = trailer_length bs
length_from Return bs = first_of (feed_length bs) (head_length bs)

-- what was found in the bytes holds whatever follows them
abbrev pub Scans : Place → List ℕ → Scan → Type 0
Scans place bytes (Found n) = (n ≤ length bytes) × ((rest : List ℕ) → length_from place (bytes ++ rest) ≡ Some n)
Scans place bytes (More next) = (rest : List ℕ) → length_from place (bytes ++ rest) ≡ later (length bytes) (length_from next rest)

-- the end isn't among these bytes, and is looked for behind them from the next place on
abbrev pub IsBehind : List ℕ → Place → Place → Type 0
IsBehind bytes place next = (rest : List ℕ) → length_from place (bytes ++ rest) ≡ later (length bytes) (length_from next rest)

-- the next line feed is the end; or another line begins behind it; or none is among the bytes
abbrev pub Feeds : Place → List ℕ → Feed → Type 0
Feeds place bytes (Last n) = (n ≤ length bytes) × ((rest : List ℕ) → length_from place (bytes ++ rest) ≡ Some n)
Feeds place bytes (Ended n) =
    (0 < n) × (n ≤ length bytes)
    × ((rest : List ℕ) → length_from place (bytes ++ rest) ≡ later n (length_from Start (drop n bytes ++ rest)))
Feeds place bytes (Open next) = IsBehind bytes place next

-- an end that was found lies within the held bytes, and nothing follows where none is found
abbrev pub EndsWithin : List ℕ → Option (List ℕ) → Ending → Type 0
EndsWithin held left (ending.At n) = (n ≤ length held) × (n ≤ HEAD_LIMIT)
EndsWithin held left ending.Over = ⊤
EndsWithin held left ending.Cut = IsAtEnd left

-- the same of a look at the held bytes alone
abbrev pub IsSeen : List ℕ → Ending → Type 0
IsSeen held (ending.At n) = (n ≤ length held) × (n ≤ HEAD_LIMIT)
IsSeen held ending.Over = ⊤
IsSeen held ending.Cut = ⊥

-- what a look from there on says of the held bytes, whatever follows them
abbrev pub Looks : List ℕ → ℕ → Place → Look → Type 0
Looks held seen place (Ends end) =
    IsSeen held end × ((rest : List ℕ) → bounded (held ++ rest) (later seen (length_from place (drop seen held ++ rest))) ≡ end)
Looks held seen place (On next) =
    (length held ≤ HEAD_LIMIT)
    × ((rest : List ℕ) → later seen (length_from place (drop seen held ++ rest)) ≡ later (length held) (length_from next rest))
