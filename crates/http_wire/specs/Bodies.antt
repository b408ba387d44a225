-- What a body's bytes are, in any framing, among all the bytes that come, and what follows it.
use Rattle.std.specs.Prelude.{◌≡◌, ℕ, zero, suc, ◌-◌, ◌<◌, ◌≤◌, Bool, true, false, not, List, [], ◌∷◌, ◌++◌, length, take, drop, Option, None, Some, Result, Ok, Err, if◌then◌else◌, ◌==◌, nat_lt, IsTrue, ◌⊎◌}
use Rattle.std.specs.List.{list_any}
use Rattle.std.specs.Option.{option_map}
use Rattle.httparse.specs.Ascii.{line_feed, carriage_return}
use Rattle.http_wire.specs.declared.fault.WireFault.{WireFault}
use Rattle.http_wire.specs.declared.fault.WireFault.TheVariants.{BadHead, HeadTooLong, BodyTooLong, BadChunk, EndedEarly, ReadFault, NoMemory}
use Rattle.http_wire.specs.declared.message.Framing.{Framing}
use Rattle.http_wire.specs.declared.message.Framing.TheVariants.{Length, Chunks, ToEnd}
use Rattle.http_wire.specs.declared.scan.Ending.{Ending}
use Rattle.http_wire.specs.declared.scan.Ending.TheVariants as ending
use Rattle.http_wire.specs.declared.limits.TheConstants.{HEAD_LIMIT, BODY_LIMIT}
use Rattle.http_wire.specs.Ends.{trailer_end}
use Rattle.http_wire.specs.Sizes.{size_of}
use Rattle.http_wire.specs.Heads.{IsTrailer}

-- how a body ends: with what follows it; with a trailer, and what follows that; or it is broken
pub data End : Type 0 where
  Ended : List ℕ → End
  Trailed : List ℕ → List ℕ → End
  Broken : WireFault → End

-- a body: its bytes, and its end
pub record Content : Type 0 where
  pub bytes : List ℕ
  pub end : End

-- nothing more but this end
abbrev pub only : End → Content
only end = record { bytes = []; end = end }

-- these bytes first
abbrev pub after : List ℕ → Content → Content
after bytes c = record { bytes = bytes ++ c.bytes; end = c.end }

-- n bytes are more than a body may still have, where there is a limit
abbrev pub exceeds : Option ℕ → ℕ → Bool
exceeds None n = false
exceeds (Some most) n = nat_lt most n

-- what it may have after n bytes
abbrev pub lessened : Option ℕ → ℕ → Option ℕ
lessened most n = option_map (λ m. m - n) most

-- n bytes, and what follows them
abbrev pub counted : ℕ → List ℕ → Content
counted zero all = only (Ended all)
counted (suc n) [] = only (Broken EndedEarly)
counted (suc n) (b ∷ bs) = after (b ∷ []) (counted n bs)

-- a trailer, up to its end
abbrev pub trailed : List ℕ → Ending → Content
trailed all (ending.At n) = only (Trailed (take n all) (drop n all))
trailed all ending.Over = only (Broken HeadTooLong)
trailed all ending.Cut = only (Broken EndedEarly)

-- where the next byte of a chunked body stands: in a size line, of which this has come; in data, of which so much is to
-- come, and CR LF after it; or at the LF after the data
pub data Phase : Type 0 where
  InLine : List ℕ → Phase
  InData : ℕ → Phase
  AtFeed : Phase

-- What follows a size line: `next` is what the data leads to, where the size isn't 0. The last chunk's trailer follows it.
abbrev pub sized : Option ℕ → Option ℕ → List ℕ → (ℕ → Content) → Content
sized most None all next = only (Broken BadChunk)
sized most (Some zero) all next = trailed all (trailer_end all)
sized most (Some (suc n)) all next = elim (exceeds most (suc n)) [ true ↦ only (Broken BodyTooLong) | false ↦ next (suc n) ]

-- chunks, the last chunk of size 0, and the trailer (RFC 9112, section 7.1)
abbrev pub chunked : Option ℕ → Phase → List ℕ → Content
chunked most phase [] = only (Broken EndedEarly)
chunked most (InLine line) (b ∷ bs) = elim (length line == HEAD_LIMIT) [
  | true ↦ only (Broken BadChunk)
  | false ↦ elim (b == line_feed) [
    | true ↦ sized most (size_of (line ++ b ∷ [])) bs (λ n. chunked (lessened most n) (InData n) bs)
    | false ↦ chunked most (InLine (line ++ b ∷ [])) bs
  ]
]
chunked most (InData zero) (b ∷ bs) = elim (b == carriage_return) [ true ↦ chunked most AtFeed bs | false ↦ only (Broken BadChunk) ]
chunked most (InData (suc n)) (b ∷ bs) = after (b ∷ []) (chunked most (InData n) bs)
chunked most AtFeed (b ∷ bs) = elim (b == line_feed) [ true ↦ chunked most (InLine []) bs | false ↦ only (Broken BadChunk) ]

-- what the framing says of all the bytes ahead, where the body may have so many bytes at most
abbrev pub content : Option ℕ → Framing → List ℕ → Content
content most (Length n) all = if exceeds most n then only (Broken BodyTooLong) else counted n all
content most ToEnd all = record { bytes = all; end = if exceeds most (length all) then Broken BodyTooLong else Ended [] }
content most (Chunks left true) all = only (Ended all)
content most (Chunks zero false) all = chunked most (InLine []) all
content most (Chunks (suc n) false) all = if exceeds most n then only (Broken BodyTooLong) else chunked (lessened most n) (InData n) all

-- the body ends there, with a whole trailer where it has one
abbrev pub IsEnd : End → List ℕ → Type 0
IsEnd (Ended rest) after = after ≡ rest
IsEnd (Trailed trailer rest) after = IsTrailer trailer × (after ≡ rest)
IsEnd (Broken fault) after = ⊥

-- it is broken by this fault
abbrev pub IsBroken : End → WireFault → Type 0
IsBroken (Ended rest) fault = ⊥
IsBroken (Trailed trailer rest) fault = (fault ≡ BadHead) × (IsTrailer trailer → ⊥)
IsBroken (Broken cause) fault = fault ≡ cause

-- faults that are about the bytes
abbrev pub is_of_bytes : WireFault → Bool
is_of_bytes ReadFault = false
is_of_bytes NoMemory = false
is_of_bytes _ = true

-- ---- a whole body

-- a body of at most so many bytes, and what follows it
abbrev pub WholeRead : ℕ → Framing → List ℕ → List ℕ → Result (List ℕ) WireFault → Type 0
WholeRead most f all rest (Ok body) = (body ≡ (content (Some most) f all).bytes) × IsEnd (content (Some most) f all).end rest
WholeRead most f all rest (Err fault) = IsTrue (is_of_bytes fault) → IsBroken (content (Some most) f all).end fault

-- the body of a request, and what follows it
abbrev pub BodyRead : Framing → List ℕ → List ℕ → Result (List ℕ) WireFault → Type 0
BodyRead f all rest result = WholeRead BODY_LIMIT f all rest result

-- ---- a line of a body

-- no line feed is among the bytes
abbrev pub is_unfinished : List ℕ → Bool
is_unfinished bytes = not (list_any (λ b. b == line_feed) bytes)

-- a line with its line feed, the only one
abbrev pub IsLine : List ℕ → Type 0
IsLine line = (front : List ℕ) × (line ≡ front ++ line_feed ∷ []) × IsTrue (is_unfinished front)

-- the last line of a body, which ends with it
pub record IsLast (c : Content) (line rest : List ℕ) (left : Content) : Type 0 where
  pub bytes : line ≡ c.bytes
  pub unfinished : IsTrue (is_unfinished line)
  pub end : IsEnd c.end rest
  pub left_is : left ≡ only (Ended rest)

-- The next line of a body, and the framing that says how it goes on: the first bytes up to a line feed, or all there are
-- where none comes. None is the body's end. A line has at most so many bytes.
abbrev pub LineRead : ℕ → Framing → List ℕ → Framing → List ℕ → Result (Option (List ℕ)) WireFault → Type 0
LineRead most f all g rest (Ok (Some line)) =
    (length line ≤ most)
    × ((IsLine line × (content None f all ≡ after line (content None g rest)))
    ⊎ ((0 < length line) × IsLast (content None f all) line rest (content None g rest)))
LineRead most f all g rest (Ok None) = IsLast (content None f all) [] rest (content None g rest)
LineRead most f all g rest (Err BodyTooLong) =
    (most < length (content None f all).bytes) × IsTrue (is_unfinished (take most (content None f all).bytes))
LineRead most f all g rest (Err fault) =
    IsTrue (is_of_bytes fault) → (length (content None f all).bytes ≤ most)
    × IsTrue (is_unfinished (content None f all).bytes) × IsBroken (content None f all).end fault
