-- How a body is read, a piece at a time.
use Rattle.std.specs.Prelude.{◌≡◌, ℕ, zero, suc, ◌+◌, ◌-◌, ◌<◌, ◌≤◌, Bool, true, false, List, [], ◌∷◌, ◌++◌, length, take, drop, Option, None, Some, Result, Ok, Err, IsTrue, ⊤}
use Rattle.http_wire.specs.declared.fault.WireFault.{WireFault}
use Rattle.http_wire.specs.declared.fault.WireFault.TheVariants.{BodyTooLong, BadChunk, EndedEarly, ReadFault, WriteFault, NoMemory}
use Rattle.http_wire.specs.declared.message.Framing.{Framing}
use Rattle.http_wire.specs.declared.message.Framing.TheVariants.{Length, Chunks, ToEnd}
use Rattle.http_wire.specs.declared.body.Next.{Next}
use Rattle.http_wire.specs.declared.body.Next.TheVariants as next
use Rattle.http_wire.specs.declared.lines.Turn.{Turn}
use Rattle.http_wire.specs.declared.lines.Turn.TheVariants as turn
use Rattle.http_wire.specs.Bodies.{Content, Ended, only, after, exceeds, content, lessened, chunked, InLine, InData, sized, trailed, IsEnd, IsBroken, is_of_bytes, is_unfinished, IsLine, IsLast, LineRead}
use Rattle.http_wire.specs.Ends.{trailer_end}

-- what a body that goes on so is
abbrev pub going : Option ℕ → Next → List ℕ → Content
going most (next.Counted n) all = content most (Length n) all
going most (next.Chunk n) all = content most (Chunks (suc n) false) all
going most next.ToEnd all = content most ToEnd all
going most next.Done all = only (Ended all)

-- a fault that is about the bytes breaks the body before any byte of it
abbrev pub Breaks : Content → WireFault → Type 0
Breaks c fault = IsTrue (is_of_bytes fault) → (c.bytes ≡ []) × IsBroken c.end fault

-- a fault of reading that isn't about how many bytes a body has
abbrev pub IsShort : WireFault → Type 0
IsShort BodyTooLong = ⊥
IsShort WriteFault = ⊥
IsShort _ = ⊤

-- one byte was there and taken, another stands in its place, or none comes
abbrev pub ByteRead : ℕ → List ℕ → List ℕ → Result (Unit {0}) WireFault → Type 0
ByteRead wanted all rest (Ok done) = all ≡ wanted ∷ rest
ByteRead wanted all rest (Err BadChunk) = (b : ℕ) × (bs : List ℕ) × (all ≡ b ∷ bs) × (b ≡ wanted → ⊥)
ByteRead wanted all rest (Err EndedEarly) = all ≡ []
ByteRead wanted all rest (Err ReadFault) = ⊤
ByteRead wanted all rest (Err NoMemory) = ⊤
ByteRead wanted all rest (Err _) = ⊥

-- the CR LF after a chunk's data
abbrev pub CloseRead : List ℕ → List ℕ → Result (Unit {0}) WireFault → Type 0
CloseRead all rest (Ok done) = (most : Option ℕ) → chunked most (InData 0) all ≡ chunked most (InLine []) rest
CloseRead all rest (Err fault) = (most : Option ℕ) → Breaks (chunked most (InData 0) all) fault

-- a size line
abbrev pub SizeRead : List ℕ → List ℕ → Result ℕ WireFault → Type 0
SizeRead all rest (Ok n) = (most : Option ℕ) → chunked most (InLine []) all ≡ sized most (Some n) rest (λ k. chunked (lessened most k) (InData k) rest)
SizeRead all rest (Err fault) = (most : Option ℕ) → Breaks (chunked most (InLine []) all) fault

-- a trailer
abbrev pub TrailerRead : List ℕ → List ℕ → Result (Unit {0}) WireFault → Type 0
TrailerRead all rest (Ok done) = ((trailed all (trailer_end all)).bytes ≡ []) × IsEnd (trailed all (trailer_end all)).end rest
TrailerRead all rest (Err fault) = Breaks (trailed all (trailer_end all)) fault

-- what comes next, where the body is read from a framing on
abbrev pub NextRead : Framing → List ℕ → List ℕ → Result Next WireFault → Type 0
NextRead f all rest (Ok next.Done) = (most : Option ℕ) → ((content most f all).bytes ≡ []) × IsEnd (content most f all).end rest
NextRead f all rest (Ok next) = (most : Option ℕ) → content most f all ≡ going most next rest
NextRead f all rest (Err fault) = (most : Option ℕ) → Breaks (content most f all) fault

-- there is data in a chunk that goes on
abbrev pub IsGoing : Next → Type 0
IsGoing (next.Chunk n) = 0 < n
IsGoing _ = ⊤

-- more is stated than may come
abbrev pub over : Option ℕ → Next → Bool
over most (next.Counted n) = exceeds most n
over most (next.Chunk n) = exceeds most n
over most _ = false

-- the framing after so many bytes of it
abbrev pub spent : Next → ℕ → Framing
spent (next.Counted n) count = Length (n - count)
spent (next.Chunk n) count = Chunks (suc (n - count)) false
spent next.ToEnd count = ToEnd
spent next.Done count = Chunks 0 true

-- so many of the body's bytes are the next ones, or fewer; none are at its end; or it breaks off
abbrev pub Readied : Next → List ℕ → Result ℕ WireFault → Type 0
Readied next all (Ok zero) = (most : Option ℕ) → going most next all ≡ only (Ended all)
Readied next all (Ok (suc k)) =
    (suc k ≤ length all)
    × ((most : Option ℕ) → over most next ≡ false → (n : ℕ) → n ≤ suc k → exceeds most n ≡ false
    → going most next all ≡ after (take n all) (content (lessened most n) (spent next n) (drop n all)))
Readied next all (Err fault) = (most : Option ℕ) → over most next ≡ false → Breaks (going most next all) fault

-- the bytes ahead stay, and this is known of them
abbrev pub KnownAhead : (List ℕ → Type 0) → Option (List ℕ) → Option (List ℕ) → Type 0
KnownAhead P None new = ⊤
KnownAhead P (Some all) None = ⊥
KnownAhead P (Some all) (Some rest) = (rest ≡ all) × P all

-- so many held bytes of those that are counted, or nothing comes
abbrev pub Counts : ℕ → List ℕ → List ℕ → Result ℕ WireFault → Type 0
Counts count held all (Ok n) = (0 < n) × (n ≤ count) × (n ≤ length held) × (n ≤ length all)
Counts count held all (Err EndedEarly) = all ≡ []
Counts count held all (Err ReadFault) = ⊤
Counts count held all (Err NoMemory) = ⊤
Counts count held all (Err _) = ⊥

-- so many bytes may be taken of it
abbrev pub Claims : Next → ℕ → Type 0
Claims (next.Counted n) count = count ≤ n
Claims (next.Chunk n) count = (0 < count) × (count ≤ n)
Claims next.ToEnd count = ⊤
Claims next.Done count = count ≡ 0

-- one turn at a whole body of at most so many bytes: more of it stands behind what was read before, or it ends, or it breaks off
abbrev pub BodyTurn : ℕ → Framing → Framing → List ℕ → List ℕ → List ℕ → List ℕ → Result Bool WireFault → Type 0
BodyTurn most f g before now all rest (Ok true) =
    (piece : List ℕ) × (now ≡ before ++ piece)
    × (content (Some (most - length before)) f all ≡ after piece (content (Some (most - length now)) g rest))
BodyTurn most f g before now all rest (Ok false) =
    (now ≡ before) × ((content (Some (most - length before)) f all).bytes ≡ [])
    × IsEnd (content (Some (most - length before)) f all).end rest
BodyTurn most f g before now all rest (Err fault) =
    IsTrue (is_of_bytes fault) → IsBroken (content (Some (most - length before)) f all).end fault

-- what was read of a body so far, and how the rest of it is read
abbrev pub Pends : ℕ → Framing → Option (List ℕ) → List ℕ → Framing → Option (List ℕ) → Type 0
Pends most f None body g now = ⊤
Pends most f (Some all) body g None = ⊥
Pends most f (Some all) body g (Some rest) =
    content (Some most) f all ≡ after body (content (Some (most - length body)) g rest)

-- ---- lines

-- the framing at the body's end
abbrev pub ended : Next → Framing
ended (next.Counted n) = Length 0
ended (next.Chunk n) = Chunks 0 true
ended next.ToEnd = ToEnd
ended next.Done = Chunks 0 true

-- the first line of the bytes, or all of them where no line ends among them
abbrev pub LineIn : List ℕ → ℕ × Turn → Type 0
LineIn bytes (count, turn.Whole) = (0 < count) × (count ≤ length bytes) × IsLine (take count bytes)
LineIn bytes (count, turn.More) = (count ≡ length bytes) × IsTrue (is_unfinished (take count bytes))
LineIn bytes (count, turn.Last) = ⊥

-- what is known of a piece
abbrev pub IsPiece : Turn → List ℕ → Type 0
IsPiece turn.Whole piece = IsLine piece
IsPiece turn.More piece = IsTrue (is_unfinished piece)
IsPiece turn.Last piece = ⊥

-- one turn at a line of at most so many bytes: a piece of it stands behind what was read before, or the body ends, or it breaks off
abbrev pub LineTurn : ℕ → Framing → Framing → List ℕ → List ℕ → List ℕ → List ℕ → Result Turn WireFault → Type 0
LineTurn most f g before now all rest (Ok turn.Last) =
    (now ≡ before) × IsLast (content None f all) [] rest (content None g rest)
LineTurn most f g before now all rest (Ok turn) =
    (piece : List ℕ) × (now ≡ before ++ piece) × IsPiece turn piece × (content None f all ≡ after piece (content None g rest))
LineTurn most f g before now all rest (Err BodyTooLong) =
    (piece : List ℕ) × (c : Content) × (content None f all ≡ after piece c) × (most < length before + length piece)
    × IsTrue (is_unfinished (take (most - length before) piece))
LineTurn most f g before now all rest (Err fault) = Breaks (content None f all) fault

-- what was read of a line so far, which has no end yet, and how the rest of the body is read
abbrev pub LinePends : Framing → Option (List ℕ) → List ℕ → Framing → Option (List ℕ) → Type 0
LinePends f None line g now = ⊤
LinePends f (Some all) line g None = ⊥
LinePends f (Some all) line g (Some rest) =
    IsTrue (is_unfinished line) × (content None f all ≡ after line (content None g rest))

-- what is read of the bytes ahead as a line
abbrev pub NextLine : ℕ → Framing → Framing → List ℕ → List ℕ → Result (Option (List ℕ)) WireFault → Type 0
NextLine most f g all rest r = LineRead most f all g rest r
