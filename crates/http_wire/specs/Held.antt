-- The bytes that a wire holds, and what reading more of them does.
use Rattle.std.specs.Prelude.{◌≡◌, ℕ, ◌<◌, Bool, true, false, List, [], ◌++◌, length, slice_range, Option, None, Some, Result, ⊤}
use Rattle.std.specs.Io.KnownBytes.{IsAtEnd, prepend_known}
use Rattle.http_wire.specs.declared.buffer.Buffer.{Buffer}
use Rattle.http_wire.specs.declared.fault.WireFault.{WireFault}
use Rattle.http_wire.specs.declared.fault.WireFault.TheVariants.{ReadFault, NoMemory}

-- the bytes that were read and not used yet
abbrev pub held : Buffer → List ℕ
held b = slice_range b.room.items b.start b.end

-- the bytes ahead, which are held or still in the source, where that tells them
abbrev pub ahead : Option (List ℕ) → Buffer → Option (List ℕ)
ahead left b = prepend_known (held b) left

-- so many bytes stand behind what was held before
abbrev pub Grows : List ℕ → List ℕ → ℕ → Type 0
Grows before now count = (piece : List ℕ) × (now ≡ before ++ piece) × (length piece ≡ count)

-- the fault of a source or of memory, which says nothing of the bytes
abbrev pub IsOutside : WireFault → Type 0
IsOutside ReadFault = ⊤
IsOutside NoMemory = ⊤
IsOutside _ = ⊥

-- what was read of the bytes ahead, and what is ahead then, where the source tells its bytes
abbrev pub ReadsAhead : {T : Type 0} → (List ℕ → List ℕ → Result T WireFault → Type 0) → Option (List ℕ) → Option (List ℕ) → Result T WireFault → Type 0
ReadsAhead P None new r = ⊤
ReadsAhead P (Some all) None r = ⊥
ReadsAhead P (Some all) (Some rest) r = P all rest r

-- a byte is held, or none comes
abbrev pub Waited : Bool → List ℕ → Option (List ℕ) → Type 0
Waited true held left = 0 < length held
Waited false held left = (held ≡ []) × IsAtEnd left
