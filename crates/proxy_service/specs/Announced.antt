-- What is written of a server's start: a line once it listens, and nothing where it doesn't.
use Rattle.std.specs.Prelude.{◌≡◌, ℕ, Bool, true, false, List, [], ◌∷◌, Option, Ok, Err}
use Rattle.std.specs.Io.KnownBytes.{Appends}
use Rattle.outside.specs.Calls.{HostCall, Listened}
use Rattle.outside.specs.Faults.{Rose}
use Rattle.outside.specs.Streams.{WritesFront}

-- the first of these calls listened
abbrev pub listens : {C : Type 0} → List (HostCall C) → Bool
listens (Listened address (Ok done) ∷ calls) = true
listens _ = false

-- where it listens the line was written, or a front of it where that failed
pub data Announces (line : List ℕ) (told told' : Option (List ℕ)) (faults faults' : ℕ) : Bool → Type 0 where
  whole : Appends told told' line → Announces line told told' faults faults' true
  front : WritesFront told told' line → Rose faults faults' → Announces line told told' faults faults' true
  silent : told' ≡ told → Announces line told told' faults faults' false
