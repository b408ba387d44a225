-- What a read leaves in its room.
use Rattle.std.specs.Prelude.{◌≡◌, ℕ, List, take, Option, MatchResult, Result}
use Rattle.std.specs.Io.KnownBytes.{Consumes, Keeps, IsAtEnd}

-- the bytes that a read gave are at the room's front, none only at the end; a failure takes none
abbrev pub ReadBehind : {E : Type 0} → Option (List ℕ) → Option (List ℕ) → List ℕ → Result ℕ E → Type 0
ReadBehind left rest room r = MatchResult r (λ n. Consumes left rest (take n room) × (n ≡ 0 → IsAtEnd rest)) (λ _. Keeps left rest)
