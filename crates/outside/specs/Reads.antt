-- The reads that are made of a source, one after the other.
use Rattle.std.specs.Prelude.{◌≤◌, ℕ, List, [], ◌++◌, Result, Ok, Err, take}

-- the bytes that a read brought, which came into the front of the room
abbrev pub came : {E : Type 0} → Result ℕ E → List ℕ → Result (List ℕ) E
came (Ok count) room = Ok (take count room)
came (Err why) room = Err why

-- From one state of a source to a later one by reads alone, which brought these bytes. Each was made into a room of at most `most` bytes, and where `P`
-- holds of the bytes that had come before it. `reads` says which reads the source may make.
module _ {S E : Type 0} (reads : S → ℕ → Result (List ℕ) E → S → Type 0) (most : ℕ) (P : List ℕ → Type 0) where
  pub data ReadsWhile : S → S → List ℕ → Type 0 where
    none : (s : S) → ReadsWhile s s []
    more : {old mid new : S} {before : List ℕ} (piece : List ℕ) (size : ℕ) → ReadsWhile old mid before → P before → size ≤ most → reads mid size (Ok piece) new → ReadsWhile old new (before ++ piece)
    failed : {old mid new : S} {before : List ℕ} (why : E) (size : ℕ) → ReadsWhile old mid before → P before → size ≤ most → reads mid size (Err why) new → ReadsWhile old new before
