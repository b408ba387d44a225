-- What a failed write of many bytes leaves.
use Rattle.std.specs.Prelude.{◌≡◌, ℕ, List, ◌++◌, Option}
use Rattle.std.specs.Io.KnownBytes.{Appends}

-- a front of the bytes was written, where the sink tells
pub record WritesFront (old new : Option (List ℕ)) (bytes : List ℕ) : Type 0 where
  pub front : List ℕ
  pub rest : List ℕ
  pub parts : bytes ≡ front ++ rest
  pub written : Appends old new front
