-- What the sending of a call comes to, as far as the writer tells what it took. A call is made at most once: it goes over another
-- connection only where no byte of it was taken.
use Rattle.std.specs.Prelude.{◌≡◌, ℕ, ◌<◌, List, ◌++◌, length, Option, Result, Ok, Err}
use Rattle.std.specs.Io.KnownBytes.{Appends, Keeps}
use Rattle.member_links.specs.declared.upstream.Unsent.{Unsent}
use Rattle.member_links.specs.declared.upstream.Unsent.TheVariants as unsent

-- a prefix was taken, of one byte at the least
pub record TakesPrefix (old new : Option (List ℕ)) (bytes : List ℕ) : Type 0 where
  pub front : List ℕ
  pub rest : List ℕ
  pub parts : bytes ≡ front ++ rest
  pub some : 0 < length front
  pub taken : Appends old new front

-- all bytes were taken, none, or a prefix
abbrev pub IsSent : Option (List ℕ) → Option (List ℕ) → List ℕ → Result (Unit {0}) Unsent → Type 0
IsSent old new bytes (Ok done) = Appends old new bytes
IsSent old new bytes (Err (unsent.Untouched error)) = Keeps old new
IsSent old new bytes (Err (unsent.Prefix error)) = TakesPrefix old new bytes
