-- What the requests of a process share (docs/OPERATIONS.md, limits).
use Rattle.std.specs.Prelude.{ℕ}

-- how many requests may be worked on at a time, where they are large, and how many bytes the large ones may have in all
pub record Room : Type 0 where
  pub permits : ℕ
  pub bytes : ℕ
