-- What is seen of a clock of the system.
use Rattle.std.specs.Prelude.{ℕ}

-- its last reading, in milliseconds, or 0 where there was none, and how often the system refused it a reading
pub record Clocked : Type 0 where
  pub last : ℕ
  pub faults : ℕ
