-- Moments of the system's clock, in milliseconds from some start, from 1 on. What the clock reads no clause can say.
use Rattle.std.specs.Prelude.{ℕ, ◌+◌, ◌*◌, ◌≤◌, ◌<◌, min}
use Rattle.std.specs.Duration.{as_nanos}
use Rattle.std.specs.declared.time.Duration.{Duration}

-- the earliest moment that may be in so many milliseconds, which is the last one where 64 bits don't count so far
abbrev pub moment_in : ℕ → ℕ
moment_in millis = min (millis + 1) 0xffff_ffff_ffff_ffff

-- a moment is no later than `end`, and is `end` where that is before all that may be in so many milliseconds
pub record NoLater (end millis moment : ℕ) : Type 0 where
  pub within : moment ≤ end
  pub enough : min end (moment_in millis) ≤ moment

-- some time is left until the moment `end`, and less than from the start
pub record IsLeft (end : ℕ) (time : Duration) : Type 0 where
  pub some : 0 < as_nanos time
  pub within : as_nanos time < end * 1_000_000
