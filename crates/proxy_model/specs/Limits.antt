-- A sum or product of times, revisions or versions that passes the last number of 64 bits counts as that number.
use Rattle.std.specs.Prelude.{ℕ, min}

abbrev pub capped : ℕ → ℕ
capped n = min n 0xffff_ffff_ffff_ffff
