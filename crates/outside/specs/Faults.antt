-- Counts of failures. A count never falls, and it ends at the last number of 64 bits, where it stays.
use Rattle.std.specs.Prelude.{◌≡◌, ◌⊎◌, ℕ, ◌+◌, ◌≤◌, min, Result, OnOk, OnErr}

-- a count of 64 bits after one thing more
abbrev pub one_more : ℕ → ℕ
one_more count = min (count + 1) 0xffff_ffff_ffff_ffff

-- one more than before at the least, as far as 64 bits count
abbrev pub Rose : ℕ → ℕ → Type 0
Rose earlier later = min (earlier + 1) 0xffff_ffff_ffff_ffff ≤ later

-- a count after what may have failed once
abbrev pub AtMostOnce : ℕ → ℕ → Type 0
AtMostOnce earlier later = (later ≡ earlier) ⊎ (later ≡ one_more earlier)

-- what a call that may fail does to its object's count: it rises with a failure alone
pub record HasCause {T E : Type 0} (earlier later : ℕ) (result : Result T E) : Type 0 where
  pub kept : earlier ≤ later
  pub rose : OnErr result (Rose earlier later)
  pub still : OnOk result (later ≡ earlier)

-- what an adapter asks, and how often that has failed
pub record Counted (A : Type 0) : Type 0 where
  pub inner : A
  pub faults : ℕ
