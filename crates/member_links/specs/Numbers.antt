-- The numbers of a cluster's members, which begin with 1.
use Rattle.std.specs.Prelude.{ℕ, ◌≤◌, ◌<◌}

-- a member of this number is there, among so many
pub record IsThere (members number : ℕ) : Type 0 where
  pub first : 0 < number
  pub last : number ≤ members
