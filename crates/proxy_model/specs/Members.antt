-- The members of the cluster, from 1: calls go to the current one, and a member that failed hands on to the next. Beside
-- them the revision seen, below which an answer to a read is stale (the ordering client of etcd's clientv3).
use Rattle.std.specs.Prelude.{ℕ, ◌+◌, max, Bool, ◌==◌, nat_lt, if◌then◌else◌}

pub record Members : Type 0 where
  -- how many there are
  pub count : ℕ
  -- the one that the next call goes to
  pub current : ℕ
  -- the greatest revision of the headers delivered
  pub seen : ℕ

abbrev pub first_members : ℕ → Members
first_members count = record { count = count; current = 1; seen = 0 }

-- the member behind this one, cyclically
abbrev pub next_member : ℕ → ℕ → ℕ
next_member count member = if member == count then 1 else member + 1

-- a lost call or a stale reply of this member moves on where it is the current one
abbrev pub failed : Members → ℕ → Members
failed m member = if member == m.current then record m { current = next_member m.count m.current } else m

-- a delivered header raises the revision seen
abbrev pub take_seen : Members → ℕ → Members
take_seen m revision = record m { seen = max m.seen revision }

-- an answer is stale where its header's revision is below the revision seen when it was sent
abbrev pub is_stale : ℕ → ℕ → Bool
is_stale sent_at revision = nat_lt revision sent_at
