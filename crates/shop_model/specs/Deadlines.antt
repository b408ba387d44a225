-- When leases expire, by the readings of the server's clock in milliseconds: a lease is due where its deadline has come.
use Rattle.std.specs.Prelude.{ℕ, Bool, ◌==◌, ◌+◌, ◌*◌, nat_lt, nat_le, min, max, if◌then◌else◌, List, [], ◌∷◌, map, filter}
use Rattle.shop_model.specs.declared.deadline.Deadline.{Deadline}

abbrev pub deadline_number : Deadline → ℕ
deadline_number d = d.number

-- so many seconds from now; a sum beyond 64 bits counts as their last number
abbrev pub ends_at : ℕ → ℕ → ℕ
ends_at now ttl = min (now + 1000 * ttl) 0xffff_ffff_ffff_ffff

-- the deadline in its place among rising numbers
abbrev pub with_deadline : Deadline → List Deadline → List Deadline
with_deadline d [] = d ∷ []
with_deadline d (other ∷ others) =
    if nat_lt other.number d.number then other ∷ with_deadline d others else d ∷ other ∷ others

-- a lease has one deadline
abbrev pub without_deadline : ℕ → List Deadline → List Deadline
without_deadline number [] = []
without_deadline number (d ∷ ds) = if d.number == number then ds else d ∷ without_deadline number ds

-- a lease that is kept alive has the later of its deadline and this one
abbrev pub put_off : ℕ → ℕ → Deadline → Deadline
put_off number at d = if d.number == number then record d { at = max d.at at } else d

abbrev pub is_due : ℕ → Deadline → Bool
is_due now d = nat_le d.at now

-- the leases that are due, by rising numbers
abbrev pub due : ℕ → List Deadline → List ℕ
due now ds = map deadline_number (filter (is_due now) ds)
