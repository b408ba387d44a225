-- Leases with positive numbers and times to live that are not too long, no two with one number.
use Rattle.std.specs.Prelude.{ℕ, ◌≤◌, ◌<◌, List, [], ◌∷◌}
use Rattle.store_model.specs.declared.lease.Lease.{Lease}

abbrev pub IsProper : Lease → Type 0
IsProper lease = (lease.ttl ≤ 9_000_000_000) × (0 < lease.number)

abbrev pub AreProper : List Lease → Type 0
AreProper [] = Unit {0}
AreProper (lease ∷ leases) = IsProper lease × AreProper leases

-- the number of each is above those before it, and above the low one
abbrev pub Climb : ℕ → List Lease → Type 0
Climb low [] = Unit {0}
Climb low (lease ∷ leases) = (low < lease.number) × Climb lease.number leases
