-- Leases with positive numbers and times to live that are not too long.
use Rattle.std.specs.Prelude.{◌≤◌, ◌<◌, List, [], ◌∷◌}
use Rattle.store_model.specs.declared.lease.Lease.{Lease}

abbrev pub IsProper : Lease → Type 0
IsProper lease = (lease.ttl ≤ 9_000_000_000) × (0 < lease.number)

abbrev pub AreProper : List Lease → Type 0
AreProper [] = Unit {0}
AreProper (lease ∷ leases) = IsProper lease × AreProper leases
