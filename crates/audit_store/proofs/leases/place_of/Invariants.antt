-- The leases passed stand before the number.
use Rattle.std.proofs.Common.{◌≡◌, ℕ, ◌++◌, take, drop}
use Rattle.store_model.specs.Leases.{with_lease}
use Rattle.audit_store.proofs.leases.place_of.Given as goal

abbrev pub invariant-loop-index : goal.invariant-loop-index
invariant-loop-index l =
    (ttl : ℕ) → with_lease (record { number = l.number; ttl = ttl }) l.leases
    ≡ take l.index l.leases ++ with_lease (record { number = l.number; ttl = ttl }) (drop l.index l.leases)
