-- The leases passed have other numbers.
use Rattle.std.proofs.Common.{◌≡◌, ◌++◌, take, drop}
use Rattle.store_model.specs.Leases.{without_lease}
use Rattle.audit_store.proofs.leases.place_found.Given as goal

abbrev pub invariant-loop-index : goal.invariant-loop-index
invariant-loop-index l =
    without_lease l.number l.leases ≡ take l.index l.leases ++ without_lease l.number (drop l.index l.leases)
