-- The numbers so far are those of the front.
use Rattle.std.proofs.Common.{◌≡◌, take, map}
use Rattle.store_model.specs.Leases.{lease_number}
use Rattle.audit_store.proofs.leases.Leases.numbers.Given as goal

abbrev pub invariant-loop-lease : goal.invariant-loop-lease
invariant-loop-lease l = l.numbers ≡ map lease_number (take l.lease-index l.lease-items)
