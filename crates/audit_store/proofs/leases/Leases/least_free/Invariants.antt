-- The numbers up to here are in use.
use Rattle.std.proofs.Common.{◌≡◌, ◌+◌, drop}
use Rattle.store_model.specs.Leases.{least_free, least_free_from}
use Rattle.audit_store.proofs.leases.Leases.least_free.Given as goal

abbrev pub invariant-loop-lease : goal.invariant-loop-lease
invariant-loop-lease l = record {
  number : l.number ≡ l.lease-index + 1;
  left : least_free_from l.number (drop l.lease-index l.lease-items) ≡ least_free l.lease-items;
}
