-- What is left decides, and is short.
use Rattle.std.proofs.Common.{◌≡◌, drop}
use Rattle.store_model.specs.Leases.{granted}
use Rattle.audit_store.specs.ProperLeases.{AreProper}
use Rattle.audit_store.proofs.leases.Leases.granted.Given as goal

abbrev pub invariant-loop-lease : goal.invariant-loop-lease
invariant-loop-lease l = record {
  left : granted (drop l.lease-index l.lease-items) l.number ≡ granted l.lease-items l.number;
  short : AreProper (drop l.lease-index l.lease-items);
}
