-- The bodies so far fit, so what is left decides.
use Rattle.std.proofs.Common.{◌≡◌, map, drop, length}
use Rattle.proxy_model.specs.Fits.{fits_all}
use Rattle.proxy_model.specs.Guarded.{read_owners}
use Rattle.lease_txn.proofs.written.fits_owners.Given as goal

abbrev pub invariant-loop-at : goal.invariant-loop-at
invariant-loop-at l = record {
  even : length l.ranges ≡ length l.bodies;
  rest : fits_all (map (read_owners l.prefix) (drop l.at l.ranges)) (drop l.at l.bodies) ≡ fits_all (map (read_owners l.prefix) l.ranges) l.bodies;
}
