-- The operations so far fit, so what is left decides.
use Rattle.std.proofs.Common.{◌≡◌, drop, length}
use Rattle.proxy_model.specs.Fits.{fits_all}
use Rattle.lease_txn.proofs.fits.+fits.Given as goal

abbrev pub invariant-fits_all-loop-at : goal.invariant-fits_all-loop-at
invariant-fits_all-loop-at l = record {
  even : length l.op-items ≡ length l.bodies;
  rest : fits_all (drop l.at l.op-items) (drop l.at l.bodies) ≡ fits_all l.fn.ops l.fn.bodies;
}
