-- The numbers and records of the bodies so far.
use Rattle.std.proofs.Common.{◌≡◌, take, sum_by}
use Rattle.std.specs.List.{flat_map}
use Rattle.proxy_model.specs.Limits.{capped}
use Rattle.proxy_model.specs.Readings.{deleted_of, prevs_of}
use Rattle.lease_txn.proofs.written.joined.Given as goal

abbrev pub invariant-loop-body : goal.invariant-loop-body
invariant-loop-body l = record {
  numbers : l.deleted ≡ capped (sum_by deleted_of (take l.body-index l.bodies));
  records : l.prevs ≡ flat_map prevs_of (take l.body-index l.bodies);
}
