-- The ranges so far come before it.
use Rattle.std.proofs.Common.{◌≡◌, ◌++◌, take, drop}
use Rattle.proxy_model.specs.SeveralKeys.{with_range}
use Rattle.lease_txn.proofs.ranges.place_of.Given as goal

abbrev pub invariant-loop-at : goal.invariant-loop-at
invariant-loop-at l = with_range l.range l.ranges ≡ take l.at l.ranges ++ with_range l.range (drop l.at l.ranges)
