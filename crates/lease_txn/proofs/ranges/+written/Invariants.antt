-- What is left adds the rest.
use Rattle.std.proofs.Common.{◌≡◌, drop}
use Rattle.proxy_model.specs.SeveralKeys.{with_all_written}
use Rattle.lease_txn.proofs.ranges.+written.Given as goal

abbrev pub invariant-add_all_written-loop-op : goal.invariant-add_all_written-loop-op
invariant-add_all_written-loop-op l =
    with_all_written (drop l.op-index l.op-items) l.ranges.items ≡ with_all_written l.op-items l.initial.ranges.items
