-- The rows of the range so far are given up, and the others as they were; none before the range is in it.
use Rattle.std.proofs.Common.{◌≡◌, ◌-◌, length}
use Rattle.etcd_types.specs.Ranges.{lowest}
use Rattle.proxy_model.specs.LeaseTable.{Table}
use Rattle.lease_table.proofs.Starts.{IsPast, partly}
use Rattle.lease_table.proofs.LeaseTable.leave_range.Given as goal

abbrev pub invariant-loop-self : goal.invariant-loop-self
invariant-loop-self l =
    record {
      table : ◌≡◌ {A = Table} l.self (record l.fn.self { entries = partly l.range l.fn.self.entries l.place });
      past : IsPast (lowest l.range) l.fn.self.entries l.place;
    }

abbrev pub decreases-loop-self : goal.decreases-loop-self
decreases-loop-self l = length l.fn.self.entries - l.place
