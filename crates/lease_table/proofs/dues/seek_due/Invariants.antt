-- None of the rows so far is one.
use Rattle.std.proofs.Common.{◌≡◌}
use Rattle.lease_table.specs.Dues.{first_due_from}
use Rattle.lease_table.proofs.dues.seek_due.Given as goal

abbrev pub invariant-loop-place : goal.invariant-loop-place
invariant-loop-place l = first_due_from l.rows.rows l.place ≡ first_due_from l.rows.rows l.from
