-- The rows so far are done, and the others as they were.
use Rattle.std.proofs.Common.{◌≡◌, ◌++◌, map, take, drop}
use Rattle.keyed_rows.specs.Places.{raised_in}
use Rattle.keyed_rows.proofs.Rows+bool.raise_in.Given as goal

abbrev pub invariant-loop-row : goal.invariant-loop-row
invariant-loop-row l = l.row-items ≡ map (raised_in l.ranges) (take l.row-index l.initial.row-items) ++ drop l.row-index l.initial.row-items
