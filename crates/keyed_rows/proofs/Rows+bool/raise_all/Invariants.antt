-- The rows so far are done, and the others as they were.
use Rattle.std.proofs.Common.{◌≡◌, ◌++◌, ℕ, Bool, true, List, map, take, drop}
use Rattle.keyed_rows.proofs.Rows+bool.raise_all.Given as goal

abbrev pub invariant-loop-row : goal.invariant-loop-row
invariant-loop-row l = l.row-items ≡ map (λ (row : List ℕ × Bool). (row.0, true)) (take l.row-index l.initial.row-items) ++ drop l.row-index l.initial.row-items
