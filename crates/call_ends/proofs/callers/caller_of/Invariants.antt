-- The first of those to come is the first of all.
use Rattle.std.proofs.Common.{◌≡◌, map, drop}
use Rattle.call_ends.specs.Callers.{caller_of}
use Rattle.call_ends.proofs.callers.caller_of.Given as goal

abbrev pub invariant-loop-row : goal.invariant-loop-row
invariant-loop-row l = caller_of l.call (map (λ r. r.1) (drop l.row-index l.rows)) ≡ caller_of l.call (map (λ r. r.1) l.rows)
