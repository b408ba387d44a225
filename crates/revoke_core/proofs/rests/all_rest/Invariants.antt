-- Those so far rest.
use Rattle.std.proofs.Common.{◌≡◌, [], take, drop}
use mathlib.Core.List.{reverse}
use Rattle.revoke_core.specs.Rests.{all_rest}
use Rattle.revoke_core.proofs.rests.all_rest.Given as goal

abbrev pub invariant-loop-at : goal.invariant-loop-at
invariant-loop-at l = all_rest (reverse (take l.at l.writes)) (drop l.at l.writes) ≡ all_rest [] l.writes
