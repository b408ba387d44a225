-- None of those so far is of the key.
use Rattle.std.proofs.Common.{◌≡◌, drop}
use Rattle.revoke_calls.specs.Ends.{left_at}
use Rattle.revoke_calls.proofs.left.find_in.Given as goal

abbrev pub invariant-loop-left : goal.invariant-loop-left
invariant-loop-left l = left_at l.key (drop l.left-index l.lefts) ≡ left_at l.key l.lefts
