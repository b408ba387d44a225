-- What was left at the keys so far.
use Rattle.std.proofs.Common.{◌≡◌, map, take}
use Rattle.revoke_calls.specs.Ends.{left_in}
use Rattle.revoke_calls.proofs.left.lefts_in.Given as goal

abbrev pub invariant-loop-range : goal.invariant-loop-range
invariant-loop-range l = l.lefts.items ≡ map (left_in l.write l.reply l.table.entries) (take l.range-index l.range-items)
