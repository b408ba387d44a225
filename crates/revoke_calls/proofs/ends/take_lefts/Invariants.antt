-- What was left at the keys so far is taken.
use Rattle.std.proofs.Common.{◌≡◌}
use Rattle.revoke_calls.specs.Ends.{all_wrote}
use Rattle.revoke_calls.proofs.ends.take_lefts.Given as goal

abbrev pub invariant-loop-left : goal.invariant-loop-left
invariant-loop-left l = l.table.entries ≡ all_wrote l.yielded l.initial.table.entries
