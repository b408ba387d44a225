-- What was found of the owners so far.
use Rattle.std.proofs.Common.{◌≡◌, take}
use Rattle.wait_model.specs.GuardedAnswers.{kept_entries}
use Rattle.revoke_calls.specs.Ends.{found_in}
use Rattle.revoke_calls.proofs.owners.found_in.Given as goal

abbrev pub invariant-loop-row : goal.invariant-loop-row
invariant-loop-row l = l.found ≡ found_in l.session l.step (kept_entries l.write l.owners l.table.entries) (take l.row-index l.others)
