-- Those so far are done, and the others as they were.
use Rattle.std.proofs.Common.{◌≡◌, ◌++◌, map, take, drop}
use Rattle.wait_model.specs.ForeignOwnership.{asked_back}
use Rattle.wait_model.proofs.found.take_back_in.Given as goal

abbrev pub invariant-loop-found : goal.invariant-loop-found
invariant-loop-found l = l.found-items ≡ map (asked_back l.call l.held) (take l.found-index l.initial.found-items) ++ drop l.found-index l.initial.found-items
