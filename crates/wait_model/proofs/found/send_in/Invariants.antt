-- Those so far are done, and the others as they were.
use Rattle.std.proofs.Common.{◌≡◌, ◌++◌, map, take, drop}
use Rattle.wait_model.specs.Sent.{found_sent}
use Rattle.wait_model.proofs.found.send_in.Given as goal

abbrev pub invariant-loop-found : goal.invariant-loop-found
invariant-loop-found l = l.found-items ≡ map (found_sent l.call l.key) (take l.found-index l.initial.found-items) ++ drop l.found-index l.initial.found-items
