-- None of those so far comes before.
use Rattle.std.proofs.Common.{◌≡◌, true, take}
use Rattle.store_machine.specs.Order.{are_from}
use Rattle.store_machine.proofs.deadlines.soonest.Given as goal

abbrev pub invariant-loop-deadline : goal.invariant-loop-deadline
invariant-loop-deadline l = are_from l.soonest (take l.deadline-index l.deadlines) ≡ true
