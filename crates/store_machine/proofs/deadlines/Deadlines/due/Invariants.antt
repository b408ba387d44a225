-- The numbers so far are those of the front.
use Rattle.std.proofs.Common.{◌≡◌, take}
use Rattle.shop_model.specs.Deadlines.{due}
use Rattle.store_machine.proofs.deadlines.Deadlines.due.Given as goal

abbrev pub invariant-loop-deadline : goal.invariant-loop-deadline
invariant-loop-deadline l = l.numbers ≡ due l.now (take l.deadline-index l.deadline-items)
