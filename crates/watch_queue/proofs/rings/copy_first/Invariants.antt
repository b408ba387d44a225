use Rattle.std.proofs.Common.{◌≡◌, take}
use Rattle.watch_queue.specs.Shared.{values}
use Rattle.watch_queue.proofs.rings.copy_first.Given as goal

abbrev pub invariant-loop-at : goal.invariant-loop-at
invariant-loop-at l = l.copies ≡ take l.at (values l.events.items)
