use Rattle.std.proofs.Common.{◌≡◌, ◌++◌, map, take, drop}
use Rattle.watch_queue.specs.Leaving.{prepared_left}
use Rattle.watch_queue.proofs.leaving.ready_all.Given as goal

abbrev pub invariant-loop-at : goal.invariant-loop-at
invariant-loop-at l = l.watches.items ≡ map (prepared_left l.cancellation) (take l.at l.initial.watches.items) ++ drop l.at l.initial.watches.items
