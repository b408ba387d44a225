use Rattle.std.proofs.Common.{◌≡◌, ◌++◌, map, take, drop}
use Rattle.watch_queue.specs.Entering.{prepared_member}
use Rattle.watch_queue.proofs.creating.ready_all.Given as goal

abbrev pub invariant-loop-at : goal.invariant-loop-at
invariant-loop-at l = l.watches.items ≡ map (prepared_member l.number l.next l.last) (take l.at l.initial.watches.items) ++ drop l.at l.initial.watches.items
