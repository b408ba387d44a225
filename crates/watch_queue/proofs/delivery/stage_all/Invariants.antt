use Rattle.std.proofs.Common.{◌≡◌, ◌++◌, map, take, drop}
use Rattle.watch_queue.specs.Fates.{prepared}
use Rattle.watch_queue.proofs.delivery.stage_all.Given as goal

abbrev pub invariant-loop-at : goal.invariant-loop-at
invariant-loop-at l = l.watches.items ≡ map (prepared l.number l.next l.header l.batch) (take l.at l.initial.watches.items) ++ drop l.at l.initial.watches.items
