use Rattle.std.proofs.Common.{◌≡◌, ◌++◌, map, take, drop}
use Rattle.watch_queue.specs.Fates.{prepared_progress}
use Rattle.watch_queue.proofs.delivery.stage_all_progress.Given as goal

abbrev pub invariant-loop-at : goal.invariant-loop-at
invariant-loop-at l = l.watches.items ≡ map (prepared_progress l.number l.next l.header) (take l.at l.initial.watches.items) ++ drop l.at l.initial.watches.items
