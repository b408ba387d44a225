use Rattle.std.proofs.Common.{◌≡◌, ◌++◌, map, take, drop}
use Rattle.watch_queue.specs.Fates.{progressed_to}
use Rattle.watch_queue.proofs.delivery.commit_all_progress.Given as goal

abbrev pub invariant-loop-watch : goal.invariant-loop-watch
invariant-loop-watch l = l.watch-items ≡ map (progressed_to l.number l.next l.header) (take l.watch-index l.initial.watch-items) ++ drop l.watch-index l.initial.watch-items
