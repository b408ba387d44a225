use Rattle.std.proofs.Common.{◌≡◌, ◌++◌, map, take, drop}
use Rattle.watch_queue.specs.Watching.{renumbered_as}
use Rattle.watch_queue.proofs.members.renumber_all.Given as goal

abbrev pub invariant-loop-watch : goal.invariant-loop-watch
invariant-loop-watch l = l.watch-items ≡ map (renumbered_as l.from l.to) (take l.watch-index l.initial.watch-items) ++ drop l.watch-index l.initial.watch-items
