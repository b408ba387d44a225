use Rattle.std.proofs.Common.{◌≡◌, ◌++◌, map, take, drop}
use Rattle.watch_queue.specs.Watching.{moved_as}
use Rattle.watch_merge.proofs.merging.move_all.Given as goal

abbrev pub invariant-loop-watch : goal.invariant-loop-watch
invariant-loop-watch l = l.watch-items ≡ map (moved_as l.range l.streams) (take l.watch-index l.initial.watch-items) ++ drop l.watch-index l.initial.watch-items
