use Rattle.std.proofs.Common.{◌≡◌, ◌++◌, map, take, drop}
use Rattle.watch_queue.specs.Entering.{begun_member}
use Rattle.watch_queue.proofs.creating.begin_all.Given as goal

abbrev pub invariant-loop-watch : goal.invariant-loop-watch
invariant-loop-watch l = l.watch-items ≡ map (begun_member l.number l.next) (take l.watch-index l.initial.watch-items) ++ drop l.watch-index l.initial.watch-items
