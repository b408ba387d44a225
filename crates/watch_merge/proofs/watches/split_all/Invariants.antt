use Rattle.std.proofs.Common.{◌≡◌, ◌++◌, map, take, drop}
use Rattle.watch_merge.specs.Watches.{split_to}
use Rattle.watch_merge.proofs.watches.split_all.Given as goal

abbrev pub invariant-loop-watch : goal.invariant-loop-watch
invariant-loop-watch l = l.watch-items ≡ map (split_to l.ticket l.next) (take l.watch-index l.initial.watch-items) ++ drop l.watch-index l.initial.watch-items
