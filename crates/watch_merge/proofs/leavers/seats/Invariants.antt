use Rattle.std.proofs.Common.{◌≡◌, ◌≤◌, take}
use Rattle.watch_merge.specs.Leavings.{seats}
use Rattle.watch_merge.proofs.leavers.seats.Given as goal

abbrev pub invariant-loop-watch : goal.invariant-loop-watch
invariant-loop-watch l = record {
  counted : l.count ≡ seats l.cancellation (take l.watch-index l.watches);
  below : l.count ≤ l.watch-index;
}
