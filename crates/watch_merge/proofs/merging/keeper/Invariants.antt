use Rattle.std.proofs.Common.{◌≡◌, drop}
use Rattle.watch_model.specs.Merging.{keeper}
use Rattle.watch_merge.proofs.merging.keeper.Given as goal

abbrev pub invariant-loop-stream : goal.invariant-loop-stream
invariant-loop-stream l = keeper l.range l.next l.number (drop l.stream-index l.streams) ≡ keeper l.range l.next l.number l.streams
