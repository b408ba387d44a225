use Rattle.std.proofs.Common.{take}
use Rattle.watch_streams.specs.Rows.{Backed}
use Rattle.watch_streams.proofs.index.RangeIndex.build.Given as goal

abbrev pub invariant-loop-stream : goal.invariant-loop-stream
invariant-loop-stream l = Backed l.self (take l.stream-index l.streams)
