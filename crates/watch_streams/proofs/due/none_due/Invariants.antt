use Rattle.std.proofs.Common.{◌≡◌, drop}
use Rattle.watch_streams.specs.Idle.{none_due}
use Rattle.watch_streams.proofs.due.none_due.Given as goal

abbrev pub invariant-loop-stream : goal.invariant-loop-stream
invariant-loop-stream l = none_due (drop l.stream-index l.streams) ≡ none_due l.streams
