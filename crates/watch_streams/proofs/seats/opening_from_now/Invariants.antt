use Rattle.std.proofs.Common.{◌≡◌, drop}
use Rattle.watch_model.specs.Joining.{opening_from_now}
use Rattle.watch_streams.proofs.seats.opening_from_now.Given as goal

abbrev pub invariant-loop-stream : goal.invariant-loop-stream
invariant-loop-stream l = opening_from_now l.range (drop l.stream-index l.streams) ≡ opening_from_now l.range l.streams
