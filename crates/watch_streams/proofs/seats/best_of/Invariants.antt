use Rattle.std.proofs.Common.{◌≡◌, drop, None}
use Rattle.std.specs.Option.{option_copied}
use Rattle.watch_model.specs.Joining.{best_of}
use Rattle.watch_streams.proofs.seats.best_of.Given as goal

abbrev pub invariant-loop-stream : goal.invariant-loop-stream
invariant-loop-stream l = best_of l.range l.limit (option_copied l.best) (drop l.stream-index l.streams) ≡ best_of l.range l.limit None l.streams
