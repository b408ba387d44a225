use Rattle.std.proofs.Common.{◌≡◌, drop}
use Rattle.std.specs.Option.{option_copied}
use Rattle.watch_model.specs.Due.{first_from, first_due}
use Rattle.watch_streams.proofs.due.first_due.Given as goal

abbrev pub invariant-loop-stream : goal.invariant-loop-stream
invariant-loop-stream l = first_from (option_copied l.first) (drop l.stream-index l.streams) ≡ first_due l.streams
