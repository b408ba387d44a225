use Rattle.std.proofs.Common.{◌≡◌, drop}
use Rattle.std.specs.List.{list_any}
use Rattle.watch_merge.specs.Twins.{is_twin}
use Rattle.watch_merge.proofs.merging.has_twins.Given as goal

abbrev pub invariant-loop-stream : goal.invariant-loop-stream
invariant-loop-stream l = list_any (is_twin l.range l.streams) (drop l.stream-index l.streams) ≡ list_any (is_twin l.range l.streams) l.streams
