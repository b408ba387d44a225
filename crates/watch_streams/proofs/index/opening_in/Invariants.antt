use Rattle.std.proofs.Common.{◌≡◌, drop}
use Rattle.watch_model.specs.Joining.{opening_from_now}
use Rattle.watch_streams.specs.Rows.{found_in}
use Rattle.watch_streams.proofs.index.opening_in.Given as goal

abbrev pub invariant-loop-row : goal.invariant-loop-row
invariant-loop-row l = opening_from_now l.range (found_in l.digest (drop l.row-index l.rows) l.streams) ≡ opening_from_now l.range (found_in l.digest l.rows l.streams)
