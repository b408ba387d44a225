use Rattle.std.proofs.Common.{◌≡◌, drop, None}
use Rattle.std.specs.Option.{option_copied}
use Rattle.watch_model.specs.Joining.{best_of}
use Rattle.watch_streams.specs.Rows.{found_in}
use Rattle.watch_streams.proofs.index.best_in.Given as goal

abbrev pub invariant-loop-row : goal.invariant-loop-row
invariant-loop-row l = best_of l.range l.limit (option_copied l.best) (found_in l.digest (drop l.row-index l.rows) l.streams) ≡ best_of l.range l.limit None (found_in l.digest l.rows l.streams)
