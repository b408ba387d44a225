-- What doesn't wait at its key stays.
use Rattle.read_core.proofs.Staged.{fallen_stays}
use Rattle.read_core.proofs.releases.release.Goals as goal

pub change_waiting-requires : goal.change_waiting-requires
change_waiting-requires c = λ a w. fallen_stays c.args.step c.args.table.now.entries c.args.acquires.now a w
