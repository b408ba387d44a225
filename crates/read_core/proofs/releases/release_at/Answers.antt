-- What doesn't wait at the key stays, and no other can fall.
use Rattle.std.proofs.Common.{◌∙◌}
use Rattle.read_core.proofs.Staged.{fallen_at_stays, all_fallen_at}
use Rattle.read_core.proofs.releases.release_at.Goals as goal

pub change_waiting_at-requires : goal.change_waiting_at-requires
change_waiting_at-requires c = λ a w. fallen_at_stays c.args.key.now c.args.step c.args.table.now.entries c.args.acquires.now a w

pub returns : goal.returns
returns c = c.change_waiting_at.ensures ∙ all_fallen_at c.args.key.now c.args.step c.args.table.now.entries c.args.acquires.now c.args.asks.now c.requires
