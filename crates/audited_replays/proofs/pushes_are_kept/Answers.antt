use Rattle.audited_replays.proofs.Stores.{pushes_kept}
use Rattle.audited_replays.proofs.pushes_are_kept.Goals as goal

pub returns : goal.returns
returns c = pushes_kept
