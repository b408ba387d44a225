use Rattle.audited_replays.proofs.InOrders.{floors_kept}
use Rattle.audited_replays.proofs.floors_are_kept.Goals as goal

pub returns : goal.returns
returns c = floors_kept
