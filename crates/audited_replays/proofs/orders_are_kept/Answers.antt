use Rattle.audited_replays.proofs.InOrders.{orders_kept}
use Rattle.audited_replays.proofs.orders_are_kept.Goals as goal

pub returns : goal.returns
returns c = orders_kept
