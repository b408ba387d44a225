use Rattle.core_moves.proofs.Losing.{losses_move}
use Rattle.core_moves.proofs.losses_move.Goals as goal

pub returns : goal.returns
returns c = losses_move
