use Rattle.core_moves.proofs.Answering.{answers_move}
use Rattle.core_moves.proofs.answers_move.Goals as goal

pub returns : goal.returns
returns c = answers_move
