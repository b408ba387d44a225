use Rattle.step_moves.proofs.Working.{work_moves}
use Rattle.step_moves.proofs.work_moves.Goals as goal

pub returns : goal.returns
returns c = work_moves
