use Rattle.step_moves.proofs.Lasting.{sending_starts, sending_lasts, sending_runs}
use Rattle.step_moves.proofs.sendings_fit.Goals as goal

pub returns : goal.returns
returns c = record { starts = sending_starts; steps = sending_lasts; runs = sending_runs }
