use Rattle.replay_model.proofs.FewLines.{progress_few, finished_few}
use Rattle.replay_model.proofs.laws.few_lines_are_taken.Goals as goal

pub returns : goal.returns
returns c = λ bytes. (progress_few bytes, finished_few bytes)
