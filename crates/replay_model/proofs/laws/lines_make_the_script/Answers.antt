use Rattle.replay_model.proofs.ScriptLines.{lines_make_bytes}
use Rattle.replay_model.proofs.laws.lines_make_the_script.Goals as goal

pub returns : goal.returns
returns c = lines_make_bytes
