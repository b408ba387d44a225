use Rattle.watch_laws.proofs.Telling.{progress_is_true}
use Rattle.watch_laws.proofs.laws.progress_is_true.Goals as goal

pub returns : goal.returns
returns c = progress_is_true
