use Rattle.store_laws.proofs.Events.WatchProofs.{progress_is_true}
use Rattle.store_laws.proofs.laws_of_events.progress_is_true.Goals as goal

pub returns : goal.returns
returns c = progress_is_true
