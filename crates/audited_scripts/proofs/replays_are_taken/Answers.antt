use Rattle.audited_scripts.proofs.Scripts.{replays_taken}
use Rattle.audited_scripts.proofs.replays_are_taken.Goals as goal

pub returns : goal.returns
returns c = replays_taken
