use Rattle.audited_replays.proofs.Takes.{takes_kept}
use Rattle.audited_replays.proofs.takes_are_kept.Goals as goal

pub returns : goal.returns
returns c = takes_kept
