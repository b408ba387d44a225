use Rattle.audited_replays.proofs.Unsent.{replies_kept}
use Rattle.audited_replays.proofs.replies_are_kept.Goals as goal

pub returns : goal.returns
returns c = replies_kept
