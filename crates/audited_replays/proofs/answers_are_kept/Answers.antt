use Rattle.audited_replays.proofs.Stores.{answers_kept}
use Rattle.audited_replays.proofs.answers_are_kept.Goals as goal

pub returns : goal.returns
returns c = answers_kept
