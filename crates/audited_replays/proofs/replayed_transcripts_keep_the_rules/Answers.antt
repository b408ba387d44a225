use Rattle.audited_replays.proofs.Whole.{rules_kept}
use Rattle.audited_replays.proofs.replayed_transcripts_keep_the_rules.Goals as goal

pub returns : goal.returns
returns c = rules_kept
