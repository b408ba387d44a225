use Rattle.compaction_laws.proofs.Steps.{requests_by_kept, expiries_by_kept, applies_by_kept, openings_by_kept, messages_by_kept, progress_by_kept}
use Rattle.compaction_laws.proofs.laws.steps_by_kept.Goals as goal

pub returns : goal.returns
returns c = record {
  requests = requests_by_kept;
  expiries = expiries_by_kept;
  applies = applies_by_kept;
  openings = openings_by_kept;
  messages = messages_by_kept;
  progress = progress_by_kept;
}
