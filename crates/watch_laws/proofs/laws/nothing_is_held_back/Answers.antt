-- One lemma a step.
use Rattle.watch_laws.proofs.Steps.{delivered_holds, progress_holds, merged_holds, reopened_holds}
use Rattle.watch_laws.proofs.Seating.{joined_holds, cancelled_holds, taken_holds}
use Rattle.watch_laws.proofs.Joining.{created_holds}
use Rattle.watch_laws.proofs.Bounds.{merged_alone, queued_bound}
use Rattle.watch_laws.proofs.Histories.{story_rises}
use Rattle.watch_laws.proofs.laws.nothing_is_held_back.Goals as goal

pub returns : goal.returns
returns c = record {
  join = joined_holds;
  created = created_holds;
  batch = delivered_holds;
  progress = progress_holds;
  merge = merged_holds;
  cut = reopened_holds;
  cancellation = cancelled_holds;
  take = taken_holds;
  alone = merged_alone;
  bounded = queued_bound;
  rise = story_rises;
}
