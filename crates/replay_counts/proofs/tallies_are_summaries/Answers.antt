-- Each count, by an induction over the items.
use Rattle.std.proofs.Common.{length, filter, ◌∙◌, zero-add}
use Rattle.replay_counts.proofs.Counting.{asked_all, replied_all, unsent_all}
use Rattle.replay_counts.specs.Tallies.{no_tally}
use Rattle.world_model.specs.Generated.{is_asked}
use Rattle.replay_counts.proofs.tallies_are_summaries.Goals as goal

pub returns : goal.returns
returns c items = record {
  asked = asked_all no_tally items ∙ zero-add (length (filter is_asked items));
  replied = replied_all items;
  unsent = unsent_all items;
}
