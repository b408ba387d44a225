-- What is counted one by one, and the summary of all items.
use Rattle.std.specs.Prelude.{◌≡◌, List, length}
use Rattle.replay_counts.specs.declared.tally.Tally.{Tally}
use Rattle.replay_counts.specs.Tallies.{no_tally, noted_all, unsent_of}
use Rattle.script_text.specs.declared.item.Item.{Item}
use Rattle.world_model.specs.Generated.{summary}

pub record IsSummary (t : Tally) (items : List Item) : Type 0 where
  pub asked : t.asked ≡ (summary items).asked
  pub replied : length t.replies ≡ (summary items).replied
  pub unsent : unsent_of t ≡ (summary items).unsent

abbrev pub TalliesAreSummaries : Type 0
TalliesAreSummaries = (items : List Item) → IsSummary (noted_all no_tally items) items
