use Rattle.compaction_model.proofs.PlaceProofs.{places_grow, places_again}
use Rattle.compaction_model.proofs.laws.kept_places_step.Goals as goal

pub returns : goal.returns
returns c = record { grow = places_grow; again = places_again }
