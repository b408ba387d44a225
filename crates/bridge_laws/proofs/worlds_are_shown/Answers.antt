use Rattle.bridge_laws.proofs.Begins.{begins_shown}
use Rattle.bridge_laws.proofs.Clocks.{clocks_stay_shown}
use Rattle.bridge_laws.proofs.Starts.{starts_stay_shown}
use Rattle.bridge_laws.proofs.Stores.{counts_stay_shown, expiries_stay_shown, applies_stay_shown}
use Rattle.bridge_laws.proofs.Placed.{posts_stay_shown}
use Rattle.bridge_laws.proofs.Pushes.{pushes_stay_shown}
use Rattle.bridge_laws.proofs.worlds_are_shown.Goals as goal

pub returns : goal.returns
returns c = record { begins = begins_shown; counts = counts_stay_shown; starts = starts_stay_shown; clocks = clocks_stay_shown; expiries = expiries_stay_shown; applies = applies_stay_shown; posts = posts_stay_shown; pushes = pushes_stay_shown }
