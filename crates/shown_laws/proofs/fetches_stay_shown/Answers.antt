use Rattle.shown_laws.proofs.Fetches.{fetches_stay_shown}
use Rattle.shown_laws.proofs.fetches_stay_shown.Goals as goal

pub returns : goal.returns
returns c = fetches_stay_shown
