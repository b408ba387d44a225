use Rattle.shown_laws.proofs.Sendings.{sendings_stay_shown}
use Rattle.shown_laws.proofs.sendings_stay_shown.Goals as goal

pub returns : goal.returns
returns c = sendings_stay_shown
