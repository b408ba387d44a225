use Rattle.session_laws.proofs.Whole.{sessions_told}
use Rattle.session_laws.proofs.sessions_are_told.Goals as goal

pub returns : goal.returns
returns c = sessions_told
