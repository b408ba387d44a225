use Rattle.ledger_laws.proofs.Whole.{worlds_told}
use Rattle.ledger_laws.proofs.worlds_are_told.Goals as goal

pub returns : goal.returns
returns c = worlds_told
