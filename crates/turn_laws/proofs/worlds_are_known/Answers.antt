use Rattle.turn_laws.proofs.Behind.{worlds_are_known}
use Rattle.turn_laws.proofs.worlds_are_known.Goals as goal

pub returns : goal.returns
returns c = worlds_are_known
