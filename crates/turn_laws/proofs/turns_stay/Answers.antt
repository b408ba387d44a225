use Rattle.turn_laws.proofs.Turns.{turns_stay}
use Rattle.turn_laws.proofs.turns_stay.Goals as goal

pub returns : goal.returns
returns c = turns_stay
