-- Reads that wait at a key have one rank and one number.
use Rattle.known_asks.proofs.KeyWaits.{other_waits}
use Rattle.known_asks.proofs.waiting.change_waiting.Goals as goal

pub change_alike-requires : goal.change_alike-requires
change_alike-requires g c = λ a e. c.requires a (other_waits a e)
