-- Reads that wait at a key have one rank and one number.
use Rattle.known_asks.proofs.KeyWaits.{other_waits}
use Rattle.known_asks.proofs.waiting.waiting_changes.Goals as goal

pub alike_changes-requires : goal.alike_changes-requires
alike_changes-requires g c = λ a e. c.requires a (other_waits a e)
