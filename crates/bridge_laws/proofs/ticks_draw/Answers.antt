use Rattle.bridge_laws.proofs.Holding.{ticks_draw}
use Rattle.bridge_laws.proofs.ticks_draw.Goals as goal

pub returns : goal.returns
returns c = ticks_draw
