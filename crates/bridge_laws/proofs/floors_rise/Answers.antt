use Rattle.bridge_laws.proofs.Rising.{floors_rise}
use Rattle.bridge_laws.proofs.floors_rise.Goals as goal

pub returns : goal.returns
returns c = floors_rise
