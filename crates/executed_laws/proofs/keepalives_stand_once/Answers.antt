use Rattle.executed_laws.proofs.Standing.{keepalives_once}
use Rattle.executed_laws.proofs.keepalives_stand_once.Goals as goal

pub returns : goal.returns
returns c = keepalives_once
