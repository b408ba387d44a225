use Rattle.received_laws.proofs.Receiving.{receives}
use Rattle.received_laws.proofs.watches_receive.Goals as goal

pub returns : goal.returns
returns c = receives
