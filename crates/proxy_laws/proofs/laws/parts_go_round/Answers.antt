use Rattle.proxy_laws.proofs.Split.{parts_go_round}
use Rattle.proxy_laws.proofs.laws.parts_go_round.Goals as goal

pub returns : goal.returns
returns c = parts_go_round
