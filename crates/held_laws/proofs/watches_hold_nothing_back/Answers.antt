use Rattle.held_laws.proofs.Nothing.{holds_nothing_back}
use Rattle.held_laws.proofs.watches_hold_nothing_back.Goals as goal

pub returns : goal.returns
returns c = holds_nothing_back
