use Rattle.prefix_laws.proofs.Places.{none_is_left}
use Rattle.prefix_laws.proofs.no_reply_is_left.Goals as goal

pub returns : goal.returns
returns c = none_is_left
