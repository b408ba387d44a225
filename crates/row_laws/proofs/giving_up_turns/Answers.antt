use Rattle.row_laws.proofs.Ended.{asking_ends_turns, asking_turns, rescinded_turns, rescind_lost_turns}
use Rattle.row_laws.proofs.giving_up_turns.Goals as goal

pub returns : goal.returns
returns c = record { asking_ends = asking_ends_turns; asking = asking_turns; rescinded = rescinded_turns; rescind_lost = rescind_lost_turns }
