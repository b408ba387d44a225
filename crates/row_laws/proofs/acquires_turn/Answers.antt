use Rattle.row_laws.proofs.Wins.{wins_turn}
use Rattle.row_laws.proofs.Failed.{fails_turn, acquire_ends_turn}
use Rattle.row_laws.proofs.acquires_turn.Goals as goal

pub returns : goal.returns
returns c = record { wins = wins_turn; fails = fails_turn; ends = acquire_ends_turn }
