use Rattle.core_moves.proofs.Clients.{asks_move, takes_move, leaves_move}
use Rattle.core_moves.proofs.clients_move.Goals as goal

pub returns : goal.returns
returns c = record { asks = asks_move; takes = takes_move; leaves = leaves_move }
