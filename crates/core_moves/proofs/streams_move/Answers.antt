use Rattle.core_moves.proofs.Clients.{cuts_move}
use Rattle.core_moves.proofs.Messages.{items_move, ticks_move}
use Rattle.core_moves.proofs.streams_move.Goals as goal

pub returns : goal.returns
returns c = record { items = items_move; cuts = cuts_move; ticks = ticks_move }
