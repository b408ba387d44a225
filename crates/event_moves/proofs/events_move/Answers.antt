use Rattle.event_moves.proofs.Events.{events_move}
use Rattle.event_moves.proofs.events_move.Goals as goal

pub returns : goal.returns
returns c = events_move
