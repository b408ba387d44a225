use Rattle.row_laws.proofs.Notices.{notices_turn}
use Rattle.row_laws.proofs.Told.{deletes_turn, messages_turn, resync_turns, cancellation_turns}
use Rattle.row_laws.proofs.notices_turn.Goals as goal

pub returns : goal.returns
returns c = record { revokes = notices_turn; deletes = deletes_turn; messages = messages_turn; resyncs = resync_turns; cancellations = cancellation_turns }
