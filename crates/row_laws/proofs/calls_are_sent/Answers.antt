use Rattle.row_laws.proofs.SendRows.{write_sends}
use Rattle.row_laws.proofs.JobRows.{rescind_sends, acquire_sends, spoiled_turns}
use Rattle.row_laws.proofs.calls_are_sent.Goals as goal

pub returns : goal.returns
returns c = record { writes = write_sends; rescinds = rescind_sends; acquires = acquire_sends; spoiled = spoiled_turns }
