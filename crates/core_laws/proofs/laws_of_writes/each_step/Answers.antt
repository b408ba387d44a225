use Rattle.core_laws.proofs.Writes.Kept.{answers_keep, losses_keep, session_end_keeps}
use Rattle.core_laws.proofs.Writes.Sendings.{sending_keeps}
use Rattle.core_laws.proofs.Writes.Steps.{forgetting_keeps, notices_keep, asks_keep, acquires_keep}
use Rattle.core_laws.proofs.laws_of_writes.each_step.Goals as goal

pub returns : goal.returns
returns c = record { answers = answers_keep; losses = losses_keep; session_end = session_end_keeps; forgetting = forgetting_keeps; notices = notices_keep; asks = asks_keep; acquires = acquires_keep; sending = sending_keeps }
