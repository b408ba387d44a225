use Rattle.core_laws.proofs.PlainReads.Kept.{notices_keep, going_on_keeps, asks_keep, sending_keeps, answers_keep, losses_keep, session_end_keeps, acquires_keep, acquire_losses_keep, taking_off_keeps}
use Rattle.core_laws.proofs.laws_of_reads.reads_keep.Goals as goal

pub returns : goal.returns
returns c = record {
  going_on = going_on_keeps;
  asks = asks_keep;
  notices = notices_keep;
  sending = sending_keeps;
  answers = answers_keep;
  losses = losses_keep;
  session_end = session_end_keeps;
  acquires = acquires_keep;
  acquire_losses = acquire_losses_keep;
  taking_off = taking_off_keeps;
}
