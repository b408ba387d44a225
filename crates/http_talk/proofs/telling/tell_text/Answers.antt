-- A message is written piece by piece.
use Rattle.http_talk.proofs.Said.{item_told, chunk_untold, head_untold}
use Rattle.http_talk.proofs.telling.tell_text.Goals as goal

pub returns-in-Err-clause-written : goal.returns-in-Err-clause-written
returns-in-Err-clause-written g c = head_untold _ _ c.args.begun c.args.item.now c.in-Err.fault c.in-Err.ensures.written

pub returns-in-Err-write_message-clause-written : goal.returns-in-Err-write_message-clause-written
returns-in-Err-write_message-clause-written g c = chunk_untold _ _ _ c.args.begun c.args.item.now c.args.text.now c.in-Err-write_message.fault c.requires.text c.in-Ok.ensures.written c.in-Err-write_message.ensures.written

pub returns-clause-written : goal.returns-clause-written
returns-clause-written g c = item_told _ _ _ _ c.args.begun c.args.item.now c.args.text.now c.is_cancel.result c.end.result c.requires.text c.is_cancel.ensures c.in-Ok.ensures.written c.in-Ok-write_message.ensures.written c.end.ensures.written
