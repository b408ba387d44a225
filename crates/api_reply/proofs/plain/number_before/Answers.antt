-- The digits before the first quotation mark, the piece that begins with it and the rest are the whole.
use Rattle.api_reply.proofs.PlainAnswers.{parted}
use Rattle.api_reply.proofs.plain.number_before.Goals as goal

pub returns : goal.returns
returns c = parted _ c.args.text.now _ _ _ _ c.split_at.ensures.front c.split_at.ensures.back c.in_ok-number.ensures c.in_ok-rest.ensures
