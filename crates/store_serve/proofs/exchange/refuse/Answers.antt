-- The refusal was written, or wasn't.
use Rattle.std.proofs.Common.{Err}
use Rattle.http_talk.proofs.Said.{front_by}
use Rattle.store_serve.proofs.exchange.refuse.Goals as goal

pub returns-in-Err-clause-refuses : goal.returns-in-Err-clause-refuses
returns-in-Err-clause-refuses g c = (c.end_by.ensures.untold c.in-Err.ensures.fault, front_by _ _ _ (Err c.in-Err.fault) c.in-Err.ensures.written)
