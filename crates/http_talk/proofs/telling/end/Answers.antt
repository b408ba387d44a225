-- The end is written behind the last message.
use Rattle.std.proofs.Common.{sym, subst}
use Rattle.http_talk.proofs.Said.{end_now, end_later, tells_as, tells_by, appends_nothing}
use Rattle.std.specs.Io.KnownBytes.{Appends}
use Rattle.http_talk.proofs.telling.end.Goals as goal

pub returns-then-last-clause-written : goal.returns-then-last-clause-written
returns-then-last-clause-written g c = tells_as _ _ _ _ c.end_chunks.result (sym (end_now c.args.last c.if-last.true)) (tells_by _ _ _ c.end_chunks.result c.end_chunks.ensures.written)

pub returns-else-last-clause-written : goal.returns-else-last-clause-written
returns-else-last-clause-written g c = subst (Appends _ _) (sym (end_later c.args.last c.if-last.false)) (appends_nothing _)
