-- The head is written where it wasn't.
use Rattle.std.proofs.Common.{sym, subst}
use Rattle.http_talk.proofs.Said.{head_before, head_now, tells_as, tells_by, appends_nothing}
use Rattle.std.specs.Io.KnownBytes.{Appends}
use Rattle.http_talk.proofs.telling.begin.Goals as goal

pub returns-then-begun-clause-written : goal.returns-then-begun-clause-written
returns-then-begun-clause-written g c = subst (Appends _ _) (sym (head_before c.args.begun c.if-begun.true)) (appends_nothing _)

pub returns-else-begun-clause-written : goal.returns-else-begun-clause-written
returns-else-begun-clause-written g c = tells_as _ _ _ _ c.begin_chunks.result (sym (head_now c.args.begun c.if-begun.false)) (tells_by _ _ _ c.begin_chunks.result c.begin_chunks.ensures.written)
