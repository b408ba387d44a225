use Rattle.std.proofs.Common.{sym, ◌∙◌}
use Rattle.store_index.proofs.ReadLemmas.{read_here}
use Rattle.store_index.proofs.reading.left_at.Goals as goal

pub returns-then-version-revision : goal.returns-then-version-revision
returns-then-version-revision c =
    c.as_ref.ensures.value
    ∙ sym
    (read_here c.args.revision c.loop-count.count c.args.versions.now c.index-versions-count.result c.loop-count-test.true c.loop-count.invariant.within
    c.index-versions-count.is c.if-version-revision.true)
    ∙ c.loop-count.invariant.passed
