use Rattle.store_index.proofs.CountLemmas.{counted_all}
use Rattle.store_index.proofs.listing.count_versions.Goals as goal

pub returns-clause-count : goal.returns-clause-count
returns-clause-count c =
    counted_all c.loop-versions.count _ _ c.loop-versions.versions-iterator c.in-None.ensures.steps.0 c.loop-versions.invariant.small c.loop-versions.invariant.counted
