use Rattle.std.proofs.Common.{◌∙◌, take, None, arith}
use Rattle.store_index.specs.Held.{held_last}
use Rattle.store_index.proofs.KeptPlaces.{kept_below}
use Rattle.store_index.proofs.key_versions.first_kept.Goals as goal

pub loop-index-preserved : goal.loop-index-preserved
loop-index-preserved c =
    c.loop-index.invariant
    ∙ kept_below c.args.revision c.loop-index.index c.args.versions.now c.index-versions-index.result (held_last (take c.loop-index.index c.args.versions.now) None)
    (omega arith) c.index-versions-index.is (omega arith)
