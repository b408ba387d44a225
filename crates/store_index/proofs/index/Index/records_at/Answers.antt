use Rattle.std.proofs.Common.{◌∙◌}
use Rattle.store_index.proofs.IndexLemmas.{earlier_held}
use Rattle.store_index.proofs.index.Index.records_at.Goals as goal

pub returns : goal.returns
returns c = λ h holds.
    c.in_ok-records.ensures.shown ∙ earlier_held c.args.self.now h c.args.range.now c.args.revision holds c.in_ok-records.ensures.ordered c.requires
