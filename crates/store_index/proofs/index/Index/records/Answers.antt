use Rattle.std.proofs.Common.{◌∙◌}
use Rattle.store_index.proofs.IndexLemmas.{records_held}
use Rattle.store_index.proofs.index.Index.records.Goals as goal

pub returns : goal.returns
returns c = λ h holds. c.in_ok-records.ensures.shown ∙ records_held c.args.self.now h c.args.range.now holds c.in_ok-records.ensures.ordered
