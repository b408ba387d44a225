use Rattle.std.proofs.Common.{List, None, ◌∙◌, ap}
use Rattle.compaction_model.specs.declared.version.Version.{Version}
use Rattle.compaction_model.specs.Versions.{last_left}
use Rattle.store_index.proofs.IndexLemmas.{record_held}
use Rattle.store_index.proofs.index.Index.record.Goals as goal

pub returns : goal.returns
returns c = λ h holds.
    c.left_now.ensures ∙ ap (λ (vs : List Version). last_left vs None) c.of.ensures ∙ record_held c.args.self.now h c.args.key.now holds
