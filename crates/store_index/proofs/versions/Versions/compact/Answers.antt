use Rattle.std.proofs.Common.{◌∙◌, ap, rules}
use Rattle.compaction_model.specs.Versions.{kept}
use Rattle.store_index.specs.Maps.{Entries, versions_of}
use Rattle.store_index.proofs.Compacting.{is_there, retained, compacted, compacted-HaveVersions}
use Rattle.store_index.proofs.versions.Versions.compact.Goals as goal

pub returns-clause-versions : goal.returns-clause-versions
returns-clause-versions c = λ k.
    compacted c.args.revision c.self.inside.map.entries c.retain.new.self.entries c.retain.ensures.was_ordered
    (retained _ is_there (kept c.args.revision) _ (λ k v b w f' t. search rules) c.self.inside.map.entries c.retain.new.self.entries c.retain.ensures.filtered) k
    ∙ ap (λ (es : Entries). kept c.args.revision (versions_of es k)) c.self.view_is

pub returns-clause-there : goal.returns-clause-there
returns-clause-there c =
    compacted-HaveVersions c.args.revision c.self.inside.map.entries c.retain.new.self.entries c.retain.ensures.was_ordered
    (retained _ is_there (kept c.args.revision) _ (λ k v b w f' t. search rules) c.self.inside.map.entries c.retain.new.self.entries c.retain.ensures.filtered)
