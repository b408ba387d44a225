-- It is that of the world that is kept.
use Rattle.std.proofs.Common.{List, ◌∙◌, ap}
use Rattle.audit_lives.specs.declared.kept.Kept.{Kept}
use Rattle.audit_lives.proofs.Keeping.{namespace_is}
use Rattle.audit_lives.proofs.index.Index.namespace.Goals as goal

pub returns : goal.returns
returns c = λ items t. c.in_ok-namespace_of.ensures ∙ namespace_is c.as_slice.result.now items (c.as_slice.ensures ∙ t.kept)
