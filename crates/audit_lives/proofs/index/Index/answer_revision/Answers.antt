-- What is kept tells it.
use Rattle.std.proofs.Common.{◌∙◌}
use Rattle.audit_lives.proofs.index.Index.answer_revision.Goals as goal

pub returns : goal.returns
returns c = λ items t. c.answer_revision.ensures items (c.as_slice.ensures ∙ t.kept) t.calls
