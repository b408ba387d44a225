-- What is kept tells it.
use Rattle.std.proofs.Common.{◌∙◌}
use Rattle.audit_lives.proofs.index.Index.message_revision.Goals as goal

pub returns : goal.returns
returns c = λ items t. c.message_revision.ensures items (c.as_slice.ensures ∙ t.kept) t.streams
