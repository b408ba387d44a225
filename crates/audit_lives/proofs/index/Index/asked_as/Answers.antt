-- What is kept tells it.
use Rattle.std.proofs.Common.{◌∙◌}
use Rattle.audit_lives.proofs.index.Index.asked_as.Goals as goal

pub returns : goal.returns
returns c = λ items t. c.asked_as.ensures items (c.as_slice.ensures ∙ t.kept) t.lives
