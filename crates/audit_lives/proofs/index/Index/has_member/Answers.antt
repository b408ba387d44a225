-- What is kept tells it.
use Rattle.std.proofs.Common.{◌∙◌}
use Rattle.audit_lives.proofs.index.Index.has_member.Goals as goal

pub returns : goal.returns
returns c = λ items t. c.is_member.ensures items (c.as_slice.ensures ∙ t.kept)
