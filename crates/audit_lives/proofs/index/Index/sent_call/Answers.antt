-- What is kept tells it.
use Rattle.std.proofs.Common.{◌∙◌}
use Rattle.audit_lives.proofs.index.Index.sent_call.Goals as goal

pub returns : goal.returns
returns c = λ items t. c.sent_call.ensures items (c.as_slice.ensures ∙ t.kept) t.calls
