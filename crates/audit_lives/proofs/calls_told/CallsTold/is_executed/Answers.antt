-- A place is kept where an item tells it.
use Rattle.std.proofs.Common.{◌∙◌}
use Rattle.audit_lives.proofs.LookUps.{has_executed}
use Rattle.audit_lives.proofs.calls_told.CallsTold.is_executed.Goals as goal

pub returns : goal.returns
returns c = λ items t. c.is_told.ensures ∙ has_executed c.args.self.now items c.args.call t
