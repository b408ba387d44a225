-- A place from the start of the life on is kept where an item of the life tells it.
use Rattle.std.proofs.Common.{◌∙◌}
use Rattle.audit_lives.proofs.LookUps.{has_name}
use Rattle.audit_lives.proofs.lives_told.LivesTold.is_named.Goals as goal

pub returns : goal.returns
returns c = λ items t. c.is_told.ensures ∙ has_name c.args.self.now items c.args.proxy c.args.ticket t
