-- A place from the start of the life on is kept where an item of the life tells it.
use Rattle.std.proofs.Common.{◌∙◌}
use Rattle.audit_lives.proofs.LookUps.{is_given}
use Rattle.audit_lives.proofs.lives_told.LivesTold.is_given_ticket.Goals as goal

pub returns : goal.returns
returns c = λ items t. c.is_told.ensures ∙ is_given c.args.self.now items c.args.proxy c.args.ticket t
