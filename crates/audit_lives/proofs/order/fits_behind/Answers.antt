-- A reply's order is told by its ticket.
use Rattle.std.proofs.Common.{sym, ◌∙◌, ap}
use Rattle.audit_model.specs.Order.{fits_behind}
use Rattle.audit_lives.proofs.order.fits_behind.Goals as goal

pub returns-in-Reply : goal.returns-in-Reply
returns-in-Reply c = λ items t. c.can_reply.ensures items t ∙ ap (fits_behind items) (sym c.in-Reply.is)
