-- The first one from the mark of the ticket's reply on has the least ticket of those, or none has a reply.
use Rattle.std.proofs.Common.{◌∙◌}
use Rattle.known_asks.proofs.ReadyFrom.{ready_from_is, none_ready_from}
use Rattle.known_asks.proofs.asks.Asks.ready_from.Goals as goal

pub returns-in-Some : goal.returns-in-Some
returns-in-Some c =
    c.ready_ticket.ensures ∙ ready_from_is c.args.ticket c.in-Some.ask.now c.args.self.now (rw c.new.ensures at c.in-Some.ensures.next)

pub returns-in-None : goal.returns-in-None
returns-in-None c = none_ready_from c.args.ticket c.args.self.now (rw c.new.ensures at c.in-None.ensures.next)
