-- The first one from the rank of replies on has the least ticket of those, or is none.
use Rattle.std.proofs.Common.{◌∙◌}
use Rattle.known_asks.proofs.Firsts.{ready_is, none_ready_is}
use Rattle.known_asks.proofs.asks.Asks.ready.Goals as goal

pub returns-in-Some : goal.returns-in-Some
returns-in-Some c = c.ready_ticket.ensures ∙ ready_is c.in-Some.ask.now c.args.self.now (rw c.new.ensures at c.in-Some.ensures.next)

pub returns-in-None : goal.returns-in-None
returns-in-None c = none_ready_is c.args.self.now (rw c.new.ensures at c.in-None.ensures.next)
