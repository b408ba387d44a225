-- What is due has the last rank.
use Rattle.known_asks.proofs.Firsts.{due_first}
use Rattle.known_asks.proofs.asks.Asks.first_due.Goals as goal

pub returns : goal.returns
returns c = due_first _ c.args.self.now (rw c.new.ensures at c.first_from.ensures.next)
