-- By the first one from the call's mark on.
use Rattle.std.proofs.Common.{None}
use Rattle.known_asks.proofs.CallMarks.{nobody_calls}
use Rattle.known_asks.proofs.asks.Asks.callers.Goals as goal

pub callers_at-requires : goal.callers_at-requires
callers_at-requires c = rw c.new.ensures at c.in-Some.ensures.next

pub returns-in-None-clause-callers : goal.returns-in-None-clause-callers
returns-in-None-clause-callers c = nobody_calls c.args.call None c.args.self.now (rw c.new.ensures at c.in-None.ensures.next) tt
