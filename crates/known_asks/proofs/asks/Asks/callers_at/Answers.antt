-- The first one calls so, or none does.
use Rattle.std.proofs.Common.{Some, sym, ◌∙◌}
use Rattle.known_asks.proofs.CallMarks.{first_calls, nobody_calls}
use Rattle.known_asks.proofs.asks.Asks.callers_at.Goals as goal

pub callers_from-requires : goal.callers_from-requires
callers_from-requires c = first_calls c.args.call c.args.ask.now c.args.self.now c.requires (sym c.calls_as.ensures ∙ c.if-calls_as.true)

pub returns-else-calls_as : goal.returns-else-calls_as
returns-else-calls_as c =
    nobody_calls c.args.call (Some c.args.ask.now) c.args.self.now c.requires (sym c.calls_as.ensures ∙ c.if-calls_as.false)
