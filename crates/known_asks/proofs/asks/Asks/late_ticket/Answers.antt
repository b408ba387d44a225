-- The one asked first tells it.
use Rattle.std.proofs.Common.{ℕ, Option, sym, subst}
use Rattle.known_asks.specs.Times.{IsLateOf}
use Rattle.known_asks.proofs.Late.{late_is, none_is_late_then}
use Rattle.known_asks.proofs.asks.Asks.late_ticket.Goals as goal

pub returns-in-Some : goal.returns-in-Some
returns-in-Some c =
    subst (λ (o : Option ℕ). IsLateOf o c.args.now c.args.self.now) (sym c.late_ticket.ensures) (late_is c.args.now c.in-Some.ask.now c.args.self.now c.in-Some.ensures)

pub returns-in-None : goal.returns-in-None
returns-in-None c = none_is_late_then c.args.now c.args.self.now c.in-None.ensures
