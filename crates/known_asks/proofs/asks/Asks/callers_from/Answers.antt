-- By the first one from the next ticket's mark on.
use Rattle.std.proofs.Common.{◌≤◌, ◌+◌, None, sym, subst, arith}
use Rattle.known_asks.specs.Callers.{AreCallers}
use Rattle.known_asks.specs.declared.callers.Callers.{Callers}
use Rattle.known_asks.proofs.CallMarks.{callers_told, one_calls}
use Rattle.known_asks.proofs.asks.Asks.callers_from.Goals as goal

pub returns-in-Some : goal.returns-in-Some
returns-in-Some c =
    let next : c.saturating_add.result ≤ c.args.ticket + 1 = omega (arith, c.saturating_add.ensures) in
    subst (λ (x : Callers). AreCallers x c.args.call c.args.self.now) (sym c.callers_before.ensures)
    (callers_told c.args.call c.args.ticket c.saturating_add.result c.in-Some.ask.now c.args.self.now c.requires next (rw c.new.ensures at c.in-Some.ensures.next))

pub returns-in-None : goal.returns-in-None
returns-in-None c =
    let next : c.saturating_add.result ≤ c.args.ticket + 1 = omega (arith, c.saturating_add.ensures) in
    one_calls c.args.call c.args.ticket c.saturating_add.result None c.args.self.now c.requires next (rw c.new.ensures at c.in-None.ensures.next) tt
