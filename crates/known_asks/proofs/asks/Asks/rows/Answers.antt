-- Each ticket has one row.
use Rattle.std.proofs.Common.{◌≡◌, true, List, map, subst}
use Rattle.read_model.specs.declared.asked.Asked.{Asked}
use Rattle.core_model.specs.Fits.{once}
use Rattle.known_asks.proofs.Tickets.{tickets_once}
use Rattle.known_asks.proofs.asks.Asks.rows.Goals as goal

pub returns-clause-once : goal.returns-clause-once
returns-clause-once c =
    subst (λ (s : List Asked). once (map (λ a. a.ticket) s) ≡ true) c.self.view_is
    (tickets_once c.self.inside.rows.items c.self.inside.index c.self.invariant.fits.indexed)
