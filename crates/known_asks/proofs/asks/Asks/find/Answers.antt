-- The place is that of the ticket's row, and there is none exactly where the index has none.
use Rattle.std.proofs.Common.{sym, ap, ◌∙◌, List}
use Rattle.read_model.specs.declared.asked.Asked.{Asked}
use Rattle.core_model.specs.Lookups.{ask_at}
use Rattle.known_asks.proofs.Tickets.{found_none, found_row}
use Rattle.known_asks.proofs.asks.Asks.find.Goals as goal

pub returns-in-Some : goal.returns-in-Some
returns-in-Some c =
    let at = rw (c.deref.ensures.value, c.as_slice.ensures) at c.in-Some.ensures.found in
    sym (found_row _ _ c.args.ticket _ _ _ c.self.invariant.fits.indexed at c.index.ensures) ∙ ap (λ (s : List Asked). ask_at c.args.ticket s) c.self.view_is

pub returns-in-None : goal.returns-in-None
returns-in-None c =
    let absent = rw c.as_slice.ensures at c.in-None.ensures.absent in
    sym (found_none _ _ c.args.ticket c.self.invariant.fits.indexed absent) ∙ ap (λ (s : List Asked). ask_at c.args.ticket s) c.self.view_is
