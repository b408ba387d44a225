-- The ticket's row and its place in the index are taken out, and where there is none all stays.
use Rattle.std.proofs.Common.{◌≡◌, sym, ap, subst, ◌∙◌, List}
use Rattle.read_model.specs.declared.asked.Asked.{Asked}
use Rattle.core_model.specs.Lookups.{ask_at, without_ask}
use Rattle.ask_tables.specs.Marks.{is_narrow}
use Rattle.known_asks.proofs.Tickets.{fits-taken, taken, none_taken, found_row, found_none}
use Rattle.known_asks.proofs.Moves.{marked-taken}
use Rattle.known_asks.proofs.Alls.{all-remove}
use Rattle.known_asks.proofs.asks.Asks.remove.Goals as goal

pub invariant_of-self : goal.invariant_of-self
invariant_of-self c =
    let at = rw (c.deref.ensures.value, c.as_slice.ensures) at c.in-Some.ensures.found in
    rw (c.remove.ensures, c.remove-taken.ensures.items) (record {
      marked = rw c.remove-in-Some.ensures (marked-taken c.self.inside.rows.items c.self.inside.tables c.in-Some.row c.remove-taken.result c.self.invariant.marked c.self.invariant.fits.indexed.rows_rise at.rows_bound c.remove-taken.ensures.value);
      fits = fits-taken _ _ _ c.args.ticket _ _ c.self.invariant.fits at;
      narrow = all-remove is_narrow c.self.inside.rows.items c.in-Some.row c.self.invariant.narrow;
    })

pub returns-in-Some-clause-rest : goal.returns-in-Some-clause-rest
returns-in-Some-clause-rest c =
    let at = rw (c.deref.ensures.value, c.as_slice.ensures) at c.in-Some.ensures.found in
    rw c.remove-taken.ensures.items
    (taken _ _ c.args.ticket _ _ c.self.invariant.fits.indexed at ∙ ap (λ (s : List Asked). without_ask c.args.ticket s) c.self.view_is)

pub returns-in-Some-clause-found : goal.returns-in-Some-clause-found
returns-in-Some-clause-found c =
    let at = rw (c.deref.ensures.value, c.as_slice.ensures) at c.in-Some.ensures.found in
    sym (found_row _ _ c.args.ticket _ _ _ c.self.invariant.fits.indexed at c.remove-taken.ensures.value) ∙ ap (λ (s : List Asked). ask_at c.args.ticket s) c.self.view_is

pub returns-in-None : goal.returns-in-None
returns-in-None c =
    let absent = rw c.as_slice.ensures at c.in-None.ensures.absent in
    record {
      found = sym (found_none _ _ c.args.ticket c.self.invariant.fits.indexed absent) ∙ ap (λ (s : List Asked). ask_at c.args.ticket s) c.self.view_is;
      rest = subst (λ (s : List Asked). s ≡ without_ask c.args.ticket s) c.self.view_is (none_taken _ _ c.args.ticket c.self.invariant.fits.indexed absent);
    }
