-- The first number from the mark on is that of the first request.
use Rattle.std.proofs.Common.{◌≡◌, List, true, subst}
use Rattle.read_model.specs.declared.asked.Asked.{Asked}
use Rattle.known_asks.specs.Alike.{all_narrow}
use Rattle.ask_tables.specs.Marks.{mark_of}
use Rattle.known_asks.specs.Firsts.{all_before, IsNext}
use Rattle.known_asks.proofs.Firsts.{next_is, none_is, first_row, no_row, row_stands}
use Rattle.known_asks.proofs.asks.Asks.first_from.Goals as goal

pub row_of-requires-clause-there : goal.row_of-requires-clause-there
row_of-requires-clause-there c =
    let first = first_row c.args.mark.now c.self.inside.tables.waits c.from.result.now c.row-item.result c.from.ensures.all c.in-len1-up.len_at_least c.row-item.is in
    rw c.deref.ensures.value
    (row_stands (λ n. mark_of) c.self.inside.rows.items c.self.inside.tables.waits c.args.mark.now c.row-item.result _ c.from.ensures.in_order c.self.invariant.marked.waits first)

pub returns-in-len1-up-clause-next : goal.returns-in-len1-up-clause-next
returns-in-len1-up-clause-next c =
    let first = first_row c.args.mark.now c.self.inside.tables.waits c.from.result.now c.row-item.result c.from.ensures.all c.in-len1-up.len_at_least c.row-item.is in
    subst (λ (s : List Asked). IsNext c.args.mark.now c.row_of.result.now s) c.self.view_is
    (next_is mark_of c.self.inside.rows.items c.self.inside.index c.self.inside.tables.waits c.args.mark.now c.row-item.result _ c.row_of.result.now c.from.ensures.in_order c.self.invariant.fits.indexed c.self.invariant.marked.waits first (rw c.deref.ensures.value at c.row_of.ensures))

pub returns-in-empty-clause-next : goal.returns-in-empty-clause-next
returns-in-empty-clause-next c =
    let none = no_row c.args.mark.now c.self.inside.tables.waits c.from.result.now c.from.ensures.all c.in-empty.len_below in
    subst (λ (s : List Asked). all_before c.args.mark.now s ≡ true) c.self.view_is
    (none_is mark_of c.self.inside.rows.items c.self.inside.index c.self.inside.tables.waits c.args.mark.now c.self.invariant.fits.indexed c.self.invariant.marked.waits none)

pub returns-in-len1-up-clause-narrow : goal.returns-in-len1-up-clause-narrow
returns-in-len1-up-clause-narrow c = subst (λ (s : List Asked). all_narrow s ≡ true) c.self.view_is c.self.invariant.narrow

pub returns-in-empty-clause-narrow : goal.returns-in-empty-clause-narrow
returns-in-empty-clause-narrow c = subst (λ (s : List Asked). all_narrow s ≡ true) c.self.view_is c.self.invariant.narrow
