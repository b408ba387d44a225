-- The ticket's row is changed in its place, and where there is none all stays.
use Rattle.std.proofs.Common.{◌≡◌, ap, subst, ◌∙◌, List}
use Rattle.read_model.specs.declared.asked.Asked.{Asked}
use Rattle.ask_tables.specs.Marks.{is_narrow}
use Rattle.known_asks.specs.Asks.{one_changed}
use Rattle.known_asks.proofs.Tickets.{fits-one_changed, its_change, no_change}
use Rattle.known_asks.proofs.Moves.{marked-set, marks_stand}
use Rattle.known_asks.proofs.Alls.{all-set}
use Rattle.known_asks.proofs.asks.Asks.change.Goals as goal

pub invariant_of-self : goal.invariant_of-self
invariant_of-self g c =
    let at = rw (c.deref.ensures.value, c.as_slice.ensures) at c.in-Some.ensures.found in
    record {
      marked = rw (c.change_row.ensures.tables, c.change_row.ensures.row) (marked-set c.self.inside.rows.items c.self.inside.tables c.in-Some.row c.index_mut.result.now (g.R.Rule.changed c.args.rule.now) (g.met.R.Rule.keeps c.args.rule.now) c.self.invariant.marked c.self.invariant.fits.indexed.rows_rise at.rows_bound c.index_mut.ensures.value);
      fits = rw c.change_row.ensures.row (fits-one_changed _ _ _ c.args.ticket _ _ (g.R.Rule.changed c.args.rule.now) c.index_mut.result.now (g.met.R.Rule.keeps c.args.rule.now) c.self.invariant.fits at c.index_mut.ensures.value);
      narrow = all-set is_narrow c.self.inside.rows.items c.in-Some.row c.change_row.new.row.0 c.change_row.new.row.1 c.self.invariant.narrow c.change_row.ensures.narrow;
    }

pub returns-in-Some : goal.returns-in-Some
returns-in-Some g c =
    let at = rw (c.deref.ensures.value, c.as_slice.ensures) at c.in-Some.ensures.found in
    rw c.change_row.ensures.row (its_change _ _ c.args.ticket _ _ (g.R.Rule.changed c.args.rule.now) c.index_mut.result.now c.self.invariant.fits.indexed at c.index_mut.ensures.value ∙ ap (λ (s : List Asked). one_changed c.args.ticket (g.R.Rule.changed c.args.rule.now) s) c.self.view_is)

pub change_row-requires : goal.change_row-requires
change_row-requires g c =
    let at = rw (c.deref.ensures.value, c.as_slice.ensures) at c.in-Some.ensures.found in
    marks_stand c.self.inside.rows.items c.self.inside.tables c.in-Some.row c.index_mut.result.now c.self.invariant.marked c.self.invariant.fits.indexed.rows_rise at.rows_bound c.index_mut.ensures.value

pub returns-in_default : goal.returns-in_default
returns-in_default g c =
    let absent = rw c.as_slice.ensures at c.in_default.ensures.absent in
    subst (λ (s : List Asked). s ≡ one_changed c.args.ticket (g.R.Rule.changed c.args.rule.now) s) c.self.view_is
    (no_change _ _ c.args.ticket (g.R.Rule.changed c.args.rule.now) c.self.invariant.fits.indexed absent)
