-- One more row is done in its place.
use Rattle.std.proofs.Common.{◌≡◌, ◌<◌, ℕ, length, get_or, sym, ap, subst, ◌∙◌}
use Rattle.std.proofs.lemmas.List.Edits.{map_over_more}
use Rattle.read_model.specs.declared.asked.Asked.{Asked}
use Rattle.ask_tables.specs.Marked.{HasRow}
use Rattle.ask_tables.specs.RowMarks.{marks_of, moved}
use Rattle.known_asks.proofs.Moves.{marked-set, marks_stand, in_order-set}
use Rattle.known_asks.proofs.places.change_rows.Goals as goal

pub change_row-requires : goal.change_row-requires
change_row-requires g c =
    let bound : c.loop-row.row-index < length c.loop-row.row-items = rw c.loop-row.auto.row-items c.loop-row-test.true in
    subst (λ (r : ℕ × Asked). HasRow (marks_of r.0 r.1) r.0 c.loop-row.tables) c.row-item.is (marks_stand c.loop-row.row-items c.loop-row.tables c.loop-row.row-index c.row-item.result c.loop-row.invariant.marked c.loop-row.invariant.in_order bound c.row-item.is)

pub loop-row-preserved : goal.loop-row-preserved
loop-row-preserved g c =
    let f : Asked → Asked = g.R.Rule.changed c.args.rule.now in
    let turn : ℕ × Asked → ℕ × Asked = λ r. (r.0, f r.1) in
    let bound : c.loop-row.row-index < length c.loop-row.row-items = rw c.loop-row.auto.row-items c.loop-row-test.true in
    let item = c.row-item.result in
    let new : c.change_row.new.row ≡ turn item = c.change_row.ensures.row ∙ ap turn (sym c.row-item.is) in
    let was : moved (get_or c.loop-row.row-items c.loop-row.row-index item).1 c.change_row.new.row.1 (get_or c.loop-row.row-items c.loop-row.row-index item).0 c.loop-row.tables ≡ moved item.1 c.change_row.new.row.1 item.0 c.loop-row.tables =
    ap (λ (r : ℕ × Asked). moved r.1 c.change_row.new.row.1 r.0 c.loop-row.tables) (sym c.row-item.is) in
    let marks : c.change_row.new.tables ≡ moved item.1 (f item.1) item.0 c.loop-row.tables = c.change_row.ensures.tables ∙ was ∙ ap (λ (r : ℕ × Asked). moved item.1 r.1 item.0 c.loop-row.tables) new in
    rw new (record {
      done = map_over_more turn _ _ _ _ c.loop-row-test.true c.loop-row.invariant.done c.row-item.is;
      in_order = in_order-set c.loop-row.row-items c.loop-row.row-index item f c.loop-row.invariant.in_order bound c.row-item.is;
      marked = rw marks (marked-set c.loop-row.row-items c.loop-row.tables c.loop-row.row-index item f (g.met.R.Rule.keeps c.args.rule.now) c.loop-row.invariant.marked c.loop-row.invariant.in_order bound c.row-item.is);
    })
