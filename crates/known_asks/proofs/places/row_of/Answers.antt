-- The row at the number's place is its, and there is no gap for it.
use Rattle.std.proofs.Common.{◌≡◌, ℕ, Some, None, is_some, sym, ap, ◌∙◌}
use Rattle.numbered_rows.specs.Numbered.{at}
use Rattle.numbered_rows.proofs.NumberedLaws.{to_T}
use Rattle.numbered_rows.proofs.Places.{at-gap, found-place}
use Rattle.read_model.specs.declared.asked.Asked.{Asked}
use Rattle.known_asks.proofs.Moves.{true_false}
use Rattle.known_asks.proofs.places.row_of.Goals as goal

pub unreachable-requires : goal.unreachable-requires
unreachable-requires c =
    let none : at c.args.rows.now c.args.number ≡ None = at-gap c.args.rows.now c.args.number _ (to_T _ c.requires.in_order) c.in-Err.ensures.absent in
    true_false (is_some (at c.args.rows.now c.args.number)) c.requires.there (ap is_some none)

pub returns : goal.returns
returns c =
    ap (λ (r : ℕ × Asked). Some r.1) (sym c.index-rows-at.is) ∙ found-place c.args.rows.now c.args.number c.in-Ok.at _ c.in-Ok.ensures.found c.index-rows-at.is
