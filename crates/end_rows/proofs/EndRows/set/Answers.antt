-- The row stands behind what is left over.
use Rattle.std.proofs.Common.{◌∙◌, ap, set, List}
use Rattle.std.proofs.lemmas.List.{drop-set-add}
use Rattle.end_rows.proofs.EndRows.set.Goals as goal

pub returns : goal.returns
returns g c =
    drop-set-add c.self.inside.over c.self.inside.items.items c.args.place c.args.row ∙ ap (λ (t : List _). set t c.args.place c.args.row) c.self.view_is
