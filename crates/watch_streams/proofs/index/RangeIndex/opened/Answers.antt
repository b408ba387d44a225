use Rattle.std.proofs.Common.{◌≡◌, ◌++◌, ◌∷◌, [], List, ap, sym, subst, ◌∙◌}
use Rattle.watch_streams.specs.declared.rows.Row.{Row}
use Rattle.watch_streams.specs.Rows.{digest, with_row, row_of, Indexed}
use Rattle.watch_streams.proofs.Indexing.{indexed_push}
use Rattle.watch_streams.proofs.index.RangeIndex.opened.Goals as goal

pub returns-in-Ok : goal.returns-in-Ok
returns-in-Ok c = λ ss t n r h e.
    let rows = c.args.self.now.rows.items in
    let row : Row = record { digest = c.digest.result; number = c.args.number } in
    let same : row ≡ row_of t = λ j. record { digest = (c.digest.ensures.value ∙ ap digest (sym r)) j; number = sym n j } in
    subst (λ (l : List Row). Indexed l (ss ++ t ∷ [])) (sym (c.in-Ok.ensures (h e).rising ∙ ap (λ (x : Row). with_row x rows) same)) (indexed_push rows ss t (h e))
