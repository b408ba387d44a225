use Rattle.std.proofs.Common.{◌≡◌, ℕ, ◌+◌, true, List, ap, sym, subst, ◌∙◌}
use Rattle.std.specs.List.{insert}
use Rattle.watch_streams.specs.declared.rows.Row.{Row}
use Rattle.watch_streams.specs.Rows.{before, rising}
use Rattle.watch_streams.proofs.Rising.{inserted}
use Rattle.watch_streams.proofs.rows.insert_row.Goals as goal

pub returns : goal.returns
returns c = λ rises.
    let rows = c.args.rows.now.items in
    c.in_ok-insert.ensures.items ∙ ap (λ (k : ℕ). insert rows k c.args.row) (c.before-at.ensures.count (subst (λ (l : List Row). rising 0 l ≡ true) (sym c.deref.ensures.value) rises) ∙ ap (before (c.args.row.digest + 1)) c.deref.ensures.value) ∙ inserted c.args.row rows
